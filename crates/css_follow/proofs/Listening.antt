-- Followers that hear a report one after another.
use Rattle.std.proofs.Common.{◌≡◌, ap, ◌∙◌, Bool, List, ◌∷◌, ◌++◌, append_assoc, suc, take, Result, Ok, Err, ℕ}
use Rattle.css_companion.specs.declared.report.Report.{Report}
use Rattle.css_follow.specs.Following.{Seen, Plan, told, says_by, ends_by}
use Rattle.css_follow.specs.Listening.{Listener, HearEach, TellsEach, hearing, words_of}

-- one that was told a report, and keeps its plan
pub listener_hears : (report : Report) (plan plan_new : Plan) (seen seen_new : Seen) (says : List ℕ) (ends : Bool)
    → plan_new ≡ plan → says ≡ says_by plan seen report → ends ≡ ends_by plan seen report
    → seen_new ≡ told report says ends seen
    → record { plan = plan_new; seen = seen_new } ≡ hearing report (record { plan = plan; seen = seen })
listener_hears report plan plan_new seen seen_new says ends keeps said ended heard =
    ap {B = Listener} (λ p. record { plan = p; seen = seen_new }) keeps
    ∙ ap {B = Listener} (λ s. record { plan = plan; seen = s })
    (heard ∙ ap (λ w. told report w ends seen) said ∙ ap (λ d. told report (says_by plan seen report) d seen) ended)

each_hears : (report : Report) (b n : Listener) (bs ns : List Listener) (words : List ℕ) → n ≡ hearing report b
    → HearEach report bs ns words → HearEach report (b ∷ bs) (n ∷ ns) (words_of report b ++ words)
each_hears report b n bs ns words h each = record {
  heard = ap (λ x. x ∷ ns) h ∙ ap (λ x. hearing report b ∷ x) each.heard;
  said = ap (λ x. words_of report b ++ x) each.said;
}

-- one that heard the report, and those who are told after it
pub tells_on : {T E : Type 0} (r : Result T E) (report : Report) (b n : Listener) (bs ns : List Listener)
    (old mid new : List ℕ) → n ≡ hearing report b → mid ≡ old ++ words_of report b → TellsEach r report bs ns mid new
    → TellsEach r report (b ∷ bs) (n ∷ ns) old new
tells_on (Ok v) report b n bs ns old mid new h m t = (
  words_of report b ++ t.0,
  t.1 ∙ ap (λ x. x ++ t.0) m ∙ append_assoc old (words_of report b) t.0,
  each_hears report b n bs ns t.0 h t.2,
)
tells_on (Err e) report b n bs ns old mid new h m s = record {
  count = suc s.count;
  said = words_of report b ++ s.said;
  each = each_hears report b n (take s.count bs) (take s.count ns) s.said h s.each;
  rest = s.rest;
  grew = s.grew ∙ ap (λ x. x ++ s.said) m ∙ append_assoc old (words_of report b) s.said;
}
