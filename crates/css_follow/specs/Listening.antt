-- What those who follow a run hear of one report, and what they say of it.
use Rattle.std.specs.Prelude.{◌≡◌, ℕ, List, ◌++◌, map, take, drop, Result, MatchResult}
use Rattle.std.specs.List.{flat_map}
use Rattle.css_companion.specs.declared.report.Report.{Report}
use Rattle.css_follow.specs.Following.{Seen, Plan, told, says_by, ends_by}

-- a follower: by which plan it speaks, and what there is to see of it
pub record Listener : Type 0 where
  pub plan : Plan
  pub seen : Seen

-- what there is to see of each of them
abbrev pub all_seen : List Listener → List Seen
all_seen listeners = map (λ listener. listener.seen) listeners

-- by which plan each of them speaks
abbrev pub all_plans : List Listener → List Plan
all_plans listeners = map (λ listener. listener.plan) listeners

-- what it says of a report
abbrev pub words_of : Report → Listener → List ℕ
words_of report listener = says_by listener.plan listener.seen report

-- what a report makes of it
abbrev pub hearing : Report → Listener → Listener
hearing report listener = record {
  plan = listener.plan;
  seen =
      told report (words_of report listener) (ends_by listener.plan listener.seen report) listener.seen;
}

-- Each of them was told a report, in their order, and this is what they say of it.
pub record HearEach (report : Report) (before now : List Listener) (words : List ℕ) : Type 0 where
  pub heard : now ≡ map (hearing report) before
  pub said : words ≡ flat_map (words_of report) before

-- The first of them were told the report, and what they said was added to the output; the others are as before.
pub record SayFirst (report : Report) (before now : List Listener) (old new : List ℕ) : Type 0 where
  pub count : ℕ
  pub said : List ℕ
  pub each : HearEach report (take count before) (take count now) said
  pub rest : drop count now ≡ drop count before
  pub grew : new ≡ old ++ said

-- Each of them was told a report, and what they said was added to the output; for want of memory only the first of them
-- were told.
abbrev pub TellsEach : {T E : Type 0} → Result T E → Report → List Listener → List Listener → List ℕ → List ℕ → Type 0
TellsEach result report before now old new = MatchResult result
    (λ _. (words : List ℕ) × (new ≡ old ++ words) × HearEach report before now words)
    (λ _. SayFirst report before now old new)
