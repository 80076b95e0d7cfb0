-- A survey counts what is told at the lines of a schedule.
use Rattle.std.proofs.Common.{◌≡◌, ℕ, suc, zero, ◌+◌, ◌-◌, ◌<◌, ◌≤◌, arith, ap, sym, subst, ◌∙◌, refl, List, [], ◌∷◌}
use Rattle.std.proofs.Common.{◌++◌, length, option_to_list, eq-eqb, Option, Some, None, Result, Ok, Err, OnOk}
use Rattle.css_model.specs.History.{History}
use Rattle.css_companion.specs.Meanings.{report_after}
use Rattle.css_companion.specs.Standing as companions
use Rattle.css_companion.specs.Standing.{Companion, own_of}
use Rattle.css_companion.specs.declared.report.Report.{Report}
use Rattle.css_companion.specs.declared.report.Report.TheVariants as reports
use Rattle.css_tsmsg.specs.declared.setup.Setup.{Setup}
use Rattle.css_meaning.specs.Clocks.{last_reading, has_woken, least_next}
use Rattle.css_meaning.specs.Accepted.{AreAccepted, IsNext}
use Rattle.css_meaning.specs.Truth.{IsCompanionOf}
use Rattle.css_world.specs.Asked.{MayBeAsked}
use Rattle.css_world.specs.Standing as worlds
use Rattle.css_world.specs.Standing.{World}
use Rattle.css_survey.specs.Generated.{header_for, heading, line_for, numbered_for, generated}
use Rattle.css_survey.specs.declared.surveyor.Surveyor.{Surveyor}
use Rattle.css_survey.specs.declared.summary.Summary.{Summary}
use Rattle.css_survey.specs.Surveyed.{Told, asked_by, told_at, told_of, told_in, counted, counted_with, none_told}
use Rattle.css_survey.specs.Surveyed.{summary_of}
use Rattle.css_survey.specs.Surveys.{Stands, HasTaken}
use Rattle.css_survey.proofs.Names.{append_assoc, Local, is_own, IsHeader, IsCount, Header, Line, Verb, Print, Numbered}
use Rattle.css_survey.proofs.Names.{history_of, setup_of, local_of, seen_of, report_at, AreSome, nat_tests}
use Rattle.css_survey.proofs.Accepted.{generated_accepted}

-- ---- one report
-- only `print` asks for a report
pub asks_print : (verb : Verb) (reading : ℕ) → asked_by verb ≡ Some reading → verb ≡ Print reading
asks_print (Print r) reading e = cc
asks_print _ reading e = absurd (cc)

-- the report of a companion after its `print` line is the one at the line
pub report_stays : (header : Header) (now : Numbered) (older : List Numbered) (who reading : ℕ) → now.line.who ≡ who
    → now.line.verb ≡ Print reading
    → report_after (local_of who header) (setup_of who header).selector (history_of who header (now ∷ older)) reading
    ≡ report_at now.line.who header older reading
report_stays header now older who reading is verb = simp (is, verb, eq-eqb who who refl)

-- its clock was last read there, and it hasn't slept since
pub read_last : (now : Numbered) (older : List Numbered) (who reading : ℕ) → now.line.who ≡ who
    → now.line.verb ≡ Print reading
    → least_next (has_woken (seen_of who (now ∷ older))) (last_reading (seen_of who (now ∷ older))) ≡ reading
read_last now older who reading is verb = simp (is, verb, eq-eqb who who refl)

-- the companion may be asked there
pub reads_on : (world : World) (companion : Companion) (now : Numbered) (older : List Numbered) (who reading : ℕ)
    → MayBeAsked world (now ∷ older) who companion → asked_by now.line.verb ≡ Some reading → now.line.who ≡ who
    → companion.client.floor ≤ reading
reads_on world companion now older who reading may asked is =
    subst (λ (n : ℕ). companion.client.floor ≤ n)
    (read_last now older who reading is (asks_print now.line.verb reading asked)) may.floor

-- what it then tells is the report at the line
pub tells_report : (world : World) (companion : Companion) (now : Numbered) (older : List Numbered) (who reading : ℕ)
    (report : Report) → MayBeAsked world (now ∷ older) who companion → worlds.StandsFor world (now ∷ older)
    → asked_by now.line.verb ≡ Some reading → now.line.who ≡ who
    → ((history : History) → companions.StandsFor companion history
    → report ≡ report_after (own_of companion) companion.setup.selector history reading)
    → report ≡ report_at now.line.who world.header older reading
tells_report world companion now older who reading report may stands asked is told =
    let history = history_of who world.header (now ∷ older) in
    let lane = stands.ready.ends.lanes who may.lane may.is in
    told history (subst (λ (c : Companion). companions.StandsFor c history) (sym may.same) lane.companion)
    ∙ ap (λ (own : Local). report_after own companion.setup.selector history reading) may.own
    ∙ ap (λ (setup : Setup). report_after (local_of who world.header) setup.selector history reading) may.setup
    ∙ report_stays world.header now older who reading is (asks_print now.line.verb reading asked)

-- the companion of a line that asks for a report is there
pub never_gone : (world : World) (now : Numbered) (older : List Numbered) (who reading : ℕ)
    → worlds.StandsFor world (now ∷ older) → asked_by now.line.verb ≡ Some reading → now.line.who ≡ who
    → (IsCompanionOf world.header who → ⊥) → ⊥
never_gone world now older who reading stands asked is none =
    let of = stands.ready.accepted.1 in
    let first : 1 ≤ now.line.who = of.own (ap is_own (asks_print now.line.verb reading asked)) in
    let within = of.who in
    none (record { first = omega (arith, first, is); within = omega (arith, within, is) })

-- ---- counts
-- one report more, if there is one
pub counts_on : (told : Option Told) (older : List Told)
    → counted_with told (summary_of older) ≡ summary_of (option_to_list told ++ older)
counts_on None older = refl
counts_on (Some told) older = refl

-- no more is counted than there are lines
pub record AreFew (summary : Summary) (lines : ℕ) : Type 0 where
  pub prints : summary.prints ≤ lines
  pub intervals : summary.intervals ≤ lines

few-more : (report : Report) (summary : Summary) (lines : ℕ) → AreFew summary lines
    → AreFew (counted report summary) (suc lines)
few-more (reports.Ticks low high) summary lines few = record { prints = omega arith; intervals = omega arith }
few-more (reports.None cause) summary lines few = record { prints = omega arith; intervals = omega arith }

pub few_counted : (header : Header) (lines : List Numbered) → AreFew (summary_of (told_of header lines)) (length lines)
few_counted header [] = record { prints = omega arith; intervals = omega arith }
few_counted header (now ∷ older) = by (told_at header older now) (few_counted header older)
  where
    by : (told : Option Told) → AreFew (summary_of (told_of header older)) (length older)
        → AreFew (summary_of (option_to_list told ++ told_of header older)) (suc (length older))
    by None few = record { prints = omega arith; intervals = omega arith }
    by (Some told) few = few-more told.report (summary_of (told_of header older)) (length older) few

-- ---- one line more
-- the survey stands for it too, by a world that it keeps
pub takes : (old new : Surveyor) (world : World) (older : List Numbered) (now : Numbered) → Stands old older
    → new.world ≡ world → worlds.StandsFor world (now ∷ older) → world.header ≡ old.world.header
    → new.summary ≡ counted_with (told_at world.header older now) old.summary → Stands new (now ∷ older)
takes old new world older now stands same stood header summary =
    let before : old.summary ≡ summary_of (told_of world.header older) = rw header stands.summary in
    let told : Option Told = told_at world.header older now in
    record {
      world = rw same stood;
      summary = summary ∙ ap (counted_with told) before ∙ counts_on told (told_of world.header older)
          ∙ ap (λ (w : World). summary_of (told_of w.header (now ∷ older))) (sym same);
    }

-- ---- generated lines
-- one line more
one-generated : (seed companions given : ℕ) → heading companions ≤ given
    → generated seed companions (given + 1 - heading companions)
    ≡ numbered_for seed companions (given + 1) ∷ generated seed companions (given - heading companions)
unfolding generated
one-generated seed companions given some =
    let count = given - heading companions in
    let more : given + 1 - heading companions ≡ suc count = omega (arith, some) in
    let next : heading companions + suc count ≡ given + 1 = omega (arith, some) in
    ap (generated seed companions) more
    ∙ ap (λ (n : ℕ). numbered_for seed companions n ∷ generated seed companions count) next

-- there are so many
generated-count : (seed companions count : ℕ) → length (generated seed companions count) ≡ count
unfolding generated
generated-count seed companions zero = refl
generated-count seed companions (suc count) = ap suc (generated-count seed companions count)

-- the next one is accepted
next-accepted : (survey : Surveyor) (seed companions given : ℕ) (line : Line) → AreSome companions
    → heading companions ≤ given → given < 200000 → HasTaken survey seed companions given
    → line ≡ line_for seed companions (given + 1) → AreAccepted survey.world.header
    (record { number = given + 1; line = line } ∷ generated seed companions (given - heading companions))
next-accepted survey seed companions given line some within few has is =
    let first : 1 ≤ heading companions = grind (arith, nat_tests) in
    let older = generated seed companions (given - heading companions) in
    let accepted : AreAccepted (header_for companions) (numbered_for seed companions (given + 1) ∷ older) =
    subst (AreAccepted (header_for companions)) (one-generated seed companions given within)
    (generated_accepted seed companions (given + 1 - heading companions) some (omega (arith, few, first))).accepted in
    subst (λ (h : Header). AreAccepted h (record { number = given + 1; line = line } ∷ older)) (sym has.header)
    (subst (λ (l : Line). AreAccepted (header_for companions) (record { number = given + 1; line = l } ∷ older))
    (sym is) accepted)

-- so a survey can take it
pub can_take : (survey : Surveyor) (seed companions given : ℕ) (line : Line) → AreSome companions
    → heading companions ≤ given → given < 200000 → HasTaken survey seed companions given
    → line ≡ line_for seed companions (given + 1)
    → (older : List Numbered) × Stands survey older × (length older < 200000)
    × AreAccepted survey.world.header (record { number = given + 1; line = line } ∷ older)
can_take survey seed companions given line some within few has is = (
  generated seed companions (given - heading companions),
  has.stands,
  omega (arith, generated-count seed companions (given - heading companions), few),
  next-accepted survey seed companions given line some within few has is,
)

-- and then it has taken it
pub has_taken : {A E : Type 0} (done : Result A E) (old new : Surveyor) (seed companions given : ℕ) (line : Line)
    → AreSome companions → heading companions ≤ given → given < 200000 → HasTaken old seed companions given
    → line ≡ line_for seed companions (given + 1) → new.world.header ≡ old.world.header
    → ((older : List Numbered) → Stands old older → IsNext (given + 1) older
    → OnOk done (Stands new (record { number = given + 1; line = line } ∷ older)))
    → OnOk done (HasTaken new seed companions (given + 1))
has_taken (Err e) old new seed companions given line some within few has is same stands = tt
has_taken (Ok x) old new seed companions given line some within few has is same stands =
    let next = next-accepted old seed companions given line some within few has is in
    let taken = stands (generated seed companions (given - heading companions)) has.stands next.2 in
    record { header = same ∙ has.header; stands = rw (one-generated seed companions given within) (rw is at taken) }

-- ---- the header
-- the world of the header can be opened
pub can_open : (companions : ℕ) (header : Header) → AreSome companions → header ≡ header_for companions
    → IsHeader header × IsCount (length header.companions)
can_open companions header some is =
    let of = (generated_accepted 0 companions 0 some (omega arith)).declared in rw is (of.tv, of.companions)

-- a survey of the header alone has taken what declares it
pub taken_first : (survey : Surveyor) (seed companions : ℕ) → survey.world.header ≡ header_for companions
    → worlds.StandsFor survey.world [] → survey.summary ≡ none_told
    → HasTaken survey seed companions (heading companions)
unfolding generated
taken_first survey seed companions header world none =
    let first : heading companions - heading companions ≡ 0 = omega arith in
    record { header = header; stands = rw first (record { world = world; summary = none }) }

-- In the end it has counted what is told at all lines.
pub all_counted : (survey : Surveyor) (seed companions lines : ℕ) → HasTaken survey seed companions lines
    → survey.summary ≡ summary_of (told_in seed companions lines)
unfolding told_in
all_counted survey seed companions lines has =
    has.stands.summary ∙ ap (λ (h : Header). summary_of (told_of h (generated seed companions
    (lines - heading companions)))) has.header

-- ---- the line
-- the pieces of a line, one after another
pub nine_pieces : (a b c d e f g h i : List ℕ)
    → a ++ (b ++ (c ++ (d ++ (e ++ (f ++ (g ++ (h ++ i))))))) ≡ a ++ b ++ c ++ d ++ e ++ f ++ g ++ h ++ i
nine_pieces a b c d e f g h i = simp append_assoc
