-- What a snapshot shows is what its companion reports.
use Rattle.std.proofs.Common.{◌≡◌, ℕ, ◌≤◌, ◌∙◌, sym, ap, subst, List, [], ◌∷◌, map, take}
use Rattle.std.specs.Prelude.{pos, ◌≤ℤ◌, reverse, All, Option, Some, Ok, Result}
use Rattle.std.specs.Option.{option_map}
use Rattle.std.proofs.lemmas.List.{reverse-reverse}
use Rattle.std.proofs.lemmas.List.Elements.{All-nil, All-cons, All-head, All-tail, All-weaker}
use Rattle.std.proofs.lemmas.List.Sorted.{All-permutation, IsPermutation-reverse}
use Rattle.css_num.specs.Spans.{Interval}
use Rattle.css_model.specs.WallClock.{Answer, Local, IsAnswer, scaled_width, narrowest}
use Rattle.css_model.specs.History.{History, accepted_answers}
use Rattle.css_span.specs.Frontiers.{IsPossible}
use Rattle.css_span.specs.WallSpans.{wall_span, span_of}
use Rattle.css_span.proofs.Leasts.{least_by-of_all}
use Rattle.css_companion.specs.Headline.{IsPromised}
use Rattle.css_companion.specs.Meanings.{report_after}
use Rattle.css_companion.specs.Reports.{report_by}
use Rattle.css_companion.specs.Standing.{Companion, StandsFor, own_of}
use Rattle.css_companion.specs.declared.knowledge.Timing.{Timing}
use Rattle.css_companion.specs.declared.report.Cause.{Cause}
use Rattle.css_companion.specs.declared.report.Report.{Report}
use Rattle.css_companion.specs.declared.report.Report.TheVariants as report
use Rattle.css_companion.proofs.Headline.{headline}
use Rattle.css_companion_c.specs.Promises.{HoldsThePosition}
use Rattle.css_companion_c.specs.Snapshots.{IsInRange, IsSnapshotOf, times_of, own_in, answers_in, timing_in, shown}
use Rattle.css_companion_c.specs.declared.reading.Position.{Position}
use Rattle.css_companion_c.specs.declared.snapshot.Snapshot.{Snapshot}

-- what holds of the kept answers holds of them the other way round
pub all_possible : (own known : Local) (reading : ℕ) (kept answers : List Answer) → known ≡ own
    → reverse kept ≡ answers → All (IsPossible known reading) kept → All (IsPossible own reading) answers
all_possible own known reading kept answers same turned possible =
    subst (λ (o : Local). All (IsPossible o reading) answers) same
    (subst (λ (xs : List Answer). All (IsPossible known reading) xs) turned
    (All-permutation (IsPossible known reading) kept (reverse kept) (IsPermutation-reverse kept) possible))

-- in a snapshot whose numbers are in range the narrowest answer is possible
pub found_possible : (snapshot : Snapshot) (reading : ℕ) (answer : Answer) → IsInRange snapshot
    → snapshot.floor ≤ reading → narrowest (own_in snapshot) reading (reverse (answers_in snapshot)) ≡ Some answer
    → pos 0 ≤ℤ scaled_width (own_in snapshot) answer reading
found_possible snapshot reading answer ranges later found =
    let possible : IsPossible (own_in snapshot) reading answer =
    least_by-of_all (IsPossible (own_in snapshot) reading) (λ (a : Answer). scaled_width (own_in snapshot) a reading)
    (reverse (answers_in snapshot)) answer
    (All-permutation (IsPossible (own_in snapshot) reading) (answers_in snapshot) (reverse (answers_in snapshot))
    (IsPermutation-reverse (answers_in snapshot)) (ranges.possible reading later)) found in
    possible.wide

unmapped : {X Y : Type 0} (f : X → Y) (P : Y → Type 0) (xs : List X) → All P (map f xs) → All (λ x. P (f x)) xs
unmapped f P [] h = All-nil (λ x. P (f x))
unmapped f P (x ∷ xs) h =
    All-cons (λ y. P (f y)) x xs (All-head P (f x) (map f xs) h) (unmapped f P xs (All-tail P (f x) (map f xs) h))

-- and each answer is in range
pub all_in_range : (snapshot : Snapshot) (reading : ℕ) → IsInRange snapshot → snapshot.floor ≤ reading
    → All (λ k. IsAnswer (times_of k)) (take snapshot.count snapshot.answers)
all_in_range snapshot reading ranges later =
    unmapped times_of IsAnswer (take snapshot.count snapshot.answers)
    (All-weaker (IsPossible (own_in snapshot) reading) IsAnswer (λ a h. h.ranges) (answers_in snapshot)
    (ranges.possible reading later))

-- the report of a snapshot is the companion's
pub shown_is : (snapshot : Snapshot) (companion : Companion) (history : History) (reading : ℕ)
    → IsSnapshotOf snapshot companion → StandsFor companion history
    → shown snapshot reading ≡ report_after (own_of companion) companion.setup.selector history reading
shown_is snapshot companion history reading copy known =
    let own = own_of companion in
    let kept = companion.client.estimate.kept in
    let turned : reverse (answers_in snapshot) ≡ kept = ap reverse (sym copy.kept) ∙ reverse-reverse kept in
    let span : wall_span (own_in snapshot) reading (reverse (answers_in snapshot))
    ≡ wall_span own reading (accepted_answers own history) =
    ap (λ (o : Local). wall_span o reading (reverse (answers_in snapshot))) (sym copy.own)
    ∙ ap (λ (xs : List Answer). wall_span own reading xs) turned
    ∙ ap (λ (o : Option Answer). option_map (span_of own reading) o) (known.client.estimate.narrowest reading) in
    ap (λ (o : Option Interval). report_by o (Ok (timing_in snapshot))) span
    ∙ ap (λ (t : Result Timing Cause). report_by (wall_span own reading (accepted_answers own history)) t)
    (sym (copy.meaning history known))

-- so its ticks keep the promise
pub holds : (snapshot : Snapshot) (companion : Companion) (reading : ℕ) (position : Position)
    → IsSnapshotOf snapshot companion → shown snapshot reading ≡ report.Ticks position.lo position.hi
    → HoldsThePosition reading position companion
holds snapshot companion reading position copy ticks history known =
    subst (λ (r : Report). IsPromised (own_of companion) companion.setup.selector history reading r)
    (sym (shown_is snapshot companion history reading copy known) ∙ ticks)
    (headline (own_of companion) companion.setup.selector history reading known.client.lawful)
