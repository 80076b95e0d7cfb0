-- What the wall clock is told as, and what a sleep leaves.
use Rattle.std.proofs.Common.{ℕ, ◌<◌, ◌≤◌, arith, [], ◌∷◌, length, refl, sym, subst, inl, inr}
use Rattle.std.specs.Prelude.{Option, Some, None, IfSome, IsTrue, max, All}
use Rattle.std.specs.Option.{option_map}
use Rattle.std.proofs.lemmas.List.Elements.{All-nil, All-cons, All-head, All-tail}
use Rattle.css_model.specs.declared.Why.TheVariants as why
use Rattle.css_model.specs.WallClock.{Answer, Local}
use Rattle.css_model.specs.Truth.{Contains}
use Rattle.css_model.specs.World.{World, Errors, IsWorldFor}
use Rattle.css_model.specs.History.{Clock, Slept, History, sleeps, asking_at, accepted_answers, wall_answer}
use Rattle.css_model.specs.Explains.{IsLawful, Explains}
use Rattle.css_model.proofs.Wall.{wall_is_true, answers_are_true}
use Rattle.css_span.specs.Frontiers as frontiers
use Rattle.css_span.specs.Frontiers.{Frontier, Answers, AreAmong}
use Rattle.css_span.specs.WallSpans.{span_of, wall_span}
use Rattle.css_client.specs.Clients.{Client, local_of, is_among}
use Rattle.css_client.specs.Standing.{StandsFor, IsBelow, SpanHolds, KeptContainTheWall}
use Rattle.css_model.proofs.Requests.{each_weaker}

-- the span of an answer that is true holds
span_holds : (own : Local) (reading wall : ℕ) (narrowest : Option Answer)
    → IfSome narrowest (λ answer. Contains own answer reading wall)
    → SpanHolds (option_map (span_of own reading) narrowest) wall
span_holds own reading wall None h = tt
span_holds own reading wall (Some answer) h = (h.low, h.high)

-- in a world that explains the history, what is told contains the wall clock
pub wall_holds : (client : Client) (history : History) (reading : ℕ) (errors : Errors) (world : World)
    (who : ℕ) (moment_of : ℕ → ℕ)
    → StandsFor client history → IsWorldFor errors world who (local_of client)
    → Explains world who errors.tv (local_of client) (Clock why.Turn reading ∷ history) moment_of
    → SpanHolds (wall_span (local_of client) reading (accepted_answers (local_of client) history))
    (world (moment_of (length history))).wall
wall_holds client history reading errors world who moment_of stands for explains =
    let lawful : IsLawful (Clock why.Turn reading ∷ history) = record {
      rises = (tt, stands.lawful.rises);
      asks = (tt, stands.lawful.asks);
    } in
    span_holds (local_of client) reading (world (moment_of (length history))).wall
    (wall_answer (local_of client) history reading)
    (wall_is_true errors world who (local_of client) (Clock why.Turn reading ∷ history) moment_of for lawful explains).0

-- what holds of all answers holds of those that are among them
all_among : (P : Answer → Type 0) (kept accepted : Answers) → AreAmong kept accepted → All P accepted → All P kept
all_among P [] accepted among all = All-nil P
all_among P (answer ∷ older) [] among all = absurd among
all_among P (answer ∷ older) (newest ∷ accepted) (inl same) all = All-cons P answer older
    (subst P (sym same.0) (All-head P newest accepted all))
    (all_among P older accepted same.1 (All-tail P newest accepted all))
all_among P (answer ∷ older) (newest ∷ accepted) (inr among) all =
    all_among P (answer ∷ older) accepted among (All-tail P newest accepted all)

-- and so does the span of each kept answer
pub kept_hold : (client : Client) → KeptContainTheWall client
kept_hold client history reading errors world who moment_of stands for explains =
    let lawful : IsLawful (Clock why.Turn reading ∷ history) = record {
      rises = (tt, stands.lawful.rises);
      asks = (tt, stands.lawful.asks);
    } in
    let told = answers_are_true errors world who (local_of client) (Clock why.Turn reading ∷ history) moment_of for
    lawful explains in
    all_among (λ answer. Contains (local_of client) answer reading (world (moment_of (length history))).wall)
    client.estimate.kept (accepted_answers (local_of client) history) stands.estimate.among told.0

-- the client after a sleep
abbrev pub after_sleep : Client → Frontier → Client
after_sleep client estimate = record {
  asked = [];
  promises = [];
  estimate = estimate;
  floor = max client.floor client.after_sleep;
  after_sleep = client.after_sleep;
}

-- the client after a sleep stands for the history with it
pub stands_slept : (client : Client) (history : History) (estimate : Frontier) → StandsFor client history
    → frontiers.StandsFor estimate [] → StandsFor (after_sleep client estimate) (Slept ∷ history)
stands_slept client history estimate stands empty = record {
  lawful = record { rises = (tt, stands.lawful.rises); asks = (tt, stands.lawful.asks) };
  asked = refl;
  promises = λ follow_up current. refl;
  only = record { of_asked = All-nil (λ promise. IsTrue (is_among promise.originate [])); once = tt };
  rising = (All-nil (λ earlier. earlier ≤ max client.floor client.after_sleep), tt);
  estimate = empty;
  below = (
    tt,
    each_weaker (IsBelow client (sleeps history)) (IsBelow (after_sleep client estimate) (sleeps (Slept ∷ history)))
        (λ earlier older below. raised (asking_at earlier) (sleeps older) below) history stands.below,
  );
}
  where
    raised : (o : Option ℕ) (slept : ℕ)
        → IfSome o (λ asked. (asked < client.after_sleep) × (slept < sleeps history → asked < client.floor))
        → IfSome o (λ asked. (asked < client.after_sleep)
        × (slept < sleeps (Slept ∷ history) → asked < max client.floor client.after_sleep))
    raised None slept h = tt
    raised (Some asked) slept h = (h.0, λ earlier. omega (arith, h.0))
