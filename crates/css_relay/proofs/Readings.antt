-- The middle of a span that contains the wall clock reads it within half the span's width.
use Rattle.std.proofs.Common.{◌≡◌, ℕ, ◌≤◌, ◌<◌, arith, subst, refl, Bool, true, false, cond}
use Rattle.std.specs.Prelude.{ℤ, pos, negsuc, ◌≤ℤ◌, Option, Some, None, Result, Ok, Err}
use Rattle.std.proofs.lemmas.Int.{ints}
use Rattle.css_num.specs.Spans.{Interval}
use Rattle.css_model.specs.declared.Stamp.{Stamp}
use Rattle.css_model.specs.declared.TheConstants.{LIMIT}
use Rattle.css_model.specs.Numbers.{IsWithin}
use Rattle.css_client.specs.Standing.{SpanHolds}
use Rattle.css_relay.specs.Answers.{Ticket, ticket_at, ticket_by}
use Rattle.css_relay.specs.Middles.{cut, between, is_beyond, middle_of, middle_known}
use Rattle.css_relay.specs.declared.fault.RelayFault.{RelayFault}
use Rattle.css_relay.specs.declared.fault.RelayFault.TheVariants as faults
use Rattle.css_relay.specs.declared.middle.Middle.{Middle}

pub same_ok : {A E : Type 0} (x y : A) → ◌≡◌ {A = Result A E} (Ok x) (Ok y) → x ≡ y
same_ok x y h = cc

-- ---- cut
cut_below : (low : ℤ) (wall : ℕ) → low ≤ℤ pos wall → cut low ≤ wall
cut_below (pos number) wall below = omega (arith, ints, below)
cut_below (negsuc number) wall below = omega arith

cut_above : (high : ℤ) (wall : ℕ) → pos wall ≤ℤ high → wall < LIMIT → wall ≤ cut high
cut_above (pos number) wall above range = omega (arith, ints, above, range)
cut_above (negsuc number) wall above range = absurd (omega (arith, ints, above))

-- ---- the middle
between_reads : (low high wall : ℕ) → low ≤ wall → wall ≤ high
    → IsWithin (between low high).half (between low high).value wall
between_reads low high wall from to = (omega (arith, from, to), omega (arith, from, to))

middle_reads : (span : Interval) (middle : Middle) (wall : ℕ) → span.lo ≤ℤ pos wall → pos wall ≤ℤ span.hi
    → wall < LIMIT → middle_of span ≡ Ok middle → IsWithin middle.half middle.value wall
middle_reads span middle wall low high range is = by (is_beyond span) is
  where
    by : (beyond : Bool)
        → ◌≡◌ {A = Result Middle RelayFault}
        (cond beyond (Err (faults.Beyond span)) (Ok (between (cut span.lo) (cut span.hi)))) (Ok middle)
        → IsWithin middle.half middle.value wall
    by true is = absurd (cc)
    by false is =
        subst (λ (m : Middle). IsWithin m.half m.value wall) (same_ok (between (cut span.lo) (cut span.hi)) middle is)
        (between_reads (cut span.lo) (cut span.hi) wall (cut_below span.lo wall low) (cut_above span.hi
        wall high range))

pub known_reads : (span : Option Interval) (middle : Middle) (wall : ℕ) → SpanHolds span wall → wall < LIMIT
    → middle_known span ≡ Ok middle → IsWithin middle.half middle.value wall
known_reads None middle wall holds range is = absurd (cc)
known_reads (Some span) middle wall holds range is = middle_reads span middle wall holds.0 holds.1 range is

-- ---- the ticket
at_middle : (originate : Stamp) (found : Result Middle RelayFault) (ticket : Ticket) (wall : ℕ)
    → ((middle : Middle) → found ≡ Ok middle → IsWithin middle.half middle.value wall)
    → ticket_at originate found ≡ Ok ticket → IsWithin ticket.half ticket.value wall
at_middle originate (Err fault) ticket wall reads is = absurd (cc)
at_middle originate (Ok middle) ticket wall reads is =
    subst (λ (t : Ticket). IsWithin t.half t.value wall)
    (same_ok (record { originate = originate; value = middle.value; half = middle.half }) ticket is)
    (reads middle refl)

pub ticket_reads : (span : Option Interval) (asked : Result Stamp RelayFault) (ticket : Ticket) (wall : ℕ)
    → SpanHolds span wall → wall < LIMIT → ticket_by span asked ≡ Ok ticket → IsWithin ticket.half ticket.value wall
ticket_reads span (Err fault) ticket wall holds range is = absurd (cc)
ticket_reads span (Ok originate) ticket wall holds range is =
    at_middle originate (middle_known span) ticket wall (λ middle known. known_reads span middle wall holds range known)
    is
