-- Spans, widths and the narrowest answer, worked out by hand: the definitions compute to these.
use Rattle.std.proofs.Common.{◌≡◌, ℕ, refl, [], ◌∷◌, Some, None}
use Rattle.std.specs.Prelude.{pos, neg_ℤ, ◌*◌, ◌^◌}
use Rattle.css_model.specs.Numbers.{F, LIMIT}
use Rattle.css_model.specs.Wire.{second}
use Rattle.css_model.specs.WallClock.{Answer, Local, lower, upper, lo, hi, scaled_width, narrowest}

-- a million ppm in units of 1/256 ppm
whole_is_a_million_ppm : F ≡ 1000000 * 256
whole_is_a_million_ppm = refl

-- the seconds of a datagram have 32 bits
limit_is_that_of_the_seconds : LIMIT ≡ 2 ^ 32 * second
limit_is_that_of_the_seconds = refl

-- own clocks without error, and with one of 500 ppm
exact : Local
exact = record { error = 0; precision = 0 }

fair : Local
fair = record { error = 128000; precision = 0 }

-- ---- one round trip of 600 ns, of which the television took t3 - 5000
abbrev round_trip : (t3 error : ℕ) → Answer
round_trip t3 error = record { t1 = 1000; t2 = 5000; t3 = t3; t4 = 1600; precision = 1; error = error }

-- an answer that spent 1000 ns in a round trip of 600 contradicts itself
impossible_width : scaled_width exact (round_trip 6000 0) 1600 ≡ neg_ℤ (pos (394 * F * F))
unfolding scaled_width lower upper exact
impossible_width = refl

exact_span : (lo exact (round_trip 5200 0) 1600 ≡ pos 5197) × (hi exact (round_trip 5200 0) 1600 ≡ pos 5603)
unfolding lo hi lower upper exact
exact_span = (refl, refl)

-- with errors of 500 ppm on both sides the upper end is rounded up
drifting_span : (lo fair (round_trip 5200 128000) 1600 ≡ pos 5197) × (hi fair (round_trip 5200 128000) 1600 ≡ pos 5604)
unfolding lo hi lower upper fair
drifting_span = (refl, refl)

drifting_width : scaled_width fair (round_trip 5200 128000) 1600 ≡ pos (1626400798 * 16384000000)
unfolding scaled_width lower upper fair
drifting_width = refl

-- a second later the span has grown by two milliseconds
drifting_span_a_second_later : (lo fair (round_trip 5200 128000) 1000001600 ≡ pos 999005696)
    × (hi fair (round_trip 5200 128000) 1000001600 ≡ pos 1001006104)
unfolding lo hi lower upper fair
drifting_span_a_second_later = (refl, refl)

drifting_width_a_second_later : scaled_width fair (round_trip 5200 128000) 1000001600
    ≡ pos (8001626400798 * 16384000000)
unfolding scaled_width lower upper fair
drifting_width_a_second_later = refl

-- ---- a quick answer of a clock with an error of 1000 ppm, and a slow one of an exact clock
abbrev quick : Answer
quick = record { t1 = 1000; t2 = 5000; t3 = 5200; t4 = 1600; precision = 1; error = 256000 }

abbrev slow : Answer
slow = record { t1 = 2000; t2 = 6000; t3 = 6200; t4 = 4000; precision = 1; error = 0 }

-- the quick one is the narrowest at first
quick_is_narrowest_first : narrowest exact 4000 (slow ∷ quick ∷ []) ≡ Some quick
unfolding scaled_width lower upper exact
quick_is_narrowest_first = refl

-- at equal widths the one accepted first is
first_is_narrowest_of_equals : narrowest exact 701300 (slow ∷ quick ∷ []) ≡ Some quick
unfolding scaled_width lower upper exact
first_is_narrowest_of_equals = refl

equal_widths : scaled_width exact quick 701300 ≡ scaled_width exact slow 701300
unfolding scaled_width lower upper exact
equal_widths = refl

-- and a nanosecond later the other one is
slow_is_narrowest_then : narrowest exact 701301 (slow ∷ quick ∷ []) ≡ Some slow
unfolding scaled_width lower upper exact
slow_is_narrowest_then = refl

quick_span : (lo exact quick 4000 ≡ pos 7594) × (hi exact quick 4000 ≡ pos 8007)
unfolding lo hi lower upper exact
quick_span = (refl, refl)

quick_span_at_equal_widths : (lo exact quick 701300 ≡ pos 704197) × (hi exact quick 701300 ≡ pos 706004)
unfolding lo hi lower upper exact
quick_span_at_equal_widths = (refl, refl)

slow_span_then : (lo exact slow 701301 ≡ pos 703498) × (hi exact slow 701301 ≡ pos 705304)
unfolding lo hi lower upper exact
slow_span_then = (refl, refl)

-- nothing is the narrowest of no answers
none_is_narrowest_of_none : narrowest exact 1600 [] ≡ None
none_is_narrowest_of_none = refl
