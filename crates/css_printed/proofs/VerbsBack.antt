-- The verbs of lines that are printed are read back.
use Rattle.std.proofs.Common.{◌≡◌, ℕ, ◌^◌, ◌<◌, ◌≤◌, arith, ap, refl, sym, ◌∙◌, Bool, true, false, List, [], ◌∷◌}
use Rattle.std.proofs.Common.{le-leb}
use Rattle.std.specs.Prelude.{ℤ, pos, negsuc, unsigned_abs}
use Rattle.std.specs.Prelude.{Some, None, Ok, bytes_eq, codes, decimal}
use Rattle.std.specs.Fmt.{signed_decimal}
use Rattle.std.specs.List.{list_all}
use Rattle.std.proofs.lemmas.Int.{ints}
use Rattle.std.proofs.lemmas.Slice.Eq.{bytes_eq-Decides}
use Rattle.css_num.specs.Rates.{TickRate, IsTickRate, is_rate_part, rate_of}
use Rattle.css_num.specs.Words.{number_of}
use Rattle.css_num.proofs.Numerals.{number_of-decimal}
use Rattle.css_model.specs.declared.TheConstants.{LIMIT}
use Rattle.css_player.specs.declared.command.Command.{Command}
use Rattle.css_player.specs.declared.command.Command.TheVariants.{Change, Speed, Seek}
use Rattle.css_num.specs.declared.protocol.Kind.{Kind}
use Rattle.css_num.specs.declared.protocol.Kind.TheVariants.{Cii, Ts}
use Rattle.css_tsmsg.specs.Presentations.{content_text, wall_text, IsEarliest, IsLatest}
use Rattle.css_tsmsg.specs.Times.{IsContent}
use Rattle.css_tsmsg.specs.declared.bound.Bound.{Bound}
use Rattle.css_tsmsg.specs.declared.bound.Bound.TheVariants.{At, MinusInfinity, PlusInfinity}
use Rattle.css_printed.proofs.NumbersBack.{number-back, time-back, ordinal-back, integer-back, position-back}
use Rattle.css_printed.proofs.NumbersBack.{text-back}
use Rattle.css_printed.proofs.Spaced.{Solid, AllSolid, graphic-solid, word-solid, decimal-solid, signed-solid}
use Rattle.css_schedule.specs.declared.line.Verb.{Verb}
use Rattle.css_schedule.specs.declared.line.Verb.TheVariants as verbs
use Rattle.css_schedule.specs.Words.{is_graphic, after_word}
use Rattle.css_schedule.specs.Lines.{position_at, kind_at, finite_at, wall_time_at, earliest_at, latest_at}
use Rattle.css_schedule.specs.Lines.{change_at, speed_at, seek_at, command_at}
use Rattle.css_schedule.specs.Lines.{ask_at, take_at, give_at, land_at, wall_at, print_at, programme_at, timeline_at}
use Rattle.css_schedule.specs.Lines.{viewer_at}
use Rattle.css_schedule.specs.Lines.{opening_at, bring_at, up_at, present_at, close_at, session_at, timelines_at}
use Rattle.css_schedule.specs.Lines.{operands_at, verb_at}
use Rattle.css_schedule.specs.Owners.{is_sleep}
use Rattle.css_printed.specs.Printed.{kind_word, command_name, command_word, timeline_words, verb_words}
use Rattle.css_schedule.specs.Ranges.{IsOrdinal, IsNumbered, IsTimeline, IsCommand, IsVerb}

-- ---- what several verbs have
kind-back : (kind : Kind) (rest : List (List ℕ)) → kind_at (kind_word kind ∷ rest) ≡ Ok (kind, rest)
unfolding kind_at
kind-back Cii rest = refl
kind-back Ts rest = refl

part-back : (part : ℕ) → 1 ≤ part → part ≤ 1000000000 → is_rate_part part ≡ true
part-back part low high = rw (le-leb 1 part low, le-leb part 1000000000 high) refl

part-ordinal : (part : ℕ) → 1 ≤ part → part ≤ 1000000000 → IsOrdinal part
part-ordinal part low high = record { low = low; high = omega (arith, high) }

rate-back : (rate : TickRate) → IsTickRate rate → rate_of rate.units_per_tick rate.units_per_second ≡ Some rate
rate-back rate h =
    rw (
      part-back rate.units_per_tick h.tick_positive h.tick_small,
      part-back rate.units_per_second h.second_positive h.second_small,
    ) refl

-- ---- the bounds of a presentation
-- a number is no other word
other_word : (number : ℕ) (word : List ℕ) → number < 2 ^ 63 → number_of word ≡ None
    → bytes_eq (decimal number) word ≡ false
other_word number word small none = by (bytes_eq (decimal number) word) refl
  where
    by : (b : Bool) → bytes_eq (decimal number) word ≡ b → b ≡ false
    by false p = refl
    by true p =
        let same : decimal number ≡ word = (bytes_eq-Decides (decimal number) word).0 p in
        let some : number_of (decimal number) ≡ Some number = number_of-decimal number (omega (arith, small)) in
        absurd (let both_ways : Some number ≡ None = sym some ∙ ap number_of same ∙ none in cc)

finite-back : (number : ℕ) (rest : List (List ℕ)) → number < 2 ^ 63
    → finite_at (decimal number ∷ rest) ≡ Ok (Some number, rest)
unfolding finite_at
finite-back number rest small = rw (number-back (2 ^ 63) number rest (omega arith) small) refl

wall_time-back : (infinite : List ℕ) (number : ℕ) (rest : List (List ℕ)) → number_of infinite ≡ None → number < 2 ^ 63
    → wall_time_at infinite (decimal number ∷ rest) ≡ Ok (Some number, rest)
unfolding wall_time_at
wall_time-back infinite number rest none small =
    rw (other_word number infinite small none) (finite-back number rest small)

content-small : (content : ℤ) → IsContent content → unsigned_abs content < 10 ^ 18
content-small (pos n) h = let high = h.high in omega (arith, ints)
content-small (negsuc n) h = let low = h.low in omega (arith, ints)

content-back : (content : ℤ) (rest : List (List ℕ)) → IsContent content
    → position_at (signed_decimal content ∷ rest) ≡ Ok (content, rest)
content-back content rest h = position-back content rest (content-small content h)

earliest-back : (bound : Bound) (rest : List (List ℕ)) → IsEarliest bound
    → earliest_at (content_text bound ∷ wall_text bound ∷ rest) ≡ Ok (bound, rest)
unfolding earliest_at wall_time_at
earliest-back (At content wall) rest h =
    rw (
      content-back content (decimal wall ∷ rest) h.content_time,
      other_word wall (codes "minusinfinity") h.wall_time refl,
      finite-back wall rest h.wall_time,
    ) refl
earliest-back (MinusInfinity content) rest h = rw (content-back content (codes "minusinfinity" ∷ rest) h) refl
earliest-back (PlusInfinity content) rest h = absurd h

latest-back : (bound : Bound) (rest : List (List ℕ)) → IsLatest bound
    → latest_at (content_text bound ∷ wall_text bound ∷ rest) ≡ Ok (bound, rest)
unfolding latest_at wall_time_at
latest-back (At content wall) rest h =
    rw (
      content-back content (decimal wall ∷ rest) h.content_time,
      other_word wall (codes "plusinfinity") h.wall_time refl,
      finite-back wall rest h.wall_time,
    ) refl
latest-back (MinusInfinity content) rest h = absurd h
latest-back (PlusInfinity content) rest h = rw (content-back content (codes "plusinfinity" ∷ rest) h) refl

-- ---- verbs
command-back : (command : Command) → IsCommand command
    → command_at (command_name command) (command_word command ∷ []) ≡ Ok (command, [])
unfolding command_at change_at speed_at seek_at
command-back (Change programme) h = rw (ordinal-back programme [] h) refl
command-back (Speed speed) h = rw (integer-back 3 speed [] (omega arith) (omega arith) h) refl
command-back (Seek media) h = rw (position-back media [] h) refl

-- the name of a viewer's command is that of no other verb
command-operands : (command : Command) (words : List (List ℕ))
    → operands_at (command_name command) words ≡ viewer_at (command_name command) words
unfolding operands_at timelines_at session_at
command-operands (Change programme) words = refl
command-operands (Speed speed) words = refl
command-operands (Seek media) words = refl

timeline-back : (programme : ℕ) (selector : List ℕ) (rate : TickRate) (base : ℤ)
    → IsTimeline programme selector rate base
    → verb_at (timeline_words programme selector rate base) ≡ Ok (verbs.Timeline programme selector rate base, [])
unfolding verb_at operands_at timelines_at timeline_at
timeline-back programme selector rate base h =
    let tick = part-ordinal rate.units_per_tick h.rate.tick_positive h.rate.tick_small in
    let second = part-ordinal rate.units_per_second h.rate.second_positive h.rate.second_small in
    let last = signed_decimal base ∷ [] in
    let rated = decimal rate.units_per_tick ∷ decimal rate.units_per_second ∷ last in
    rw (
      ordinal-back programme (selector ∷ rated) h.programme,
      text-back selector rated h.selector.word,
      ordinal-back rate.units_per_tick (decimal rate.units_per_second ∷ last) tick,
      ordinal-back rate.units_per_second last second,
      position-back base [] h.base,
      rate-back rate h.rate,
    ) refl

viewer-back : (reading : ℕ) (command : Command) → IsVerb (verbs.Viewer reading command)
    → verb_at (verb_words (verbs.Viewer reading command)) ≡ Ok (verbs.Viewer reading command, [])
unfolding verb_at viewer_at
viewer-back reading command h =
    command-operands command (decimal reading ∷ command_word command ∷ [])
    ∙ rw (time-back reading (command_word command ∷ []) h.reading, command-back command h.command) refl

opening-back : (kind : Kind) → verb_at (verb_words (verbs.Opening kind)) ≡ Ok (verbs.Opening kind, [])
unfolding verb_at operands_at timelines_at session_at opening_at
opening-back kind = rw (kind-back kind []) refl

bring-back : (kind : Kind) → verb_at (verb_words (verbs.Bring kind)) ≡ Ok (verbs.Bring kind, [])
unfolding verb_at operands_at timelines_at session_at bring_at
bring-back kind = rw (kind-back kind []) refl

up-back : verb_at (verb_words verbs.Up) ≡ Ok (verbs.Up, [])
unfolding verb_at operands_at timelines_at session_at up_at after_word
up-back = refl

present-back : (earliest latest : Bound) → IsVerb (verbs.Present earliest latest)
    → verb_at (verb_words (verbs.Present earliest latest)) ≡ Ok (verbs.Present earliest latest, [])
unfolding verb_at operands_at timelines_at session_at present_at
present-back earliest latest h =
    rw (
      earliest-back earliest (content_text latest ∷ wall_text latest ∷ []) h.earliest,
      latest-back latest [] h.latest,
    ) refl

close-back : (kind : Kind) → verb_at (verb_words (verbs.Close kind)) ≡ Ok (verbs.Close kind, [])
unfolding verb_at operands_at timelines_at session_at close_at
close-back kind = rw (kind-back kind []) refl

pub verb-back : (verb : Verb) → IsVerb verb → is_sleep verb ≡ false → verb_at (verb_words verb) ≡ Ok (verb, [])
unfolding verb_at operands_at timelines_at ask_at take_at give_at land_at wall_at print_at programme_at
verb-back (verbs.Ask reading) h awake = rw (time-back reading [] h) refl
verb-back (verbs.Take request reading) h awake =
    rw (ordinal-back request (decimal reading ∷ []) h.number, time-back reading [] h.reading) refl
verb-back (verbs.Give take reading) h awake =
    rw (ordinal-back take (decimal reading ∷ []) h.number, time-back reading [] h.reading) refl
verb-back (verbs.Land datagram reading) h awake =
    rw (ordinal-back datagram (decimal reading ∷ []) h.number, time-back reading [] h.reading) refl
verb-back (verbs.Wall reading) h awake = rw (time-back reading [] h) refl
verb-back (verbs.Print reading) h awake = rw (time-back reading [] h) refl
verb-back (verbs.Programme content_id) h awake = rw (text-back content_id [] h.word) refl
verb-back (verbs.Timeline programme selector rate base) h awake = timeline-back programme selector rate base h
verb-back (verbs.Viewer reading command) h awake = viewer-back reading command h
verb-back (verbs.Opening kind) h awake = opening-back kind
verb-back (verbs.Bring kind) h awake = bring-back kind
verb-back verbs.Up h awake = up-back
verb-back (verbs.Present earliest latest) h awake = present-back earliest latest h
verb-back (verbs.Close kind) h awake = close-back kind
verb-back verbs.Sleep h awake = absurd (cc)

-- ---- the words of a line are solid
pub reading-solid : (reading : ℕ) → reading < LIMIT → Solid (decimal reading)
reading-solid reading small = decimal-solid reading (omega (arith, small))

ordinal-solid : (number : ℕ) → IsOrdinal number → Solid (decimal number)
ordinal-solid number h = decimal-solid number (omega (arith, h.high))

kind-solid : (kind : Kind) → Solid (kind_word kind)
kind-solid Cii = graphic-solid (codes "cii") refl
kind-solid Ts = graphic-solid (codes "ts") refl

name-solid : (command : Command) → Solid (command_name command)
name-solid (Change programme) = graphic-solid (codes "change") refl
name-solid (Speed speed) = graphic-solid (codes "speed") refl
name-solid (Seek media) = graphic-solid (codes "seek") refl

command-solid : (command : Command) → IsCommand command → Solid (command_word command)
command-solid (Change programme) h = ordinal-solid programme h
command-solid (Speed speed) h = signed-solid speed (omega (arith, h))
command-solid (Seek media) h = signed-solid media h

earliest-solid : (bound : Bound) → IsEarliest bound → Solid (content_text bound) × Solid (wall_text bound)
earliest-solid (At content wall) h =
    (signed-solid content (content-small content h.content_time), decimal-solid wall (omega (arith, h.wall_time)))
earliest-solid (MinusInfinity content) h =
    (signed-solid content (content-small content h), graphic-solid (codes "minusinfinity") refl)
earliest-solid (PlusInfinity content) h = absurd h

latest-solid : (bound : Bound) → IsLatest bound → Solid (content_text bound) × Solid (wall_text bound)
latest-solid (At content wall) h =
    (signed-solid content (content-small content h.content_time), decimal-solid wall (omega (arith, h.wall_time)))
latest-solid (MinusInfinity content) h = absurd h
latest-solid (PlusInfinity content) h =
    (signed-solid content (content-small content h), graphic-solid (codes "plusinfinity") refl)

timeline-solid : (programme : ℕ) (selector : List ℕ) (rate : TickRate) (base : ℤ)
    → IsTimeline programme selector rate base → AllSolid (timeline_words programme selector rate base)
timeline-solid programme selector rate base h = (
  graphic-solid (codes "timeline") refl,
  (
    ordinal-solid programme h.programme,
    (
      word-solid selector h.selector.word,
      (
        decimal-solid rate.units_per_tick (omega (arith, h.rate.tick_small)),
        (
          decimal-solid rate.units_per_second (omega (arith, h.rate.second_small)),
          (signed-solid base h.base, tt),
        ),
      ),
    ),
  ),
)

numbered-solid : (name : List ℕ) (number reading : ℕ) → list_all is_graphic name ≡ true → IsNumbered number reading
    → AllSolid (name ∷ decimal number ∷ decimal reading ∷ [])
numbered-solid name number reading graphic h =
    (graphic-solid name graphic, (ordinal-solid number h.number, (reading-solid reading h.reading, tt)))

pub verb-solid : (verb : Verb) → IsVerb verb → AllSolid (verb_words verb)
verb-solid (verbs.Ask reading) h = (graphic-solid (codes "ask") refl, (reading-solid reading h, tt))
verb-solid (verbs.Take request reading) h = numbered-solid (codes "take") request reading refl h
verb-solid (verbs.Give take reading) h = numbered-solid (codes "give") take reading refl h
verb-solid (verbs.Land datagram reading) h = numbered-solid (codes "land") datagram reading refl h
verb-solid (verbs.Wall reading) h = (graphic-solid (codes "wall") refl, (reading-solid reading h, tt))
verb-solid (verbs.Print reading) h = (graphic-solid (codes "print") refl, (reading-solid reading h, tt))
verb-solid (verbs.Programme content_id) h = (graphic-solid (codes "programme") refl, (word-solid content_id h.word, tt))
verb-solid (verbs.Timeline programme selector rate base) h = timeline-solid programme selector rate base h
verb-solid (verbs.Viewer reading command) h =
    (name-solid command, (reading-solid reading h.reading, (command-solid command h.command, tt)))
verb-solid (verbs.Opening kind) h = (graphic-solid (codes "open") refl, (kind-solid kind, tt))
verb-solid (verbs.Bring kind) h = (graphic-solid (codes "text") refl, (kind-solid kind, tt))
verb-solid verbs.Up h = (graphic-solid (codes "up") refl, (graphic-solid (codes "ts") refl, tt))
verb-solid (verbs.Present earliest latest) h =
    let first = earliest-solid earliest h.earliest in
    let last = latest-solid latest h.latest in
    (graphic-solid (codes "present") refl, (first.0, (first.1, (last.0, (last.1, tt)))))
verb-solid (verbs.Close kind) h = (graphic-solid (codes "close") refl, (kind-solid kind, tt))
verb-solid verbs.Sleep h = (graphic-solid (codes "sleep") refl, tt)
