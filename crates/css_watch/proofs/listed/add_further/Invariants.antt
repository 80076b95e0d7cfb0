-- The selectors so far are added, and those of the rest are to come.
use Rattle.std.proofs.Common.{◌≡◌, ◌++◌, drop}
use Rattle.std.specs.Prelude.{string_bytes}
use Rattle.css_cii.specs.Texts.{SelectorsAreUtf8}
use Rattle.css_watch.specs.Telling.{further_words}
use Rattle.css_watch.proofs.listed.add_further.Given as goal

abbrev pub invariant-loop-timeline : goal.invariant-loop-timeline
invariant-loop-timeline l =
    (string_bytes l.words ++ further_words (drop l.timeline-index l.timelines)
    ≡ string_bytes l.fn.words ++ further_words l.timelines)
    × SelectorsAreUtf8 (drop l.timeline-index l.timelines)
