-- The header of a generated schedule, and the eight lines at true time 0 that open it.
use Rattle.std.specs.Prelude.{ℕ, pos, negsuc, ◌==◌, true, if◌then◌else◌, List, [], ◌∷◌, codes}
use Rattle.css_player.specs.declared.command.Command.TheVariants.{Change}
use Rattle.css_num.specs.declared.protocol.Kind.TheVariants.{Cii, Ts}
use Rattle.css_schedule.specs.declared.header.CompanionLine.{CompanionLine}
use Rattle.css_schedule.specs.declared.header.Header.{Header}
use Rattle.css_schedule.specs.declared.line.Line.{Line}
use Rattle.css_schedule.specs.declared.line.Verb.{Verb}
use Rattle.css_schedule.specs.declared.line.Verb.TheVariants.{Programme, Timeline, Viewer, Opening, Bring, Up}

-- the selector of a PTS timeline
abbrev pub pts : List ℕ
pts = codes "urn:dvb:css:timeline:pts"

-- the one companion
abbrev pub companion : CompanionLine
companion = record { local = record { error = 12800; precision = 1000 }; selector = pts; stem = codes "dvb://" }

-- the header
abbrev pub header : Header
header = record { follow = true; tv_error = 12800; tv_precision = negsuc 19; companions = companion ∷ [] }

-- what happens at the line of that number, 2 to 9
unfoldable pub opening_verb : ℕ → Verb
opening_verb number =
    if number == 2 then Programme (codes "dvb://1.2.3")
    else if number == 3 then Timeline 1 pts (record { units_per_tick = 1; units_per_second = 90000 }) (pos 0)
    else if number == 4 then Viewer 1000000000 (Change 1)
    else if number == 5 then Opening Cii
    else if number == 6 then Bring Cii
    else if number == 7 then Opening Ts
    else if number == 8 then Up
    else Bring Ts

-- at true time 0 both clocks show one second
abbrev pub opening_line : ℕ → Line
opening_line number = record { t = 0; w = 1000000000; who = 1; l = 1000000000; verb = opening_verb number }
