-- The names of the members in the texts.
use Rattle.std.specs.Prelude.{ℕ, List, codes}
use Rattle.css_tsmsg.specs.declared.name.TsName.{TsName}
use Rattle.css_tsmsg.specs.declared.name.TsName.TheVariants.{ContentIdStem, TimelineSelector, ContentTime}
use Rattle.css_tsmsg.specs.declared.name.TsName.TheVariants.{TimelineSpeedMultiplier, WallClockTime, Earliest, Latest}
use Rattle.css_tsmsg.specs.declared.name.TsName.TheVariants.{Actual}

-- the name of a member
abbrev pub json_name : TsName → List ℕ
json_name ContentIdStem = codes "contentIdStem"
json_name TimelineSelector = codes "timelineSelector"
json_name ContentTime = codes "contentTime"
json_name TimelineSpeedMultiplier = codes "timelineSpeedMultiplier"
json_name WallClockTime = codes "wallClockTime"
json_name Earliest = codes "earliest"
json_name Latest = codes "latest"
json_name Actual = codes "actual"
