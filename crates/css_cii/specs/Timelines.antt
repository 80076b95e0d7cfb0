-- The timelines of a message.
use Rattle.std.specs.Prelude.{ℕ, ℤ, pos, negsuc, List, [], ◌∷◌, Option, Some, None}
use Rattle.std.specs.Prelude.{option_map, option_and_then, codes, if◌then◌else◌}
use Rattle.css_num.specs.Rates.{TickRate, is_rate_part, rate_of}
use Rattle.css_num.specs.declared.timeline.Timeline.{Timeline}
use Rattle.serde_json.specs.Data.{Data, Items, no_items, item, Members}
use Rattle.serde_json.specs.Find.{as_object, get_member}
use Rattle.css_text.specs.Fields.{field_at}
use Rattle.css_text.specs.declared.fields.Field.{Field}
use Rattle.css_text.specs.declared.fields.Field.TheVariants as field

-- a whole number from 1 to 10^9
abbrev pub part_of : ℤ → Option ℕ
part_of (pos number) = if is_rate_part number then Some number else None
part_of (negsuc number) = None

-- the part of a rate that a field is
abbrev pub part_from : Field → Option ℕ
part_from (field.Whole number) = part_of number
part_from _ = None

-- the part of a rate that the member of this name is
abbrev pub part_in : List ℕ → Members → Option ℕ
part_in name members = part_from (field_at name members)

-- the rate with these two parts
abbrev pub rate_from : Option ℕ → Option ℕ → Option TickRate
rate_from None units_per_second = None
rate_from (Some units_per_tick) None = None
rate_from (Some units_per_tick) (Some units_per_second) = rate_of units_per_tick units_per_second

-- the rate that an object with both units is
abbrev pub rate_in : Option Data → Option TickRate
rate_in value =
    option_and_then (λ members.
    rate_from (part_in (codes "unitsPerTick") members) (part_in (codes "unitsPerSecond") members))
    (option_and_then as_object value)

-- the timeline of a text and a rate
abbrev pub timeline_from : Field → Option TickRate → Option Timeline
timeline_from (field.Words selector) (Some rate) = Some (record { selector = selector; rate = rate })
timeline_from _ _ = None

-- the timeline that an entry of the list is: an object with its selector and its properties, whatever else it has
abbrev pub timeline_of : Data → Option Timeline
timeline_of value =
    option_and_then (λ members.
    timeline_from (field_at (codes "timelineSelector") members)
    (rate_in (get_member (codes "timelineProperties") members)))
    (as_object value)

-- the timelines of a list where each entry is one
abbrev pub timelines_of : Items → Option (List Timeline)
timelines_of no_items = Some []
timelines_of (item value values) =
    option_and_then (λ timeline. option_map (λ timelines. timeline ∷ timelines) (timelines_of values))
    (timeline_of value)
