-- Presentations, and their texts.
use Rattle.std.specs.Prelude.{◌≡◌, ℕ, ℤ, ◌<◌, ◌^◌, ◌||◌, nat_lt, nat_le, Bool, true, false, bytes_eq, List, length}
use Rattle.std.specs.Prelude.{Option, Some, None, option_and_then, Result, Ok, Err, codes, decimal, ⊤, if◌then◌else◌}
use Rattle.std.specs.Fmt.{signed_decimal}
use Rattle.std.specs.Str.Parse.{digits_value}
use Rattle.serde_json.specs.Data.{Data, null, boolean, number, string, array, object, Members, no_members, member}
use Rattle.serde_json.specs.Find.{as_object, get_member}
use Rattle.serde_json.specs.Written.{compact_text}
use Rattle.css_text.specs.Fields.{field_at}
use Rattle.css_text.specs.Readings.{object_of}
use Rattle.css_text.specs.declared.faults.TextFault.{TextFault}
use Rattle.css_text.specs.declared.fields.Field.{Field}
use Rattle.css_text.specs.declared.fields.Field.TheVariants as field
use Rattle.css_tsmsg.specs.Faults.{text_fault, and_then}
use Rattle.css_tsmsg.specs.Names.{json_name}
use Rattle.css_tsmsg.specs.Times.{is_wall, is_content, without_minus, content_value, words_that, IsContent}
use Rattle.css_tsmsg.specs.declared.bound.Bound.{Bound}
use Rattle.css_tsmsg.specs.declared.bound.Bound.TheVariants.{At, MinusInfinity, PlusInfinity}
use Rattle.css_tsmsg.specs.declared.bound.Presentation.{Presentation}
use Rattle.css_tsmsg.specs.declared.presentation.Form.{Form}
use Rattle.css_tsmsg.specs.declared.fault.TsFault.{TsFault}
use Rattle.css_tsmsg.specs.declared.fault.TsFault.TheVariants as fault
use Rattle.css_tsmsg.specs.declared.name.TsName.{TsName}
use Rattle.css_tsmsg.specs.declared.name.TsName.TheVariants as name

-- ---- forms

-- the words are those of the infinite wall time that this end may have
abbrev pub is_infinite : TsName → List ℕ → Bool
is_infinite name.Earliest words = bytes_eq words (codes "minusinfinity")
is_infinite name.Latest words = bytes_eq words (codes "plusinfinity")
is_infinite _ words = false

-- a wall time that may be infinite, which is told as None
abbrev pub wall_form : TsName → Field → Option (Option (List ℕ))
wall_form end (field.Words words) =
    if is_infinite end words then Some None else (if is_wall words then Some (Some words) else None)
wall_form end _ = None

-- both times have their form
abbrev pub form_from : TsName → Option (List ℕ) → Option (Option (List ℕ)) → Result Form TsFault
form_from end (Some content) (Some wall) = Ok (record { content = content; wall = wall })
form_from end _ _ = Err (fault.Field end)

-- the form of an object
abbrev pub form_in : TsName → Members → Result Form TsFault
form_in end members =
    form_from end (words_that is_content (field_at (json_name name.ContentTime) members))
    (wall_form end (field_at (json_name name.WallClockTime) members))

-- an object with both times
abbrev pub form_or_fault : TsName → Option Members → Result Form TsFault
form_or_fault end None = Err (fault.Field end)
form_or_fault end (Some members) = form_in end members

-- the form of a member
abbrev pub form_of : TsName → Option Data → Result Form TsFault
form_of end value = form_or_fault end (option_and_then as_object value)

-- a form that is there
abbrev pub some_form : Result Form TsFault → Result (Option Form) TsFault
some_form (Err fault) = Err fault
some_form (Ok form) = Ok (Some form)

-- the form of a member that may be absent or null
abbrev pub actual_form : Option Data → Result (Option Form) TsFault
actual_form None = Ok None
actual_form (Some null) = Ok None
actual_form (Some (boolean truth)) = some_form (form_of name.Actual (Some (boolean truth)))
actual_form (Some (number value)) = some_form (form_of name.Actual (Some (number value)))
actual_form (Some (string words)) = some_form (form_of name.Actual (Some (string words)))
actual_form (Some (array values)) = some_form (form_of name.Actual (Some (array values)))
actual_form (Some (object inner)) = some_form (form_of name.Actual (Some (object inner)))

-- a wall time has its form, or is infinite where it may be
abbrev pub IsWallForm : TsName → Option (List ℕ) → Type 0
IsWallForm end (Some wall) = is_wall wall ≡ true
IsWallForm name.Earliest None = ⊤
IsWallForm name.Latest None = ⊤
IsWallForm _ None = ⊥

-- both times have their forms
pub record IsForm (end : TsName) (form : Form) : Type 0 where
  pub content_time : is_content form.content ≡ true
  pub wall_time : IsWallForm end form.wall

-- ---- ranges

-- the bound at an infinite wall time
abbrev pub infinite_bound : TsName → ℤ → Bound
infinite_bound name.Earliest content = MinusInfinity content
infinite_bound _ content = PlusInfinity content

-- the bound at a wall time that is in range
abbrev pub wall_in_range : TsName → ℤ → Option (List ℕ) → Result Bound TsFault
wall_in_range end content None = Ok (infinite_bound end content)
wall_in_range end content (Some wall) =
    if nat_lt 19 (length wall) || nat_le (2 ^ 63) (digits_value 10 wall) then Err (fault.Range end)
    else Ok (At content (digits_value 10 wall))

-- the bound of a form whose numbers are in range
abbrev pub bound_of : TsName → Form → Result Bound TsFault
bound_of end form =
    if nat_lt 18 (length (without_minus form.content)) then Err (fault.Range end)
    else wall_in_range end (content_value form.content) form.wall

-- a bound that is there
abbrev pub some_bound : Result Bound TsFault → Result (Option Bound) TsFault
some_bound (Err fault) = Err fault
some_bound (Ok bound) = Ok (Some bound)

-- the bound of a form that may be absent
abbrev pub actual_bound : Option Form → Result (Option Bound) TsFault
actual_bound None = Ok None
actual_bound (Some form) = some_bound (bound_of name.Actual form)

-- ---- the whole

-- the presentation that an object is, or its first fault: all forms are tested before all ranges
unfoldable pub presentation_in : Members → Result Presentation TsFault
presentation_in members =
    and_then (form_of name.Earliest (get_member (json_name name.Earliest) members)) (λ earliest_form.
    and_then (form_of name.Latest (get_member (json_name name.Latest) members)) (λ latest_form.
    and_then (actual_form (get_member (json_name name.Actual) members)) (λ told_form.
    and_then (bound_of name.Earliest earliest_form) (λ earliest.
    and_then (bound_of name.Latest latest_form) (λ latest.
    and_then (actual_bound told_form) (λ actual.
    Ok (record { earliest = earliest; latest = latest; actual = actual })))))))

-- the presentation of an object, or the fault that the text is none
abbrev pub presentation_or_fault : Result Members TextFault → Result Presentation TsFault
presentation_or_fault (Err fault) = Err (text_fault fault)
presentation_or_fault (Ok members) = presentation_in members

-- the presentation that a text tells, or its first fault
unfoldable pub presentation_of : List ℕ → Result Presentation TsFault
presentation_of bytes = presentation_or_fault (object_of bytes)

-- the presentation of three forms, or the first fault of their ranges
abbrev pub presentation_from : Form → Form → Option Form → Result Presentation TsFault
presentation_from earliest_form latest_form told_form =
    and_then (bound_of name.Earliest earliest_form) (λ earliest.
    and_then (bound_of name.Latest latest_form) (λ latest.
    and_then (actual_bound told_form) (λ actual.
    Ok (record { earliest = earliest; latest = latest; actual = actual }))))

-- ---- which presentations have a text, and it

-- a content time of at most 18 digits, and a wall time below 2^63
pub record AreTimes (content : ℤ) (wall : ℕ) : Type 0 where
  pub content_time : IsContent content
  pub wall_time : wall < 2 ^ 63

-- the earliest bound isn't +infinity
abbrev pub IsEarliest : Bound → Type 0
IsEarliest (At content wall) = AreTimes content wall
IsEarliest (MinusInfinity content) = IsContent content
IsEarliest (PlusInfinity content) = ⊥

-- the latest bound isn't -infinity
abbrev pub IsLatest : Bound → Type 0
IsLatest (At content wall) = AreTimes content wall
IsLatest (MinusInfinity content) = ⊥
IsLatest (PlusInfinity content) = IsContent content

-- the bound has a wall time
abbrev pub IsFinite : Bound → Type 0
IsFinite (At content wall) = AreTimes content wall
IsFinite (MinusInfinity content) = ⊥
IsFinite (PlusInfinity content) = ⊥

-- the actual bound, where it is there, has a wall time
abbrev pub IsActual : Option Bound → Type 0
IsActual None = ⊤
IsActual (Some bound) = IsFinite bound

-- the bound is one that this end may have
abbrev pub IsBoundOf : TsName → Bound → Type 0
IsBoundOf name.Earliest bound = IsEarliest bound
IsBoundOf name.Latest bound = IsLatest bound
IsBoundOf _ bound = IsFinite bound

-- the earliest bound isn't +infinity, the latest not -infinity, the actual one has a wall time, and all numbers are in
-- range
pub record IsPresentation (presentation : Presentation) : Type 0 where
  pub earliest : IsEarliest presentation.earliest
  pub latest : IsLatest presentation.latest
  pub actual : IsActual presentation.actual

-- the words of a wall time
abbrev pub wall_text : Bound → List ℕ
wall_text (At content wall) = decimal wall
wall_text (MinusInfinity content) = codes "minusinfinity"
wall_text (PlusInfinity content) = codes "plusinfinity"

-- the words of a content time
abbrev pub content_text : Bound → List ℕ
content_text (At content wall) = signed_decimal content
content_text (MinusInfinity content) = signed_decimal content
content_text (PlusInfinity content) = signed_decimal content

-- the object of a bound
abbrev pub bound_data : Bound → Data
bound_data bound =
    object (member (json_name name.ContentTime) (string (content_text bound))
    (member (json_name name.WallClockTime) (string (wall_text bound)) no_members))

-- the two ends of the window
abbrev pub window_members : Bound → Bound → Members
window_members earliest latest =
    member (json_name name.Earliest) (bound_data earliest)
    (member (json_name name.Latest) (bound_data latest) no_members)

-- the object of a window without its actual bound
abbrev pub window_data : Bound → Bound → Data
window_data earliest latest = object (window_members earliest latest)

-- the object of a window with its actual bound
abbrev pub told_data : Bound → Bound → Bound → Data
told_data earliest latest actual =
    object (member (json_name name.Actual) (bound_data actual) (window_members earliest latest))

-- the object of two bounds, and a third where it is there
abbrev pub data_of : Bound → Bound → Option Bound → Data
data_of earliest latest None = window_data earliest latest
data_of earliest latest (Some actual) = told_data earliest latest actual

-- the object of a presentation, its names in alphabetical order; an absent actual bound is left out
abbrev pub presentation_data : Presentation → Data
presentation_data presentation = data_of presentation.earliest presentation.latest presentation.actual

-- the compact text of a presentation
unfoldable pub presentation_text : Presentation → List ℕ
presentation_text presentation = compact_text (presentation_data presentation)
