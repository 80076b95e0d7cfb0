-- A presentation that is written is read back.
use Rattle.std.proofs.Common.{◌≡◌, ℕ, ◌^◌, ◌<◌, ◌≤◌, true, false, List, length, Option, Some, None, Ok, decimal, codes}
use Rattle.std.proofs.Common.{refl, sym, ap, ◌∙◌, subst, true≢false, arith, le-ltb}
use Rattle.std.specs.Prelude.{bytes_eq}
use Rattle.std.specs.List.{list_all}
use Rattle.std.specs.Char.{is_ascii_digit}
use Rattle.std.proofs.lemmas.Bool.{lt-leb}
use Rattle.serde_json.specs.Data.{depth}
use Rattle.serde_json.specs.Read.{max_depth}
use Rattle.serde_json.specs.Written.{compact_text}
use Rattle.css_text.specs.CompactTexts.{IsPlain}
use Rattle.css_text.specs.Readings.{object_of, members_or_fault}
use Rattle.css_text.proofs.CompactTexts.{decimal_digits, bytes_differ}
use Rattle.css_tsmsg.specs.Presentations.{form_of, bound_of, bound_data, data_of, presentation_data, presentation_text}
use Rattle.css_tsmsg.specs.Presentations.{presentation_in, presentation_or_fault, presentation_of, IsEarliest, IsLatest}
use Rattle.css_tsmsg.specs.Presentations.{IsFinite, IsActual, IsPresentation, content_text, wall_in_range}
use Rattle.css_tsmsg.specs.Times.{without_minus, content_value}
use Rattle.css_tsmsg.specs.declared.name.TsName.{TsName}
use Rattle.css_tsmsg.specs.declared.bound.Bound.{Bound}
use Rattle.css_tsmsg.specs.declared.bound.Bound.TheVariants.{At, MinusInfinity, PlusInfinity}
use Rattle.css_tsmsg.specs.declared.bound.Presentation.{Presentation}
use Rattle.css_tsmsg.specs.declared.presentation.Form.{Form}
use Rattle.css_tsmsg.specs.declared.name.TsName.TheVariants as name
use Rattle.css_tsmsg.proofs.RoundTrips.{reads_signed, wall_form, wall_few, wall_value}

-- digits are no word
no_word : (n : ℕ) (words : List ℕ) → n < 2 ^ 63 → list_all is_ascii_digit words ≡ false
    → bytes_eq (decimal n) words ≡ false
no_word n words h other =
    bytes_differ (decimal n) words (λ e. let P : List ℕ → Type 0 = λ t. list_all is_ascii_digit t ≡ true in
    true≢false (sym (subst P e (decimal_digits n (omega arith))) ∙ other))

-- the wall time of a bound, where it isn't infinite
abbrev written_wall : Bound → Option (List ℕ)
written_wall (At content wall) = Some (decimal wall)
written_wall (MinusInfinity content) = None
written_wall (PlusInfinity content) = None

-- the form of a bound that was written
abbrev written : Bound → Form
written bound = record { content = content_text bound; wall = written_wall bound }

-- the form of an earliest bound that was written
earliest_form : (b : Bound) → IsEarliest b → form_of name.Earliest (Some (bound_data b)) ≡ Ok (written b)
earliest_form (At content wall) h =
    rw (
      (reads_signed content h.content_time).form,
      no_word wall (codes "minusinfinity") h.wall_time refl,
      wall_form wall (omega (arith, h.wall_time)),
    ) refl
earliest_form (MinusInfinity content) h = rw ((reads_signed content h).form) refl
earliest_form (PlusInfinity content) h = absurd h

-- that of a latest one
latest_form : (b : Bound) → IsLatest b → form_of name.Latest (Some (bound_data b)) ≡ Ok (written b)
latest_form (At content wall) h =
    rw (
      (reads_signed content h.content_time).form,
      no_word wall (codes "plusinfinity") h.wall_time refl,
      wall_form wall (omega (arith, h.wall_time)),
    ) refl
latest_form (MinusInfinity content) h = absurd h
latest_form (PlusInfinity content) h = rw ((reads_signed content h).form) refl

-- that of an actual one
finite_form : (b : Bound) → IsFinite b → form_of name.Actual (Some (bound_data b)) ≡ Ok (written b)
finite_form (At content wall) h =
    rw ((reads_signed content h.content_time).form, wall_form wall (omega (arith, h.wall_time))) refl
finite_form (MinusInfinity content) h = absurd h
finite_form (PlusInfinity content) h = absurd h

-- an earliest bound is read back from its form
earliest_bound : (b : Bound) → IsEarliest b → bound_of name.Earliest (written b) ≡ Ok b
earliest_bound (At content wall) h =
    let c = reads_signed content h.content_time in
    rw (
      le-ltb _ _ c.few,
      le-ltb _ _ (wall_few wall h.wall_time),
      wall_value wall h.wall_time,
      lt-leb (2 ^ 63) wall h.wall_time,
      c.value,
    ) refl
earliest_bound (MinusInfinity content) h = let c = reads_signed content h in rw (le-ltb _ _ c.few, c.value) refl
earliest_bound (PlusInfinity content) h = absurd h

-- so is a latest one
latest_bound : (b : Bound) → IsLatest b → bound_of name.Latest (written b) ≡ Ok b
latest_bound (At content wall) h =
    let c = reads_signed content h.content_time in
    rw (
      le-ltb _ _ c.few,
      le-ltb _ _ (wall_few wall h.wall_time),
      wall_value wall h.wall_time,
      lt-leb (2 ^ 63) wall h.wall_time,
      c.value,
    ) refl
latest_bound (MinusInfinity content) h = absurd h
latest_bound (PlusInfinity content) h = let c = reads_signed content h in rw (le-ltb _ _ c.few, c.value) refl

-- and an actual one
finite_bound : (b : Bound) → IsFinite b → bound_of name.Actual (written b) ≡ Ok b
finite_bound (At content wall) h =
    let c = reads_signed content h.content_time in
    rw (
      le-ltb _ _ c.few,
      le-ltb _ _ (wall_few wall h.wall_time),
      wall_value wall h.wall_time,
      lt-leb (2 ^ 63) wall h.wall_time,
      c.value,
    ) refl
finite_bound (MinusInfinity content) h = absurd h
finite_bound (PlusInfinity content) h = absurd h

-- the members that were written are read as the same presentation
members_back : (earliest latest : Bound) (actual : Option Bound) → IsEarliest earliest → IsLatest latest
    → IsActual actual
    → presentation_or_fault (members_or_fault (Ok (data_of earliest latest actual))) ≡ Ok
    (record { earliest = earliest; latest = latest; actual = actual })
unfolding presentation_in
members_back earliest latest None e l a =
    rw (earliest_form earliest e, latest_form latest l, earliest_bound earliest e, latest_bound latest l) refl
members_back earliest latest (Some actual) e l a =
    rw (
      earliest_form earliest e,
      latest_form latest l,
      finite_form actual a,
      earliest_bound earliest e,
      latest_bound latest l,
      finite_bound actual a,
    ) refl

-- so the text is read back as the same presentation
pub presentation_back : (p : Presentation) (text : List ℕ) → IsPresentation p
    → object_of text ≡ members_or_fault (Ok (presentation_data p)) → presentation_of text ≡ Ok p
unfolding presentation_of
presentation_back p text h told =
    ap presentation_or_fault told ∙ members_back p.earliest p.latest p.actual h.earliest h.latest h.actual

-- the object of two or three bounds is plain
data_plain : (earliest latest : Bound) (actual : Option Bound) → IsPlain (data_of earliest latest actual)
data_plain earliest latest None = ((tt, (tt, tt)), ((tt, (tt, tt)), tt))
data_plain earliest latest (Some actual) = ((tt, (tt, tt)), ((tt, (tt, tt)), ((tt, (tt, tt)), tt)))

-- and nests two levels deep
data_shallow : (earliest latest : Bound) (actual : Option Bound) → depth (data_of earliest latest actual) ≤ max_depth
data_shallow earliest latest None = omega arith
data_shallow earliest latest (Some actual) = omega arith

-- so that of a presentation is plain
pub presentation_plain : (p : Presentation) → IsPlain (presentation_data p)
presentation_plain p = data_plain p.earliest p.latest p.actual

-- and nests no deeper
pub presentation_shallow : (p : Presentation) → depth (presentation_data p) ≤ max_depth
presentation_shallow p = data_shallow p.earliest p.latest p.actual

-- the text is that of the definition
pub presentation_text-is : (p : Presentation) → compact_text (presentation_data p) ≡ presentation_text p
unfolding presentation_text
presentation_text-is p = refl

-- the bound of a form whose content time is in range
pub bound_by : (end : TsName) (form : Form) → length (without_minus form.content) ≤ 18
    → bound_of end form ≡ wall_in_range end (content_value form.content) form.wall
bound_by end form few = rw (le-ltb _ _ few) refl
