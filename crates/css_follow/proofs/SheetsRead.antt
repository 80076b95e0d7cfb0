-- The sheet of lines that are read one after another, and of all bytes.
use Rattle.std.proofs.Common.{◌≡◌, ℕ, Bool, true, false, cond, List, [], ◌∷◌, ◌++◌, ◌+◌, length}
use Rattle.std.proofs.Common.{ap, refl, sym, ◌∙◌, append-nil}
use Rattle.std.specs.Prelude.{Some, None, is_none, Result, Ok, Err, OnOk}
use Rattle.std.specs.List.{flat_map}
use Rattle.std.proofs.lemmas.Grind.{flat_map-append}
use Rattle.css_num.specs.Gives.{LeavesBy}
use Rattle.css_lines.specs.declared.reader.LineFault.{LineFault}
use Rattle.css_lines.specs.declared.reader.LineFault.TheVariants as lacks
use Rattle.css_lines.specs.Lines.{lines_of}
use Rattle.css_lines.specs.Meaning.{outcome}
use Rattle.css_follow.specs.declared.line.Form.{Form}
use Rattle.css_follow.specs.declared.line.SheetLine.{SheetLine}
use Rattle.css_follow.specs.declared.line.SheetLine.TheVariants.{Announce, Measure}
use Rattle.css_follow.specs.declared.sheet.Cue.{Cue}
use Rattle.css_follow.specs.declared.sheet.Sheet.{Sheet}
use Rattle.css_follow.specs.Reading.{grown, with_line}
use Rattle.css_follow.specs.SheetLines.{line_of}
use Rattle.css_follow.specs.Sheets.{cue_in, meter_in, first_of, sheet_of, has_room}
use Rattle.css_follow.specs.Sheets.{sheet_lines, unless_refused, sheet_in}

-- ---- one more line
-- numbers of which there is no first one are none
none-first : (numbers : List ℕ) → is_none (first_of numbers) ≡ true → numbers ≡ []
none-first [] h = refl
none-first (n ∷ ns) h = absurd (cc)

-- what a line that has room adds to the sheet
pub sheet_of-more : (before : List (List ℕ)) (text : List ℕ) (line : SheetLine) → line_of text ≡ Ok line
    → has_room (sheet_of before) line ≡ true → sheet_of (before ++ text ∷ []) ≡ grown (sheet_of before) line
unfolding sheet_of
sheet_of-more before text (Announce cue) e room =
    let cues = flat_map (λ l. cue_in (line_of l)) before in
    let meters = flat_map (λ l. meter_in (line_of l)) before in
    let made : List ℕ → Sheet = λ m. record { cues = cues ++ cue ∷ []; meter = first_of m } in
    rw (
      flat_map-append (λ l. cue_in (line_of l)) before (text ∷ []),
      flat_map-append (λ l. meter_in (line_of l)) before (text ∷ []),
      e,
    )
    (ap made (append-nil meters))
sheet_of-more before text (Measure count) e room =
    let cues = flat_map (λ l. cue_in (line_of l)) before in
    let meters = flat_map (λ l. meter_in (line_of l)) before in
    let none = none-first meters room in
    let made : List Cue → Sheet = λ l. record { cues = l; meter = Some count } in
    rw (
      flat_map-append (λ l. cue_in (line_of l)) before (text ∷ []),
      flat_map-append (λ l. meter_in (line_of l)) before (text ∷ []),
      e,
      none,
    )
    (ap made (append-nil cues))

-- what is chosen is the value, where it isn't the fault
chosen : {A E : Type 0} (b : Bool) (x y : A) (fault : E) → cond b (Ok x) (Err fault) ≡ Ok y → (b ≡ true) × (x ≡ y)
chosen true x y fault e = (refl, cc)
chosen false x y fault e = absurd (cc)

-- a sheet that a line was added to is that of one more line
pub stands-more : {T : Type 0} (number : ℕ) (result : Result T (LineFault Form)) (old new : Sheet) (line : SheetLine)
    (text : List ℕ)
    → line_of text ≡ Ok line → LeavesBy lacks.Memory result old new (with_line old line)
    → OnOk result ((before : List (List ℕ)) → old ≡ sheet_of before → number ≡ length before + 1
    → new ≡ sheet_of (before ++ text ∷ []))
stands-more number (Ok x) old new line text e leaves =
    let c = chosen (has_room old line) (grown old line) new (lacks.Refused (record {})) leaves in
    λ before stood is.
    sym c.1 ∙ ap (λ s. grown s line) stood
    ∙ sym (sheet_of-more before text line e (sym (ap (λ s. has_room s line) stood) ∙ c.0))
stands-more number (Err x) old new line text e leaves = tt

-- ---- all bytes
-- the sheet of all lines, where none is refused
pub read-ok : (bytes : List ℕ) (sheet : Sheet) → (outcome sheet_lines bytes).verdict ≡ None
    → sheet ≡ sheet_of (lines_of bytes) → sheet_in bytes ≡ Ok sheet
unfolding sheet_in
read-ok bytes sheet none stood =
    ap (λ v. unless_refused v (sheet_of (lines_of bytes))) none ∙ ap (λ s. Ok s) (sym stood)
