-- A line's members are put together one after another.
use Rattle.std.proofs.Common.{◌≡◌, ℕ, List, Result, ap, ap₂, ◌∙◌, subst}
use Rattle.std.specs.Prelude.{IfOk, OnOk}
use Rattle.serde_json.specs.Data.{Data, object, Members, put}
use Rattle.css_watch_lines.specs.Lines.{Line, line_members, line_data, line_text, text_of, IsReadBack}

-- one member more
pub then : (k : List ℕ) (d : Data) {new old told : Members} → new ≡ put k d old → old ≡ told → new ≡ put k d told
then k d step is = step ∙ ap (put k d) is

-- one member more, whose value is known by another name
pub then_by : (k : List ℕ) {d e : Data} {new old told : Members} → new ≡ put k d old → d ≡ e → old ≡ told
    → new ≡ put k e told
then_by k step same is = step ∙ ap₂ (put k) same is

-- the text of all members is the line
pub as_line : {E : Type 0} (result : Result (List ℕ) E) (ms : Members) (line : Line)
    → ms ≡ line_members line → IfOk result (λ text. text ≡ text_of (object ms))
    → IfOk result (λ text. text ≡ line_text line)
as_line result ms line is h = subst (λ all. IfOk result (λ text. text ≡ text_of (object all))) is h

-- and is read back as the line's value
pub as_read : {E : Type 0} (result : Result (List ℕ) E) (ms : Members) (line : Line)
    → ms ≡ line_members line → OnOk result (IsReadBack (object ms))
    → OnOk result (IsReadBack (line_data line))
as_read result ms line is h = subst (λ all. OnOk result (IsReadBack (object all))) is h
