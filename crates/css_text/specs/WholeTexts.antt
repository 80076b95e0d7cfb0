-- The whole text: the text with its numerals outside strings rewritten.
use Rattle.std.specs.Prelude.{ℕ, ◌+◌, ◌==◌, Bool, false, List, [], ◌∷◌, ◌++◌, if◌then◌else◌}
use Rattle.std.specs.Int.{from_bool}
use Rattle.json.specs.Ascii as ascii
use Rattle.css_text.specs.Numerals.{is_numeral_byte, rewritten, is_odd}
use Rattle.css_text.specs.declared.whole_text.Place.{Place}
use Rattle.css_text.specs.declared.whole_text.Place.TheVariants.{Outside, InString, InEscape}

-- where the byte after `b` stands
abbrev pub place_after : Place → ℕ → Place
place_after Outside b = if b == ascii.quote then InString else Outside
place_after InString b = if b == ascii.backslash then InEscape else (if b == ascii.quote then Outside else InString)
place_after InEscape b = InString

-- the byte belongs to a run
abbrev pub is_in_run : Place → ℕ → Bool
is_in_run Outside b = is_numeral_byte b
is_in_run InString b = false
is_in_run InEscape b = false

-- the run after `b`
abbrev pub run_after : Place → List ℕ → ℕ → List ℕ
run_after place run b = if is_in_run place b then run ++ b ∷ [] else []

-- what `b` settles: nothing while the run goes on, and else the run and itself
abbrev pub settled : Place → List ℕ → ℕ → List ℕ
settled place run b = if is_in_run place b then [] else rewritten run ++ b ∷ []

-- the text from a place on, where `run` was passed just before
unfoldable pub whole_from : Place → List ℕ → List ℕ → List ℕ
whole_from place run [] = rewritten run
whole_from place run (b ∷ bytes) = settled place run b ++ whole_from (place_after place b) (run_after place run b) bytes

-- how many odd numerals `b` settles: 0 or 1
abbrev pub odd_at : Place → List ℕ → ℕ → ℕ
odd_at place run b = if is_in_run place b then 0 else from_bool (is_odd run)

-- the number of odd numerals from a place on, where `run` was passed just before
unfoldable pub odd_from : Place → List ℕ → List ℕ → ℕ
odd_from place run [] = from_bool (is_odd run)
odd_from place run (b ∷ bytes) = odd_at place run b + odd_from (place_after place b) (run_after place run b) bytes

-- the whole text
abbrev pub whole_text : List ℕ → List ℕ
whole_text = whole_from Outside []

-- how many of its numerals are odd
abbrev pub odd_count : List ℕ → ℕ
odd_count = odd_from Outside []
