-- A text of JSON is a `String`, so it is UTF-8.
use Rattle.std.proofs.Common.{◌∙◌, sym, subst}
use Rattle.std.specs.Str.{IsUtf8}
use Rattle.std.proofs.lemmas.Str.{IsUtf8-string_bytes}
use Rattle.css_text.proofs.fields.field_in.Goals as goal

pub returns-in_ok-of-in-String-clause-utf8 : goal.returns-in_ok-of-in-String-clause-utf8
returns-in_ok-of-in-String-clause-utf8 c =
    subst IsUtf8 (sym (c.in_ok-of-in-String.ensures ∙ c.as_bytes.ensures.value)) (IsUtf8-string_bytes c.in-String.words)
