-- The text holds the bytes that `serde_json` wrote, and a plain value's have no float.
use Rattle.std.proofs.Common.{◌≡◌, ◌∙◌, ap}
use Rattle.std.proofs.lemmas.Result.{IfOk-weaker}
use Rattle.serde_json.specs.View.{view}
use Rattle.serde_json.specs.Written.{compact_text}
use Rattle.css_text.proofs.CompactTexts.{no_float, object_written, odd_written}
use Rattle.css_text.specs.Readings.{object_of}
use Rattle.css_text.proofs.writing.write_value.Goals as goal
use Rattle.css_text.proofs.writing.write_value.Goals.{After-drop-bytes}

-- the bytes are the compact text
compact : (c : After-drop-bytes) → c.in_ok-bytes.bytes.items ≡ compact_text (view c.args.value.now)
compact c = c.in_ok-bytes.ensures.text (no_float (view c.args.value.now) c.requires.plain)

pub returns-clause-text : goal.returns-clause-text
returns-clause-text c = IfOk-weaker c.of.result _ _ (λ text is. is ∙ c.as_slice.ensures.value ∙ compact c) c.of.ensures

pub returns-clause-read_back : goal.returns-clause-read_back
returns-clause-read_back c = IfOk-weaker c.of.result _ _
    (λ text is.
    ap object_of (is ∙ c.as_slice.ensures.value) ∙ object_written (view c.args.value.now) c.in_ok-bytes.bytes.items
    c.requires.plain (compact c) c.in_ok-bytes.ensures.utf8 (c.in_ok-bytes.ensures.reads_back c.requires.shallow))
    c.of.ensures

pub returns-clause-none_odd : goal.returns-clause-none_odd
returns-clause-none_odd c =
    IfOk-weaker c.of.result _ _ (λ text is.
    odd_written (view c.args.value.now) text c.requires.plain (is ∙ c.as_slice.ensures.value ∙ compact c)) c.of.ensures
