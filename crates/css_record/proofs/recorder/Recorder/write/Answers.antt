-- The lines stand after those of earlier notes.
use Rattle.std.proofs.Common.{◌≡◌, ℕ, arith, ap, sym, ◌∙◌, subst, rules, List, [], ◌∷◌, ◌++◌, append_assoc, append-nil}
use Rattle.std.proofs.KnownBytes.{Appends-trans}
use Rattle.std.proofs.lemmas.Grind.{common_steps}
use Rattle.std.proofs.lemmas.List.Concat.{flat_map-append}
use Rattle.std.specs.Prelude.{Option, None, Result, Ok, Err}
use Rattle.std.specs.Result.{result_err}
use Rattle.css_outside.specs.Faults.{CountsOutFault}
use Rattle.css_outside.specs.declared.fault.OutFault.{OutFault}
use Rattle.css_companion.specs.declared.config.CompanionConfig.{CompanionConfig}
use Rattle.css_audit.specs.Printed.{record_text}
use Rattle.css_audit.specs.declared.input.RecordLine.{RecordLine}
use Rattle.css_drive.specs.Notes.{Note}
use Rattle.css_record.specs.Lines.{lines_of, text_in, text_of}
use Rattle.css_record.specs.Runs.{Writes}
use Rattle.css_record.proofs.recorder.Recorder.write.Goals as goal

-- those of later notes stand after those of earlier ones
texts_on : (config : CompanionConfig) (later earlier : List RecordLine)
    → record_text config (later ++ earlier) ≡ record_text config earlier ++ text_in later
texts_on config [] earlier = sym (append-nil (record_text config earlier))
texts_on config (line ∷ later) earlier = let rest = texts_on config later earlier in grind (arith, common_steps)

text_on : (config : CompanionConfig) (later earlier : List Note)
    → record_text config (lines_of (later ++ earlier)) ≡ record_text config (lines_of earlier) ++ text_of later
text_on config later earlier = search (rules, flat_map-append, texts_on)

-- these bytes were written after others
writes_on : {T U : Type 0} {was : Result T OutFault} {written : Result U OutFault} {a b c : Option (List ℕ)}
    {f m n : ℕ} {bytes more : List ℕ} → result_err was ≡ None → Writes was a b f m bytes → Writes written b c m n more
    → Writes written a c f n (bytes ++ more)
writes_on {was = Err cause} none p q = absurd (cc)
writes_on {was = Ok x} {written = Ok y} none p q =
    record { wrote = Appends-trans _ _ _ _ _ p.wrote q.wrote; counted = q.counted ∙ p.counted }
writes_on {was = Ok x} {written = Err cause} {n = n} {bytes = bytes} none p q =
    let part = q.wrote in
    record {
      wrote = record {
        front = bytes ++ part.front;
        of = (part.of.0, ap (λ x. bytes ++ x) part.of.1 ∙ sym (append_assoc bytes part.front part.of.0));
        grew = Appends-trans _ _ _ _ _ p.wrote part.grew;
      };
      counted = subst (λ (x : ℕ). CountsOutFault x n cause) p.counted q.counted;
    }

pub returns : goal.returns
returns g c newest are started earlier on saw = record {
  name = saw.name;
  writes = λ config held was header.
      rw (text_on config newest earlier)
      (writes_on on (saw.writes config held was header) (c.put-self.ensures _ are));
}
