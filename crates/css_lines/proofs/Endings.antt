-- How a run ends, from how its parts end.
use Rattle.std.proofs.Common.{◌≡◌, ℕ, ◌≤◌, List, [], ◌++◌, length, Option, Some, None}
use Rattle.std.proofs.Common.{sym, ◌∙◌, ap, subst, refl, arith, append-nil, take}
use Rattle.std.proofs.Common.{inl, inr}
use Rattle.std.specs.Io.KnownBytes.{Appends, Consumes, IsAtEnd}
use Rattle.css_outside.proofs.Known.{consumes_more}
use Rattle.css_lines.specs.declared.ending.Stop.{Stop}
use Rattle.css_lines.specs.declared.ending.Stop.TheVariants.{BadLine, ReadFault, WriteFault, Memory}
use Rattle.css_lines.specs.declared.running.TheConstants.{PIECE}
use Rattle.css_lines.specs.Lines.{lines_of}
use Rattle.css_lines.specs.Meaning.{Meaning, outcome, IsSound}
use Rattle.css_lines.specs.Progress.{StopsAfter, Stopped, StopsWith, StoppedAtEnd, Finished}
use Rattle.css_lines.specs.Ending.{StopsInPiece, MayStop, Finishes, Stops, RanToEnd, RanUntil, IsVerdict, SourceCounts}

-- a read that took nothing
pub consumes_nothing : (a b c : Option (List ℕ)) (read into : List ℕ) (n : ℕ) → Consumes a b read
    → Consumes b c (take n into) → n ≡ 0 → Consumes a c read
consumes_nothing a b c read into n before step none =
    subst (Consumes a c) (ap (λ (k : ℕ). read ++ take k into) none ∙ append-nil read)
    (consumes_more a b c read (take n into) before step)

-- a stop in a piece
may_stop : {Cause : Type 0} (meaning : Meaning Cause) (read : List ℕ) (left : Option (List ℕ)) (printed : List ℕ)
    (stop : Stop Cause) → StopsAfter meaning read printed stop → StopsInPiece meaning read printed
    → MayStop meaning read left printed stop
may_stop meaning read left printed (BadLine line why) ends piece = (inl ends, piece)
may_stop meaning read left printed WriteFault ends piece = (inl ends, piece)
may_stop meaning read left printed Memory ends piece = (inl ends, piece)
may_stop meaning read left printed ReadFault ends piece = absurd ends

-- a run that stops in a piece
pub stops_in_piece : {Cause : Type 0} (meaning : Meaning Cause) (start : Option (List ℕ)) (before piece : List ℕ)
    (holds left_old left : Option (List ℕ)) (stop : Stop Cause)
    → Stopped meaning start before (before ++ piece) holds stop → IsSound meaning before → length piece ≤ PIECE
    → Consumes left_old left (before ++ piece) → Stops meaning left_old left start holds stop
stops_in_piece meaning start before piece holds left_old left stop s sound short took = record {
  read = before ++ piece;
  printed = s.printed;
  took = took;
  grew = s.grew;
  ends = may_stop meaning (before ++ piece) left s.printed stop s.ends (record {
    before = before;
    piece = piece;
    cut = refl;
    short = short;
    sound = sound;
    kept = s.kept;
  });
}

-- a stop at the end
may_stop_at_end : {Cause : Type 0} (meaning : Meaning Cause) (read : List ℕ) (left : Option (List ℕ)) (printed : List ℕ)
    (stop : Stop Cause) → StopsWith (outcome meaning read) printed stop → IsAtEnd left
    → StopsInPiece meaning read printed → MayStop meaning read left printed stop
may_stop_at_end meaning read left printed (BadLine line why) ends at_end piece = (inr (at_end, ends), piece)
may_stop_at_end meaning read left printed WriteFault ends at_end piece = (inr (at_end, ends), piece)
may_stop_at_end meaning read left printed Memory ends at_end piece = (inr (at_end, ends), piece)
may_stop_at_end meaning read left printed ReadFault ends at_end piece = absurd ends

-- a run that stops at the end
pub stops_at_end : {Cause : Type 0} (meaning : Meaning Cause) (start : Option (List ℕ)) (read : List ℕ)
    (holds left_old left : Option (List ℕ)) (stop : Stop Cause)
    → StoppedAtEnd meaning start read holds stop → IsSound meaning read → IsAtEnd left → Consumes left_old left read
    → Stops meaning left_old left start holds stop
stops_at_end meaning start read holds left_old left stop s sound at_end took = record {
  read = read;
  printed = s.printed;
  took = took;
  grew = s.grew;
  ends = may_stop_at_end meaning read left s.printed stop s.ends at_end (record {
    before = read;
    piece = [];
    cut = sym (append-nil read);
    short = omega arith;
    sound = sound;
    kept = s.kept;
  });
}

-- a run that comes to the end
pub finishes : {L Cause : Type 0} (meaning : Meaning Cause) (stands : L → List (List ℕ) → Type 0)
    (start : Option (List ℕ)) (read : List ℕ) (lines : L) (holds left_old left : Option (List ℕ))
    → Finished meaning stands start read lines holds → IsAtEnd left → Consumes left_old left read
    → Finishes meaning stands left_old left start holds lines
finishes meaning stands start read lines holds left_old left f at_end took = record {
  read = read;
  printed = f.printed;
  took = took;
  grew = f.grew;
  at_end = at_end;
  all = f.all;
  stood = f.stood;
}

-- no read has failed there
pub no_read_fault : {Cause : Type 0} (meaning : Meaning Cause) (read printed : List ℕ) (before now : ℕ)
    (stop : Stop Cause) → StopsAfter meaning read printed stop → now ≡ before → SourceCounts before now stop
no_read_fault meaning read printed before now (BadLine line why) ends same = same
no_read_fault meaning read printed before now WriteFault ends same = same
no_read_fault meaning read printed before now Memory ends same = same
no_read_fault meaning read printed before now ReadFault ends same = absurd ends

-- nor at the end
pub no_read_fault_at_end : {Cause : Type 0} (meaning : Meaning Cause) (read printed : List ℕ) (before now : ℕ)
    (stop : Stop Cause) → StopsWith (outcome meaning read) printed stop → now ≡ before → SourceCounts before now stop
no_read_fault_at_end meaning read printed before now (BadLine line why) ends same = same
no_read_fault_at_end meaning read printed before now WriteFault ends same = same
no_read_fault_at_end meaning read printed before now Memory ends same = same
no_read_fault_at_end meaning read printed before now ReadFault ends same = absurd ends

-- a source that tells its bytes
told : (bytes : List ℕ) (left : Option (List ℕ)) (read : List ℕ) → Consumes (Some bytes) left read
    → (rest : List ℕ) × (left ≡ Some rest) × (bytes ≡ read ++ rest)
told bytes None read took = absurd took
told bytes (Some rest) read took = (rest, refl, took)

-- a run to the end of these bytes
ran_to_end_at : {L Cause : Type 0} (meaning : Meaning Cause) (stands : L → List (List ℕ) → Type 0) (bytes : List ℕ)
    (left holds_old holds_new : Option (List ℕ)) (lines : L)
    → Finishes meaning stands (Some bytes) left holds_old holds_new lines
    → RanToEnd meaning stands bytes left holds_old holds_new lines
ran_to_end_at meaning stands bytes left holds_old holds_new lines f =
    let known = told bytes left f.read f.took in
    let none : known.0 ≡ [] = let P : Option (List ℕ) → Type 0 = λ o. IsAtEnd o in subst P known.1 f.at_end in
    let all : bytes ≡ f.read = known.2 ∙ ap (λ l. f.read ++ l) none ∙ append-nil f.read in
    record {
      at_end = known.1 ∙ ap Some none;
      accepted = ap (λ l. (outcome meaning l).verdict) all ∙ ap (λ o. o.verdict) f.all;
      grew = subst (Appends holds_old holds_new)
          (sym (ap (λ l. (outcome meaning l).printed) all ∙ ap (λ o. o.printed) f.all)) f.grew;
      stood = subst (λ l. stands lines (lines_of l)) (sym all) f.stood;
    }

-- a run to the end of a source that tells its bytes
pub ran_to_end : {L Cause : Type 0} (meaning : Meaning Cause) (stands : L → List (List ℕ) → Type 0)
    (left_old left holds_old holds_new : Option (List ℕ)) (lines : L)
    → Finishes meaning stands left_old left holds_old holds_new lines → (bytes : List ℕ) → left_old ≡ Some bytes
    → RanToEnd meaning stands bytes left holds_old holds_new lines
ran_to_end meaning stands left_old left holds_old holds_new lines f bytes is =
    ran_to_end_at meaning stands bytes left holds_old holds_new lines
    (subst (λ o. Finishes meaning stands o left holds_old holds_new lines) is f)

-- a refusal is that of the whole input
verdict_of : {Cause : Type 0} (meaning : Meaning Cause) (read rest printed : List ℕ) (stop : Stop Cause)
    → MayStop meaning read (Some rest) printed stop → IsVerdict meaning (read ++ rest) printed stop
verdict_of meaning read rest printed (BadLine line why) ends =
    elim ends.0 [
      | inl always ↦ always rest
      | inr at_end ↦ ap (λ l. outcome meaning (read ++ l)) at_end.0 ∙ ap (outcome meaning) (append-nil read) ∙ at_end.1
    ]
verdict_of meaning read rest printed WriteFault ends = tt
verdict_of meaning read rest printed Memory ends = tt
verdict_of meaning read rest printed ReadFault ends = tt

-- a run that stops in these bytes
ran_until_at : {Cause : Type 0} (meaning : Meaning Cause) (bytes : List ℕ)
    (left holds_old holds_new : Option (List ℕ)) (stop : Stop Cause)
    → Stops meaning (Some bytes) left holds_old holds_new stop → RanUntil meaning bytes left holds_old holds_new stop
ran_until_at meaning bytes left holds_old holds_new stop s =
    let known = told bytes left s.read s.took in
    let ends : MayStop meaning s.read (Some known.0) s.printed stop =
    subst (λ o. MayStop meaning s.read o s.printed stop) known.1 s.ends in
    record {
      read = s.read;
      rest = known.0;
      cut = known.2;
      at = known.1;
      printed = s.printed;
      grew = s.grew;
      verdict = subst (λ l. IsVerdict meaning l s.printed stop) (sym known.2)
          (verdict_of meaning s.read known.0 s.printed stop ends);
      ends = ends;
    }

-- a run that stops in a source that tells its bytes
pub ran_until : {Cause : Type 0} (meaning : Meaning Cause)
    (left_old left holds_old holds_new : Option (List ℕ)) (stop : Stop Cause)
    → Stops meaning left_old left holds_old holds_new stop → (bytes : List ℕ) → left_old ≡ Some bytes
    → RanUntil meaning bytes left holds_old holds_new stop
ran_until meaning left_old left holds_old holds_new stop s bytes is =
    ran_until_at meaning bytes left holds_old holds_new stop
    (subst (λ o. Stops meaning o left holds_old holds_new stop) is s)
