-- What holds of the lines that were taken, one after another, holds of what a run over lines printed.
use Rattle.std.proofs.Common.{◌≡◌, ℕ, ◌+◌, inl, inr, ap, sym, subst, ◌∙◌, refl, Bool, true, false, cond}
use Rattle.std.proofs.Common.{List, [], ◌∷◌, ◌++◌, length}
use Rattle.std.specs.Prelude.{Option, Some, None, Result, Ok, Err}
use Rattle.std.proofs.lemmas.List.{append_assoc, append-nil}
use Rattle.css_outside.specs.Bytes.{IsPrefix}
use Rattle.css_lines.specs.Lines.{whole_lines, last_part, unless_empty, lines_of}
use Rattle.css_lines.specs.Meaning.{Meaning, Outcome, followed_by, followed_from, accepted, refused_at, reader_outcome}
use Rattle.css_lines.specs.Meaning.{line_outcome, is_long, offset, outcome_from, end_outcome, finish_outcome}
use Rattle.css_lines.specs.Meaning.{outcome, outcome_so_far}
use Rattle.css_lines.specs.Ending.{MayStop, IsRefused, IsCutOff}
use Rattle.css_lines.specs.declared.reader.Refusal.{Refusal}
use Rattle.css_lines.specs.declared.reader.Refusal.TheVariants.{Long, Refused}
use Rattle.css_lines.specs.declared.ending.Stop.{Stop}
use Rattle.css_lines.specs.declared.ending.Stop.TheVariants.{BadLine, ReadFault, WriteFault, Memory}

-- what is there is not missing
not-none : {A : Type 0} {P : Type 0} (x : A) → Some x ≡ None → P
not-none x e = absurd (cc)

-- ---- from line to line
-- `Taken texts printed` says that these lines were taken, and that this was printed for them. It goes on from each line
-- that is accepted to the next, and nothing is printed at the end of the input.
module _ {Cause : Type 0} (meaning : Meaning Cause) (Taken : List (List ℕ) → List ℕ → Type 0)
    (one_more : (before : List (List ℕ)) (text so_far printed : List ℕ) → Taken before so_far
    → meaning.line before text ≡ Ok printed → Taken (before ++ text ∷ []) (so_far ++ printed))
    (silent : (before : List (List ℕ)) → (verdict : Option (ℕ × Refusal Cause))
    × (finish_outcome meaning before ≡ record { printed = []; verdict = verdict })) where
  -- Some of the texts were taken after those before, and what is printed for them was added; all of them, where none is
  -- refused.
  record Goes (before texts : List (List ℕ)) (so_far : List ℕ) (outcome : Outcome Cause) : Type 0 where
    more : List (List ℕ)
    rest : List (List ℕ)
    parts : texts ≡ more ++ rest
    all : outcome.verdict ≡ None → rest ≡ []
    taken : Taken (before ++ more) (so_far ++ outcome.printed)

  -- nothing was taken
  stays : (before texts : List (List ℕ)) (so_far : List ℕ) (verdict : Option (ℕ × Refusal Cause)) → Taken before so_far
      → (verdict ≡ None → texts ≡ []) → Goes before texts so_far (record { printed = []; verdict = verdict })
  stays before texts so_far verdict taken all = record {
    more = [];
    rest = texts;
    parts = refl;
    all = all;
    taken = subst (λ (b : List (List ℕ)). Taken b (so_far ++ [])) (sym (append-nil before))
        (subst (λ (p : List ℕ). Taken before p) (sym (append-nil so_far)) taken);
  }

  -- what a line's outcome adds
  line_goes : (before : List (List ℕ)) (text : List ℕ) (texts : List (List ℕ)) (so_far : List ℕ) (end : ℕ)
      (next : Outcome Cause) → Taken before so_far
      → ((printed : List ℕ) → Taken (before ++ text ∷ []) (so_far ++ printed)
      → Goes (before ++ text ∷ []) texts (so_far ++ printed) next)
      → Goes before (text ∷ texts) so_far (followed_by (line_outcome meaning before text end) next)
  line_goes before text texts so_far end next taken go =
      by (is_long meaning before text end) (meaning.line before text) refl
    where
      number : ℕ
      number = length before + 1

      by : (long : Bool) (meant : Result (List ℕ) Cause) → meaning.line before text ≡ meant
          → Goes before (text ∷ texts) so_far
          (followed_by (cond long (refused_at [] number Long) (reader_outcome number meant)) next)
      by true meant is = stays before (text ∷ texts) so_far (Some (number, Long)) taken (not-none (number, Long))
      by false (Err cause) is =
          stays before (text ∷ texts) so_far (Some (number, Refused cause)) taken (not-none (number, Refused cause))
      by false (Ok printed) is =
          let gone = go printed (one_more before text so_far printed taken is) in
          record {
            more = text ∷ gone.more;
            rest = gone.rest;
            parts = ap (λ ts. text ∷ ts) gone.parts;
            all = gone.all;
            taken = subst (λ (b : List (List ℕ)). Taken b (so_far ++ (printed ++ next.printed)))
                (append_assoc before (text ∷ []) gone.more)
                (subst (λ (p : List ℕ). Taken ((before ++ text ∷ []) ++ gone.more) p)
                (append_assoc so_far printed next.printed) gone.taken);
          }

  -- what the outcome of lines adds
  lines_go : (before texts : List (List ℕ)) (so_far : List ℕ) → Taken before so_far
      → Goes before texts so_far (outcome_from meaning before texts)
  lines_go before [] so_far taken = stays before [] so_far None taken (λ none. refl)
  lines_go before (text ∷ texts) so_far taken =
      line_goes before text texts so_far (offset before + length text + 1)
      (outcome_from meaning (before ++ text ∷ []) texts) taken
      (λ printed taken_so. lines_go (before ++ text ∷ []) texts (so_far ++ printed) taken_so)

  -- the last line, and the end
  end_goes : (before : List (List ℕ)) (last so_far : List ℕ) → Taken before so_far
      → Goes before (unless_empty last) so_far (end_outcome meaning before last)
  end_goes before [] so_far taken =
      let ends = silent before in
      subst (λ (o : Outcome Cause). Goes before [] so_far o) (sym ends.1)
      (stays before [] so_far ends.0 taken (λ none. refl))
  end_goes before (byte ∷ bytes) so_far taken =
      let last = before ++ (byte ∷ bytes) ∷ [] in
      let ends = silent last in
      line_goes before (byte ∷ bytes) [] so_far (offset before + length (byte ∷ bytes)) (finish_outcome meaning last)
      taken
      (λ printed taken_so. subst (λ (o : Outcome Cause). Goes last [] (so_far ++ printed) o) (sym ends.1)
      (stays last [] (so_far ++ printed) ends.0 taken_so (λ none. refl)))

  -- the first lines of the bytes were taken, and this was printed for them
  pub record TakenOf (bytes printed : List ℕ) : Type 0 where
    pub texts : List (List ℕ)
    pub rest : List (List ℕ)
    pub parts : lines_of bytes ≡ texts ++ rest
    pub taken : Taken texts printed

  -- so were those whose line feeds were read
  pub taken_so_far : Taken [] [] → (bytes : List ℕ) → TakenOf bytes (outcome_so_far meaning bytes).printed
  unfolding outcome_so_far
  taken_so_far none bytes =
      let went = lines_go [] (whole_lines bytes) [] none in
      let last = unless_empty (last_part bytes) in
      record {
        texts = went.more;
        rest = went.rest ++ last;
        parts = ap (λ ts. ts ++ last) went.parts ∙ append_assoc went.more went.rest last;
        taken = went.taken;
      }

  -- and those of the whole input
  pub taken_in_all : Taken [] [] → (bytes : List ℕ) → TakenOf bytes (outcome meaning bytes).printed
  unfolding outcome
  taken_in_all none bytes = by (outcome_from meaning [] whole) (lines_go [] whole [] none)
    where
      whole : List (List ℕ)
      whole = whole_lines bytes

      last : List ℕ
      last = last_part bytes

      by : (o : Outcome Cause) → Goes [] whole [] o
          → TakenOf bytes (followed_from o.printed o.verdict (end_outcome meaning whole last)).printed
      by o went = of o.verdict went.all
        where
          parts : lines_of bytes ≡ went.more ++ (went.rest ++ unless_empty last)
          parts = ap (λ ts. ts ++ unless_empty last) went.parts ∙ append_assoc went.more went.rest (unless_empty last)

          of : (v : Option (ℕ × Refusal Cause)) → (v ≡ None → went.rest ≡ [])
              → TakenOf bytes (followed_from o.printed v (end_outcome meaning whole last)).printed
          of (Some v) all = record {
            texts = went.more;
            rest = went.rest ++ unless_empty last;
            parts = parts;
            taken = went.taken;
          }
          of None all =
              let none_left : whole ≡ went.more =
              went.parts ∙ ap (λ r. went.more ++ r) (all refl) ∙ append-nil went.more in
              let taken : Taken whole o.printed =
              subst (λ (ts : List (List ℕ)). Taken ts o.printed) (sym none_left) went.taken in
              let ended = end_goes whole last o.printed taken in
              record {
                texts = whole ++ ended.more;
                rest = ended.rest;
                parts = ap (λ ts. whole ++ ts) ended.parts ∙ sym (append_assoc whole ended.more ended.rest);
                taken = ended.taken;
              }

-- ---- however a run ends
-- `Keeps bytes printed` holds of what is printed for the lines whose line feeds were read, of what is printed for the
-- whole input, and of each front part of what it holds of.
module _ {Cause : Type 0} (meaning : Meaning Cause) (Keeps : List ℕ → List ℕ → Type 0)
    (so_far : (bytes : List ℕ) → Keeps bytes (outcome_so_far meaning bytes).printed)
    (in_all : (bytes : List ℕ) → Keeps bytes (outcome meaning bytes).printed)
    (front : (bytes part whole : List ℕ) → IsPrefix part whole → Keeps bytes whole → Keeps bytes part) where
  -- an outcome of the whole input keeps it
  whole_keeps : (read printed : List ℕ) (o : Outcome Cause) → outcome meaning read ≡ o → o.printed ≡ printed
      → Keeps read printed
  whole_keeps read printed o e p =
      subst (λ (x : List ℕ). Keeps read x) (ap (λ (y : Outcome Cause). y.printed) e ∙ p) (in_all read)

  -- so does a run that read all
  pub keeps_done : (read printed : List ℕ) → outcome meaning read ≡ accepted printed → Keeps read printed
  keeps_done read printed e = whole_keeps read printed (accepted printed) e refl

  refused_keeps : (read printed : List ℕ) (left : Option (List ℕ)) (line : ℕ) (why : Refusal Cause)
      → IsRefused meaning read left printed line why → Keeps read printed
  refused_keeps read printed left line why (inl each) =
      whole_keeps read printed (refused_at printed line why)
      (ap (λ (bytes : List ℕ). outcome meaning bytes) (sym (append-nil read)) ∙ each []) refl
  refused_keeps read printed left line why (inr ended) =
      whole_keeps read printed (refused_at printed line why) ended.1 refl

  cut_keeps : (read printed : List ℕ) (left : Option (List ℕ)) → IsCutOff meaning read left printed → Keeps read printed
  cut_keeps read printed left (inl part) =
      front read printed (outcome_so_far meaning read).printed part (so_far read)
  cut_keeps read printed left (inr ended) = front read printed (outcome meaning read).printed ended.1 (in_all read)

  -- and one that stops for any cause
  pub keeps_stop : (read printed : List ℕ) (left : Option (List ℕ)) (stop : Stop Cause)
      → MayStop meaning read left printed stop → Keeps read printed
  keeps_stop read printed left (BadLine line why) may = refused_keeps read printed left line why may.0
  keeps_stop read printed left ReadFault may = subst (λ (x : List ℕ). Keeps read x) (sym may.1) (so_far read)
  keeps_stop read printed left WriteFault may = cut_keeps read printed left may.0
  keeps_stop read printed left Memory may = cut_keeps read printed left may.0
