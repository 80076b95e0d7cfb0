-- What is meant by lines, line after line.
use Rattle.std.proofs.Common.{◌≡◌, ℕ, ◌+◌, ◌<◌, ◌≤◌, true, false, cond, ◌||◌, ltb, List}
use Rattle.std.proofs.Common.{[], ◌∷◌, ◌++◌, length, Option, Some, None, Result, Ok, Err}
use Rattle.std.proofs.Common.{sym, ◌∙◌, ap, refl, arith, append_assoc, append-nil}
use Rattle.std.proofs.lemmas.Bool.{lt-ltb, le-ltb}
use Rattle.std.proofs.lemmas.List.{length-append}
use Rattle.css_outside.specs.Bytes.{IsPrefix}
use Rattle.css_lines.specs.declared.reader.Refusal.{Refusal}
use Rattle.css_lines.specs.declared.reader.Refusal.TheVariants.{Long, Refused}
use Rattle.css_lines.specs.declared.ending.Stop.{Stop}
use Rattle.css_lines.specs.declared.ending.Stop.TheVariants.{BadLine, ReadFault, WriteFault, Memory}
use Rattle.css_lines.specs.Lines.{is_feed, whole_lines, last_part}
use Rattle.css_lines.specs.Meaning.{Meaning, Outcome, accepted, refused_at, followed_from}
use Rattle.css_lines.specs.Meaning.{followed_by, offset, reader_outcome, line_outcome, outcome_from}
use Rattle.css_lines.specs.Meaning.{finish_outcome, end_outcome, outcome_so_far, outcome}
use Rattle.css_lines.specs.Progress.{HasNoFeed, StopsAt, StopsAfter, StopsWith}
use Rattle.css_lines.proofs.Cut.{whole_from, last_from, whole_lines-append, last_part-append}
use Rattle.css_lines.proofs.Cut.{whole_from-free, last_from-free, whole_lines_feed, whole_lines_free}

-- what was printed before stays in front
followed_from-append : {C : Type 0} (verdict : Option (ℕ × Refusal C)) (p q : List ℕ) (next : Outcome C)
    → followed_from (p ++ q) verdict next ≡ followed_by (accepted p) (followed_from q verdict next)
followed_from-append None p q next =
    ap (λ l. record { printed = l; verdict = next.verdict }) (append_assoc p q next.printed)
followed_from-append (Some verdict) p q next = refl

-- three outcomes one after another, grouped either way
followed_from-assoc : {C : Type 0} (verdict : Option (ℕ × Refusal C)) (p : List ℕ) (b c : Outcome C)
    → followed_by (followed_from p verdict b) c ≡ followed_from p verdict (followed_by b c)
followed_from-assoc None p b c = followed_from-append b.verdict p b.printed c
followed_from-assoc (Some verdict) p b c = refl

-- three outcomes one after another, grouped either way
pub followed_by-assoc : {C : Type 0} (a b c : Outcome C)
    → followed_by (followed_by a b) c ≡ followed_by a (followed_by b c)
followed_by-assoc a b c = followed_from-assoc a.verdict a.printed b c

-- nothing follows
followed_from-nil : {C : Type 0} (verdict : Option (ℕ × Refusal C)) (p : List ℕ)
    → followed_from p verdict (accepted []) ≡ record { printed = p; verdict = verdict }
followed_from-nil None p = ap accepted (append-nil p)
followed_from-nil (Some verdict) p = refl

-- nothing follows
pub followed_by-nil : {C : Type 0} (a : Outcome C) → followed_by a (accepted []) ≡ a
followed_by-nil a = followed_from-nil a.verdict a.printed

-- a part is a part of itself
pub prefix_refl : (p : List ℕ) → IsPrefix p p
prefix_refl p = ([], sym (append-nil p))

-- a part of a part
pub prefix_trans : (p q r : List ℕ) → IsPrefix p q → IsPrefix q r → IsPrefix p r
prefix_trans p q r h k = (h.0 ++ k.0, k.1 ∙ ap (λ l. l ++ k.0) h.1 ∙ append_assoc p h.0 k.0)

-- a part, after the same output
prefix_more : (p front whole : List ℕ) → IsPrefix front whole → IsPrefix (p ++ front) (p ++ whole)
prefix_more p front whole h = (h.0, ap (λ l. p ++ l) h.1 ∙ sym (append_assoc p front h.0))

-- a part is one of a longer output too
prefix_within : (front whole more : List ℕ) → IsPrefix front whole → IsPrefix front (whole ++ more)
prefix_within front whole more h = (h.0 ++ more, ap (λ l. l ++ more) h.1 ∙ append_assoc front h.0 more)

-- what was printed stays, whatever follows
prefix_followed : {C : Type 0} (verdict : Option (ℕ × Refusal C)) (p : List ℕ) (next : Outcome C)
    → IsPrefix p (followed_from p verdict next).printed
prefix_followed None p next = (next.printed, refl)
prefix_followed (Some verdict) p next = prefix_refl p

-- lines after lines
pub outcome_from-append : {C : Type 0} (meaning : Meaning C) (before lines more : List (List ℕ))
    → outcome_from meaning before (lines ++ more) ≡ followed_by (outcome_from meaning before lines)
    (outcome_from meaning (before ++ lines) more)
outcome_from-append meaning before [] more = ap (λ b. outcome_from meaning b more) (sym (append-nil before))
outcome_from-append meaning before (line ∷ lines) more =
    let first = line_outcome meaning before line (offset before + length line + 1) in
    let rest = outcome_from meaning (before ++ line ∷ []) lines in
    ap (followed_by first) (outcome_from-append meaning (before ++ line ∷ []) lines more
    ∙ ap (λ b. followed_by rest (outcome_from meaning b more)) (append_assoc before (line ∷ []) lines))
    ∙ sym (followed_by-assoc first rest (outcome_from meaning (before ++ line ∷ lines) more))

-- what becomes of the bytes that come after these lines and this part of a line
abbrev pub outcome_after : {C : Type 0} → Meaning C → List (List ℕ) → List ℕ → List ℕ → Outcome C
outcome_after meaning before part bytes = followed_by (outcome_from meaning before (whole_from part bytes))
    (end_outcome meaning (before ++ whole_from part bytes) (last_from part bytes))

-- an input is what was read, and what becomes of the rest
pub outcome-append : {C : Type 0} (meaning : Meaning C) (read rest : List ℕ) → outcome meaning (read ++ rest)
    ≡ followed_by (outcome_so_far meaning read) (outcome_after meaning (whole_lines read) (last_part read) rest)
unfolding outcome outcome_so_far
outcome-append meaning read rest =
    let whole = whole_lines read in
    let more = whole_from (last_part read) rest in
    let last = last_from (last_part read) rest in
    ap (λ l. followed_by (outcome_from meaning [] l) (end_outcome meaning l (last_part (read ++ rest))))
    (whole_lines-append read rest)
    ∙ ap (λ l. followed_by (outcome_from meaning [] (whole ++ more)) (end_outcome meaning (whole ++ more) l))
    (last_part-append read rest)
    ∙ ap (λ o. followed_by o (end_outcome meaning (whole ++ more) last)) (outcome_from-append meaning [] whole more)
    ∙ followed_by-assoc (outcome_from meaning [] whole) (outcome_from meaning whole more)
    (end_outcome meaning (whole ++ more) last)

-- the whole lines, and the end
pub outcome_at_end : {C : Type 0} (meaning : Meaning C) (read : List ℕ) → outcome meaning read
    ≡ followed_by (outcome_so_far meaning read) (end_outcome meaning (whole_lines read) (last_part read))
unfolding outcome outcome_so_far
outcome_at_end meaning read = refl

-- more bytes give more outcomes
so_far-append : {C : Type 0} (meaning : Meaning C) (read rest : List ℕ)
    → outcome_so_far meaning (read ++ rest) ≡ followed_by (outcome_so_far meaning read)
    (outcome_from meaning (whole_lines read) (whole_from (last_part read) rest))
unfolding outcome_so_far
so_far-append meaning read rest = ap (outcome_from meaning []) (whole_lines-append read rest)
    ∙ outcome_from-append meaning [] (whole_lines read) (whole_from (last_part read) rest)

-- output stays, whatever is read
pub so_far_grows : {C : Type 0} (meaning : Meaning C) (read rest : List ℕ)
    → IsPrefix (outcome_so_far meaning read).printed (outcome_so_far meaning (read ++ rest)).printed
so_far_grows meaning read rest =
    let first = outcome_so_far meaning read in
    let grown = prefix_followed first.verdict first.printed
    (outcome_from meaning (whole_lines read) (whole_from (last_part read) rest)) in
    (grown.0, ap (λ o. o.printed) (so_far-append meaning read rest) ∙ grown.1)

-- bytes without a line feed change nothing
pub so_far_free : {C : Type 0} (meaning : Meaning C) (read bytes : List ℕ) → HasNoFeed bytes
    → outcome_so_far meaning (read ++ bytes) ≡ outcome_so_far meaning read
unfolding outcome_so_far
so_far_free meaning read bytes free = ap (outcome_from meaning []) (whole_lines_free read bytes free)

-- bytes without a line feed go on with the line
pub outcome_after-free : {C : Type 0} (meaning : Meaning C) (before : List (List ℕ)) (part bytes rest : List ℕ)
    → HasNoFeed bytes
    → outcome_after meaning before part (bytes ++ rest) ≡ outcome_after meaning before (part ++ bytes) rest
outcome_after-free meaning before part bytes rest free =
    ap (λ l. followed_by (outcome_from meaning before l)
    (end_outcome meaning (before ++ l) (last_from part (bytes ++ rest)))) (whole_from-free part bytes rest free)
    ∙ ap (λ l. followed_by (outcome_from meaning before (whole_from (part ++ bytes) rest))
    (end_outcome meaning (before ++ whole_from (part ++ bytes) rest) l)) (last_from-free part bytes rest free)

-- a line feed adds what becomes of its line
pub so_far_feed : {C : Type 0} (meaning : Meaning C) (read : List ℕ) (b : ℕ) → is_feed b ≡ true
    → outcome_so_far meaning (read ++ b ∷ []) ≡ followed_by (outcome_so_far meaning read) (line_outcome meaning
    (whole_lines read) (last_part read) (offset (whole_lines read) + length (last_part read) + 1))
unfolding outcome_so_far
so_far_feed meaning read b fed =
    let whole = whole_lines read in
    let line = line_outcome meaning whole (last_part read) (offset whole + length (last_part read) + 1) in
    ap (outcome_from meaning []) (whole_lines_feed read b fed)
    ∙ outcome_from-append meaning [] whole (last_part read ∷ [])
    ∙ ap (followed_by (outcome_from meaning [] whole)) (followed_by-nil line)

-- the last line has a byte
pub end_outcome_some : {C : Type 0} (meaning : Meaning C) (before : List (List ℕ)) (part : List ℕ) → 0 < length part
    → end_outcome meaning before part ≡ followed_by (line_outcome meaning before part (offset before + length part))
    (finish_outcome meaning (before ++ part ∷ []))
end_outcome_some meaning before [] some = absurd (omega arith)
end_outcome_some meaning before (b ∷ bs) some = refl

-- the line that is being read decides what becomes of the bytes: it is at least as long as what was read of it
pub record NextLine {C : Type 0} (meaning : Meaning C) (before : List (List ℕ)) (whole : Outcome C)
    (least reach : ℕ) : Type 0 where
  pub line : List ℕ
  pub end : ℕ
  pub tail : Outcome C
  pub is : whole ≡ followed_by (line_outcome meaning before line end) tail
  pub long : least ≤ length line
  pub far : offset before + reach ≤ end

-- a line feed ends the line
pub fed_line_at : {C : Type 0} (meaning : Meaning C) (before : List (List ℕ)) (part bytes : List ℕ) →
    followed_by (outcome_from meaning before (part ∷ whole_from [] bytes))
    (end_outcome meaning (before ++ part ∷ whole_from [] bytes) (last_from [] bytes))
    ≡ followed_by (line_outcome meaning before part (offset before + length part + 1))
    (followed_by (outcome_from meaning (before ++ part ∷ []) (whole_from [] bytes))
    (end_outcome meaning (before ++ part ∷ whole_from [] bytes) (last_from [] bytes)))
fed_line_at meaning before part bytes =
    followed_by-assoc (line_outcome meaning before part (offset before + length part + 1))
    (outcome_from meaning (before ++ part ∷ []) (whole_from [] bytes))
    (end_outcome meaning (before ++ part ∷ whole_from [] bytes) (last_from [] bytes))

-- the line that a line feed ends
fed_next : {C : Type 0} (meaning : Meaning C) (before : List (List ℕ)) (part bytes : List ℕ) →
    NextLine meaning before (followed_by (outcome_from meaning before (part ∷ whole_from [] bytes)) (end_outcome meaning
    (before ++ part ∷ whole_from [] bytes) (last_from [] bytes))) (length part) (length part + 1)
fed_next meaning before part bytes = record {
  line = part;
  end = offset before + length part + 1;
  tail = followed_by (outcome_from meaning (before ++ part ∷ []) (whole_from [] bytes))
      (end_outcome meaning (before ++ part ∷ whole_from [] bytes) (last_from [] bytes));
  is = fed_line_at meaning before part bytes;
  long = omega arith;
  far = omega arith;
}

-- the same line, where less is known of it
nearer : {C : Type 0} (meaning : Meaning C) (before : List (List ℕ)) (whole : Outcome C) (least reach least' reach' : ℕ)
    → least' ≤ least → reach' ≤ reach → NextLine meaning before whole least reach
    → NextLine meaning before whole least' reach'
nearer meaning before whole least reach least' reach' shorter sooner next = record {
  line = next.line;
  end = next.end;
  tail = next.tail;
  is = next.is;
  long = omega (arith, next.long);
  far = omega (arith, next.far);
}

-- the line that has begun goes on with these bytes
pub some_next : {C : Type 0} (meaning : Meaning C) (before : List (List ℕ)) (part bytes : List ℕ) → 0 < length part
    → NextLine meaning before (outcome_after meaning before part bytes) (length part) (length part)
some_next meaning before [] [] some = absurd (omega arith)
some_next meaning before (p ∷ ps) [] some = record {
  line = p ∷ ps;
  end = offset before + length (p ∷ ps);
  tail = finish_outcome meaning (before ++ (p ∷ ps) ∷ []);
  is = ap (λ b. end_outcome meaning b (p ∷ ps)) (append-nil before);
  long = omega arith;
  far = omega arith;
}
some_next meaning before part (b ∷ bytes) some =
    let longer : 0 < length (part ++ b ∷ []) = omega (arith, length-append part (b ∷ [])) in
    let fed = nearer meaning before _ _ _ (length part) (length part) (omega arith) (omega arith)
    (fed_next meaning before part bytes) in
    let other = nearer meaning before _ _ _ (length part) (length part) (omega (arith, length-append part (b ∷ [])))
    (omega (arith, length-append part (b ∷ []))) (some_next meaning before (part ++ b ∷ []) bytes longer) in
    elim (is_feed b) as (λ v.
    let lines = cond v (part ∷ whole_from [] bytes) (whole_from (part ++ b ∷ []) bytes) in
    let last = cond v (last_from [] bytes) (last_from (part ++ b ∷ []) bytes) in
    NextLine meaning before (followed_by (outcome_from meaning before lines)
    (end_outcome meaning (before ++ lines) last)) (length part) (length part))
    [ true ↦ fed | false ↦ other ]

-- the line, where a line feed follows
pub fed_line : {C : Type 0} (meaning : Meaning C) (before : List (List ℕ)) (part : List ℕ) (b : ℕ) (bytes : List ℕ)
    → is_feed b ≡ true
    → (tail : Outcome C) × (outcome_after meaning before part (b ∷ bytes)
    ≡ followed_by (line_outcome meaning before part (offset before + length part + 1)) tail)
fed_line meaning before part b bytes fed = (
  followed_by (outcome_from meaning (before ++ part ∷ []) (whole_from [] bytes))
      (end_outcome meaning (before ++ part ∷ whole_from [] bytes) (last_from [] bytes)),
  ap (λ v.
      let lines = cond v (part ∷ whole_from [] bytes) (whole_from (part ++ b ∷ []) bytes) in
      let last = cond v (last_from [] bytes) (last_from (part ++ b ∷ []) bytes) in
      followed_by (outcome_from meaning before lines) (end_outcome meaning (before ++ lines) last)) fed
      ∙ fed_line_at meaning before part bytes,
)

-- too many bytes in all
pub long_input : {C : Type 0} (meaning : Meaning C) (before : List (List ℕ)) (line : List ℕ) (end : ℕ)
    → meaning.longest_input before < end → line_outcome meaning before line end ≡ refused_at [] (length before + 1) Long
long_input meaning before line end past =
    let number = length before + 1 in
    ap (λ b. cond (ltb (meaning.longest_line before) (length line) || b) (refused_at [] number Long)
    (reader_outcome number (meaning.line before line))) (lt-ltb (meaning.longest_input before) end past)
    ∙ elim (ltb (meaning.longest_line before) (length line)) as (λ v. cond (v || true) (refused_at [] number Long)
    (reader_outcome number (meaning.line before line)) ≡ refused_at [] number Long) [ true ↦ refl | false ↦ refl ]

-- too many bytes for a line
pub long_line : {C : Type 0} (meaning : Meaning C) (before : List (List ℕ)) (line : List ℕ) (end : ℕ)
    → meaning.longest_line before < length line
    → line_outcome meaning before line end ≡ refused_at [] (length before + 1) Long
long_line meaning before line end past =
    let number = length before + 1 in
    ap (λ b. cond (b || ltb (meaning.longest_input before) end) (refused_at [] number Long)
    (reader_outcome number (meaning.line before line))) (lt-ltb (meaning.longest_line before) (length line) past)

-- a line that is not too long is up to its reader
pub fits_line : {C : Type 0} (meaning : Meaning C) (before : List (List ℕ)) (line : List ℕ) (end : ℕ)
    → length line ≤ meaning.longest_line before → end ≤ meaning.longest_input before
    → line_outcome meaning before line end ≡ reader_outcome (length before + 1) (meaning.line before line)
fits_line meaning before line end short within =
    let number = length before + 1 in
    ap (λ b. cond (b || ltb (meaning.longest_input before) end) (refused_at [] number Long)
    (reader_outcome number (meaning.line before line))) (le-ltb (meaning.longest_line before) (length line) short)
    ∙ ap (λ b. cond b (refused_at [] number Long) (reader_outcome number (meaning.line before line)))
    (le-ltb (meaning.longest_input before) end within)

-- of a source that ended
pub stops_with : {C : Type 0} (meant : Result (List ℕ) C) (number : ℕ) (tail : Outcome C)
    (printed front : List ℕ) (stop : Stop C)
    → StopsAt meant number front stop → StopsWith (followed_by (accepted printed)
    (followed_by (reader_outcome number meant) tail)) (printed ++ front) stop
stops_with meant number tail printed front (BadLine line (Refused cause)) stops =
    ap (λ r. followed_by (accepted printed) (followed_by (reader_outcome number r) tail)) stops.0
    ∙ ap (λ n. refused_at (printed ++ []) n (Refused cause)) (sym stops.1)
    ∙ ap (λ l. refused_at (printed ++ l) line (Refused cause)) (sym stops.2)
stops_with meant number tail printed front (BadLine line Long) stops = absurd stops
stops_with (Ok p) number tail printed front WriteFault stops =
    prefix_more printed front (p ++ tail.printed) (prefix_within front p tail.printed stops)
stops_with (Err cause) number tail printed front WriteFault stops = prefix_more printed front [] stops
stops_with (Ok p) number tail printed front Memory stops =
    prefix_more printed front (p ++ tail.printed) (prefix_within front p tail.printed stops)
stops_with (Err cause) number tail printed front Memory stops = prefix_more printed front [] stops
stops_with meant number tail printed front ReadFault stops = absurd stops

-- of a source that may go on
pub stops_after : {C : Type 0} (meaning : Meaning C) (read : List ℕ) (meant : Result (List ℕ) C) (number : ℕ)
    (printed front : List ℕ) (stop : Stop C)
    → outcome_so_far meaning read
    ≡ followed_by (accepted printed) (followed_by (reader_outcome number meant) (accepted []))
    → ((rest : List ℕ) → (tail : Outcome C) × (outcome meaning (read ++ rest)
    ≡ followed_by (accepted printed) (followed_by (reader_outcome number meant) tail)))
    → StopsAt meant number front stop → StopsAfter meaning read (printed ++ front) stop
stops_after meaning read meant number printed front (BadLine line why) so_far whole stops =
    λ rest. (whole rest).1 ∙ stops_with meant number (whole rest).0 printed front (BadLine line why) stops
stops_after meaning read meant number printed front WriteFault so_far whole stops =
    let part = stops_with meant number (accepted []) printed front WriteFault stops in
    (part.0, ap (λ o. o.printed) so_far ∙ part.1)
stops_after meaning read meant number printed front Memory so_far whole stops =
    let part = stops_with meant number (accepted []) printed front Memory stops in
    (part.0, ap (λ o. o.printed) so_far ∙ part.1)
stops_after meaning read meant number printed front ReadFault so_far whole stops = absurd stops
