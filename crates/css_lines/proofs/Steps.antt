-- What a stretch of bytes, a line feed, and the end of the source do to a run that has come so far.
use Rattle.std.proofs.Common.{◌≡◌, ℕ, zero, suc, ◌+◌, ◌-◌, ◌<◌, ◌≤◌, true, List, [], ◌∷◌, ◌++◌, length, Option}
use Rattle.std.proofs.Common.{Result, Ok, Err, sym, ◌∙◌, ap, subst, refl, arith, append_assoc, append-nil}
use Rattle.std.specs.Prelude.{MatchResult}
use Rattle.std.proofs.lemmas.List.{length-append}
use Rattle.css_outside.specs.Bytes.{IsPrefix}
use Rattle.css_outside.proofs.Known.{appends_none, appends_more}
use Rattle.css_lines.specs.declared.reader.Refusal.TheVariants.{Long}
use Rattle.css_lines.specs.declared.ending.Stop.{Stop}
use Rattle.css_lines.specs.declared.ending.Stop.TheVariants.{BadLine, ReadFault, WriteFault, Memory}
use Rattle.css_lines.specs.declared.pending.Pending.{Pending}
use Rattle.css_lines.specs.Lines.{is_feed, unless_empty, lines_of, whole_lines, last_part}
use Rattle.css_lines.specs.Meaning.{Meaning, Outcome, accepted, refused_at, followed_by, offset, reader_outcome}
use Rattle.css_lines.specs.Meaning.{line_outcome, finish_outcome, end_outcome, outcome_so_far, outcome, IsSound}
use Rattle.css_lines.specs.Progress.{HasNoFeed, Progress, AllTaken, TakesLine, StopsAfter}
use Rattle.css_lines.specs.Progress.{StopsWith, Stopped, StoppedAtEnd, Finished}
use Rattle.css_lines.proofs.Cut.{length_read, whole_lines_feed, whole_lines_free}
use Rattle.css_lines.proofs.Cut.{last_part_feed, last_part_free, unless_empty_some}
use Rattle.css_lines.proofs.Meant.{followed_by-assoc, followed_by-nil, prefix_trans, outcome_after}
use Rattle.css_lines.proofs.Meant.{outcome-append, outcome_at_end, so_far_grows, so_far_free, so_far_feed}
use Rattle.css_lines.proofs.Meant.{outcome_after-free, end_outcome_some, NextLine, some_next, fed_line}
use Rattle.css_lines.proofs.Meant.{long_input, long_line, fits_line, stops_with, stops_after}

-- nothing was read
pub begins : {L Cause : Type 0} (meaning : Meaning Cause) (stands : L → List (List ℕ) → Type 0)
    (start : Option (List ℕ)) (lines : L) (pending : Pending)
    → stands lines [] → pending.text.items ≡ [] → pending.taken ≡ 0 → pending.count ≡ 0
    → Progress meaning stands start [] lines pending start
unfolding whole_lines last_part outcome_so_far
begins meaning stands start lines pending stood text taken count = record {
  stood = stood;
  text = text;
  short = omega arith;
  within = λ some. absurd (omega arith);
  taken = taken;
  count = count;
  printed = [];
  grew = appends_none start;
  so_far = refl;
}

-- bytes within a limit and some more that fit below it, where a part with a byte makes sure of the former
within_more : (part more count most : ℕ) → (0 < part → count ≤ most) → more ≤ most - count
    → 0 < part + more → count + more ≤ most
within_more zero more count most within fits some = omega arith
within_more (suc part) more count most within fits some = omega (arith, within (omega arith))

module _ {L Cause : Type 0} (meaning : Meaning Cause) (stands : L → List (List ℕ) → Type 0) (start : Option (List ℕ))
    (read : List ℕ) (lines : L) (pending : Pending) (holds : Option (List ℕ))
    (p : Progress meaning stands start read lines pending holds) where
  -- no line is refused as yet
  pub sound : IsSound meaning read
  sound = record { accepted = ap (λ o. o.verdict) p.so_far; short = p.short; within = p.within }

  -- what was printed stays
  pub kept : (front : List ℕ) → IsPrefix (outcome_so_far meaning read).printed (p.printed ++ front)
  kept front = (front, ap (λ o. o.printed ++ front) (sym p.so_far))

  -- what becomes of the bytes is up to what follows
  pub whole : (rest : List ℕ) → outcome meaning (read ++ rest) ≡ followed_by (accepted p.printed)
      (outcome_after meaning (whole_lines read) (last_part read) rest)
  whole rest = outcome-append meaning read rest
      ∙ ap (λ o. followed_by o (outcome_after meaning (whole_lines read) (last_part read) rest)) p.so_far

  -- a line feed and what follows it
  pub whole_byte : (b : ℕ) (rest : List ℕ) → outcome meaning ((read ++ b ∷ []) ++ rest)
      ≡ followed_by (accepted p.printed) (outcome_after meaning (whole_lines read) (last_part read) (b ∷ rest))
  whole_byte b rest = ap (outcome meaning) (append_assoc read (b ∷ []) rest) ∙ whole (b ∷ rest)

  -- bytes without a line feed and what follows them
  whole_stretch : (bytes rest : List ℕ) → HasNoFeed bytes
      → outcome meaning ((read ++ bytes) ++ rest)
      ≡ followed_by (accepted p.printed) (outcome_after meaning (whole_lines read) (last_part read ++ bytes) rest)
  whole_stretch bytes rest free =
      ap (outcome meaning) (append_assoc read bytes rest) ∙ whole (bytes ++ rest)
      ∙ ap (followed_by (accepted p.printed))
      (outcome_after-free meaning (whole_lines read) (last_part read) bytes rest free)

  -- the line that is being read is refused as too long, whatever follows
  stops_long : (whole : Outcome Cause) (line : List ℕ) (end : ℕ) (tail : Outcome Cause)
      → whole ≡ followed_by (accepted p.printed) (followed_by (line_outcome meaning (whole_lines read) line end) tail)
      → line_outcome meaning (whole_lines read) line end ≡ refused_at [] (length (whole_lines read) + 1) Long
      → whole ≡ refused_at p.printed (pending.taken + 1) Long
  stops_long whole line end tail is long =
      is ∙ ap (λ o. followed_by (accepted p.printed) (followed_by o tail)) long
      ∙ ap (λ l. refused_at l (length (whole_lines read) + 1) Long) (append-nil p.printed)
      ∙ ap (λ n. refused_at p.printed (n + 1) Long) (sym p.taken)

  -- a line feed too many in all
  pub stop_feed : (b : ℕ) → is_feed b ≡ true → meaning.longest_input (whole_lines read) ≤ pending.count
      → Stopped meaning start read (read ++ b ∷ []) holds (BadLine (pending.taken + 1) Long)
  stop_feed b fed past = record {
    printed = p.printed;
    grew = p.grew;
    kept = rw (append-nil p.printed) at (kept []);
    ends = λ rest.
        let line = fed_line meaning (whole_lines read) (last_part read) b rest fed in
        let end = offset (whole_lines read) + length (last_part read) + 1 in
        let over : meaning.longest_input (whole_lines read) < end = omega (arith, length_read read, p.count) in
        stops_long _ (last_part read) end line.0 (whole_byte b rest ∙ ap (followed_by (accepted p.printed)) line.1)
        (long_input meaning (whole_lines read) (last_part read) end over);
  }

  -- the line that these bytes go on with, whatever follows
  longer : (bytes rest : List ℕ) → 0 < length bytes
      → NextLine meaning (whole_lines read) (outcome_after meaning (whole_lines read) (last_part read ++ bytes) rest)
      (length (last_part read ++ bytes)) (length (last_part read ++ bytes))
  longer bytes rest some = some_next meaning (whole_lines read) (last_part read ++ bytes) rest
      (omega (arith, length-append (last_part read) bytes))

  -- too many bytes in all
  pub stop_input : (bytes : List ℕ) → HasNoFeed bytes
      → meaning.longest_input (whole_lines read) - pending.count < length bytes
      → Stopped meaning start read (read ++ bytes) holds (BadLine (pending.taken + 1) Long)
  stop_input bytes free past = record {
    printed = p.printed;
    grew = p.grew;
    kept = rw (append-nil p.printed) at (kept []);
    ends = λ rest.
        let next = longer bytes rest (omega arith) in
        let over : meaning.longest_input (whole_lines read) < next.end =
        omega (arith, length_read read, next.far, p.count, length-append (last_part read) bytes) in
        stops_long _ next.line next.end next.tail (whole_stretch bytes rest free ∙ ap (followed_by (accepted p.printed))
        next.is) (long_input meaning (whole_lines read) next.line next.end over);
  }

  -- too many bytes for a line
  pub stop_line : (bytes : List ℕ) → HasNoFeed bytes
      → meaning.longest_line (whole_lines read) - length (last_part read) < length bytes
      → Stopped meaning start read (read ++ bytes) holds (BadLine (pending.taken + 1) Long)
  stop_line bytes free past = record {
    printed = p.printed;
    grew = p.grew;
    kept = rw (append-nil p.printed) at (kept []);
    ends = λ rest.
        let next = longer bytes rest (omega arith) in
        let over : meaning.longest_line (whole_lines read) < length next.line =
        omega (arith, next.long, length-append (last_part read) bytes) in
        stops_long _ next.line next.end next.tail (whole_stretch bytes rest free ∙ ap (followed_by (accepted p.printed))
        next.is) (long_line meaning (whole_lines read) next.line next.end over);
  }

  -- no memory for the bytes
  pub stop_memory : (bytes : List ℕ) → Stopped meaning start read (read ++ bytes) holds Memory
  stop_memory bytes = record {
    printed = p.printed;
    grew = p.grew;
    kept = rw (append-nil p.printed) at (kept []);
    ends = let grown = so_far_grows meaning read bytes in (grown.0, grown.1 ∙ ap (λ o. o.printed ++ grown.0) p.so_far);
  }

  -- bytes of the line
  pub goes_on : (pending' : Pending) (bytes : List ℕ) → HasNoFeed bytes
      → length bytes ≤ meaning.longest_line (whole_lines read) - length (last_part read)
      → length bytes ≤ meaning.longest_input (whole_lines read) - pending.count
      → pending'.text.items ≡ pending.text.items ++ bytes → pending'.taken ≡ pending.taken
      → pending'.count ≡ pending.count + length bytes
      → Progress meaning stands start (read ++ bytes) lines pending' holds
  goes_on pending' bytes free short within text taken count =
      let same = whole_lines_free read bytes free in
      let longer = last_part_free read bytes free in
      record {
        stood = subst (stands lines) (sym same) p.stood;
        text = text ∙ ap (λ l. l ++ bytes) p.text ∙ sym longer;
        short = rw (same, longer) (omega (arith, length-append (last_part read) bytes, p.short));
        within = λ some. rw same
            (omega (
              arith,
              length-append read bytes,
              within_more (length (last_part read)) (length bytes) (length read)
                  (meaning.longest_input (whole_lines read))
                  p.within (omega (arith, p.count))
                  (omega (arith, some, ap length longer, length-append (last_part read) bytes)),
            ));
        taken = taken ∙ p.taken ∙ ap length (sym same);
        count = omega (arith, length-append read bytes, p.count);
        printed = p.printed;
        grew = p.grew;
        so_far = so_far_free meaning read bytes free ∙ p.so_far;
      }

  -- the line that a line feed ends is up to its reader
  fed_outcome : pending.count < meaning.longest_input (whole_lines read)
      → line_outcome meaning (whole_lines read) (last_part read) (offset (whole_lines read) + length (last_part read)
      + 1) ≡ reader_outcome (pending.taken + 1) (meaning.line (whole_lines read) pending.text.items)
  fed_outcome within =
      fits_line meaning (whole_lines read) (last_part read)
      (offset (whole_lines read) + length (last_part read) + 1) p.short (omega (arith, length_read read, p.count))
      ∙ ap (λ n. reader_outcome (n + 1) (meaning.line (whole_lines read) (last_part read))) (sym p.taken)
      ∙ ap (λ l. reader_outcome (pending.taken + 1) (meaning.line (whole_lines read) l)) (sym p.text)

  -- what becomes of the lines so far
  fed_so_far : (b : ℕ) → is_feed b ≡ true → pending.count < meaning.longest_input (whole_lines read)
      → outcome_so_far meaning (read ++ b ∷ []) ≡ followed_by (accepted p.printed)
      (reader_outcome (pending.taken + 1) (meaning.line (whole_lines read) pending.text.items))
  fed_so_far b fed within =
      let line = line_outcome meaning (whole_lines read) (last_part read)
      (offset (whole_lines read) + length (last_part read) + 1) in
      so_far_feed meaning read b fed ∙ ap (λ o. followed_by o line) p.so_far
      ∙ ap (followed_by (accepted p.printed)) (fed_outcome within)

  -- what becomes of the bytes, whatever follows
  fed_whole : (b : ℕ) → is_feed b ≡ true → pending.count < meaning.longest_input (whole_lines read) → (rest : List ℕ)
      → (tail : Outcome Cause) × (outcome meaning ((read ++ b ∷ []) ++ rest) ≡ followed_by (accepted p.printed)
      (followed_by (reader_outcome (pending.taken + 1) (meaning.line (whole_lines read) pending.text.items)) tail))
  fed_whole b fed within rest =
      let line = fed_line meaning (whole_lines read) (last_part read) b rest fed in (
        line.0,
        whole_byte b rest
            ∙ ap (followed_by (accepted p.printed)) (line.1 ∙ ap (λ o. followed_by o line.0) (fed_outcome within)),
      )

  -- a line feed
  pub takes_line : {T : Type 0} (lines' : L) (pending' : Pending) (holds' : Option (List ℕ)) (b : ℕ)
      (result : Result T (Stop Cause))
      → is_feed b ≡ true → pending.count < meaning.longest_input (whole_lines read)
      → TakesLine (meaning.line (whole_lines read) pending.text.items) (pending.taken + 1) holds holds' result
      → MatchResult result (λ _. (before : List (List ℕ)) → stands lines before → pending.taken ≡ length before
      → stands lines' (before ++ pending.text.items ∷ [])) (λ _. Unit {0})
      → MatchResult result (λ _. pending'.text.items ≡ []) (λ _. Unit {0})
      → MatchResult result (λ _. pending'.taken ≡ pending.taken + 1) (λ _. Unit {0})
      → MatchResult result (λ _. pending'.count ≡ pending.count + 1) (λ _. Unit {0})
      → MatchResult result (λ _. Progress meaning stands start (read ++ b ∷ []) lines' pending' holds')
      (Stopped meaning start read (read ++ b ∷ []) holds')
  takes_line lines' pending' holds' b (Ok x) fed within takes stood text taken count =
      let more = whole_lines_feed read b fed in
      let none = last_part_feed read b fed in
      let push = length-append (whole_lines read) (last_part read ∷ []) in
      record {
        stood = subst (stands lines') (ap (λ l. whole_lines read ++ l ∷ []) p.text
            ∙ sym more) (stood (whole_lines read) p.stood p.taken);
        text = text ∙ sym none;
        short = rw none (omega arith);
        within = λ some. absurd (omega (arith, ap length none));
        taken = omega (arith, p.taken, ap length more, push);
        count = omega (arith, length-append read (b ∷ []), p.count);
        printed = p.printed ++ takes.front;
        grew = appends_more start holds holds' p.printed takes.front p.grew takes.grew;
        so_far = fed_so_far b fed within
            ∙ ap (λ r. followed_by (accepted p.printed) (reader_outcome (pending.taken + 1) r)) takes.cases;
      }
  takes_line lines' pending' holds' b (Err stop) fed within takes stood text taken count =
      let meant = meaning.line (whole_lines read) pending.text.items in
      record {
        printed = p.printed ++ takes.front;
        grew = appends_more start holds holds' p.printed takes.front p.grew takes.grew;
        kept = kept takes.front;
        ends = stops_after meaning (read ++ b ∷ []) meant (pending.taken + 1) p.printed takes.front stop
            (fed_so_far b fed within ∙ ap (followed_by (accepted p.printed))
            (sym (followed_by-nil (reader_outcome (pending.taken + 1) meant))))
            (fed_whole b fed within) takes.cases;
      }

  -- no line lacks its line feed
  pub all_taken : pending.text.items ≡ [] → AllTaken meaning stands start read lines pending holds
  all_taken none =
      let empty : last_part read ≡ [] = sym p.text ∙ none in
      let all : lines_of read ≡ whole_lines read =
      ap (λ l. whole_lines read ++ unless_empty l) empty ∙ append-nil (whole_lines read) in
      record {
        stood = subst (stands lines) (sym all) p.stood;
        taken = p.taken ∙ ap length (sym all);
        printed = p.printed;
        grew = p.grew;
        kept = rw (append-nil p.printed) at (kept []);
        all =
            outcome_at_end meaning read
            ∙ ap (λ o. followed_by o (end_outcome meaning (whole_lines read) (last_part read))) p.so_far
            ∙ ap (λ l. followed_by (accepted p.printed) (end_outcome meaning (whole_lines read) l)) empty
            ∙ ap (λ l. followed_by (accepted p.printed) (finish_outcome meaning l)) (sym all);
      }

  -- what becomes of a last line without its line feed
  last_outcome : 0 < length pending.text.items
      → outcome meaning read ≡ followed_by (accepted p.printed)
      (followed_by (reader_outcome (pending.taken + 1) (meaning.line (whole_lines read) pending.text.items))
      (finish_outcome meaning (whole_lines read ++ last_part read ∷ [])))
  last_outcome some =
      let part : 0 < length (last_part read) = omega (arith, ap length p.text) in
      let within = p.within part in
      let end = offset (whole_lines read) + length (last_part read) in
      let finish = finish_outcome meaning (whole_lines read ++ last_part read ∷ []) in
      let fits =
      fits_line meaning (whole_lines read) (last_part read) end p.short (omega (arith, length_read read))
      ∙ ap (λ n. reader_outcome (n + 1) (meaning.line (whole_lines read) (last_part read))) (sym p.taken)
      ∙ ap (λ l. reader_outcome (pending.taken + 1) (meaning.line (whole_lines read) l)) (sym p.text) in
      outcome_at_end meaning read
      ∙ ap (λ o. followed_by o (end_outcome meaning (whole_lines read) (last_part read))) p.so_far
      ∙ ap (followed_by (accepted p.printed)) (end_outcome_some meaning (whole_lines read) (last_part read) part
      ∙ ap (λ o. followed_by o finish) fits)

  -- the last line lacks its line feed
  pub takes_last : {T : Type 0} (lines' : L) (pending' : Pending) (holds' : Option (List ℕ))
      (result : Result T (Stop Cause))
      → 0 < length pending.text.items
      → TakesLine (meaning.line (whole_lines read) pending.text.items) (pending.taken + 1) holds holds' result
      → MatchResult result (λ _. (before : List (List ℕ)) → stands lines before → pending.taken ≡ length before
      → stands lines' (before ++ pending.text.items ∷ [])) (λ _. Unit {0})
      → MatchResult result (λ _. pending'.taken ≡ pending.taken + 1) (λ _. Unit {0})
      → MatchResult result
      (λ _. AllTaken meaning stands start read lines' pending' holds') (StoppedAtEnd meaning start read holds')
  takes_last lines' pending' holds' (Ok x) some takes stood taken =
      let part : 0 < length (last_part read) = omega (arith, ap length p.text) in
      let all : lines_of read ≡ whole_lines read ++ last_part read ∷ [] =
      ap (λ l. whole_lines read ++ l) (unless_empty_some (last_part read) part) in
      let finish = finish_outcome meaning (whole_lines read ++ last_part read ∷ []) in
      record {
        stood = subst (stands lines') (ap (λ l. whole_lines read ++ l ∷ []) p.text
            ∙ sym all) (stood (whole_lines read) p.stood p.taken);
        taken = omega (arith, p.taken, ap length all, length-append (whole_lines read) (last_part read ∷ []));
        printed = p.printed ++ takes.front;
        grew = appends_more start holds holds' p.printed takes.front p.grew takes.grew;
        kept = kept takes.front;
        all =
            last_outcome some ∙ ap (λ r. followed_by (accepted p.printed)
            (followed_by (reader_outcome (pending.taken + 1) r) finish)) takes.cases
            ∙ sym (followed_by-assoc (accepted p.printed) (accepted takes.front) finish)
            ∙ ap (λ l. followed_by (accepted (p.printed ++ takes.front)) (finish_outcome meaning l)) (sym all);
      }
  takes_last lines' pending' holds' (Err stop) some takes stood taken =
      let meant = meaning.line (whole_lines read) pending.text.items in
      let finish = finish_outcome meaning (whole_lines read ++ last_part read ∷ []) in
      record {
        printed = p.printed ++ takes.front;
        grew = appends_more start holds holds' p.printed takes.front p.grew takes.grew;
        kept = kept takes.front;
        ends = subst (λ o. StopsWith o (p.printed ++ takes.front) stop) (sym (last_outcome some))
            (stops_with meant (pending.taken + 1) finish p.printed takes.front stop takes.cases);
      }

-- it stops in the same way, whatever was read before and besides
stops_more : {Cause : Type 0} (meaning : Meaning Cause) (read more printed : List ℕ) (stop : Stop Cause)
    → StopsAfter meaning read printed stop → StopsAfter meaning (read ++ more) printed stop
stops_more meaning read more printed (BadLine line why) stops =
    λ rest. ap (outcome meaning) (append_assoc read more rest) ∙ stops (more ++ rest)
stops_more meaning read more printed WriteFault stops = prefix_trans _ _ _ stops (so_far_grows meaning read more)
stops_more meaning read more printed Memory stops = prefix_trans _ _ _ stops (so_far_grows meaning read more)
stops_more meaning read more printed ReadFault stops = absurd stops

-- it stops in the same way in a longer piece
pub stopped_more : {Cause : Type 0} (meaning : Meaning Cause) (start : Option (List ℕ))
    (before earlier read more all : List ℕ) (holds : Option (List ℕ)) (stop : Stop Cause)
    → read ++ more ≡ all → Stopped meaning start (before ++ earlier) read holds stop
    → Stopped meaning start before all holds stop
stopped_more meaning start before earlier read more all holds stop is s = record {
  printed = s.printed;
  grew = s.grew;
  kept = prefix_trans _ _ _ (so_far_grows meaning before earlier) s.kept;
  ends = subst (λ l. StopsAfter meaning l s.printed stop) is (stops_more meaning read more s.printed stop s.ends);
}

-- no line follows
pub concludes : {L T Cause : Type 0} (meaning : Meaning Cause) (stands : L → List (List ℕ) → Type 0)
    (start : Option (List ℕ)) (read : List ℕ) (lines lines' : L) (pending : Pending) (holds holds' : Option (List ℕ))
    (result : Result T (Stop Cause))
    → AllTaken meaning stands start read lines pending holds
    → TakesLine (meaning.finish (lines_of read)) (pending.taken + 1) holds holds' result
    → MatchResult result (λ _. (before : List (List ℕ)) → stands lines before → stands lines' before) (λ _. Unit {0})
    → MatchResult result
    (λ _. Finished meaning stands start read lines' holds') (StoppedAtEnd meaning start read holds')
concludes meaning stands start read lines lines' pending holds holds' (Ok x) p takes stood = record {
  printed = p.printed ++ takes.front;
  grew = appends_more start holds holds' p.printed takes.front p.grew takes.grew;
  all = p.all ∙ ap (λ r. followed_by (accepted p.printed) (reader_outcome (length (lines_of read) + 1) r)) takes.cases;
  stood = stood (lines_of read) p.stood;
}
concludes meaning stands start read lines lines' pending holds holds' (Err stop) p takes stood =
    let meant = meaning.finish (lines_of read) in
    let is : outcome meaning read
    ≡ followed_by (accepted p.printed) (followed_by (reader_outcome (pending.taken + 1) meant) (accepted [])) =
    p.all ∙ ap (λ n. followed_by (accepted p.printed) (reader_outcome (n + 1) meant)) (sym p.taken)
    ∙ ap (followed_by (accepted p.printed)) (sym (followed_by-nil (reader_outcome (pending.taken + 1) meant))) in
    record {
      printed = p.printed ++ takes.front;
      grew = appends_more start holds holds' p.printed takes.front p.grew takes.grew;
      kept = prefix_trans _ _ _ p.kept (takes.front, refl);
      ends = subst (λ o. StopsWith o (p.printed ++ takes.front) stop) (sym is)
          (stops_with meant (pending.taken + 1) (accepted []) p.printed takes.front stop takes.cases);
    }

-- what was read before a line, and that line, in a piece
pub joined : (read fed line more rest bytes : List ℕ) → bytes ≡ fed ++ rest → rest ≡ line ++ more
    → ((read ++ fed) ++ line) ++ more ≡ read ++ bytes
joined read fed line more rest bytes whole cut =
    append_assoc (read ++ fed) line more ∙ append_assoc read fed (line ++ more)
    ∙ ap (λ l. read ++ (fed ++ l)) (sym cut) ∙ ap (λ l. read ++ l) (sym whole)

-- the same with the line feed that ends the line
pub joined_feed : (read fed line after rest bytes : List ℕ) (b : ℕ) → bytes ≡ fed ++ rest → rest ≡ line ++ b ∷ after
    → (((read ++ fed) ++ line) ++ b ∷ []) ++ after ≡ read ++ bytes
joined_feed read fed line after rest bytes b whole cut =
    append_assoc ((read ++ fed) ++ line) (b ∷ []) after ∙ joined read fed line (b ∷ after) rest bytes whole cut

-- a piece ends with bytes that have no line feed
pub last_stretch : {L T Cause : Type 0} (meaning : Meaning Cause) (stands : L → List (List ℕ) → Type 0)
    (start : Option (List ℕ)) (read fed rest bytes : List ℕ)
    (lines : L) (pending : Pending) (holds : Option (List ℕ)) (result : Result T (Stop Cause)) → bytes ≡ fed ++ rest
    → MatchResult result (λ _. Progress meaning stands start ((read ++ fed) ++ rest) lines pending holds)
    (Stopped meaning start (read ++ fed) ((read ++ fed) ++ rest) holds)
    → MatchResult result (λ _. Progress meaning stands start (read ++ bytes) lines pending holds)
    (Stopped meaning start read (read ++ bytes) holds)
last_stretch meaning stands start read fed rest bytes lines pending holds (Ok x) whole p =
    subst (λ l. Progress meaning stands start l lines pending holds) (append_assoc read fed rest
    ∙ ap (λ l. read ++ l) (sym whole)) p
last_stretch meaning stands start read fed rest bytes lines pending holds (Err stop) whole s =
    stopped_more meaning start read fed ((read ++ fed) ++ rest) [] (read ++ bytes) holds stop
    (append-nil ((read ++ fed) ++ rest) ∙ append_assoc read fed rest ∙ ap (λ l. read ++ l) (sym whole)) s

-- it stops at the line feed of a line in a piece
pub stopped_feed : {Cause : Type 0} (meaning : Meaning Cause) (start : Option (List ℕ))
    (read fed line after rest bytes : List ℕ) (b : ℕ) (holds : Option (List ℕ)) (stop : Stop Cause)
    → bytes ≡ fed ++ rest → rest ≡ line ++ b ∷ after
    → Stopped meaning start ((read ++ fed) ++ line) (((read ++ fed) ++ line) ++ b ∷ []) holds stop
    → Stopped meaning start read (read ++ bytes) holds stop
stopped_feed meaning start read fed line after rest bytes b holds stop whole cut s =
    let read' = ((read ++ fed) ++ line) ++ b ∷ [] in
    stopped_more meaning start read (fed ++ line) read' after (read ++ bytes) holds stop
    (joined_feed read fed line after rest bytes b whole cut)
    (subst (λ l. Stopped meaning start l read' holds stop) (append_assoc read fed line) s)

-- the same progress, where a line and its line feed were read after a part of a piece
pub progress_fed : {L Cause : Type 0} (meaning : Meaning Cause) (stands : L → List (List ℕ) → Type 0)
    (start : Option (List ℕ)) (read fed line : List ℕ) (b : ℕ) (lines : L) (pending : Pending)
    (holds : Option (List ℕ)) → Progress meaning stands start (((read ++ fed) ++ line) ++ b ∷ []) lines pending holds
    → Progress meaning stands start (read ++ (fed ++ (line ++ b ∷ []))) lines pending holds
progress_fed meaning stands start read fed line b lines pending holds p =
    subst (λ l. Progress meaning stands start l lines pending holds) (append_assoc (read ++ fed) line (b ∷ [])
    ∙ append_assoc read fed (line ++ b ∷ [])) p
