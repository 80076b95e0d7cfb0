-- The words of a header of version 1 are read as those of one of version 2 and of its companion.
use Rattle.std.proofs.Common.{◌≡◌, length, arith, false, if◌then◌else◌, int_lt, negsuc, Option, Result, bytes_eq, codes}
use Rattle.std.proofs.Common.{ℕ, ◌≤◌, ◌+◌, ap, ◌∙◌, refl, Bool, true, List, [], ◌∷◌, ℤ, pos, Some, None, Ok, Err, IfOk}
use Rattle.std.proofs.lemmas.Slice.Eq.{bytes_eq-Decides}
use Rattle.css_num.specs.Words.{signed_number_of}
use Rattle.css_model.specs.Numbers.{max_error}
use Rattle.css_schedule.specs.declared.fault.LineFault.TheVariants.{Form}
use Rattle.css_schedule.specs.Words.{◌>>=◌, number_at, integer_at, signed_at, after_word}
use Rattle.css_schedule.specs.Headers.{mode_at, declared_at, local_at, companion_of_words, count_at, first_of_words}
use Rattle.css_schedule.specs.Headers.{second_of_words, start_of, header_of_words, after_number, numbered_of_words}
use Rattle.css_laws.proofs.Names.{Front, pass, after_whole, where_true, LineFault, CompanionLine, Header, Start, One}
use Rattle.css_laws.proofs.Names.{Two, words_of, At, or_form, word_at, all_read, mode_of, header_with, with_companion}
use Rattle.css_laws.proofs.Read.{IsWord, one-word, number-word, itself, one-read}

-- ---- the television
mode-word : (words : List (List ℕ)) → IfOk (mode_at words) (IsWord mode_at words)
unfolding mode_at
mode-word words = one-word mode_at (record { value = mode_of; none = refl; some = λ word rest. refl }) words

signed-word : (low high : ℤ) (words : List (List ℕ))
    → IfOk (signed_at 3 low high words) (IsWord (signed_at 3 low high) words)
unfolding signed_at integer_at
signed-word low high words =
    one-word (signed_at 3 low high) (record {
      value = λ word. or_form (signed_number_of word 3) >>= tested;
      none = refl;
      some = λ word rest. by (signed_number_of word 3) rest;
    }) words
  where
    tested : ℤ → Result ℤ LineFault
    tested n = if int_lt n low then Err Form else if int_lt high n then Err Form else Ok n

    some : ℤ → List (List ℕ) → Result (Front ℤ) LineFault
    some n rest = Ok (n, rest)

    by : (read : Option ℤ) (rest : List (List ℕ))
        → ((or_form read >>= λ n. some n rest) >>= λ n.
        if int_lt n.0 low then Err Form else if int_lt high n.0 then Err Form else Ok n)
        ≡ ((or_form read >>= tested) >>= λ n. some n rest)
    by None rest = refl
    by (Some n) rest = grind arith

-- three words are read, whatever follows them
record AreThree {A : Type 0} (read : At A) (words : List (List ℕ)) (front : Front A) : Type 0 where
  mode : List ℕ
  error : List ℕ
  precision : List ℕ
  are : words ≡ mode ∷ error ∷ precision ∷ front.1
  again : (more : List (List ℕ)) → read (mode ∷ error ∷ precision ∷ more) ≡ Ok (front.0, more)

declared-words : (words : List (List ℕ)) → IfOk (declared_at words) (AreThree declared_at words)
unfolding declared_at
declared-words words =
    after_whole (IsWord mode_at words) (AreThree declared_at words) (mode_at words) _ (mode-word words) (λ m hm.
    after_whole (IsWord (number_at (max_error + 1)) m.1) (AreThree declared_at words) (number_at (max_error + 1) m.1) _
    (number-word (max_error + 1) m.1) (λ e he.
    after_whole (IsWord (signed_at 3 (negsuc 127) (pos 30)) e.1) (AreThree declared_at words)
    (signed_at 3 (negsuc 127) (pos 30) e.1) _ (signed-word (negsuc 127) (pos 30) e.1) (λ p hp.
    record {
      mode = hm.word;
      error = he.word;
      precision = hp.word;
      are = cc;
      again = λ more.
          rw (hm.again (he.word ∷ hp.word ∷ more), he.again (hp.word ∷ more), hp.again more) refl;
    })))

-- ---- the companion
-- its words aren't none, and its text has a byte
pub record HasWord (words : List (List ℕ)) : Type 0 where
  pub word : List ℕ
  pub more : List (List ℕ)
  pub are : words ≡ word ∷ more

has-word : (words : List (List ℕ)) (companion : CompanionLine) → companion_of_words words ≡ Ok companion → HasWord words
unfolding companion_of_words local_at number_at
has-word [] companion e = absurd (cc)
has-word (word ∷ more) companion e = record { word = word; more = more; are = refl }

pub has-byte : (text : List ℕ) (companion : CompanionLine) → companion_of_words (words_of text) ≡ Ok companion
    → 1 ≤ length text
unfolding companion_of_words local_at number_at
has-byte [] companion e = absurd (cc)
has-byte (byte ∷ bytes) companion e = omega arith

-- ---- the header
-- Words are those of a header of version 1: with another version and the number of its companion they are a header of
-- version 2, and the words behind the third one after the version are those of its companion.
pub record AreHeader (words : List (List ℕ)) (header : Header) : Type 0 where
  pub mode : List ℕ
  pub error : List ℕ
  pub precision : List ℕ
  pub rest : List (List ℕ)
  pub companion : CompanionLine
  pub some : HasWord rest
  pub own : companion_of_words rest ≡ Ok companion
  pub bare : Header
  pub are : words ≡ codes "css-schedule" ∷ codes "1" ∷ mode ∷ error ∷ precision ∷ rest
  pub start : header_of_words (codes "css-schedule" ∷ codes "2" ∷ mode ∷ error ∷ precision ∷ codes "1" ∷ [])
      ≡ Ok (Two bare 1)
  pub next : numbered_of_words 1 (codes "companion" ∷ codes "1" ∷ rest) ≡ Ok companion
  pub alone : bare.companions ≡ []
  pub whole : with_companion bare companion ≡ header

abbrev pub AreStart : List (List ℕ) → Start → Type 0
AreStart words (One header) = AreHeader words header
AreStart words (Two header companions) = Unit {0}

-- the word is this one
same-word : (name word : List ℕ) (rest words : List (List ℕ)) → words ≡ word ∷ rest → bytes_eq word name ≡ true
    → words ≡ name ∷ rest
same-word name word rest words are e = are ∙ ap (λ (w : List ℕ). w ∷ rest) ((bytes_eq-Decides word name).0 e)

word-first : (words : List (List ℕ)) → IfOk (word_at words) (λ front. words ≡ front.0 ∷ front.1)
word-first [] = tt
word-first (word ∷ rest) = refl

name-first : (name : List ℕ) (words : List (List ℕ)) → IfOk (after_word name words) (λ rest. words ≡ name ∷ rest)
unfolding after_word
name-first name words =
    after_whole (λ (front : Front (List ℕ)). words ≡ front.0 ∷ front.1) (λ rest. words ≡ name ∷ rest) (word_at words) _
    (word-first words) (λ front h.
    where_true (λ rest. words ≡ name ∷ rest) (bytes_eq front.0 name) _ (λ same.
    same-word name front.0 front.1 words h same))

first-start : (words rest : List (List ℕ)) → words ≡ codes "css-schedule" ∷ codes "1" ∷ rest
    → IfOk (first_of_words rest) (AreStart words)
unfolding first_of_words header_of_words start_of second_of_words count_at after_word numbered_of_words after_number
first-start words rest are =
    after_whole (AreThree declared_at rest) (AreStart words) (declared_at rest) _ (declared-words rest) (λ d hd.
    after_whole (λ c. companion_of_words d.1 ≡ Ok c) (AreStart words) (companion_of_words d.1) _
    (itself (companion_of_words d.1)) (λ c hc.
    record {
      mode = hd.mode;
      error = hd.error;
      precision = hd.precision;
      rest = d.1;
      some = has-word d.1 c hc;
      own = hc;
      bare = header_with d.0 [];
      companion = c;
      are = cc;
      start = rw (hd.again (codes "1" ∷ []), one-read 17 [] (omega arith)) refl;
      next = rw (one-read 17 d.1 (omega arith), hc) refl;
      alone = refl;
      whole = refl;
    }))

second-start : (words rest : List (List ℕ)) → IfOk (second_of_words rest) (AreStart words)
unfolding second_of_words
second-start words rest =
    pass (AreStart words) (declared_at rest) _ (λ d.
    pass (AreStart words) (count_at d.1) _ (λ c. pass (AreStart words) (all_read c.1) _ (λ end. tt)))

pub header-words : (words : List (List ℕ)) → IfOk (header_of_words words) (AreStart words)
unfolding header_of_words start_of
header-words words =
    after_whole (λ rest. words ≡ codes "css-schedule" ∷ rest) (AreStart words)
    (after_word (codes "css-schedule") words) _
    (name-first (codes "css-schedule") words) (λ name hn.
    after_whole (λ (front : Front (List ℕ)). name ≡ front.0 ∷ front.1) (AreStart words) (word_at name) _
    (word-first name) (λ version hv.
    one_of (bytes_eq version.0 (codes "1")) _ _ (λ e.
    first-start words version.1 (hn ∙ ap (λ (r : List (List ℕ)). codes "css-schedule" ∷ r)
    (same-word (codes "1") version.0 version.1 name hv e)))
    (where_true (AreStart words) (bytes_eq version.0 (codes "2")) _ (λ e. second-start words version.1))))
  where
    one_of : (test : Bool) (one other : Result Start LineFault) → (test ≡ true → IfOk one (AreStart words))
        → IfOk other (AreStart words) → IfOk (if test then one else other) (AreStart words)
    one_of true one other h k = h refl
    one_of false one other h k = k
