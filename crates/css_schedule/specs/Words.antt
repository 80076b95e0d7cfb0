-- The words of a line, read from left to right.
use Rattle.std.specs.Prelude.{◌≡◌, ℕ, ◌&&◌, ◌==◌, ℤ, int_lt, Bool, not, nat_le, if◌then◌else◌, List, [], ◌∷◌, length}
use Rattle.std.specs.Prelude.{Option, Some, None, Result, Ok, Err, bytes_eq, ◌++◌, codes}
use Rattle.std.specs.Option.{option_copied}
use Rattle.std.specs.List.{slice_split, list_all}
use Rattle.css_num.specs.Gives.{GivesBy}
use Rattle.css_num.specs.Words.{number_of, whole_number_of, signed_number_of}
use Rattle.css_schedule.specs.declared.fault.LineFault.{LineFault}
use Rattle.css_schedule.specs.declared.fault.LineFault.TheVariants.{Form, Memory}
use Rattle.css_schedule.specs.declared.words.Words.{Words}

-- exactly one space stands between two words
abbrev pub is_space : ℕ → Bool
is_space byte = byte == 32

-- what stands between the spaces of bytes, be it a word or not
abbrev pub words_of : List ℕ → List (List ℕ)
words_of bytes = slice_split is_space bytes

-- one line feed stands between two lines
abbrev pub is_feed : ℕ → Bool
is_feed byte = byte == 10

-- the lines of bytes at whose end no line feed stands
abbrev pub lines_of : List ℕ → List (List ℕ)
lines_of bytes = slice_split is_feed bytes

-- a byte from `!` to `~`
abbrev pub is_graphic : ℕ → Bool
is_graphic byte = nat_le 33 byte && nat_le byte 126

-- a word has at least one byte, and each is graphic
abbrev pub is_word : List ℕ → Bool
is_word word = not (length word == 0) && list_all is_graphic word

-- the same of bytes that may be missing
abbrev pub words_in : Option (List ℕ) → List (List ℕ)
words_in None = []
words_in (Some bytes) = words_of bytes

-- the words that are still to be read
abbrev pub words_left : Words → List (List ℕ)
words_left words = words_in (option_copied words.rest)

-- ---- one after another
infixl 10 ◌>>=◌
abbrev pub ◌>>=◌ : {A B : Type 0} → Result A LineFault → (A → Result B LineFault) → Result B LineFault
(Ok x) >>= next = next x
(Err fault) >>= next = Err fault

-- a value that may be missing, or the fault of the form
abbrev pub or_form : {A : Type 0} → Option A → Result A LineFault
or_form None = Err Form
or_form (Some x) = Ok x

-- What is read at the front of words, and the words after it.
abbrev pub At : Type 0 → Type 0
At A = List (List ℕ) → Result (A × List (List ℕ)) LineFault

-- the call answers what is read at the front of words, and the words after it, or it answers want of memory
abbrev pub Reads : {A : Type 0} → Result (A × Words) LineFault → Result (A × List (List ℕ)) LineFault → Type 0
Reads result expected = GivesBy (λ x. (x.0, words_left x.1)) Memory result expected

-- the first word
abbrev pub word_at : At (List ℕ)
word_at [] = Err Form
word_at (word ∷ rest) = Ok (word, rest)

-- a whole number below a bound
unfoldable pub number_at : ℕ → At ℕ
number_at below words = do
  word ← word_at words
  number ← or_form (whole_number_of word.0 below)
  Ok (number, word.1)

-- the number of a request, a take, a datagram or a programme: 1 to 2^32 - 1
unfoldable pub ordinal_at : At ℕ
ordinal_at words = do
  number ← number_at 4294967296 words
  if number.0 == 0 then Err Form else Ok number

-- a signed number of at most so many digits
unfoldable pub integer_at : ℕ → At ℤ
integer_at digits words = do
  word ← word_at words
  number ← or_form (signed_number_of word.0 digits)
  Ok (number, word.1)

-- the same, from low to high
unfoldable pub signed_at : ℕ → ℤ → ℤ → At ℤ
signed_at digits low high words = do
  number ← integer_at digits words
  if int_lt number.0 low then Err Form else if int_lt high number.0 then Err Form else Ok number

-- a word that stands for itself
unfoldable pub text_at : At (List ℕ)
text_at words = do
  word ← word_at words
  if is_word word.0 then Ok word else Err Form

-- this word and no other; the words after it
unfoldable pub after_word : List ℕ → List (List ℕ) → Result (List (List ℕ)) LineFault
after_word name words = do
  word ← word_at words
  if bytes_eq word.0 name then Ok word.1 else Err Form

-- the first word spells this number, and these are the words after it
pub record SpellsFirst (words : List (List ℕ)) (number : ℕ) (rest : List (List ℕ)) : Type 0 where
  pub word : List ℕ
  pub first : words ≡ word ∷ rest
  pub spelled : number_of word ≡ Some number

-- that no word is left
abbrev pub all_read : List (List ℕ) → Result (Unit {0}) LineFault
all_read [] = Ok tt
all_read (word ∷ rest) = Err Form

-- ---- words of a text
-- a text with words after it, a space before each
abbrev pub with_words : List ℕ → List (List ℕ) → List ℕ
with_words text [] = text
with_words text (word ∷ words) = with_words (text ++ 32 ∷ word) words

-- `-` stands for the empty stem
abbrev pub stem_word : List ℕ → List ℕ
stem_word stem = if length stem == 0 then codes "-" else stem
