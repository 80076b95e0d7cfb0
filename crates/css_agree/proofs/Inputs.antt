-- The answers of lines declare what is in range.
use Rattle.std.proofs.Common.{◌≡◌, subst, ℕ, suc, ◌+◌, ◌<◌, ◌≤◌, arith, Bool, true, false, List, [], ◌∷◌}
use Rattle.std.specs.Prelude.{if◌then◌else◌, int_lt, pos, negsuc, ⊤, bytes_eq, codes, Result, Ok, Err, IfOk}
use Rattle.std.proofs.lemmas.List.Elements.{All-nil, All-cons}
use Rattle.css_model.specs.Numbers.{max_error, max_local_error, max_local_precision}
use Rattle.css_model.specs.WallClock.{Answer, Local, IsLocal, scaled_width}
use Rattle.css_span.specs.Frontiers.{Answers}
use Rattle.css_schedule.proofs.Steps.{First, Gets, pass, after, number-range}
use Rattle.css_schedule.specs.declared.fault.LineFault.{LineFault}
use Rattle.css_schedule.specs.declared.fault.LineFault.TheVariants.{Form}
use Rattle.css_schedule.specs.Words.{word_at, after_word, signed_at, all_read, words_of}
use Rattle.css_agree.specs.declared.input.AnswerLine.{AnswerLine}
use Rattle.css_agree.specs.declared.input.AnswerLine.TheVariants as lines
use Rattle.css_agree.specs.Agreeing.{Numbered, with_line, lines_after, lines_in, with_answer, after_line, answers_in}
use Rattle.css_agree.specs.Agreements.{DeclareInRange}
use Rattle.css_agree.specs.Inputs.{declared_at, answer_of, question_of, named, time_at, line_of_words, line_of}
use Rattle.css_agree.specs.Inputs.{local_of_words, local_of}

-- an answer's error is in range
abbrev IsInRange : Answer → Type 0
IsInRange answer = answer.error ≤ max_error

abbrev IsLineInRange : AnswerLine → Type 0
IsLineInRange (lines.Answer answer) = IsInRange answer
IsLineInRange (lines.At reading) = ⊤

abbrev IsErrorInRange : ℕ × ℕ → Type 0
IsErrorInRange declared = declared.1 ≤ max_error

declared-range : (words : List (List ℕ)) → Gets IsErrorInRange (declared_at words)
unfolding declared_at
declared-range words =
    pass (First IsErrorInRange) (signed_at 3 (negsuc 127) (pos 30) words) _ (λ exponent.
    after (λ n. n < max_error + 1) (First IsErrorInRange) _ _ (number-range (max_error + 1) exponent.1)
    (λ error rest small.
    omega (arith, small)))

answer-range : (words : List (List ℕ)) → IfOk (answer_of words) IsLineInRange
unfolding answer_of
answer-range words =
    pass IsLineInRange (time_at words) _ (λ t1.
    pass IsLineInRange (time_at t1.1) _ (λ t2.
    pass IsLineInRange (time_at t2.1) _ (λ t3.
    pass IsLineInRange (time_at t3.1) _ (λ t4.
    after IsErrorInRange IsLineInRange _ _ (declared-range t4.1) (λ declared rest h.
    pass IsLineInRange (all_read rest) _ (λ end. h))))))

question-range : (words : List (List ℕ)) → IfOk (question_of words) IsLineInRange
unfolding question_of
question-range words =
    pass IsLineInRange (time_at words) _ (λ reading. pass IsLineInRange (all_read reading.1) _ (λ end. tt))

named-range : (name : List ℕ) (words : List (List ℕ)) → IfOk (named name words) IsLineInRange
unfolding named
named-range name words = by (bytes_eq name (codes "answer")) (bytes_eq name (codes "at"))
  where
    by : (a b : Bool) → IfOk (if a then answer_of words else if b then question_of words else Err Form) IsLineInRange
    by true b = answer-range words
    by false true = question-range words
    by false false = tt

line-range : (words : List (List ℕ)) → IfOk (line_of_words words) IsLineInRange
unfolding line_of_words
line-range words = pass IsLineInRange (word_at words) _ (λ name. named-range name.0 name.1)

-- ---- the answers of lines
with_answer-range : (own : Local) (answer : Answer) (others : Answers) → IsInRange answer → DeclareInRange others
    → DeclareInRange (with_answer own answer others)
with_answer-range own answer others one rest = by (int_lt (scaled_width own answer answer.t4) (pos 0))
  where
    by : (b : Bool) → DeclareInRange (if b then others else answer ∷ others)
    by true = rest
    by false = All-cons IsInRange answer others one rest

after-range : (own : Local) (line : AnswerLine) (others : Answers) → IsLineInRange line → DeclareInRange others
    → DeclareInRange (after_line own line others)
after-range own (lines.Answer answer) others one rest = with_answer-range own answer others one rest
after-range own (lines.At reading) others one rest = rest

with_line-range : (own : Local) (number : ℕ) (older : List Numbered) (line : Result AnswerLine LineFault)
    → IfOk line IsLineInRange → DeclareInRange (answers_in own older)
    → DeclareInRange (answers_in own (with_line number older line))
with_line-range own number older (Ok line) h rest = after-range own line (answers_in own older) h rest
with_line-range own number older (Err fault) h rest = rest

lines_after-range : (own : Local) (number : ℕ) (older : List Numbered) (texts : List (List ℕ))
    → DeclareInRange (answers_in own older) → DeclareInRange (answers_in own (lines_after number older texts))
lines_after-range own number older [] rest = rest
lines_after-range own number older (text ∷ texts) rest =
    lines_after-range own (suc number) (with_line number older (line_of text)) texts
    (with_line-range own number older (line_of text) (line-range (words_of text)) rest)

-- what lines declare is in range
pub lines-in_range : (own : Local) (texts : List (List ℕ)) → DeclareInRange (answers_in own (lines_in texts))
lines-in_range own texts = lines_after-range own 2 [] texts (All-nil IsInRange)

-- ---- the header
local-range : (words : List (List ℕ)) → IfOk (local_of_words words) IsLocal
unfolding local_of_words
local-range words =
    pass IsLocal (after_word (codes "css-agree") words) _ (λ name.
    pass IsLocal (after_word (codes "1") name) _ (λ version.
    after (λ n. n < max_local_error + 1) IsLocal _ _ (number-range (max_local_error + 1) version)
    (λ error rest small.
    after (λ n. n < max_local_precision + 1) IsLocal _ _ (number-range (max_local_precision + 1) rest)
    (λ precision last smaller.
    pass IsLocal (all_read last) _ (λ end.
    record { error = omega (arith, small); precision = omega (arith, smaller) })))))

-- the companion's clock that a header declares is in range
pub local_of-range : (text : List ℕ) (own : Local) → local_of text ≡ Ok own → IsLocal own
local_of-range text own e =
    subst (λ (r : Result Local LineFault). IfOk r IsLocal) e (local-range (words_of text))
