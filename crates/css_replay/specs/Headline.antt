-- The promise of a replay, said of the lines of a schedule in the words of its subject.
use Rattle.std.specs.Prelude.{ℕ, ℤ, pos, ◌≡◌, ◌≤ℤ◌, ◌⊎◌, List, [], ◌∷◌, ◌++◌, Option, Some, None}
use Rattle.std.specs.Io.KnownBytes.{Appends, Consumes}
use Rattle.css_num.specs.Spans.{Covers}
use Rattle.css_model.specs.WallClock.{Answer, IsLeast, scaled_width}
use Rattle.css_model.specs.History.{accepted_answers}
use Rattle.css_outside.specs.Bytes.{IsPrefix}
use Rattle.css_lines.specs.Lines.{lines_of}
use Rattle.css_span.specs.WallSpans.{span_of}
use Rattle.css_schedule.specs.declared.header.Header.{Header}
use Rattle.css_schedule.specs.declared.line.Verb.{Verb}
use Rattle.css_schedule.specs.declared.line.Verb.TheVariants.{Wall, Print}
use Rattle.css_companion.specs.Meanings.{timing_after}
use Rattle.css_companion.specs.Printed.{line_of}
use Rattle.css_companion.specs.Reports.{report_by}
use Rattle.css_companion.specs.declared.report.Cause.{Cause}
use Rattle.css_companion.specs.declared.report.Report.TheVariants as report
use Rattle.css_meaning.specs.Sessions.{setup_of}
use Rattle.css_meaning.specs.Happened.{Numbered, history_of}
use Rattle.css_meaning.specs.Verdicts.{local_of, report_at, assigned_at}
use Rattle.css_meaning.specs.Printed.{wall_line, no_answer_line}
use Rattle.css_meaning.specs.Truth.{AreWorld, IsPossibleLanding, AreToldInOrder, AreInStepAt}
use Rattle.css_replay.specs.Replayed.{Running, reached}

-- the responses and follow-ups that the companion of a line has accepted before it, whatever was lost, repeated or
-- reordered
abbrev pub accepted_before : Header → List Numbered → Numbered → List Answer
accepted_before header older now =
    accepted_answers (local_of now.line.who header) (history_of now.line.who header older)

-- The interval that is printed comes from the narrowest accepted response, and contains the value that the line gives
-- the television's wall clock.
pub record IsTrueInterval (header : Header) (older : List Numbered) (now : Numbered) (reading : ℕ) (printed : List ℕ) :
    Type 0 where
  pub response : Answer
  pub narrowest : IsLeast (λ answer. scaled_width (local_of now.line.who header) answer reading)
      (accepted_before header older now) response
  pub contains : Covers (span_of (local_of now.line.who header) reading response) (pos now.line.w)
  pub is_printed : printed ≡ wall_line now.number (span_of (local_of now.line.who header) reading response) now.line.w

-- Lacking a response the cause is printed.
pub record IsCause (header : Header) (older : List Numbered) (now : Numbered) (printed : List ℕ) : Type 0 where
  pub lacking : accepted_before header older now ≡ []
  pub is_printed : printed ≡ no_answer_line now.number

-- The ticks that are printed come from the narrowest accepted response: they are those at the two ends of its span, by
-- the last control timestamp received. They contain the position that this timestamp assigns to the value that the line
-- gives the television's wall clock, which is printed beside them.
pub record AreTrueTicks (header : Header) (older : List Numbered) (now : Numbered) (reading : ℕ) (printed : List ℕ)
    : Type 0 where
  pub response : Answer
  pub narrowest : IsLeast (λ answer. scaled_width (local_of now.line.who header) answer reading)
      (accepted_before header older now) response
  pub low : ℤ
  pub high : ℤ
  pub position : ℤ
  pub ticks : report_by (Some (span_of (local_of now.line.who header) reading response))
      (timing_after (setup_of now.line.who header).selector (history_of now.line.who header older))
      ≡ report.Ticks low high
  pub assigned : assigned_at now.line.who header older now.line.w ≡ Some position
  pub not_below : low ≤ℤ position
  pub not_above : position ≤ℤ high
  pub is_printed : printed ≡ line_of now.number (report.Ticks low high) (Some position)

-- Lacking a response or usable timestamp the first cause is printed.
pub record IsReportedCause (header : Header) (older : List Numbered) (now : Numbered) (reading : ℕ) (printed : List ℕ)
    : Type 0 where
  pub cause : Cause
  pub first : report_at now.line.who header older reading ≡ report.None cause
  pub is_printed : printed ≡ line_of now.number (report.None cause) None

-- What is printed for a line keeps the promise. Nothing is printed but at `wall` and `print` lines.
abbrev pub IsKept : Header → List Numbered → Numbered → Verb → List ℕ → Type 0
IsKept header older now (Wall reading) printed =
    IsTrueInterval header older now reading printed ⊎ IsCause header older now printed
IsKept header older now (Print reading) printed =
    AreTrueTicks header older now reading printed ⊎ IsReportedCause header older now reading printed
IsKept header older now _ printed = printed ≡ []

-- A line keeps the promise: so does what is printed for it. A datagram that lands is accepted, unless its request left
-- the last 64: in a replay no truthful answer is impossible. After the line, the state of the content that each
-- companion was told is one that the television published: after k texts the k-th of its session. Where all texts have
-- come to a companion, the position that it assigns is the one that the television's published control assigns.
pub record KeepsLine (header : Header) (older : List Numbered) (now : Numbered) (printed : List ℕ) : Type 0 where
  pub kept : IsKept header older now now.line.verb printed
  pub landing : IsPossibleLanding header older now
  pub told : AreToldInOrder header (now ∷ older)
  pub in_step : AreInStepAt header older now

-- So does what is printed for lines, the newest of which stands first.
abbrev pub AreKept : Header → List Numbered → List ℕ → Type 0
AreKept header [] printed = printed ≡ []
AreKept header (now ∷ older) printed =
    (before : List ℕ) × (last : List ℕ) × (printed ≡ before ++ last) × KeepsLine header older now last
    × AreKept header older before

-- This is printed for lines of the schedule, and for each of these it keeps the promise. They are the lines after its
-- header, as far as it was read. They are a world that keeps the declared errors and explains what each companion did.
pub record PromiseKept (bytes printed : List ℕ) : Type 0 where
  pub texts : List (List ℕ)
  pub rest : List (List ℕ)
  pub are_lines : lines_of bytes ≡ texts ++ rest
  pub header : Header
  pub version : ℕ
  pub lines : List Numbered
  pub is_read : reached texts ≡ Running header version lines
  pub world : AreWorld header lines
  pub kept : AreKept header lines printed

-- Whatever a schedule says, what was printed is a front part of what is printed for its lines and keeps the promise.
abbrev pub KeepsPromise : List ℕ → List ℕ → Type 0
KeepsPromise bytes printed =
    (whole : List ℕ) × IsPrefix printed whole × ((whole ≡ []) ⊎ PromiseKept bytes whole)

-- A run took some bytes from the source and added something to the sink, and this keeps the promise of those bytes: it
-- is all that the sink gained, where the sink tells it.
pub record Promised (left_old left_new holds_old holds_new : Option (List ℕ)) : Type 0 where
  pub read : List ℕ
  pub printed : List ℕ
  pub took : Consumes left_old left_new read
  pub grew : Appends holds_old holds_new printed
  pub keeps : KeepsPromise read printed
