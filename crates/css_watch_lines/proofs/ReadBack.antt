-- Each line is read back as the object that it tells.
use Rattle.std.proofs.Common.{ℤ, pos, negsuc, None, Some, refl, arith}
use Rattle.json.proofs.Printed.Utf8.{IsUtf8-are_ascii}
use Rattle.serde_json.specs.Data.{object, no_members}
use Rattle.css_model.specs.WallClock.{Answer, IsAnswer}
use Rattle.css_num.specs.Spans.{Interval}
use Rattle.css_num.specs.declared.control.Control.{Control}
use Rattle.css_num.specs.declared.control.Control.TheVariants.{Available, Unavailable}
use Rattle.css_text.specs.Ordered.{HasUtf8, MembersHaveUtf8, IsOrdered, AreOrderedAfter}
use Rattle.css_text.proofs.Laws.{object_compact}
use Rattle.css_cii.specs.States.{full_change}
use Rattle.css_cii.specs.Texts.{change_members, IsUtf8State}
use Rattle.css_cii.specs.declared.state.State.{State}
use Rattle.css_cii.proofs.Laws.{change_ordered, change_utf8}
use Rattle.css_cii.proofs.Utf8.{full-utf8}
use Rattle.css_tsmsg.specs.Controls.{IsInRange}
use Rattle.css_tsmsg.proofs.ReadBack.{control_ordered, control_utf8}
use Rattle.css_watch_lines.specs.Lines.{Line, Visit, Dial, StateTold, ControlTold, Unread, Answered, Refused}
use Rattle.css_watch_lines.specs.Lines.{SleptAt, Known, Unknown, Ended, EndedBy, EndedBetween, line_members}
use Rattle.css_watch_lines.specs.Lines.{exchange_data, line_data, span_data, ticks_data, told_control}
use Rattle.css_watch_lines.specs.declared.known.Ticks.{Ticks}
use Rattle.css_watch_lines.specs.Lines.{signed, IsReadBack}
use Rattle.css_watch_lines.specs.Ranges.{IsTellable, EndsFit, TicksFit}
use Rattle.css_watch_lines.specs.Writable.{AreWritable}
use Rattle.css_watch_lines.proofs.Spelling.{signed_utf8, reading_utf8, service_utf8, failure_utf8, landing_utf8}
use Rattle.css_watch_lines.proofs.Spelling.{fault_utf8, cause_utf8, first_utf8}
use Rattle.css_watch_lines.proofs.Writable.{between_writable, signed_writable, state_writable, control_writable}

-- ---- the members of a line can stand in it
line_writable : (line : Line) → IsTellable line → AreWritable (line_members line)
line_writable (Visit count reading) h = record { plain = (tt, (h.few, (tt, tt))); shallow = omega arith }
line_writable (Dial kind None) h = record { plain = (tt, (tt, (tt, tt))); shallow = omega arith }
line_writable (Dial kind (Some failure)) h = record { plain = (tt, (tt, (tt, (tt, tt)))); shallow = omega arith }
line_writable (StateTold state) h =
    let told = state_writable state h.1 in
    record { plain = (tt, (told.plain, tt)); shallow = omega (arith, told.shallow) }
line_writable (ControlTold control) h =
    let told = control_writable control h in
    record { plain = (told.plain, (tt, tt)); shallow = omega (arith, told.shallow) }
line_writable (Unread fault text) h = record { plain = (tt, (tt, (tt, tt))); shallow = omega arith }
line_writable (Answered answer kind landed width) h = record {
  plain = (
    omega (arith, h.0.error),
    (tt, (tt, (tt, (tt, (tt, (tt, (omega (arith, h.1), (tt, tt)))))))),
  );
  shallow = omega arith;
}
line_writable (Refused landing bytes landed) h = record { plain = (tt, (tt, (tt, (tt, tt)))); shallow = omega arith }
line_writable (SleptAt reading) h = record { plain = (tt, (tt, tt)); shallow = omega arith }
line_writable (Known count reading told) h =
    let speed = signed_writable told.speed h.1.speed in
    let rate = h.1.rate in
    record {
      plain = (
        (tt, (tt, tt)),
        (
          omega (arith, h.1.error),
          (
            tt,
            (
              h.0.few,
              (
                (omega (arith, rate.second_small), (omega (arith, rate.tick_small), tt)),
                (tt, (speed.plain, ((tt, (tt, tt)), ((tt, (tt, tt)), tt)))),
              ),
            ),
          ),
        ),
      );
      shallow = omega arith;
    }
line_writable (Unknown count reading cause detail) h = record {
  plain = (tt, (tt, (tt, (h.0.few, (tt, tt)))));
  shallow = omega arith;
}
line_writable (Ended count why) h = record { plain = (tt, (h.0, (tt, tt))); shallow = omega arith }
line_writable (EndedBy count why text) h = record { plain = (tt, (h.0, (tt, (tt, tt)))); shallow = omega arith }
line_writable (EndedBetween count why between) h =
    let told = between_writable between h.2 h.3 in
    record { plain = (told.plain, (tt, (h.0, (tt, tt)))); shallow = omega (arith, told.shallow) }

-- ---- the texts in a line are UTF-8
-- the ends of a span
span_utf8 : (span : Interval) → EndsFit span → HasUtf8 (span_data span)
span_utf8 span h = (signed_utf8 span.lo h.lo, (signed_utf8 span.hi h.hi, tt))

-- the ticks of a report
ticks_utf8 : (ticks : Ticks) → TicksFit ticks → HasUtf8 (ticks_data ticks)
ticks_utf8 ticks h = (signed_utf8 ticks.lo h.lo, (signed_utf8 ticks.hi h.hi, tt))

-- an answer
exchange_utf8 : (answer : Answer) → IsAnswer answer → HasUtf8 (exchange_data answer)
exchange_utf8 answer ranges = (
  IsUtf8-are_ascii _ refl,
  tt,
  (
    IsUtf8-are_ascii _ refl,
    reading_utf8 answer.t4 (omega (arith, ranges.t4)),
    (
      IsUtf8-are_ascii _ refl,
      reading_utf8 answer.t1 (omega (arith, ranges.t1)),
      (
        IsUtf8-are_ascii _ refl,
        reading_utf8 answer.precision (omega (arith, ranges.precision)),
        (
          IsUtf8-are_ascii _ refl,
          reading_utf8 answer.t2 (omega (arith, ranges.t2)),
          (IsUtf8-are_ascii _ refl, reading_utf8 answer.t3 (omega (arith, ranges.t3)), tt),
        ),
      ),
    ),
  ),
)

-- a state, all of which is said
state_utf8 : (state : State) → IsUtf8State state → HasUtf8 (object (change_members (full_change state)))
state_utf8 state h = change_utf8 (full_change state) (full-utf8 state h)

-- a control timestamp
told_utf8 : (control : Control) → IsInRange control → HasUtf8 (told_control control)
told_utf8 (Available content wall speed) h = control_utf8 (Available content wall speed) h
told_utf8 Unavailable h = (
  IsUtf8-are_ascii _ refl,
  tt,
  (IsUtf8-are_ascii _ refl, tt, (IsUtf8-are_ascii _ refl, tt, tt)),
)

-- all of them
line_utf8 : (line : Line) → IsTellable line → MembersHaveUtf8 (line_members line)
line_utf8 (Visit count reading) h = (
  IsUtf8-are_ascii _ refl,
  IsUtf8-are_ascii _ refl,
  (
    IsUtf8-are_ascii _ refl,
    tt,
    (IsUtf8-are_ascii _ refl, reading_utf8 reading h.early, tt),
  ),
)
line_utf8 (Dial kind None) h = (
  IsUtf8-are_ascii _ refl,
  IsUtf8-are_ascii _ refl,
  (
    IsUtf8-are_ascii _ refl,
    IsUtf8-are_ascii _ refl,
    (IsUtf8-are_ascii _ refl, service_utf8 kind, tt),
  ),
)
line_utf8 (Dial kind (Some failure)) h = (
  IsUtf8-are_ascii _ refl,
  IsUtf8-are_ascii _ refl,
  (
    IsUtf8-are_ascii _ refl,
    IsUtf8-are_ascii _ refl,
    (
      IsUtf8-are_ascii _ refl,
      service_utf8 kind,
      (IsUtf8-are_ascii _ refl, failure_utf8 failure h, tt),
    ),
  ),
)
line_utf8 (StateTold state) h = (
  IsUtf8-are_ascii _ refl,
  IsUtf8-are_ascii _ refl,
  (IsUtf8-are_ascii _ refl, state_utf8 state h.0, tt),
)
line_utf8 (ControlTold control) h = (
  IsUtf8-are_ascii _ refl,
  told_utf8 control h,
  (IsUtf8-are_ascii _ refl, IsUtf8-are_ascii _ refl, tt),
)
line_utf8 (Unread fault text) h = (
  IsUtf8-are_ascii _ refl,
  IsUtf8-are_ascii _ refl,
  (
    IsUtf8-are_ascii _ refl,
    fault_utf8 fault,
    (IsUtf8-are_ascii _ refl, h, tt),
  ),
)
line_utf8 (Answered answer kind landed width) h =
    let ranges = h.0 in (
      IsUtf8-are_ascii _ refl,
      tt,
      (
        IsUtf8-are_ascii _ refl,
        IsUtf8-are_ascii _ refl,
        (
          IsUtf8-are_ascii _ refl,
          reading_utf8 landed h.2,
          (
            IsUtf8-are_ascii _ refl,
            reading_utf8 answer.t1 (omega (arith, ranges.t1)),
            (
              IsUtf8-are_ascii _ refl,
              reading_utf8 answer.precision (omega (arith, ranges.precision)),
              (
                IsUtf8-are_ascii _ refl,
                reading_utf8 answer.t2 (omega (arith, ranges.t2)),
                (
                  IsUtf8-are_ascii _ refl,
                  reading_utf8 answer.t3 (omega (arith, ranges.t3)),
                  (IsUtf8-are_ascii _ refl, tt, (IsUtf8-are_ascii _ refl, signed_utf8 width h.3, tt)),
                ),
              ),
            ),
          ),
        ),
      ),
    )
line_utf8 (Refused landing bytes landed) h = (
  IsUtf8-are_ascii _ refl,
  first_utf8 bytes,
  (
    IsUtf8-are_ascii _ refl,
    IsUtf8-are_ascii _ refl,
    (
      IsUtf8-are_ascii _ refl,
      landing_utf8 landing,
      (IsUtf8-are_ascii _ refl, reading_utf8 landed h, tt),
    ),
  ),
)
line_utf8 (SleptAt reading) h = (
  IsUtf8-are_ascii _ refl,
  IsUtf8-are_ascii _ refl,
  (IsUtf8-are_ascii _ refl, reading_utf8 reading h, tt),
)
line_utf8 (Known count reading told) h = (
  IsUtf8-are_ascii _ refl,
  span_utf8 told.agreed h.1.agreed,
  (
    IsUtf8-are_ascii _ refl,
    tt,
    (
      IsUtf8-are_ascii _ refl,
      IsUtf8-are_ascii _ refl,
      (
        IsUtf8-are_ascii _ refl,
        tt,
        (
          IsUtf8-are_ascii _ refl,
          (IsUtf8-are_ascii _ refl, tt, (IsUtf8-are_ascii _ refl, tt, tt)),
          (
            IsUtf8-are_ascii _ refl,
            reading_utf8 reading h.0.early,
            (
              IsUtf8-are_ascii _ refl,
              tt,
              (
                IsUtf8-are_ascii _ refl,
                ticks_utf8 told.ticks h.1.ticks,
                (IsUtf8-are_ascii _ refl, span_utf8 told.wall h.1.wall, tt),
              ),
            ),
          ),
        ),
      ),
    ),
  ),
)
line_utf8 (Unknown count reading cause detail) h = (
  IsUtf8-are_ascii _ refl,
  cause_utf8 cause,
  (
    IsUtf8-are_ascii _ refl,
    h.1,
    (
      IsUtf8-are_ascii _ refl,
      IsUtf8-are_ascii _ refl,
      (
        IsUtf8-are_ascii _ refl,
        tt,
        (IsUtf8-are_ascii _ refl, reading_utf8 reading h.0.early, tt),
      ),
    ),
  ),
)
line_utf8 (Ended count why) h = (
  IsUtf8-are_ascii _ refl,
  IsUtf8-are_ascii _ refl,
  (IsUtf8-are_ascii _ refl, tt, (IsUtf8-are_ascii _ refl, h.1, tt)),
)
line_utf8 (EndedBy count why text) h = (
  IsUtf8-are_ascii _ refl,
  IsUtf8-are_ascii _ refl,
  (
    IsUtf8-are_ascii _ refl,
    tt,
    (
      IsUtf8-are_ascii _ refl,
      h.2,
      (IsUtf8-are_ascii _ refl, h.1, tt),
    ),
  ),
)
line_utf8 (EndedBetween count why between) h = (
  IsUtf8-are_ascii _ refl,
  (exchange_utf8 between.above h.2, (exchange_utf8 between.below h.3, tt)),
  (
    IsUtf8-are_ascii _ refl,
    IsUtf8-are_ascii _ refl,
    (
      IsUtf8-are_ascii _ refl,
      tt,
      (IsUtf8-are_ascii _ refl, h.1, tt),
    ),
  ),
)

-- ---- the names in a line are in alphabetical order
-- a number has none, and is unsigned exactly where it isn't below zero
signed_ordered : (z : ℤ) → IsOrdered (signed z)
signed_ordered (pos n) = tt
signed_ordered (negsuc n) = tt

-- the names of a control timestamp are
told_ordered : (control : Control) → IsOrdered (told_control control)
told_ordered (Available content wall speed) = control_ordered (Available content wall speed)
told_ordered Unavailable = (tt, tt, ((refl, tt), tt, ((refl, (refl, tt)), tt, tt)))

-- those of an answer are
exchange_ordered : (answer : Answer) → IsOrdered (exchange_data answer)
exchange_ordered answer = (
  tt,
  tt,
  (
    (refl, tt),
    tt,
    (
      (refl, (refl, tt)),
      tt,
      (
        (refl, (refl, (refl, tt))),
        tt,
        (
          (refl, (refl, (refl, (refl, tt)))),
          tt,
          ((refl, (refl, (refl, (refl, (refl, tt))))), tt, tt),
        ),
      ),
    ),
  ),
)

-- all of them
line_ordered : (line : Line) → AreOrderedAfter no_members (line_members line)
line_ordered (Visit count reading) = (tt, tt, ((refl, tt), tt, ((refl, (refl, tt)), tt, tt)))
line_ordered (Dial kind None) = (tt, tt, ((refl, tt), tt, ((refl, (refl, tt)), tt, tt)))
line_ordered (Dial kind (Some failure)) =
    (tt, tt, ((refl, tt), tt, ((refl, (refl, tt)), tt, ((refl, (refl, (refl, tt))), tt, tt))))
line_ordered (StateTold state) = (tt, tt, ((refl, tt), change_ordered (full_change state), tt))
line_ordered (ControlTold control) = (tt, told_ordered control, ((refl, tt), tt, tt))
line_ordered (Unread fault text) = (tt, tt, ((refl, tt), tt, ((refl, (refl, tt)), tt, tt)))
line_ordered (Answered answer kind landed width) = (
  tt,
  tt,
  (
    (refl, tt),
    tt,
    (
      (refl, (refl, tt)),
      tt,
      (
        (refl, (refl, (refl, tt))),
        tt,
        (
          (refl, (refl, (refl, (refl, tt)))),
          tt,
          (
            (refl, (refl, (refl, (refl, (refl, tt))))),
            tt,
            (
              (refl, (refl, (refl, (refl, (refl, (refl, tt)))))),
              tt,
              (
                (refl, (refl, (refl, (refl, (refl, (refl, (refl, tt))))))),
                tt,
                ((refl, (refl, (refl, (refl, (refl, (refl, (refl, (refl, tt)))))))), tt, tt),
              ),
            ),
          ),
        ),
      ),
    ),
  ),
)
line_ordered (Refused landing bytes landed) =
    (tt, tt, ((refl, tt), tt, ((refl, (refl, tt)), tt, ((refl, (refl, (refl, tt))), tt, tt))))
line_ordered (SleptAt reading) = (tt, tt, ((refl, tt), tt, tt))
line_ordered (Known count reading told) = (
  tt,
  (tt, (tt, tt)),
  (
    (refl, tt),
    tt,
    (
      (refl, (refl, tt)),
      tt,
      (
        (refl, (refl, (refl, tt))),
        tt,
        (
          (refl, (refl, (refl, (refl, tt)))),
          (tt, tt, ((refl, tt), tt, tt)),
          (
            (refl, (refl, (refl, (refl, (refl, tt))))),
            tt,
            (
              (refl, (refl, (refl, (refl, (refl, (refl, tt)))))),
              signed_ordered told.speed,
              (
                (refl, (refl, (refl, (refl, (refl, (refl, (refl, tt))))))),
                (tt, (tt, tt)),
                ((refl, (refl, (refl, (refl, (refl, (refl, (refl, (refl, tt)))))))), (tt, (tt, tt)), tt),
              ),
            ),
          ),
        ),
      ),
    ),
  ),
)
line_ordered (Unknown count reading cause detail) = (
  tt,
  tt,
  (
    (refl, tt),
    tt,
    (
      (refl, (refl, tt)),
      tt,
      ((refl, (refl, (refl, tt))), tt, ((refl, (refl, (refl, (refl, tt)))), tt, tt)),
    ),
  ),
)
line_ordered (Ended count why) = (tt, tt, ((refl, tt), tt, ((refl, (refl, tt)), tt, tt)))
line_ordered (EndedBy count why text) =
    (tt, tt, ((refl, tt), tt, ((refl, (refl, tt)), tt, ((refl, (refl, (refl, tt))), tt, tt))))
line_ordered (EndedBetween count why between) = (
  tt,
  (exchange_ordered between.above, (exchange_ordered between.below, tt)),
  ((refl, tt), tt, ((refl, (refl, tt)), tt, ((refl, (refl, (refl, tt))), tt, tt))),
)

-- ---- so a line's text is read back
pub line_reads : (line : Line) → IsTellable line → IsReadBack (line_data line)
line_reads line h =
    let w = line_writable line h in
    record {
      reads = object_compact (line_data line) w.plain (omega (arith, w.shallow)) (line_utf8 line h)
          (line_ordered line);
    }
