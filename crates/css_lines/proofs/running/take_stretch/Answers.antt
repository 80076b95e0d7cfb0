use Rattle.std.proofs.Common.{arith, ap, sym, subst, refl, length}
use Rattle.std.proofs.lemmas.Result.{err_from_is_err_and}
use Rattle.css_lines.specs.Progress.{Stopped}
use Rattle.css_lines.proofs.Steps.{stop_input, stop_line, stop_memory, goes_on}
use Rattle.css_lines.proofs.running.take_stretch.Goals as goal
use Rattle.css_lines.proofs.running.take_stretch.Goals.{then-bytes-room-via-then-bytes-room}
use Rattle.css_lines.proofs.running.take_stretch.Goals.{then-bytes-room-via-else-bytes-room+then-bytes-room_in_all}

pub returns-then-bytes-room-clause-progress : goal.returns-then-bytes-room-clause-progress
returns-then-bytes-room-clause-progress g c holds start read p =
    let longest = c.longest_line.ensures _ p.stood in
    let limit = c.longest_input.ensures.value _ p.stood in
    let text = ap length p.text in
    subst (Stopped _ start read _ _) (sym c.too_long.ensures)
    (elim c.then-bytes-room.branch [
      | then-bytes-room-via-then-bytes-room w ↦ stop_line _ _ start read _ _ _ p c.args.bytes.now c.requires.free
          (omega (arith, text, longest, c.len.ensures, c.saturating_sub-room.ensures, w.if-bytes-room.true))
      | then-bytes-room-via-else-bytes-room+then-bytes-room_in_all w ↦ stop_input _ _ start read _ _ _ p
          c.args.bytes.now c.requires.free
          (omega (arith, limit, c.saturating_sub-room_in_all.ensures, w.if-bytes-room_in_all.true))
    ])

pub returns-in_err-extend_from_slice-clause-progress : goal.returns-in_err-extend_from_slice-clause-progress
returns-in_err-extend_from_slice-clause-progress g c holds start read p =
    let exit = err_from_is_err_and c.from_residual.result c.from_residual.ensures.1 in
    rw (exit.1, exit.2) (stop_memory _ _ start read _ _ _ p c.args.bytes.now)

pub returns-clause-progress : goal.returns-clause-progress
returns-clause-progress g c holds start read p =
    let longest = c.longest_line.ensures _ p.stood in
    let limit = c.longest_input.ensures.value _ p.stood in
    goes_on _ _ start read _ _ _ p _ c.args.bytes.now c.requires.free
    (omega (arith, ap length p.text, longest, c.len.ensures, c.saturating_sub-room.ensures))
    (omega (arith, limit, c.saturating_sub-room_in_all.ensures)) c.in_ok-extend_from_slice.ensures.items refl refl
