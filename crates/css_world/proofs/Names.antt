-- The names of the crates below that most lemmas here cite, passed on from one place. Declares nothing.
pub use Rattle.std.proofs.Math.Seq.{take-append_seam}
pub use Rattle.std.proofs.lemmas.Bool.Decides.{eqb_tells}
pub use Rattle.std.proofs.lemmas.Int.{to_z-of_z}
pub use Rattle.std.proofs.lemmas.List.{take-append-drop, reverse-reverse, reverse-append, map-append, length-map}
pub use Rattle.std.proofs.lemmas.Option.{slice_get_read, slice_get-map, slice_get_within}
pub use Rattle.std.proofs.lemmas.Result.{err_from_is_err_and}
pub use Rattle.std.specs.Fmt.{signed_decimal}
pub use Rattle.std.specs.Int.{w128}
pub use Rattle.std.specs.Option.{option_flatten, ForSome, option_or}
pub use Rattle.std.specs.Result.{result_and, IsErrAnd, result_map_both}
pub use Rattle.css_num.specs.declared.protocol.Kind.{Kind}
pub use Rattle.css_model.specs.History.{Clock, Took, History, Dialled, Heard, Wrote, Closed, Slept, Sent}
pub use Rattle.css_model.specs.History.{accepted_answers, Entry}
pub use Rattle.css_model.specs.WallClock.{Local, IsLocal}
pub use Rattle.css_model.specs.Wire.{encoded, decoded, request_at, stamp_of}
pub use Rattle.css_tsmsg.specs.declared.bound.Bound.{Bound}
pub use Rattle.css_tsmsg.specs.declared.setup.Setup.{Setup}
pub use Rattle.css_server.specs.Tickets.{Server, Ticket, response_to, follow_up_for, ticket_for, is_greater}
pub use Rattle.css_sessions.specs.declared.session.Said.{Said}
pub use Rattle.css_tv.specs.Standing.{calls_of, Calls, with_outcome, said_by}
pub use Rattle.css_tv.specs.declared.event.TvEvent.{TvEvent}
pub use Rattle.css_tv.specs.declared.event.TvOut.{TvOut}
pub use Rattle.css_companion.specs.Printed.{line_of}
pub use Rattle.css_companion.specs.Standing.{Companion}
pub use Rattle.css_companion.specs.Steps.{window, owed, none_owed, IsEvent, IsEntryOf}
pub use Rattle.css_schedule.specs.Owners.{is_sleep, is_own}
pub use Rattle.css_schedule.specs.Ranges.{IsHeader, IsCount, IsLine, IsSecond, IsVerb, IsCompanion}
pub use Rattle.css_schedule.specs.declared.header.CompanionLine.{CompanionLine}
pub use Rattle.css_schedule.specs.declared.header.Header.{Header}
pub use Rattle.css_schedule.specs.declared.line.Line.{Line}
pub use Rattle.css_schedule.specs.declared.line.Verb.{Verb}
pub use Rattle.css_schedule.specs.declared.line.Verb.TheVariants.{Give, Land, Opening, Bring, Up, Present, Close, Wall}
pub use Rattle.css_schedule.specs.declared.line.Verb.TheVariants.{Print, Programme, Timeline, Viewer, Sleep, Ask, Take}
pub use Rattle.css_meaning.proofs.Lawful.{request_back, order_by}
pub use Rattle.css_meaning.proofs.Made.{made_count, mapped_some, numbered-le}
pub use Rattle.css_meaning.proofs.Peers.{cii_of, ts_of, cii-ts, ts-cii, others-peer}
pub use Rattle.css_meaning.proofs.Worlds.{second_ok, seen_own, seen_other}
pub use Rattle.css_meaning.specs.Accepted.{AreAccepted, IsNext}
pub use Rattle.css_meaning.specs.Happened.{Numbered, tickets, taken_for, datagrams, made_for, server_of, answers_to}
pub use Rattle.css_meaning.specs.Happened.{is_given, peer, bytes_of, events_of, history_of, dialled, done_by, requests}
pub use Rattle.css_meaning.specs.Happened.{askers, ticket_at}
pub use Rattle.css_meaning.specs.Numbering.{numbered, stored, spent}
pub use Rattle.css_meaning.specs.Printed.{wall_text, ends_line, wall_line}
pub use Rattle.css_meaning.specs.Sessions.{addresses, peer_of, setup_of, is_open, was_opened, heard_from, written_to}
pub use Rattle.css_meaning.specs.Sessions.{received_from, told_to, next_down, in_flight, next_of, next_up}
pub use Rattle.css_meaning.specs.Truth.{IsCompanionOf}
pub use Rattle.css_meaning.specs.Verdicts.{is_for, IsDeclared, played, tv_seen, seen_of_tv, seen_of, tv_reading}
pub use Rattle.css_meaning.specs.Verdicts.{own_reading, reading_tested, tested, can_happen, event_at, printed_for}
pub use Rattle.css_meaning.specs.Verdicts.{carried_out, line_meant, span_at, report_at, assigned_at, own_seen}
pub use Rattle.css_meaning.specs.Verdicts.{own_shown_tested, shown_tested}
pub use Rattle.css_meaning.specs.declared.fault.WorldFault.{WorldFault}
pub use Rattle.css_meaning.specs.declared.fault.WorldFault.TheVariants.{Absent, Memory}
pub use Rattle.css_meaning.specs.declared.reading.Reading.{Reading}
