-- The names of the crates below that most lemmas here cite, passed on from one place. Declares nothing.
pub use Rattle.std.proofs.lemmas.Bool.{and_parts, not-true, false≢true, or_right}
pub use Rattle.std.proofs.lemmas.Bool.Decides.{eqb_tells}
pub use Rattle.std.proofs.lemmas.Int.{ints, unsigned_abs-mul}
pub use Rattle.std.proofs.lemmas.List.{append-nil, length-map, reverse-append, take_all}
pub use Rattle.std.specs.List.{cons_option, AllByRecursion, starts_with}
pub use Rattle.std.specs.Option.{option_or}
pub use Rattle.std.specs.Result.{result_ok, result_and, result_map_both}
pub use Rattle.css_num.specs.Rates.{IsTickRate, TickRate}
pub use Rattle.css_num.specs.declared.control.Control.{Control}
pub use Rattle.css_num.specs.declared.control.Control.TheVariants.{Available, Unavailable}
pub use Rattle.css_num.specs.declared.protocol.Kind.{Kind}
pub use Rattle.css_num.specs.declared.timeline.Timeline.{Timeline}
pub use Rattle.css_model.proofs.Lately.{IsIn, is_same_stamp-true}
pub use Rattle.css_model.specs.History.{History, Dialled, Heard, Wrote, Entry, Clock, Took, Each, LandedAnswer}
pub use Rattle.css_model.specs.History.{landed_answer, answer_in, is_asked, Sent, Slept, Once, asking_at, sleeps}
pub use Rattle.css_model.specs.History.{request_by, landed_answers, is_promise_of, accepted_answers, is_possible}
pub use Rattle.css_model.specs.History.{times_of, wall_answer}
pub use Rattle.css_model.specs.Numbers.{IsWithin, precision_ns, max_error}
pub use Rattle.css_model.specs.World.{Moment, OwnClock, KeepsErrors, World, Reads, IsWorldFor, RunsWithin}
pub use Rattle.css_model.specs.declared.Message.{Message}
pub use Rattle.css_model.specs.declared.TheConstants.{LIMIT}
pub use Rattle.css_model.specs.declared.WcFault.{WcFault}
pub use Rattle.css_cii.specs.declared.state.State.{State}
pub use Rattle.css_tsmsg.proofs.ReadBack.{setup_reads, presentation_reads}
pub use Rattle.css_tsmsg.specs.Presentations.{presentation_of, presentation_text, IsPresentation}
pub use Rattle.css_tsmsg.specs.declared.bound.Presentation.{Presentation}
pub use Rattle.css_tsmsg.specs.declared.fault.TsFault.{TsFault}
pub use Rattle.css_tsmsg.specs.declared.setup.Setup.{Setup}
pub use Rattle.css_server.specs.Tickets.{Ticket, answer_message, Server, follow_up_to}
pub use Rattle.css_player.specs.Player.{Segment, Track, Player, Programme, IsSegment, media_limit, max_delay, IsTrack}
pub use Rattle.css_player.specs.Player.{IsPublished}
pub use Rattle.css_player.specs.declared.command.Command.{Command}
pub use Rattle.css_player.specs.declared.command.PlayerFault.{PlayerFault}
pub use Rattle.css_sessions.specs.declared.session.Session.{Session}
pub use Rattle.css_tv.proofs.Keeping.{programme_controls, ok_same, keeps}
pub use Rattle.css_tv.specs.Standing.{Calls, calls_of, with_outcome}
pub use Rattle.css_tv.specs.declared.event.TvEvent.{TvEvent}
pub use Rattle.css_tv.specs.declared.fault.TvFault.{TvFault}
pub use Rattle.css_tv.specs.declared.state.Addresses.{Addresses}
pub use Rattle.css_companion.proofs.Telling.{told_is_published}
pub use Rattle.css_companion.specs.Positions.{position}
pub use Rattle.css_companion.specs.Reports.{timing_of, assigned_by, timing_by}
pub use Rattle.css_schedule.specs.Owners.{is_sleep, is_own}
pub use Rattle.css_schedule.specs.Ranges.{IsCount, IsVerb, IsCompanion}
pub use Rattle.css_schedule.specs.declared.header.Header.{Header}
pub use Rattle.css_schedule.specs.declared.line.Verb.{Verb}
pub use Rattle.css_schedule.specs.declared.line.Verb.TheVariants.{Ask, Land, Wall, Print, Opening, Bring, Present}
pub use Rattle.css_schedule.specs.declared.line.Verb.TheVariants.{Close, Sleep, Give, Take}
