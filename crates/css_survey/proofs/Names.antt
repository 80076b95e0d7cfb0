-- The names of the crates below that most lemmas here cite, passed on from one place. Declares nothing.
pub use Rattle.std.proofs.lemmas.Bool.{eqb-false, ltb-false, lt-leb}
pub use Rattle.std.proofs.lemmas.Bool.Decides.{nat_tests}
pub use Rattle.std.proofs.lemmas.List.{length-replicate, get_or-replicate, replicate_more, length-append}
pub use Rattle.std.proofs.lemmas.List.{length-reverse, reverse-append, reverse-reverse, append_assoc}
pub use Rattle.std.proofs.lemmas.List.Elements.{All-replicate, All-nil, All-cons, All-head, All-tail, All-weaker}
pub use Rattle.std.proofs.lemmas.List.Elements.{All-get_or}
pub use Rattle.std.specs.Result.{result_and, result_map_both}
pub use Rattle.css_model.specs.WallClock.{IsLocal, Local}
pub use Rattle.css_schedule.specs.Owners.{is_own}
pub use Rattle.css_schedule.specs.Ranges.{IsCompanion, IsCount, IsLine, IsSecond, IsHeader}
pub use Rattle.css_schedule.specs.declared.header.Header.{Header}
pub use Rattle.css_schedule.specs.declared.line.Line.{Line}
pub use Rattle.css_schedule.specs.declared.line.Verb.{Verb}
pub use Rattle.css_schedule.specs.declared.line.Verb.TheVariants.{Ask, Take, Give, Land, Viewer, Wall, Print, Sleep}
pub use Rattle.css_schedule.specs.declared.line.Verb.TheVariants.{Opening, Bring, Up}
pub use Rattle.css_meaning.specs.Happened.{Numbered, requests, tickets, taken_for, made_for, is_given, events_of}
pub use Rattle.css_meaning.specs.Happened.{history_of}
pub use Rattle.css_meaning.specs.Numbering.{numbered}
pub use Rattle.css_meaning.specs.Sessions.{setup_of, addresses, received_from, told_to, next_down, next_up}
pub use Rattle.css_meaning.specs.Verdicts.{IsDeclared, tv_reading, own_reading, shown_tested, reading_tested, tested}
pub use Rattle.css_meaning.specs.Verdicts.{carried_out, line_meant, printed_for, local_of, tv_seen, own_seen}
pub use Rattle.css_meaning.specs.Verdicts.{seen_of_tv, seen_of, own_shown_tested, can_talk, played, report_at}
pub use Rattle.css_meaning.specs.declared.fault.WorldFault.{WorldFault}
pub use Rattle.css_gen.proofs.Clocks.{clock-goes_on, clock-start, clock-keeps, clock-rises}
pub use Rattle.css_gen.proofs.Ranges.{pts-utf8, stem-utf8, next-range, opening-range}
pub use Rattle.css_gen.specs.Opening.{companion, pts, opening_line}
pub use Rattle.css_gen.specs.Standing.{AreSome, IsReady}
pub use Rattle.css_gen.specs.declared.course.Course.{Course}
pub use Rattle.css_gen.specs.declared.crowd.Crowd.{Crowd}
