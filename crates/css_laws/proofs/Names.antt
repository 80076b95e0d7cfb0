-- The names of the crates below that most lemmas here cite, passed on from one place. Declares nothing.
pub use Rattle.std.proofs.lemmas.Bool.Decides.{nat_tests}
pub use Rattle.std.proofs.lemmas.List.{length-append, get_or-take, length-take, length-replicate, replicate_more}
pub use Rattle.std.proofs.lemmas.List.Concat.{flat_map-append}
pub use Rattle.std.proofs.lemmas.List.Elements.{All-cons, All-append, All-nil, All-weaker, All-push, All-take, All-drop}
pub use Rattle.std.proofs.lemmas.List.Splits.{slice_split_first, slice_split_at}
pub use Rattle.std.specs.List.{position_or_len, list_all, flat_map}
pub use Rattle.std.specs.Result.{result_map_both, result_and}
pub use Rattle.css_model.specs.declared.TheConstants.{LIMIT}
pub use Rattle.css_lines.specs.Lines.{whole_lines, last_part, is_feed}
pub use Rattle.css_lines.specs.Progress.{HasNoFeed}
pub use Rattle.css_lines.specs.declared.reader.Refusal.{Refusal}
pub use Rattle.css_schedule.proofs.Steps.{Front, pass, after_whole, ok-range, where_true}
pub use Rattle.css_schedule.specs.Headers.{header_of, companion_of, mode_of, header_with, with_companion}
pub use Rattle.css_schedule.specs.Words.{is_space, words_of, with_words, At, or_form, all_read, word_at}
pub use Rattle.css_schedule.specs.declared.fault.LineFault.{LineFault}
pub use Rattle.css_schedule.specs.declared.header.CompanionLine.{CompanionLine}
pub use Rattle.css_schedule.specs.declared.header.Header.{Header}
pub use Rattle.css_schedule.specs.declared.header.Start.{Start}
pub use Rattle.css_schedule.specs.declared.header.Start.TheVariants.{One, Two}
pub use Rattle.css_schedule.specs.declared.line.Line.{Line}
pub use Rattle.css_schedule.specs.declared.line.Verb.{Verb}
pub use Rattle.css_schedule.specs.declared.line.Verb.TheVariants.{Ask, Wall, Programme, Timeline, Viewer, Present}
pub use Rattle.css_schedule.specs.declared.line.Verb.TheVariants.{Sleep, Take, Give, Land, Print}
pub use Rattle.css_migrate.specs.Migrated.{fed, line_turned, header_turned, header_becomes, line_becomes, text_becomes}
pub use Rattle.css_migrate.specs.Migrated.{migrated, first_word, other_words, later_words, three_words}
pub use Rattle.css_meaning.specs.Happened.{Numbered, event_by, Ends, ends_of, requests, askers, tickets, taken_for}
pub use Rattle.css_meaning.specs.Happened.{datagrams, made_for, is_given}
pub use Rattle.css_meaning.specs.declared.fault.WorldFault.{WorldFault}
pub use Rattle.css_replay.proofs.Texts.{reached-push, printed_is}
