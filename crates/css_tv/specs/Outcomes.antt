-- What an event of a television does: what is shown after it, the calls that it adds for the player and for the
-- sessions, and whose session is hung up. What is told follows from these.
use Rattle.std.specs.Prelude.{ℕ, ◌==◌, nat_lt, pos, Bool, true, false, List, [], ◌∷◌, ◌++◌, map, length, Option, Some}
use Rattle.std.specs.Prelude.{None, Result, Ok, Err, if◌then◌else◌}
use Rattle.std.specs.Ordering.{int_eq}
use Rattle.css_player.specs.Player.{Player, Segment, max_delay}
use Rattle.css_player.specs.Segments.{commanded, with_delay, with_programme, with_timeline}
use Rattle.css_player.specs.Events.{Event as PlayerCall, ProgrammeAdded, TimelineAdded, Commanded, Delayed}
use Rattle.css_player.specs.declared.command.PlayerFault.{PlayerFault}
use Rattle.css_player.specs.declared.command.PlayerFault.TheVariants as player_fault
use Rattle.css_tsmsg.specs.Setups.{setup_of}
use Rattle.css_tsmsg.specs.Presentations.{presentation_of}
use Rattle.css_tsmsg.specs.declared.bound.Presentation.{Presentation}
use Rattle.css_tsmsg.specs.declared.setup.Setup.{Setup}
use Rattle.css_tsmsg.specs.declared.fault.TsFault.{TsFault}
use Rattle.css_window.specs.Demand.{Demand}
use Rattle.css_window.specs.Least.{least_fit}
use Rattle.css_sessions.specs.declared.session.Said.{Said}
use Rattle.css_sessions.specs.Kept.{Event as SessionsCall, Kept, Opened, SetUp, Published, Presented, Dropped, Closed}
use Rattle.css_sessions.specs.Kept.{step_of, talk_of, set_up_in, windows_in}
use Rattle.css_tv.specs.States.{published_state}
use Rattle.css_tv.specs.Stages.{Stage, max_sessions}
use Rattle.css_tv.specs.declared.state.Addresses.{Addresses}
use Rattle.css_tv.specs.declared.event.TvEvent.{TvEvent}
use Rattle.css_tv.specs.declared.event.TvEvent.TheVariants as event
use Rattle.css_tv.specs.declared.event.TvOut.{TvOut}
use Rattle.css_tv.specs.declared.event.TvOut.TheVariants as out
use Rattle.css_tv.specs.declared.fault.TvFault.{TvFault}
use Rattle.css_tv.specs.declared.fault.TvFault.TheVariants as fault

-- The lists have the newest call first.
pub record Outcome : Type 0 where
  pub player : Player
  pub asked : List PlayerCall
  pub called : List SessionsCall
  pub hung_up : List ℕ

-- a player's fault; want of memory stays that
abbrev pub tv_fault : PlayerFault → TvFault
tv_fault player_fault.Memory = fault.Memory
tv_fault player_fault.NoProgramme = fault.Player player_fault.NoProgramme
tv_fault player_fault.Speed = fault.Player player_fault.Speed
tv_fault player_fault.Range = fault.Player player_fault.Range
tv_fault player_fault.Full = fault.Player player_fault.Full

abbrev pub by_player : (Player → Outcome) → Result Player PlayerFault → Result Outcome TvFault
by_player f (Err e) = Err (tv_fault e)
by_player f (Ok q) = Ok (f q)

-- what a player shows is published
abbrev pub published : Addresses → Player → SessionsCall
published a p = Published (published_state a p) p

-- ---- viewers
-- one more programme changes nothing that is published
abbrev pub programme_added : List ℕ → Player → Outcome
programme_added content_id q = record { player = q; asked = ProgrammeAdded content_id ∷ []; called = []; hung_up = [] }

abbrev pub timeline_added : Addresses → PlayerCall → Player → Outcome
timeline_added a call q = record { player = q; asked = call ∷ []; called = published a q ∷ []; hung_up = [] }

-- an accepted command is published, and all windows are dropped
abbrev pub viewed : Addresses → PlayerCall → Player → Outcome
viewed a call q = record { player = q; asked = call ∷ []; called = Dropped ∷ published a q ∷ []; hung_up = [] }

-- ---- sessions
-- a call of the sessions that the player has no part in
abbrev pub only : SessionsCall → Player → Outcome
only call p = record { player = p; asked = []; called = call ∷ []; hung_up = [] }

abbrev pub hung_up : ℕ → Player → Outcome
hung_up peer p = record { player = p; asked = []; called = Closed peer ∷ []; hung_up = peer ∷ [] }

abbrev pub opened : SessionsCall → ℕ → Bool → Player → Outcome
opened call peer true p = only call p
opened call peer false p = hung_up peer p

-- ---- texts
abbrev pub by_setup : ℕ → Player → Result Setup TsFault → Outcome
by_setup peer p (Err e) = hung_up peer p
by_setup peer p (Ok u) = only (SetUp peer u p) p

-- a delay, where it isn't the present one
abbrev pub other_than : ℕ → Option ℕ → Option ℕ
other_than present None = None
other_than present (Some delay) = if delay == present then None else Some delay

-- the delay that these windows ask for, where the speed is 1 and it isn't the present one
abbrev pub choice : Option Segment → List Demand → Option ℕ
choice None ws = None
choice (Some s) ws = if int_eq s.speed (pos 1) then other_than s.delay (least_fit max_delay ws) else None

-- The windows in force after a presentation.
abbrev pub windows_after : ℕ → Presentation → Player → Kept → List Demand
windows_after peer q p k = windows_in (step_of (Presented peer q p) k).kept.list

-- A window asks of the content as it is shown without the delay, so whether it is put in its place before or after
-- another delay is published makes no difference.
abbrev pub presented : Addresses → ℕ → Presentation → Player → Option ℕ → Outcome
presented a peer q p None = only (Presented peer q p) p
presented a peer q p (Some delay) = record {
  player = with_delay delay p;
  asked = Delayed delay ∷ [];
  called = Presented peer q p ∷ published a (with_delay delay p) ∷ [];
  hung_up = [];
}

abbrev pub by_presentation : Addresses → ℕ → Player → Kept → Result Presentation TsFault → Outcome
by_presentation a peer p k (Err e) = hung_up peer p
by_presentation a peer p k (Ok q) = presented a peer q p (choice p.segment (windows_after peer q p k))

-- a text of a session, where the TS session that it is of has its setup or waits for it
abbrev pub heard : Addresses → ℕ → List ℕ → Player → Kept → Option Bool → Outcome
heard a peer bytes p k None = hung_up peer p
heard a peer bytes p k (Some false) = by_setup peer p (setup_of bytes)
heard a peer bytes p k (Some true) = by_presentation a peer p k (presentation_of bytes)

-- ---- an event
abbrev pub outcome : Addresses → TvEvent → Player → Kept → Result Outcome TvFault
outcome a (event.Programme content_id) p k = by_player (programme_added content_id) (with_programme content_id p)
outcome a (event.AddTimeline n selector rate base) p k =
    by_player (timeline_added a (TimelineAdded n selector rate base)) (with_timeline n selector rate base p)
outcome a (event.Viewer command reading) p k =
    by_player (viewed a (Commanded command reading)) (commanded command reading p)
outcome a (event.Opened peer kind) p k = Ok (opened (Opened peer kind) peer (nat_lt (length k.list) max_sessions) p)
outcome a (event.Heard peer bytes) p k = Ok (heard a peer bytes p k (set_up_in (talk_of peer k.list)))
outcome a (event.Closed peer) p k = Ok (only (Closed peer) p)

-- ---- what is told
abbrev pub kept_after : List SessionsCall → Kept → Kept
kept_after [] k = k
kept_after (e ∷ es) k = (step_of e (kept_after es k)).kept

abbrev pub said_after : List SessionsCall → Kept → List Said
said_after [] k = []
said_after (e ∷ es) k = said_after es k ++ (step_of e (kept_after es k)).said

abbrev pub say : Said → TvOut
say s = out.Say s.peer s.text

abbrev pub outs : Outcome → Kept → List TvOut
outs o k = map out.HangUp o.hung_up ++ map say (said_after o.called k)

abbrev pub stage_after : Outcome → Stage → Stage
stage_after o stage = record {
  addresses = stage.addresses;
  player = o.player;
  sessions = kept_after o.called stage.sessions;
}

abbrev pub outcome_at : TvEvent → Stage → Result Outcome TvFault
outcome_at e stage = outcome stage.addresses e stage.player stage.sessions
