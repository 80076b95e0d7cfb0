-- What a television's run sent to a session, beside what the session was to be told by what happened.
use Rattle.std.specs.Prelude.{◌≡◌, ◌≤◌, ℕ, ◌==◌, ◌||◌, List, [], ◌∷◌, ◌++◌, length, Bool, true, false, Option, Some}
use Rattle.std.specs.Prelude.{None, if◌then◌else◌}
use Rattle.css_model.specs.History.{Entry, History, Wrote, Gone}
use Rattle.css_sessions.specs.Told.{with_text}
use Rattle.css_tv.specs.Standing.{texts_after}
use Rattle.css_drive.specs.Proper.{Ends, IsProper}
use Rattle.css_drive.specs.TvDue.{TvRun, due}
use Rattle.css_drive.specs.TvProgress.{addresses_in, progress_of}
use Rattle.css_drive.specs.TvRan.{AreNumbered}
use Rattle.css_drive.specs.declared.driven.Driven.TheVariants as driven

-- the text that was sent to a peer with an entry
abbrev pub sent_by : ℕ → Entry → Option (List ℕ)
sent_by peer (Wrote other text) = if other == peer then Some text else None
sent_by peer _ = None

-- the texts that were sent to a peer, the newest first
abbrev pub sent_to : ℕ → History → List (List ℕ)
sent_to peer [] = []
sent_to peer (entry ∷ older) = with_text (sent_by peer entry) (sent_to peer older)

-- whether a text for a peer was told as gone
abbrev pub is_gone : ℕ → History → Bool
is_gone peer [] = false
is_gone peer (Gone other ∷ older) = (other == peer) || is_gone peer older
is_gone peer (_ ∷ older) = is_gone peer older

-- the texts that a peer's session was to be told by what happened, the newest first
abbrev pub to_tell : TvRun → ℕ → History → List (List ℕ)
to_tell run peer h = texts_after (addresses_in run.config) peer (progress_of run h).events

-- how many texts are lost at most: the one that was told as gone
abbrev pub lost : Bool → ℕ
lost false = 0
lost true = 1

-- The texts that were sent are the first ones of those that the session was to be told. Where nothing is still to be
-- done at the sessions, and so at the end of a run that made all its turns, they are all of these, but for one that was
-- told as gone.
pub record TellsSession (run : TvRun) (h : History) (peer : ℕ) : Type 0 where
  pub unsent : List (List ℕ)
  pub first : to_tell run peer h ≡ unsent ++ sent_to peer h
  pub whole : (progress_of run h).owed ≡ [] → length unsent ≤ lost (is_gone peer h)
  pub done : due run h ≡ Ends driven.Done → length unsent ≤ lost (is_gone peer h)

-- Every run tells its sessions so.
abbrev pub SessionsAreTold : Type 0
SessionsAreTold = (run : TvRun) (h : History) → IsProper (due run) h → AreNumbered h → (peer : ℕ)
    → TellsSession run h peer
