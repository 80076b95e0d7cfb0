-- What a call adds to a history, and what the device within makes of it.
use Rattle.std.specs.Prelude.{◌≡◌, ℕ, List, [], ◌∷◌, ◌++◌, Option, Some}
use Rattle.css_model.specs.History.{History, Listening, Dialling, Dialled, NotDialled, Sent, HungUp}
use Rattle.css_outside.specs.Outsides.{clock_entries, opening_entries, datagram_entries, heard_entries, wrote_entries}
use Rattle.css_outside.specs.Spawners.{Spawned, Started, Finished}
use Rattle.css_told.specs.declared.note.Note.{Note}
use Rattle.css_told.specs.declared.note.Note.TheVariants as note
use Rattle.css_told.specs.declared.happening.Happening.{Happening}
use Rattle.css_told.specs.declared.happening.Happening.TheVariants as happening

abbrev pub entries_of : Note → History
entries_of (note.Listens host port) = Listening host.now port ∷ []
entries_of (note.Reads why clocked) = clock_entries why clocked
entries_of (note.Dials kind to peer) = Dialled kind peer ∷ Dialling kind to.now ∷ []
entries_of (note.DialsInVain kind to failure) = NotDialled kind failure ∷ Dialling kind to.now ∷ []
entries_of (note.Opens came) = opening_entries came
entries_of (note.Sends peer bytes) = Sent peer bytes.now ∷ []
entries_of (note.Takes bytes came) = datagram_entries bytes.now came
entries_of (note.Hears peer heard) = heard_entries peer heard.now
entries_of (note.Writes peer text wrote) = wrote_entries peer text.now wrote
entries_of (note.HangsUp peer) = HungUp peer ∷ []

-- the same of a spawner's call
abbrev pub spawned_of : Happening → Spawned
spawned_of (happening.Starts words input) = Started words.now input.now
spawned_of (happening.Finishes status) = Finished status

-- ---- the device within, where it tells
-- What it told before the wrapper was made, and then exactly what was noted, the newest first.
abbrev pub TellsAsNoted : {E : Type 0} → Option (List E) → Option (List E) → List E → List E → Type 0
TellsAsNoted {E = E} told told_now noted noted_now =
    (earlier : List E) → told ≡ Some (noted ++ earlier) → told_now ≡ Some (noted_now ++ earlier)

-- the same of a sink's bytes
abbrev pub HoldsAsGiven : Option (List ℕ) → Option (List ℕ) → List ℕ → List ℕ → Type 0
HoldsAsGiven holds holds_now given given_now =
    (earlier : List ℕ) → holds ≡ Some (earlier ++ given) → holds_now ≡ Some (earlier ++ given_now)
