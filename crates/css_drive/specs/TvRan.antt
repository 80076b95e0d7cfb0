-- What a television's run did, and how it ended.
use Rattle.std.specs.Prelude.{◌≡◌, ◌≢◌, ◌<◌, ℕ, [], ◌∷◌, false, Option, ⊤}
use Rattle.css_model.specs.History.{History, Accepted}
use Rattle.css_outside.specs.Outsides.{Counts, with_entries}
use Rattle.css_drive.specs.Ends.{MayEnd, CountsNetFault}
use Rattle.css_drive.specs.Proper.{IsProper}
use Rattle.css_drive.specs.TvDue.{TvRun, due}
use Rattle.css_drive.specs.TvProgress.{progress_of, goes_on}
use Rattle.css_drive.specs.declared.driven.Driven.{Driven}
use Rattle.css_drive.specs.declared.driven.Driven.TheVariants as driven

-- each peer that was accepted has a number below this one
abbrev pub AreBelow : ℕ → History → Type 0
AreBelow n [] = ⊤
AreBelow n (Accepted peer kind ∷ older) = (peer < n) × AreBelow n older
AreBelow n (_ ∷ older) = AreBelow n older

-- each peer that was accepted has a greater number than those before it
abbrev pub AreNumbered : History → Type 0
AreNumbered [] = ⊤
AreNumbered (Accepted peer kind ∷ older) = AreBelow peer older × AreNumbered older
AreNumbered (_ ∷ older) = AreNumbered older

-- If the run is done, no other turn begins: as many were begun as may be, or the last one was over by its time.
abbrev pub MadeTurns : TvRun → History → Driven → Type 0
MadeTurns run h driven.Done = goes_on (progress_of run h).turns ≡ false
MadeTurns run h _ = ⊤

-- The calls of the run added this history to what the outside tells. It is proper, and the run ended where it may.
pub record TvRan (run : TvRun) (start told : Option History) (ended : Driven) : Type 0 where
  pub h : History
  pub grew : told ≡ with_entries h start
  pub proper : IsProper (due run) h
  pub numbered : AreNumbered h
  pub ends : MayEnd (due run h) ended
  pub whole : MadeTurns run h ended

-- What the run counted: faults of calls other than dials at `NetFault` alone. A television writes nothing.
pub record CountsTvRun (before now : Counts) (ended : Driven) : Type 0 where
  pub dials : now.dial_faults ≡ before.dial_faults
  pub faults : CountsNetFault before.faults now.faults ended
  pub no_writes : ended ≢ driven.WriteFault
