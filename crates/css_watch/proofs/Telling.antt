-- What an observer of a visit has told.
use Rattle.std.proofs.Common.{◌≡◌, ℕ, ap, sym, ◌∙◌, subst, refl, List, [], ◌∷◌, ◌++◌, append_assoc, append-nil}
use Rattle.std.proofs.Common.{Option, Some, None, Bool, true, false, cond, Result, Ok}
use Rattle.std.proofs.KnownBytes.{Appends-nil, Appends-trans}
use Rattle.std.specs.Io.KnownBytes.{Appends}
use Rattle.std.specs.Option.{option_or}
use Rattle.css_model.specs.History.{History}
use Rattle.css_agree.specs.Keeping.{Adds, Kept, StandsFor}
use Rattle.css_companion.specs.Standing.{Companion}
use Rattle.css_drive.specs.CompanionStanding.{Knows}
use Rattle.css_drive.specs.declared.config.DriveConfig.{DriveConfig}
use Rattle.css_outside.specs.Bytes.{AppendsPrefix}
use Rattle.css_outside.specs.Faults.{CountsOutFault}
use Rattle.css_outside.specs.declared.fault.OutFault.{OutFault}
use Rattle.css_drive.specs.Notes.{Event, Slept, Note, Happened, Standpoint, slept_from, slept_notes}
use Rattle.std.specs.Prelude.{is_some}
use Rattle.css_agree.specs.Disagreements.{disagree}
use Rattle.css_agree.specs.Told.{agreed_of}
use Rattle.css_client.specs.declared.landing.Landing.{Landing}
use Rattle.css_model.specs.WallClock.{Answer, Local}
use Rattle.css_span.specs.Frontiers.{Answers}
use Rattle.css_watch_lines.specs.Lines.{Line, line_text}
use Rattle.css_watch_lines.specs.declared.known.Between.{Between}
use Rattle.css_watch.specs.Progress.{between_in, progress_after, after_sleep}
use Rattle.css_watch.specs.Telling as telling
use Rattle.css_watch.specs.Telling.{Told, told_of, text_of, lines_by, answers_after}
use Rattle.css_watch.specs.Watching.{Accepts, AreFrom, GoesOn, IsOf, IsStep, IsTelling, IsToldBy, Says, Steps}
use Rattle.css_watch.specs.Watching.{Wakes, Writes, over_by, parting_by}
use Rattle.css_drive.specs.declared.parting.Parting.{Parting}
use Rattle.css_drive.specs.declared.parting.Parting.TheVariants as parting
use Rattle.css_watch.specs.declared.plan.Plan.{Plan}
use Rattle.css_watch.specs.declared.progress.Progress.{Progress}

-- ---- lines
-- those of later events stand after those of earlier ones
pub text_on : (later earlier : List Line) → text_of (later ++ earlier) ≡ text_of earlier ++ text_of later
text_on [] earlier = sym (append-nil (text_of earlier))
text_on (line ∷ later) earlier =
    ap (λ x. x ++ line_text line) (text_on later earlier) ∙ append_assoc (text_of earlier) (text_of later) (line_text
    line)

-- ---- parts
pub whole_prefix : (held holds : Option (List ℕ)) (bytes : List ℕ) → Appends held holds bytes
    → AppendsPrefix held holds bytes
whole_prefix held holds bytes p = record { front = bytes; of = ([], sym (append-nil bytes)); grew = p }

pub prefix_on : (a b c : Option (List ℕ)) (bytes more : List ℕ) → Appends a b bytes → AppendsPrefix b c more
    → AppendsPrefix a c (bytes ++ more)
prefix_on a b c bytes more p q = record {
  front = bytes ++ q.front;
  of = (q.of.0, ap (λ x. bytes ++ x) q.of.1 ∙ sym (append_assoc bytes q.front q.of.0));
  grew = Appends-trans a b c bytes q.front p q.grew;
}

pub no_prefix : (held : Option (List ℕ)) (bytes : List ℕ) → AppendsPrefix held held bytes
no_prefix held bytes = record { front = []; of = (bytes, refl); grew = Appends-nil held }

-- a part of a text is a part of a longer one
pub prefix_more : (a b : Option (List ℕ)) (bytes more : List ℕ) → AppendsPrefix a b bytes
    → AppendsPrefix a b (bytes ++ more)
prefix_more a b bytes more p = record {
  front = p.front;
  of = (p.of.0 ++ more, ap (λ x. x ++ more) p.of.1 ∙ append_assoc p.front p.of.0 more);
  grew = p.grew;
}

-- ---- writes
writes_on : (over : Option OutFault) (a b c : Option (List ℕ)) (f m n : ℕ) (bytes more : List ℕ)
    → Writes None a b f m bytes → Writes over b c m n more → Writes over a c f n (bytes ++ more)
writes_on None a b c f m n bytes more p q = (Appends-trans a b c bytes more p.0 q.0, q.1 ∙ p.1)
writes_on (Some cause) a b c f m n bytes more p q =
    let P : ℕ → Type 0 = λ x. CountsOutFault x n cause in (prefix_on a b c bytes more p.0 q.0, subst P p.1 q.1)

-- the lines of an event were written after others
lines_on : (over : Option OutFault) (a b c : Option (List ℕ)) (f m n : ℕ) (lines older : List Line)
    → Writes None a b f m (text_of older) → Writes over b c m n (text_of lines)
    → Writes over a c f n (text_of (lines ++ older))
lines_on over a b c f m n lines older p q =
    let P : List ℕ → Type 0 = λ x. Writes over a c f n x in
    subst P (sym (text_on lines older)) (writes_on over a b c f m n (text_of older) (text_of lines) p q)

-- ---- an observer that goes on
-- one that isn't over goes on
pub goes_of : (plan : Plan) (told : Told) (over : Option OutFault) (parting : Option Parting) (progress : Progress)
    (agree : Kept) (held holds : Option (List ℕ)) (before now : ℕ) → over ≡ None
    → IsToldBy plan told over parting progress agree held holds before now
    → GoesOn plan told progress agree held holds before now
goes_of plan told over parting progress agree held holds before now e t =
    let P : Option OutFault → Type 0 = λ x. IsToldBy plan told x parting progress agree held holds before now in
    by parting (subst P e t)
  where
    by : (parting : Option Parting) → IsToldBy plan told None parting progress agree held holds before now
        → GoesOn plan told progress agree held holds before now
    by None g = g
    by (Some why) g = absurd g

-- it took a sleep in, if one was told
pub wake_on : (plan : Plan) (start : Progress) (from : Standpoint) (slept : Bool) (notes : List Note)
    (was is : Progress) (old new : Kept) (held holds : Option (List ℕ)) (before now : ℕ)
    → GoesOn plan (told_of plan start notes) was old held holds before now → Wakes plan slept was is old new
    → GoesOn plan (told_of plan start (slept_notes from slept ++ notes)) is new held holds before now
wake_on plan start from true notes was is old new held holds before now g w = record {
  progress_so = w.0 ∙ ap after_sleep g.progress_so;
  agree_so = record { local = w.1.local; stands = w.1.stands };
  parting_so = ap (λ x. option_or x None) g.parting_so;
  wrote = g.wrote;
}
wake_on plan start from false notes was is old new held holds before now g w =
    let told = told_of plan start notes in
    let P : Progress → Type 0 = λ x. GoesOn plan told x new held holds before now in
    let Q : Kept → Type 0 = λ x. GoesOn plan told was x held holds before now in
    subst P (sym w.0) (subst Q (sym w.1) g)

-- it took an event in
pub step_on : (plan : Plan) (start : Progress) (from : Standpoint) (event : Event) (notes : List Note)
    (was is : Progress) (old new : Kept) (over : Option OutFault) (parting : Option Parting)
    (held mid holds : Option (List ℕ)) (before m now : ℕ)
    → GoesOn plan (told_of plan start notes) was old held mid before m
    → Steps plan event from.history was is old new over parting mid holds m now
    → IsTelling plan start over parting is new held holds before now (Happened from event ∷ notes)
step_on plan start from event notes was is old new over parting held mid holds before m now g steps =
    let told = told_of plan start notes in
    let P : Progress → Type 0 = λ x. IsStep plan event from.history told.answers x is new over parting mid holds m now
    in
    let step : IsStep plan event from.history told.answers told.progress is new over parting mid holds m now =
    subst P g.progress_so (steps told.answers g.agree_so)
    in
    by step.says.cause (telling.parting_by plan event from.history told.progress told.answers) refl step.says.over_so
    step.says.parting_so step.says.wrote step.progress_so step.agree_so
  where
    by : (cause : Option OutFault) (wanted : Option Parting)
        → wanted ≡ telling.parting_by plan event from.history (told_of plan start notes).progress (told_of plan start
        notes).answers
        → over ≡ over_by cause wanted → parting ≡ parting_by cause wanted
        → Writes cause mid holds m now (text_of (lines_by plan event from.history (told_of plan start notes).progress
        (told_of plan start notes).answers))
        → (cause ≡ None → is ≡ progress_after plan event from.history (told_of plan start notes).progress (told_of plan
        start notes).answers)
        → (cause ≡ None → IsOf plan new (answers_after plan event from.history (told_of plan start notes).answers))
        → IsTelling plan start over parting is new held holds before now (Happened from event ∷ notes)
    by None None w o p wrote progress agree =
        let P : Option OutFault → Type 0 = λ x. IsToldBy plan (told_of plan start (Happened from event ∷ notes)) x
        parting is new held holds before now in
        let Q : Option Parting → Type 0 = λ x. IsToldBy plan (told_of plan start (Happened from event ∷ notes)) None x
        is new held holds before now in
        subst P (sym o) (subst Q (sym p) (record {
          progress_so = progress refl;
          agree_so = agree refl;
          parting_so = ap (λ x. option_or x (telling.parting_by plan event from.history (told_of plan start
              notes).progress (told_of plan start notes).answers)) g.parting_so ∙ sym w;
          wrote = lines_on None held mid holds before m now (lines_by plan event from.history (told_of plan
              start notes).progress (told_of plan start notes).answers) (told_of plan start notes).lines g.wrote wrote;
        }))
    by None (Some why) w o p wrote progress agree =
        let P : Option OutFault → Type 0 = λ x. IsToldBy plan (told_of plan start (Happened from event ∷ notes)) x
        parting is new held holds before now in
        let Q : Option Parting → Type 0 = λ x. IsToldBy plan (told_of plan start (Happened from event ∷ notes)) (over_by
        None (Some why)) x is new held holds before now in
        subst P (sym o) (subst Q (sym p) (
          refl,
          record {
            progress_so = progress refl;
            parting_so = ap (λ x. option_or x (telling.parting_by plan event from.history (told_of plan start
                notes).progress (told_of plan start notes).answers)) g.parting_so ∙ sym w;
            wrote = lines_on None held mid holds before m now (lines_by plan event from.history (told_of plan
                start notes).progress (told_of plan start notes).answers) (told_of plan start notes).lines g.wrote
                wrote;
          },
        ))
    by (Some cause) wanted w o p wrote progress agree =
        let P : Option OutFault → Type 0 = λ x. IsToldBy plan (told_of plan start (Happened from event ∷ notes)) x
        parting is new held holds before now in
        let Q : Option Parting → Type 0 = λ x. IsToldBy plan (told_of plan start (Happened from event ∷ notes)) (Some
        cause) x is new held holds before now in
        subst P (sym o) (subst Q (sym p) (lines_on (Some cause) held mid holds before m now (lines_by plan event
        from.history (told_of plan start notes).progress (told_of plan start notes).answers) (told_of plan start
        notes).lines g.wrote wrote))

-- what was said of an end, it was said of an equal one
pub says_as : {over : Option OutFault} {parting wanted other : Option Parting} {held holds : Option (List ℕ)}
    {before now : ℕ} {bytes : List ℕ} → wanted ≡ other → Says over parting wanted held holds before now bytes
    → Says over parting other held holds before now bytes
says_as {over} {parting} {wanted} {other} {held} {holds} {before} {now} {bytes} e s =
    let P : Option Parting → Type 0 = λ x. Says over parting x held holds before now bytes in subst P e s

-- ---- notes of one run
pub from_older : (plan : Plan) (from : Standpoint) (slept : Bool) (notes : List Note)
    → AreFrom plan.run (slept_notes from slept ++ notes) → AreFrom plan.run notes
from_older plan from true notes a = a.1
from_older plan from false notes a = a

-- ---- what an observer saw
-- an event was told to one that isn't over
pub told_on : (plan : Plan) (start : Progress) (from : Standpoint) (event : Event) (notes : List Note)
    (over-old over : Option OutFault) (parting-old parting : Option Parting) (was is : Progress) (old new : Kept)
    (held mid holds : Option (List ℕ)) (before m now : ℕ) → over-old ≡ None
    → (AreFrom plan.run notes → IsTelling plan start over-old parting-old was old held mid before m notes)
    → (from.config ≡ plan.run → Steps plan event from.history was is old new over parting mid holds m now)
    → AreFrom plan.run (Happened from event ∷ notes)
    → IsTelling plan start over parting is new held holds before now (Happened from event ∷ notes)
told_on plan start from event notes over-old over parting-old parting was is old new held mid holds before m now e s
    steps a =
    step_on plan start from event notes was is old new over parting held mid holds before m now
    (goes_of plan (told_of plan start notes) over-old parting-old was old held mid before m e (s a.1)) (steps a.0)

-- the same, where a sleep may have been told before it
pub woke_on : (plan : Plan) (start : Progress) (from : Standpoint) (slept : Bool) (event : Event) (notes : List Note)
    (over-old over : Option OutFault) (parting-old parting : Option Parting) (was woke is : Progress)
    (old mid-old new : Kept) (held mid holds : Option (List ℕ)) (before m now : ℕ) → over-old ≡ None
    → (AreFrom plan.run notes → IsTelling plan start over-old parting-old was old held mid before m notes)
    → Wakes plan slept was woke old mid-old
    → (from.config ≡ plan.run → Steps plan event (slept_from from slept).history woke is mid-old new over parting mid
    holds m now)
    → AreFrom plan.run (Happened (slept_from from slept) event ∷ slept_notes from slept ++ notes)
    → IsTelling plan start over parting is new held holds before now (Happened (slept_from from slept) event
    ∷ slept_notes from slept ++ notes)
woke_on plan start from slept event notes over-old over parting-old parting was woke is old mid-old new held mid holds
    before m now e s w steps a =
    step_on plan start (slept_from from slept) event (slept_notes from slept ++ notes) woke is mid-old new over parting
    held mid holds before m now
    (wake_on plan start from slept notes was woke old mid-old held mid before m (goes_of plan (told_of plan start notes)
    over-old parting-old was old held mid before m e (s (from_older plan from slept notes a.1))) w)
    (steps a.0)

-- a sleep was told to one that isn't over
pub slept_on : (plan : Plan) (start : Progress) (from : Standpoint) (notes : List Note) (over : Option OutFault)
    (parting : Option Parting) (was is : Progress) (old new : Kept) (held holds : Option (List ℕ)) (before now : ℕ)
    → over ≡ None → IsTelling plan start over parting was old held holds before now notes
    → Wakes plan true was is old new
    → IsTelling plan start over parting is new held holds before now (Happened from Slept ∷ notes)
slept_on plan start from notes over parting was is old new held holds before now e t w =
    let P : Option OutFault → Type 0 = λ x. IsTelling plan start x parting was old held holds before now notes in
    let Q : Option OutFault → Type 0 = λ x. IsTelling plan start x parting is new held holds before now (Happened from
    Slept ∷ notes) in
    subst Q (sym e) (by parting (subst P e t))
  where
    by : (parting : Option Parting) → IsTelling plan start None parting was old held holds before now notes
        → IsTelling plan start None parting is new held holds before now (Happened from Slept ∷ notes)
    by None g = wake_on plan start from true notes was is old new held holds before now g w
    by (Some why) g = absurd g

-- what a call did by the plan of the observer, it did by an equal plan
pub steps_as : (own plan : Plan) (config : DriveConfig) (companion : Companion) (event : Event) (history : History)
    (was is : Progress) (old new : Kept) (over : Option OutFault) (parting : Option Parting)
    (held holds : Option (List ℕ)) (before now : ℕ) → own ≡ plan → config ≡ plan.run
    → Knows config.companion companion history
    → ((history : History) → Knows own.run.companion companion history
    → Steps own event history was is old new over parting held holds before now)
    → Steps plan event history was is old new over parting held holds before now
steps_as own plan config companion event history was is old new over parting held holds before now e c k steps =
    let P : Plan → Type 0 = λ x. Steps x event history was is old new over parting held holds before now in
    let Q : DriveConfig → Type 0 = λ x. Knows x.companion companion history in
    subst P e (steps history (subst Q (c ∙ sym (ap {A = Plan} (λ x. x.run) e)) k))

-- an answer was added
pub accepts_of : (own : Local) (reading : ℕ) (judged : Result Answer Landing) (answers : Answers) (answer : Answer)
    (old new : Kept) (between : Option Between) → own ≡ old.local → judged ≡ Ok answer → Adds old new answer reading
    → StandsFor old answers
    → ((added : Answers) → StandsFor new added → between ≡ between_in (agreed_of new.local reading added))
    → ((added : Answers) → StandsFor new added → is_some between ≡ disagree new.local reading added)
    → Accepts own reading judged answers new between
accepts_of own reading judged answers answer old new between l j adds s value some =
    let P : Result Answer Landing → Type 0 = λ x. Accepts own reading x answers new between in
    let same : new.local ≡ own = adds.local ∙ sym l in
    let stands = adds.stands answers s in
    subst P (sym j) (record {
      local = same;
      stands = stands;
      between_so = value (answer ∷ answers) stands
          ∙ ap (λ x. between_in (agreed_of x reading (answer ∷ answers))) same;
      parting_so = ap (λ x. cond x (Some parting.Disagree) None) (some (answer ∷ answers) stands
          ∙ ap (λ x. disagree x reading (answer ∷ answers)) same);
    })
