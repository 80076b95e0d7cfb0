-- Which answers a visit holds together.
use Rattle.std.proofs.Common.{◌≡◌, ◌∙◌, ℕ, ap, sym, refl, List, [], ◌∷◌, Bool, true, false, cond}
use Rattle.std.proofs.Common.{Option, Some, None, Result, Ok, Err, length}
use Rattle.std.specs.Prelude.{◌+◌, ◌==◌}
use Rattle.std.specs.Option.{option_map}
use Rattle.css_client.proofs.Judging as judging
use Rattle.css_client.specs.Landings.{judged_by, awaited_if, with_judged}
use Rattle.css_client.specs.declared.landing.Landing.TheVariants as landings
use Rattle.css_drive.specs.CompanionReports.{is_due, report_at, due_reports}
use Rattle.css_drive.specs.CompanionTurns.{first_turn, turn_at}
use Rattle.css_drive.specs.Notes as notes
use Rattle.css_drive.specs.Notes.{Event, Note, Reported, Standpoint, asking, event_of, landing, noted, session_at}
use Rattle.css_drive.specs.Notes.{standpoint, with_event, with_report}
use Rattle.css_drive.specs.declared.session.Session.{Session}
use Rattle.css_model.specs.History as entries
use Rattle.css_model.specs.History.{Clock, Entry, History, Slept, Took, accepted_answers, is_asked}
use Rattle.css_model.specs.WallClock.{Local}
use Rattle.css_model.specs.Wire.{decoded}
use Rattle.css_model.specs.declared.Message.{Message}
use Rattle.css_model.specs.declared.WcFault.{WcFault}
use Rattle.css_model.specs.declared.Why.TheVariants as why
use Rattle.css_span.specs.Frontiers.{Answers}
use Rattle.css_watch.specs.Telling.{answers_after, told_of}
use Rattle.css_watch.specs.declared.plan.Plan.{Plan}
use Rattle.css_watch.specs.declared.progress.Progress.{Progress}

-- the answers after an event, if there is one
answers_by : Plan → Option Event → History → Answers → Answers
answers_by plan None history answers = answers
answers_by plan (Some event) history answers = answers_after plan event history answers

-- ---- landings
-- nothing is asked any more
unasked : (own : Local) (history : History) (reading : ℕ) (read : Result Message WcFault) (answers : Answers)
    → with_judged (judged_by own (Slept ∷ history) reading (awaited_if (λ originate. is_asked originate
    (Slept ∷ history))
    read)) answers ≡ answers
unasked own history reading (Err fault) answers = refl
unasked own history reading (Ok message) answers = by (message.message_type == 0)
  where
    by : (b : Bool) → with_judged (judged_by own (Slept ∷ history) reading (cond b (Err landings.NotAnAnswer) (Err
        landings.Unasked))) answers ≡ answers
    by true = refl
    by false = refl

-- after a sleep nothing lands
asleep : (plan : Plan) (history : History) (reading : ℕ) (taken : Option (List ℕ))
    → answers_by plan (option_map (notes.Landed reading) taken) (Slept ∷ history) [] ≡ []
unfolding answers_by
asleep plan history reading None = refl
asleep plan history reading (Some bytes) =
    unasked plan.run.companion.local history reading (decoded bytes) []

landed : (plan : Plan) (reading : ℕ) (older : History)
    → answers_by plan (option_map (notes.Landed reading) (landing older)) older
    (accepted_answers plan.run.companion.local older)
    ≡ accepted_answers plan.run.companion.local (Clock why.Land reading ∷ older)
unfolding answers_by
landed plan reading [] = refl
landed plan reading (Took peer bytes ∷ history) =
    sym (judging.landings_are_judged plan.run.companion.local history peer reading bytes).accepted
landed plan reading (Slept ∷ history) = asleep plan history reading (landing history)
landed plan reading (Clock w other ∷ history) = refl
landed plan reading (entries.Listening host port ∷ history) = refl
landed plan reading (entries.Dialling kind to ∷ history) = refl
landed plan reading (entries.Dialled kind peer ∷ history) = refl
landed plan reading (entries.NotDialled kind failure ∷ history) = refl
landed plan reading (entries.Accepted peer kind ∷ history) = refl
landed plan reading (entries.NoneCame ∷ history) = refl
landed plan reading (entries.Sent peer bytes ∷ history) = refl
landed plan reading (entries.TookNone ∷ history) = refl
landed plan reading (entries.Quiet peer ∷ history) = refl
landed plan reading (entries.Heard peer bytes ∷ history) = refl
landed plan reading (entries.Closed peer ∷ history) = refl
landed plan reading (entries.Wrote peer bytes ∷ history) = refl
landed plan reading (entries.Gone peer ∷ history) = refl
landed plan reading (entries.HungUp peer ∷ history) = refl

-- ---- other entries
asked : (plan : Plan) (o : Option ℕ) (older : History) (answers : Answers)
    → answers_by plan (option_map notes.Asked o) older answers ≡ answers
unfolding answers_by
asked plan None older answers = refl
asked plan (Some reading) older answers = refl

heard : (plan : Plan) (o : Option Session) (bytes : List ℕ) (older : History) (answers : Answers)
    → answers_by plan (option_map (λ which. notes.Heard which bytes) o) older answers ≡ answers
unfolding answers_by
heard plan None bytes older answers = refl
heard plan (Some which) bytes older answers = refl

closed : (plan : Plan) (o : Option Session) (older : History) (answers : Answers)
    → answers_by plan (option_map notes.Closed o) older answers ≡ answers
unfolding answers_by
closed plan None older answers = refl
closed plan (Some which) older answers = refl

step : (plan : Plan) (entry : Entry) (older : History)
    → answers_by plan (event_of entry older) older (accepted_answers plan.run.companion.local older)
    ≡ accepted_answers plan.run.companion.local (entry ∷ older)
unfolding answers_by
step plan Slept older = refl
step plan (Clock why.Land reading) older = landed plan reading older
step plan (Clock why.Turn reading) older = refl
step plan (Clock why.Ask reading) older = refl
step plan (Clock why.Take reading) older = refl
step plan (Clock why.Give reading) older = refl
step plan (Took peer bytes) older = refl
step plan (entries.Listening host port) older = refl
step plan (entries.Dialling kind to) older = refl
step plan (entries.Dialled kind peer) older = refl
step plan (entries.NotDialled kind failure) older = refl
step plan (entries.Accepted peer kind) older = refl
step plan entries.NoneCame older = refl
step plan (entries.Sent peer bytes) older = asked plan (asking older) older _
step plan entries.TookNone older = refl
step plan (entries.Quiet peer) older = refl
step plan (entries.Heard peer bytes) older = heard plan (session_at peer older) bytes older _
step plan (entries.Closed peer) older = closed plan (session_at peer older) older _
step plan (entries.Wrote peer bytes) older = refl
step plan (entries.Gone peer) older = closed plan (session_at peer older) older _
step plan (entries.HungUp peer) older = refl

-- ---- notes
event_answers : (plan : Plan) (start : Progress) (older : History) (o : Option Event) (rest : List Note)
    → (told_of plan start (with_event (standpoint plan.run older) o rest)).answers
    ≡ answers_by plan o older (told_of plan start rest).answers
unfolding answers_by
event_answers plan start older None rest = refl
event_answers plan start older (Some event) rest = refl

report_answers : (plan : Plan) (start : Progress) (older : History) (turn : Option ℕ) (rest : List Note)
    → (told_of plan start (with_report plan.run turn older rest)).answers ≡ (told_of plan start rest).answers
report_answers plan start older None rest = refl
report_answers plan start older (Some reading) rest =
    at (is_due plan.run.report_every reading (first_turn older) (length (due_reports plan.run older)))
  where
    at : (b : Bool) → (told_of plan start (cond b (Reported (standpoint plan.run older) (length (due_reports plan.run
        older) + 1) (report_at plan.run older reading) ∷ rest) rest)).answers ≡ (told_of plan start rest).answers
    at true = refl
    at false = refl

pub answers_of : (plan : Plan) (start : Progress) (history : History)
    → (told_of plan start (noted plan.run history)).answers ≡ accepted_answers plan.run.companion.local history
answers_of plan start [] = refl
answers_of plan start (entry ∷ older) =
    report_answers plan start older (turn_at entry) (with_event (standpoint plan.run older)
    (event_of entry older) (noted
    plan.run older))
    ∙ event_answers plan start older (event_of entry older) (noted plan.run older)
    ∙ ap (answers_by plan (event_of entry older) older) (answers_of plan start older)
    ∙ step plan entry older
