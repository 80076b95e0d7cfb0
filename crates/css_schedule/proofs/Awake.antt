-- No verb of version 1 is a sleep.
use Rattle.std.proofs.Common.{◌≡◌, refl, false, List, ℕ}
use Rattle.std.specs.Prelude.{codes, bytes_eq}
use Rattle.css_num.specs.Rates.{rate_of}
use Rattle.css_schedule.proofs.Steps.{First, Gets, pass, either}
use Rattle.css_schedule.specs.declared.line.Verb.{Verb}
use Rattle.css_schedule.specs.Owners.{is_sleep}
use Rattle.css_schedule.specs.Words.{word_at, ordinal_at, text_at, after_word, or_form}
use Rattle.css_schedule.specs.Lines.{time_at, position_at, kind_at, earliest_at, latest_at, command_at}
use Rattle.css_schedule.specs.Lines.{ask_at, take_at, give_at, land_at, wall_at, print_at, programme_at, timeline_at}
use Rattle.css_schedule.specs.Lines.{viewer_at, opening_at, bring_at, up_at, present_at, close_at, session_at}
use Rattle.css_schedule.specs.Lines.{timelines_at, operands_at, verb_at}

-- the verb is none
abbrev pub IsAwake : Verb → Type 0
IsAwake verb = is_sleep verb ≡ false

ask-awake : (words : List (List ℕ)) → Gets IsAwake (ask_at words)
unfolding ask_at
ask-awake words = pass (First IsAwake) (time_at words) _ (λ reading. refl)

take-awake : (words : List (List ℕ)) → Gets IsAwake (take_at words)
unfolding take_at
take-awake words =
    pass (First IsAwake) (ordinal_at words) _ (λ number. pass (First IsAwake) (time_at number.1) _ (λ reading. refl))

give-awake : (words : List (List ℕ)) → Gets IsAwake (give_at words)
unfolding give_at
give-awake words =
    pass (First IsAwake) (ordinal_at words) _ (λ number. pass (First IsAwake) (time_at number.1) _ (λ reading. refl))

land-awake : (words : List (List ℕ)) → Gets IsAwake (land_at words)
unfolding land_at
land-awake words =
    pass (First IsAwake) (ordinal_at words) _ (λ number. pass (First IsAwake) (time_at number.1) _ (λ reading. refl))

wall-awake : (words : List (List ℕ)) → Gets IsAwake (wall_at words)
unfolding wall_at
wall-awake words = pass (First IsAwake) (time_at words) _ (λ reading. refl)

print-awake : (words : List (List ℕ)) → Gets IsAwake (print_at words)
unfolding print_at
print-awake words = pass (First IsAwake) (time_at words) _ (λ reading. refl)

programme-awake : (words : List (List ℕ)) → Gets IsAwake (programme_at words)
unfolding programme_at
programme-awake words = pass (First IsAwake) (text_at words) _ (λ id. refl)

timeline-awake : (words : List (List ℕ)) → Gets IsAwake (timeline_at words)
unfolding timeline_at
timeline-awake words =
    pass (First IsAwake) (ordinal_at words) _ (λ programme.
    pass (First IsAwake) (text_at programme.1) _ (λ selector.
    pass (First IsAwake) (ordinal_at selector.1) _ (λ tick.
    pass (First IsAwake) (ordinal_at tick.1) _ (λ second.
    pass (First IsAwake) (position_at second.1) _ (λ base.
    pass (First IsAwake) (or_form (rate_of tick.0 second.0)) _ (λ rate. refl))))))

viewer-awake : (name words : _) → Gets IsAwake (viewer_at name words)
unfolding viewer_at
viewer-awake name words =
    pass (First IsAwake) (time_at words) _ (λ reading.
    pass (First IsAwake) (command_at name reading.1) _ (λ command. refl))

opening-awake : (words : List (List ℕ)) → Gets IsAwake (opening_at words)
unfolding opening_at
opening-awake words = pass (First IsAwake) (kind_at words) _ (λ kind. refl)

bring-awake : (words : List (List ℕ)) → Gets IsAwake (bring_at words)
unfolding bring_at
bring-awake words = pass (First IsAwake) (kind_at words) _ (λ kind. refl)

up-awake : (words : List (List ℕ)) → Gets IsAwake (up_at words)
unfolding up_at
up-awake words = pass (First IsAwake) (after_word (codes "ts") words) _ (λ rest. refl)

present-awake : (words : List (List ℕ)) → Gets IsAwake (present_at words)
unfolding present_at
present-awake words =
    pass (First IsAwake) (earliest_at words) _ (λ earliest.
    pass (First IsAwake) (latest_at earliest.1) _ (λ latest. refl))

close-awake : (words : List (List ℕ)) → Gets IsAwake (close_at words)
unfolding close_at
close-awake words = pass (First IsAwake) (kind_at words) _ (λ kind. refl)

session-awake : (name words : _) → Gets IsAwake (session_at name words)
unfolding session_at
session-awake name words =
    either (First IsAwake) (bytes_eq name (codes "open")) _ _ (opening-awake words)
    (either (First IsAwake) (bytes_eq name (codes "text")) _ _ (bring-awake words)
    (either (First IsAwake) (bytes_eq name (codes "up")) _ _ (up-awake words)
    (either (First IsAwake) (bytes_eq name (codes "present")) _ _ (present-awake words)
    (either (First IsAwake) (bytes_eq name (codes "close")) _ _ (close-awake words) (viewer-awake name words)))))

timelines-awake : (name words : _) → Gets IsAwake (timelines_at name words)
unfolding timelines_at
timelines-awake name words =
    either (First IsAwake) (bytes_eq name (codes "print")) _ _ (print-awake words)
    (either (First IsAwake) (bytes_eq name (codes "programme")) _ _ (programme-awake words)
    (either (First IsAwake) (bytes_eq name (codes "timeline")) _ _ (timeline-awake words) (session-awake name words)))

operands-awake : (name words : _) → Gets IsAwake (operands_at name words)
unfolding operands_at
operands-awake name words =
    either (First IsAwake) (bytes_eq name (codes "ask")) _ _ (ask-awake words)
    (either (First IsAwake) (bytes_eq name (codes "take")) _ _ (take-awake words)
    (either (First IsAwake) (bytes_eq name (codes "give")) _ _ (give-awake words)
    (either (First IsAwake) (bytes_eq name (codes "land")) _ _ (land-awake words)
    (either (First IsAwake) (bytes_eq name (codes "wall")) _ _ (wall-awake words) (timelines-awake name words)))))

pub verb-awake : (words : List (List ℕ)) → Gets IsAwake (verb_at words)
unfolding verb_at
verb-awake words = pass (First IsAwake) (word_at words) _ (λ name. operands-awake name.0 name.1)
