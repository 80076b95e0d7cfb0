-- What both ends did at accepted lines, by their last line.
use Rattle.std.proofs.Common.{◌≡◌, ◌≢◌, ℕ, refl, ap, Bool, true, false, cond, List, ◌∷◌, ◌++◌, ne_eqb, Result, Ok, Err}
use Rattle.std.proofs.Common.{eq-eqb, option_to_list}
use Rattle.css_meaning.specs.declared.fault.WorldFault.TheVariants.{Absent}
use Rattle.css_meaning.specs.Happened.{Numbered, datagrams, event_by, done_by, events_of, history_of}
use Rattle.css_meaning.specs.Verdicts.{can_exchange, can_talk, can_happen}
use Rattle.css_meaning.specs.Accepted.{AreAccepted}
use Rattle.css_meaning.proofs.Names.{and_parts, History, TvEvent, Header, Verb}
use Rattle.css_meaning.proofs.Worlds.{carried_ok}

-- ---- one line more
-- the television's events after a verb of companion `who`
abbrev pub events_with : ℕ → List TvEvent → History → Verb → List TvEvent
events_with who events own verb = option_to_list (event_by who events own verb) ++ events

-- so they are after a line
pub events_now : (header : Header) (now : Numbered) (older : List Numbered) (who : ℕ) → now.line.who ≡ who
    → events_of header (now ∷ older)
    ≡ events_with who (events_of header older) (history_of who header older) now.line.verb
events_now header now older who is =
    let events = events_of header older in
    ap (λ who. option_to_list (event_by who events (history_of who header older) now.line.verb) ++ events) is

-- the history of a companion after a line of its own
pub history_now : (header : Header) (now : Numbered) (older : List Numbered) (who : ℕ) → now.line.who ≡ who
    → history_of who header (now ∷ older)
    ≡ done_by header who (datagrams header older) (events_of header older) now.line.verb (history_of who header older)
history_now header now older who is =
    let own = history_of who header older in
    let done = done_by header who (datagrams header older) (events_of header older) now.line.verb own in
    ap (λ b. cond b done own) (eq-eqb now.line.who who is)

-- and after one of another companion
pub history_other : (header : Header) (now : Numbered) (older : List Numbered) (who : ℕ) → now.line.who ≢ who
    → history_of who header (now ∷ older) ≡ history_of who header older
history_other header now older who other =
    let own = history_of who header older in
    let done = done_by header who (datagrams header older) (events_of header older) now.line.verb own in
    ap (λ b. cond b done own) (ne_eqb now.line.who who other)

-- ---- what is accepted
-- what ends in Ok took the first branch
then_ok : {A E : Type 0} (b : Bool) (r : Result A E) (f : E) (y : A) → cond b r (Err f) ≡ Ok y → b ≡ true
then_ok true r f y e = refl
then_ok false r f y e = absurd (cc)

-- what an accepted line says can happen
can_happen_now : (header : Header) (now : Numbered) (older : List Numbered) (who : ℕ) → now.line.who ≡ who
    → AreAccepted header (now ∷ older) → can_happen header older who now.line.verb ≡ true
can_happen_now header now older who own accepted =
    rw own at (then_ok (can_happen header older now.line.who now.line.verb) _ Absent accepted.3.0
    (carried_ok header older now accepted.3.0 accepted.3.1))

-- of requests, takes and datagrams
pub can_exchange_now : (header : Header) (now : Numbered) (older : List Numbered) (who : ℕ) → now.line.who ≡ who
    → AreAccepted header (now ∷ older) → can_exchange header older who now.line.verb ≡ true
can_exchange_now header now older who own accepted =
    (and_parts (can_exchange header older who now.line.verb)
    (can_talk who (events_of header older) (history_of who header older) now.line.verb)
    (can_happen_now header now older who own accepted)).0

-- and between the ends
pub can_talk_now : (header : Header) (now : Numbered) (older : List Numbered) (who : ℕ) → now.line.who ≡ who
    → AreAccepted header (now ∷ older)
    → can_talk who (events_of header older) (history_of who header older) now.line.verb ≡ true
can_talk_now header now older who own accepted =
    (and_parts (can_exchange header older who now.line.verb)
    (can_talk who (events_of header older) (history_of who header older) now.line.verb)
    (can_happen_now header now older who own accepted)).1
