-- A datagram that lands.
use Rattle.std.proofs.Common.{◌≡◌, ◌≢◌, ℕ, ◌<◌, ◌≤◌, arith, ap, sym, ◌∙◌, subst, Bool}
use Rattle.std.proofs.Common.{true, false, cond, inl, inr, List, ◌∷◌, ◌++◌, refl}
use Rattle.std.specs.Prelude.{Option, Some, None, IfSome, Result, Ok, Err, ◌==◌, not, int_lt, pos, unwrap_or, ⊤}
use Rattle.std.specs.List.{list_any}
use Rattle.std.specs.Option.{option_or, option_map, option_and_then, option_to_list}
use Rattle.std.specs.Result.{result_ok}
use Rattle.std.proofs.lemmas.Bool.Decides.{eqb_tells}
use Rattle.std.proofs.lemmas.Option.{MatchOption-at_some}
use Rattle.css_model.specs.declared.Stamp.{Stamp}
use Rattle.css_model.specs.declared.Message.{Message}
use Rattle.css_model.specs.declared.WcFault.{WcFault}
use Rattle.css_model.specs.declared.Why.TheVariants as why
use Rattle.css_model.specs.Numbers.{precision_ns}
use Rattle.css_model.specs.WallClock.{Answer, Local, scaled_width}
use Rattle.css_model.specs.Wire.{stamp_of, reading_of, is_same_stamp, decoded}
use Rattle.css_model.specs.World.{World, Errors, IsWorldFor}
use Rattle.css_model.specs.History.{Clock, Took, History, sleeps, asking_at, is_asked, LandedAnswer}
use Rattle.css_model.specs.History.{landed_answer, landed_answers, is_promise_of, first_promised_at}
use Rattle.css_model.specs.History.{times_of, is_possible, possible_answers}
use Rattle.css_model.specs.Explains.{IsLawful, HappensIn, IsTruthful, IsAccepted}
use Rattle.css_model.proofs.Wall.{truth_is_accepted}
use Rattle.css_span.specs.Frontiers as frontiers
use Rattle.css_span.specs.Frontiers.{Frontier, Accepts}
use Rattle.css_client.specs.declared.promises.Promise.{Promise}
use Rattle.css_client.specs.declared.landing.Landing.{Landing}
use Rattle.css_client.specs.declared.landing.Landing.TheVariants as landings
use Rattle.css_client.specs.Clients.{Client, local_of, first_landed, answer_of, Remembers}
use Rattle.css_client.specs.Landings.{verdict, landing_of, landing_of_decoded}
use Rattle.css_client.specs.Standing.{StandsFor, IsBelow, IsCurrent}
use Rattle.css_client.proofs.Rings.{list_any-map}
use Rattle.css_client.proofs.Aside.{stands_aside}
use Rattle.css_model.proofs.Requests.{each_weaker}
use Rattle.css_client.proofs.Forgetting.{remembers_after, never_fall-later}

-- whether an answer may come, by what the client knows
pub asked_by_client : (client : Client) (history : History) (originate : Stamp) → StandsFor client history
    → is_asked originate history ≡ list_any (λ request. is_same_stamp (stamp_of request) originate) client.asked
asked_by_client client history o stands =
    ap (λ (rs : List Stamp). list_any (λ asked. is_same_stamp asked o) rs) stands.asked
    ∙ list_any-map (λ asked. is_same_stamp asked o) stamp_of client.asked

-- ---- refused
-- the datagram itself changes nothing yet
pub stands_taken : (client : Client) (history : History) (peer : ℕ) (bytes : List ℕ) → StandsFor client history
    → StandsFor client (Took peer bytes ∷ history)
stands_taken client history peer bytes stands =
    stands_aside client history (Took peer bytes) stands (record {
      awake = refl;
      asks_none = refl;
      sends_none = refl;
      lands_none = refl;
    })

-- where nothing lands, the client stands for the history as it is
pub stands_refused : (client : Client) (history : History) (peer reading : ℕ) (bytes : List ℕ)
    → StandsFor client history
    → landed_answer (Clock why.Land reading) (Took peer bytes ∷ history) ≡ None
    → StandsFor client (Clock why.Land reading ∷ Took peer bytes ∷ history)
stands_refused client history peer reading bytes stands none =
    stands_aside client (Took peer bytes ∷ history) (Clock why.Land reading)
    (stands_taken client history peer bytes stands)
    (record { awake = refl; asks_none = refl; sends_none = refl; lands_none = none })

-- ---- landed
pub asked-landed : (peer reading : ℕ) (bytes : List ℕ) (history : History) (message : Message)
    → decoded bytes ≡ Ok message
    → (message.message_type == 0) ≡ false → is_asked message.originate history ≡ true
    → landed_answer (Clock why.Land reading) (Took peer bytes ∷ history)
    ≡ Some (record { message = message; reading = reading })
asked-landed peer reading bytes history message e f g = rw (e, f, g) refl

-- what the client takes the answer for is what it is
pub same_times : (client : Client) (history : History) (reading : ℕ) (message : Message) → StandsFor client history
    → is_asked message.originate history ≡ true
    → answer_of client.promises reading message
    ≡ times_of (record { message = message; reading = reading }) (landed_answers history)
same_times client history reading message stands g =
    let of_first : Option ℕ → Answer = λ first. record {
      t1 = reading_of message.originate;
      t2 = reading_of message.receive;
      t3 = reading_of message.transmit;
      t4 = cond (message.message_type == 3) (unwrap_or first reading) reading;
      precision = precision_ns message.precision;
      error = message.error;
    } in
    ap of_first (stands.promises message (inl g))

-- what becomes of an answer to a request that is asked, by what the client remembers
pub asked-landing : (client : Client) (history : History) (reading : ℕ) (bytes : List ℕ) (message : Message)
    → StandsFor client history
    → decoded bytes ≡ Ok message → (message.message_type == 0) ≡ false → is_asked message.originate history ≡ true
    → landing_of (local_of client) history reading bytes
    ≡ verdict (local_of client) reading (answer_of client.promises reading message)
asked-landing client history reading bytes message stands e f g =
    of_message ∙ ap (λ (a : Answer). verdict (local_of client) reading a)
    (sym (same_times client history reading message stands g))
  where
    of_message : landing_of (local_of client) history reading bytes ≡ verdict (local_of client) reading
        (times_of (record { message = message; reading = reading }) (landed_answers history))
    of_message = rw (e, f, g) refl

-- what is known of promises after a landing
first_landed-after : (follow_up message : Message) (reading : ℕ) (old new : List Promise)
    → Remembers reading message old new
    → first_landed follow_up.originate follow_up.receive new
    ≡ option_or (first_landed follow_up.originate follow_up.receive old)
    (cond (is_promise_of (record { message = message; reading = reading }) follow_up) (Some reading) None)
first_landed-after m message reading old new remembers = elim (eqb_tells message.message_type 2) [
  | inl same ↦ rw same.0 ((remembers.0 same.1).values m.originate m.receive)
  | inr other ↦ rw other.0 (ap (λ (ps : List Promise). first_landed m.originate m.receive ps) (remembers.1 other.1)
      ∙ none_too (first_landed m.originate m.receive old))
]
  where
    none_too : (x : Option ℕ) → x ≡ option_or x None
    none_too None = refl
    none_too (Some y) = refl

-- the client after an answer landed
abbrev pub after_landing : Client → ℕ → List Promise → Frontier → Client
after_landing client reading promises estimate = record {
  asked = client.asked;
  promises = promises;
  estimate = estimate;
  floor = reading;
  after_sleep = client.after_sleep;
}

-- the estimate after it
estimate_landed : (own : Local) (reading : ℕ) (message : Message) (older : List LandedAnswer)
    (old new : Frontier) (landing : Landing)
    → old.local ≡ own
    → frontiers.StandsFor old (possible_answers own older)
    → landing ≡ verdict own reading (times_of (record { message = message; reading = reading }) older)
    → (landing ≡ landings.Accepted
    → Accepts old new (times_of (record { message = message; reading = reading }) older) reading)
    → (landing ≢ landings.Accepted → new ≡ old)
    → (new.local ≡ own)
    × frontiers.StandsFor new (possible_answers own (record { message = message; reading = reading } ∷ older))
estimate_landed own reading message older old new landing local stands is accepted refused =
    by (int_lt (scaled_width own (times_of (record { message = message; reading = reading }) older) reading) (pos 0)) is
  where
    by : (t : Bool)
        → landing ≡ cond t (landings.Impossible (scaled_width own
        (times_of (record { message = message; reading = reading }) older) reading)) landings.Accepted
        → (new.local ≡ own) × frontiers.StandsFor new (option_to_list (cond (not t) (Some (times_of (record {
          message = message;
          reading = reading;
        }) older)) None) ++ possible_answers own older)
    by true e =
        let same : new ≡ old = refused (λ h. cc) in (
          ap (λ (f : Frontier). f.local) same ∙ local,
          subst (λ (f : Frontier). frontiers.StandsFor f (possible_answers own older)) (sym same) stands,
        )
    by false e =
        let a = accepted e in
        (a.local ∙ local, a.stands (possible_answers own older) stands)

-- the client after an answer landed stands for the history with it
pub stands_landed : (client : Client) (history : History) (peer reading : ℕ) (bytes : List ℕ) (message : Message)
    (promises : List Promise) (estimate : Frontier) (landing : Landing)
    → StandsFor client history → client.floor ≤ reading
    → decoded bytes ≡ Ok message → (message.message_type == 0) ≡ false → is_asked message.originate history ≡ true
    → landing ≡ verdict (local_of client) reading (answer_of client.promises reading message)
    → (landing ≡ landings.Accepted
    → Accepts client.estimate estimate (answer_of client.promises reading message) reading)
    → (landing ≢ landings.Accepted → estimate ≡ client.estimate)
    → Remembers reading message client.promises promises
    → StandsFor (after_landing client reading promises estimate)
    (Clock why.Land reading ∷ Took peer bytes ∷ history)
stands_landed client history peer reading bytes message promises estimate landing stands less e f g is
    accepted refused remembers =
    let own = local_of client in
    let times = same_times client history reading message stands g in
    let is_landed : landed_answers (Clock why.Land reading ∷ Took peer bytes ∷ history)
    ≡ record { message = message; reading = reading } ∷ landed_answers history =
    rw (asked-landed peer reading bytes history message e f g) refl in
    let new = estimate_landed own reading message
    (landed_answers history) client.estimate estimate landing refl stands.estimate
    (is ∙ ap (λ (a : Answer). verdict own reading a) times)
    (λ h. subst (λ (a : Answer). Accepts client.estimate estimate a reading) times (accepted h)) refused in
    record {
      lawful = record { rises = (tt, (tt, stands.lawful.rises)); asks = (tt, (tt, stands.lawful.asks)) };
      asked = stands.asked;
      promises = λ follow_up current.
          first_landed-after follow_up message reading client.promises promises remembers
          ∙ ap (λ (o : Option ℕ). option_or o
          (cond (is_promise_of (record { message = message; reading = reading }) follow_up) (Some reading) None))
          (stands.promises follow_up (before follow_up.originate current))
          ∙ ap (λ (ls : List LandedAnswer). first_promised_at follow_up ls) (sym is_landed);
      only = remembers_after client.asked client.promises promises reading message
          (sym (asked_by_client client history message.originate stands) ∙ g) remembers stands.only;
      rising = never_fall-later client.floor reading client.asked less stands.rising;
      estimate =
          subst (λ (ls : List LandedAnswer). frontiers.StandsFor estimate (possible_answers estimate.local ls))
          (sym is_landed)
          (subst (λ (l : Local). frontiers.StandsFor estimate (possible_answers l
          (record { message = message; reading = reading } ∷ landed_answers history))) (sym new.0) new.1);
      below = (
        tt,
        (
          tt,
          each_weaker (IsBelow client (sleeps history))
              (IsBelow (after_landing client reading promises estimate) (sleeps history))
              (λ earlier older below. raised (asking_at earlier) (sleeps older) below) history stands.below,
        ),
      );
    }
  where
    before : (originate : Stamp) → IsCurrent reading originate history → IsCurrent client.floor originate history
    before o (inl found) = inl found
    before o (inr later) = inr (omega arith)

    raised : (o : Option ℕ) (slept : ℕ)
        → IfSome o (λ asked. (asked < client.after_sleep) × (slept < sleeps history → asked < client.floor))
        → IfSome o (λ asked. (asked < client.after_sleep) × (slept < sleeps history → asked < reading))
    raised None slept h = tt
    raised (Some asked) slept h = (h.0, λ earlier. omega (arith, h.1 earlier))

-- ---- truthful
-- what landed has the verdict of its times
landing_of-landed : (own : Local) (history : History) (peer reading : ℕ) (bytes : List ℕ) (landed : LandedAnswer)
    → landed_answer (Clock why.Land reading) (Took peer bytes ∷ history) ≡ Some landed
    → landing_of own history reading bytes ≡ verdict own landed.reading (times_of landed (landed_answers history))
landing_of-landed own history peer reading bytes landed = by (decoded bytes)
  where
    asked : (message : Message) (t : Bool)
        → option_map (λ m. record { message = m; reading = reading }) (cond t (Some message) None) ≡ Some landed
        → cond t (verdict own reading
        (times_of (record { message = message; reading = reading }) (landed_answers history))) landings.Unasked
        ≡ verdict own landed.reading (times_of landed (landed_answers history))
    asked message true e =
        let same : record { message = message; reading = reading } ≡ landed = cc in
        ap (λ (l : LandedAnswer). verdict own l.reading (times_of l (landed_answers history))) same
    asked message false e = absurd (cc)

    answer : (message : Message) (t : Bool)
        → option_map (λ m. record { message = m; reading = reading }) (option_and_then (λ m. cond
        (is_asked m.originate history) (Some m) None) (cond t None (Some message))) ≡ Some landed
        → cond t landings.NotAnAnswer (cond (is_asked message.originate history) (verdict own reading
        (times_of (record { message = message; reading = reading }) (landed_answers history))) landings.Unasked)
        ≡ verdict own landed.reading (times_of landed (landed_answers history))
    answer message true e = absurd (cc)
    answer message false e = asked message (is_asked message.originate history) e

    by : (d : Result Message WcFault)
        → option_map (λ m. record { message = m; reading = reading })
        (option_and_then (λ m. cond (is_asked m.originate history) (Some m) None)
        (option_and_then (λ m. cond (m.message_type == 0) None (Some m)) (result_ok d))) ≡ Some landed
        → landing_of_decoded own history reading d
        ≡ verdict own landed.reading (times_of landed (landed_answers history))
    by (Err fault) e = absurd (cc)
    by (Ok message) e = answer message (message.message_type == 0) e

-- what is possible is accepted
accepted-possible : (own : Local) (landed : LandedAnswer) (older : List LandedAnswer)
    → is_possible own landed older ≡ true
    → verdict own landed.reading (times_of landed older) ≡ landings.Accepted
accepted-possible own landed older = by (int_lt (scaled_width own (times_of landed older) landed.reading) (pos 0))
  where
    by : (t : Bool) → not t ≡ true
        → cond t (landings.Impossible (scaled_width own (times_of landed older) landed.reading)) landings.Accepted
        ≡ landings.Accepted
    by true e = absurd (cc)
    by false e = refl

-- so a truthful answer is accepted by every client that stands for the history
pub truth_lands : (client : Client) (history : History) (peer reading : ℕ) (bytes : List ℕ) (errors : Errors)
    (world : World) (who : ℕ) (moment_of : ℕ → ℕ) (landed : LandedAnswer)
    → StandsFor client history → IsWorldFor errors world who (local_of client)
    → HappensIn world who (local_of client) (Clock why.Land reading ∷ Took peer bytes ∷ history) moment_of
    → landed_answer (Clock why.Land reading) (Took peer bytes ∷ history) ≡ Some landed
    → IsTruthful world errors.tv moment_of landed (Took peer bytes ∷ history)
    → landing_of (local_of client) history reading bytes ≡ landings.Accepted
truth_lands client history peer reading bytes errors world who moment_of landed stands for happens e truth =
    let own = local_of client in
    let lawful : IsLawful (Clock why.Land reading ∷ Took peer bytes ∷ history) =
    record { rises = (tt, (tt, stands.lawful.rises)); asks = (tt, (tt, stands.lawful.asks)) } in
    let each = truth_is_accepted errors world who own
    (Clock why.Land reading ∷ Took peer bytes ∷ history) moment_of for lawful happens in
    let accepted : IsAccepted own landed (Clock why.Land reading) (Took peer bytes ∷ history) =
    MatchOption-at_some ⊤ (λ (l : LandedAnswer). IsTruthful world errors.tv moment_of l (Took peer bytes ∷ history)
    → IsAccepted own l (Clock why.Land reading) (Took peer bytes ∷ history))
    landed e each.0 truth in
    landing_of-landed own history peer reading bytes landed e
    ∙ accepted-possible own landed (landed_answers history) accepted.possible
