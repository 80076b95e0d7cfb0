-- What each datagram of a relay's whole run is, why what it sends in answer answers a request that it took, and what is
-- read from that.
use Rattle.std.proofs.Common.{◌≡◌, ℕ, ◌≤◌, arith, ap, ◌∙◌, subst, refl, List, [], ◌∷◌, sym, Some, Result, Ok, Err, inl}
use Rattle.std.proofs.Common.{inr, length, take}
use Rattle.std.specs.Prelude.{◌⊎◌, ⊤}
use Rattle.std.proofs.lemmas.Option.{IfSome_then}
use Rattle.css_model.specs.declared.Message.{Message}
use Rattle.css_model.specs.WallClock.{Local}
use Rattle.css_model.specs.Wire.{encoded, decoded, fault}
use Rattle.css_model.specs.World.{World, Errors, IsWorldFor, IsInRange}
use Rattle.css_model.specs.History.{History, LandedAnswer, landed_answer, Entry, Once, Clock, Each, Slept, Sent}
use Rattle.css_relay.specs.Answers.{Ticket, received_after, answered_after}
use Rattle.css_relay.specs.TwoHops.{IsTrueResponse, IsAnswerOf}
use Rattle.css_relay.specs.declared.fault.RelayFault.{RelayFault}
use Rattle.std.specs.Result.{result_ok}
use Rattle.css_drive_relay.specs.Places.{Place, Facts, Received, Answers, progress_of, received, Asking}
use Rattle.css_drive_relay.specs.Laws.{IsAnswerTo, AnswersAreTrueTo}
use Rattle.css_drive_relay.proofs.Follows.{on_received, on_answered, Follows, Followed, followed, IsTimed, IsToSend}
use Rattle.css_drive_relay.specs.declared.plan.Plan.{Plan}
use Rattle.css_drive_relay.specs.SecondHop.{given_at, given_by, IsRequest, IsResponse, IsSentAt, SentIsKnown, IsGiven}
use Rattle.css_drive_relay.specs.SecondHop.{last_take, GivenIsTrue, IsTrueAnswer, IsFromRun, FromRunAt}
use Rattle.css_drive_relay.specs.SecondHop.{SecondHopsAreTrue}
use Rattle.css_model.specs.Explains.{IsLawful, IsTruthful, TruthfulAt, Explains}
use Rattle.css_model.proofs.Wall.{wall_is_true}
use Rattle.css_drive_relay.specs.Due.{IsProperRelay}
use Rattle.css_model.specs.declared.Why.TheVariants as why
use Rattle.css_relay.proofs.TwoHops as two
use Rattle.css_drive_relay.specs.Places as places
use Rattle.css_relay.proofs.ReadBack.{reads_back, true_as, without_originate}

-- ---- requests that were taken
-- a request was taken, and this is its ticket: `so` says of the reading and of what came before it when
abbrev TakenSo : (ℕ → History → Type 0) → Local → Ticket → Type 0
TakenSo so own ticket = (request : List ℕ) × (take : ℕ) × (before : History) × so take before
    × (received_after own before take request ≡ Ok ticket)

-- in the history
abbrev HasTaken : Local → History → Ticket → Type 0
HasTaken own history =
    TakenSo (λ take before. Once (λ entry older. (entry ≡ Clock why.Take take) × (older ≡ before)) history) own

-- what the place says of the history
abbrev Says : Local → History → Place → Type 0
Says own history (Received peer ticket) = HasTaken own history ticket
Says own history (Answers peer bytes) = IsAnswerTo own history bytes
Says own history _ = Unit {0}

-- an entry more
abbrev pub answer_later : {own : Local} {history : History} {message : Message} (entry : Entry)
    → IsAnswerOf own history message → IsAnswerOf own (entry ∷ history) message
answer_later entry x = record {
  request = x.request;
  ticket = x.ticket;
  take = x.take;
  give = x.give;
  before_take = x.before_take;
  before_give = x.before_give;
  taken = x.taken;
  given = inr x.given;
  received = x.received;
  answered = x.answered;
}

says_later : (own : Local) (history : History) (entry : Entry) (place : Place) → Says own history place
    → Says own (entry ∷ history) place
says_later own history entry (Received peer ticket) (request, take, before, taken, received) =
    (request, take, before, inr taken, received)
says_later own history entry (Answers peer bytes) t =
    record { message = t.message; wire = t.wire; answer = answer_later entry t.answer }
says_later own history entry _ t = tt

-- an entry that gives no request and no answer leaves the place, or leads to one that says nothing
abbrev IsOther : Entry → Type 0
IsOther (Clock why.Take reading) = ⊥
IsOther (Clock why.Give reading) = ⊥
IsOther _ = ⊤

after_other : (plan : Plan) (older : History) (entry : Entry) → IsOther entry → (f : Facts) (place : Place)
    → Says plan.run.companion.local older place
    → Says plan.run.companion.local (entry ∷ older)
    (places.after plan entry older (record { facts = f; place = place })).place
after_other plan older entry is f place t =
    let later = says_later plan.run.companion.local older entry place t in grind (arith, is, later)

-- ---- the clock
-- what is answered once a request was taken is an answer
abbrev answer_from : {own : Local} {history : History} {reading : ℕ} {ticket : Ticket} {message : Message}
    → HasTaken own history ticket → answered_after own history reading ticket ≡ Ok message
    → IsAnswerOf own (Clock why.Give reading ∷ history) message
answer_from {history = history} {reading} {ticket} t e = record {
  request = t.0;
  ticket = ticket;
  take = t.1;
  give = reading;
  before_take = t.2;
  before_give = history;
  taken = t.3;
  given = inl (refl, refl);
  received = t.4;
  answered = e;
}

-- ---- each history
says : (plan : Plan) (history : History) → Says plan.run.companion.local history (progress_of plan history).place
says plan [] = tt
says plan (Clock why.Take reading ∷ older) =
    on_received (Says plan.run.companion.local (Clock why.Take reading ∷ older)) plan reading older
    (progress_of plan older).place
    (λ _. says_later plan.run.companion.local older (Clock why.Take reading) (progress_of plan older).place
    (says plan older))
    tt
    (λ peer bytes ticket e. (bytes, reading, older, inl (refl, refl), e))
says plan (Clock why.Give reading ∷ older) =
    on_answered (Says plan.run.companion.local (Clock why.Give reading ∷ older)) plan reading older
    (progress_of plan older).place
    (λ _. says_later plan.run.companion.local older (Clock why.Give reading) (progress_of plan older).place
    (says plan older))
    tt
    (λ peer ticket message at e. record {
      message = message;
      wire = refl;
      answer = answer_from (subst (λ (place : Place). Says plan.run.companion.local older place) at (says plan older))
          e;
    })
says plan (entry ∷ older) =
    after_other plan older entry tt (progress_of plan older).facts (progress_of plan older).place (says plan older)

pub answers_are_true : AnswersAreTrueTo
answers_are_true plan history peer bytes e =
    let is : IsAnswerTo plan.run.companion.local history bytes =
    subst (λ (place : Place). Says plan.run.companion.local history place) e (says plan history) in
    record {
      answers = is;
      is_true = λ errors world who moment_of keeps range lawful explains.
          let x = two.answers_are_true errors world who plan.run.companion.local history moment_of is.message keeps
          range lawful explains is.answer in
          (x, two.true_is_truthful world errors.tv _ _ is.message x);
    }

-- ---- places of a proper run
-- the history without its newest sleeps
abbrev pub awake : History → History
awake (Slept ∷ older) = awake older
awake h = h

-- a request was received: the clock was read for it last, but for sleeps
abbrev IsTicket : Local → History → Ticket → Type 0
IsTicket own h = TakenSo (λ take before. awake h ≡ Clock why.Take take ∷ before) own

abbrev pub Shows : Plan → History → Place → Type 0
Shows plan h (Received peer ticket) = IsTicket plan.run.companion.local h ticket
Shows plan h (Asking reading) = (before : History) × (h ≡ Clock why.Ask reading ∷ before)
Shows plan h (Answers peer datagram) = IsResponse plan datagram h
Shows plan h _ = ⊤

-- an entry that is no sleep and no reading for a request leads to a place that shows nothing
abbrev IsPlain : Entry → Type 0
IsPlain Slept = ⊥
IsPlain (Clock why.Ask reading) = ⊥
IsPlain (Clock why.Take reading) = ⊥
IsPlain (Clock why.Give reading) = ⊥
IsPlain _ = ⊤

after_plain : (plan : Plan) (older : History) (entry : Entry) → IsPlain entry → (f : Facts) (place : Place)
    → Follows plan f place entry
    → Shows plan (entry ∷ older) (places.after plan entry older (record { facts = f; place = place })).place
after_plain plan older entry is f place c = grind (arith, is, c)

after_sleep : (plan : Plan) (older : History) (place : Place) → IsTimed place → Shows plan older place
    → Shows plan (Slept ∷ older) place
after_sleep plan older place timed x = grind (arith, timed, x)

-- what the place says after each history of a run
pub shape_of : (plan : Plan) (h : History) → Followed plan h → Shows plan h (progress_of plan h).place
shape_of plan [] each = tt
shape_of plan (Slept ∷ older) each =
    after_sleep plan older (progress_of plan older).place each.0.1 (shape_of plan older each.1)
shape_of plan (Clock why.Ask reading ∷ older) each = (older, refl)
shape_of plan (Clock why.Take reading ∷ older) each =
    on_received (Shows plan (Clock why.Take reading ∷ older)) plan reading older (progress_of plan older).place
    (λ never. absurd (never each.0.2)) tt (λ peer bytes ticket e. (bytes, reading, older, refl, e))
shape_of plan (Clock why.Give reading ∷ older) each =
    on_answered (Shows plan (Clock why.Give reading ∷ older)) plan reading older (progress_of plan older).place
    (λ never. absurd (never each.0.2)) tt (λ peer ticket message at e. record {
      reading = reading;
      before = older;
      message = message;
      just = refl;
      given = ap (given_at plan reading older) at ∙ ap result_ok e;
      wire = refl;
    })
shape_of plan (entry ∷ older) each =
    after_plain plan older entry tt (progress_of plan older).facts (progress_of plan older).place each.0

-- ---- datagrams that are sent
known : (plan : Plan) (h : History) → Followed plan h → Each (IsSentAt plan) h
known plan [] each = tt
known plan (Sent peer bytes ∷ older) each =
    (by (progress_of plan older).place (shape_of plan older each.1) each.0.1, known plan older each.1)
  where
    by : (place : Place) → Shows plan older place → IsToSend place bytes
        → IsRequest bytes older ⊎ IsResponse plan bytes older
    by (Asking reading) shows e =
        inl (record { reading = reading; before = shows.0; just = shows.1; wire = e })
    by (Answers to datagram) shows e = inr (subst (λ (x : List ℕ). IsResponse plan x older) (sym e) shows)
    by place shows e = absurd e
known plan (_ ∷ older) each = (tt, known plan older each.1)

pub sent_is_known : SentIsKnown
sent_is_known plan h proper = known plan h (followed plan h proper)

-- ---- responses that were given
-- the response answers the request that was taken last
record IsFound (own : Local) (h : History) (message : Message) (before : History) : Type 0 where
  answer : IsAnswerOf own h message
  at_take : length answer.before_take ≡ last_take before
  at_give : answer.before_give ≡ before

found_later : {own : Local} {h : History} {message : Message} {before : History} (entry : Entry)
    → IsFound own h message before → IsFound own (entry ∷ h) message before
found_later entry x = record { answer = answer_later entry x.answer; at_take = x.at_take; at_give = x.at_give }

-- the request was taken last, but for sleeps
taken_before : (take : ℕ) (b h : History) → awake h ≡ Clock why.Take take ∷ b
    → Once (λ entry older. (entry ≡ Clock why.Take take) × (older ≡ b)) h × (length b ≡ last_take h)
taken_before take b (Slept ∷ older) e = let x = taken_before take b older e in (inr x.0, x.1)
taken_before take b h e = (
  subst (λ (x : History). Once (λ entry older. (entry ≡ Clock why.Take take) × (older ≡ b)) x) (sym e)
      (inl (refl, refl)),
  sym (ap last_take e),
)

-- it is given with a reading
gives : (plan : Plan) (older : History) (reading : ℕ) (message : Message) (place : Place) → Shows plan older place
    → given_at plan reading older place ≡ Some message
    → IsFound plan.run.companion.local (Clock why.Give reading ∷ older) message older
gives plan older reading message (Received peer ticket) (request, take, before, just, received) is =
    let taken = taken_before take before older just in
    record {
      answer = answer_from {ticket = ticket} (request, take, before, taken.0, received)
          (ok_some (answered_after plan.run.companion.local older reading ticket) is);
      at_take = taken.1;
      at_give = refl;
    }
  where
    ok_some : (x : Result Message RelayFault) → result_ok x ≡ Some message → x ≡ Ok message
    ok_some (Ok m) e = cc
    ok_some (Err fault) e = absurd (cc)
gives plan older reading message place shows is = absurd (cc)

found : (plan : Plan) (h : History) → Followed plan h → (message : Message) (before : History)
    → IsGiven plan h message before → IsFound plan.run.companion.local h message before
found plan [] each message before once = absurd once
found plan (Clock why.Give reading ∷ older) each message before (inl here) =
    subst (λ (x : History). IsFound plan.run.companion.local (Clock why.Give reading ∷ older) message x) here.1
    (gives plan older reading message (progress_of plan older).place (shape_of plan older each.1) here.0)
found plan (entry ∷ older) each message before (inl here) = absurd (cc)
found plan (entry ∷ older) each message before (inr later) =
    found_later entry (found plan older each.1 message before later)

-- ---- the laws
pub given_is_true : GivenIsTrue
given_is_true errors world who plan history moment_of message before proper for range lawful explains given =
    let x : IsFound plan.run.companion.local history message before =
    found plan history (followed plan history proper) message before given in
    let is : IsTrueResponse world errors.tv (moment_of (last_take before)) (moment_of (length before)) message =
    rw (x.at_take, x.at_give) at (two.answers_are_true errors world who plan.run.companion.local history moment_of
    message for range lawful explains x.answer) in
    record { response = is; truthful = two.true_is_truthful world errors.tv _ _ message is }

-- what was sent right after a reading for an answer is the datagram of the response given then
sent_given : (plan : Plan) (bytes : List ℕ) (give : ℕ) (before h : History) → h ≡ Clock why.Give give ∷ before
    → IsRequest bytes h ⊎ IsResponse plan bytes h
    → (message : Message) × (given_by plan (Clock why.Give give) before ≡ Some message) × (bytes ≡ encoded message)
sent_given plan bytes give before h is (inl asked) = absurd (let e = sym is ∙ asked.just in cc)
sent_given plan bytes give before h is (inr r) = let e = sym r.just ∙ is in (r.message, cc (r.given), r.wire)

-- so some response was given that it is the datagram of
abbrev IsSentOf : Plan → History → List ℕ → History → Type 0
IsSentOf plan h bytes before = (message : Message) × IsGiven plan h message before × (bytes ≡ encoded message)

sent_of : (plan : Plan) (peer : ℕ) (bytes : List ℕ) (give : ℕ) (before h : History) → Each (IsSentAt plan) h
    → Once (λ entry earlier. (entry ≡ Sent peer bytes) × (earlier ≡ Clock why.Give give ∷ before)) h
    → IsSentOf plan h bytes before
sent_of plan peer bytes give before [] all once = absurd once
sent_of plan peer bytes give before (entry ∷ older) all (inl here) =
    let known = subst (λ (x : Entry). IsSentAt plan x older) here.0 all.0 in
    let x = sent_given plan bytes give before older here.1 known in (
      x.0,
      subst (λ (y : History). IsGiven plan (entry ∷ y) x.0 before) (sym here.1) (inr (inl (x.1, refl))),
      x.2,
    )
sent_of plan peer bytes give before (entry ∷ older) all (inr later) =
    let x = sent_of plan peer bytes give before older all.1 later in (x.0, inr x.1, x.2)

-- the last request was taken before
take_earlier : (h : History) → last_take h ≤ length h
take_earlier [] = omega arith
take_earlier (Clock why.Take reading ∷ older) = omega arith
take_earlier (_ ∷ older) = let earlier = take_earlier older in omega (arith, earlier)

module _ (errors : Errors) (world : World) (who : ℕ) (plan : Plan) (history : History) (moment_of : ℕ → ℕ)
    (proper : IsProperRelay plan history) (keeps : IsWorldFor errors world who plan.run.companion.local)
    (range : IsInRange world) (lawful : IsLawful history)
    (explains : Explains world who errors.tv plan.run.companion.local history moment_of) where
  from_run : (second_moment_of : ℕ → ℕ) (landed : LandedAnswer) (older : History)
      → IsFromRun history moment_of second_moment_of landed older
      → IsTruthful world errors.tv second_moment_of landed older
  from_run second_moment_of landed older x =
      let sent = sent_of plan x.peer x.bytes x.give x.before history (sent_is_known plan history proper) x.sent in
      let message : Message = sent.0 in
      let found : IsFound plan.run.companion.local history message x.before =
      found plan history (followed plan history proper) message x.before sent.1 in
      let is : IsTrueAnswer world errors.tv moment_of x.before message =
      given_is_true errors world who plan history moment_of message x.before proper keeps range lawful explains sent.1
      in
      let same : without_originate message ≡ without_originate landed.message =
      reads_back plan.run.companion.local found.answer.before_take found.answer.before_give found.answer.take
      found.answer.give found.answer.request found.answer.ticket message landed.message found.answer.received
      found.answer.answered (sym (ap decoded sent.2) ∙ x.read) in
      two.true_is_truthful world errors.tv _ _ landed.message
      (true_as world errors.tv _ _ message landed.message same is.response) second_moment_of landed x.ask older refl
      x.asked x.sent_before (explains.happens.in_order _ _ (take_earlier x.before)) x.landed_after

  each_truthful : (second_moment_of : ℕ → ℕ) (second_own : Local) (second_history : History)
      → Each (FromRunAt history moment_of second_own second_moment_of) second_history
      → Each (TruthfulAt world errors.tv second_own second_moment_of) second_history
  each_truthful second_moment_of second_own [] each = tt
  each_truthful second_moment_of second_own (entry ∷ older) each = (
    IfSome_then (landed_answer entry older) each.0 (λ landed x possible.
        from_run second_moment_of landed older (x possible)),
    each_truthful second_moment_of second_own older each.1,
  )

pub second_hops_are_true : SecondHopsAreTrue
second_hops_are_true errors world who plan history moment_of second second_own second_history second_moment_of proper
    keeps second_keeps range lawful explains second_lawful happens each =
    let second_explains : Explains world second errors.tv second_own second_history second_moment_of = record {
      happens = happens;
      truthful =
          each_truthful errors world who plan history moment_of proper keeps range lawful explains second_moment_of
          second_own second_history each;
    } in
    record {
      explains = second_explains;
      contains =
          wall_is_true errors world second second_own second_history second_moment_of second_keeps second_lawful
          second_explains;
    }
