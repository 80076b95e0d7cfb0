-- One event more.
use Rattle.std.proofs.Common.{◌≡◌, ℕ, List, [], ◌∷◌, ◌++◌, Result, Ok, Err, refl, sym, ap, subst, ◌∙◌, append_assoc}
use Rattle.std.proofs.Common.{ap₂}
use Rattle.std.specs.Prelude.{eqb, filter, map, reverse, OnOk}
use Rattle.std.specs.List.{filter_map}
use Rattle.std.proofs.lemmas.List.{map-append, reverse-append}
use Rattle.std.proofs.lemmas.List.Elements.{filter-append, filter_map-append}
use Rattle.css_player.specs.Player.{Player}
use Rattle.css_player.specs.Events.{StandsFor as PlayerStandsFor}
use Rattle.css_sessions.specs.declared.session.Said.{Said}
use Rattle.css_sessions.specs.Kept.{Event as SessionsCall, Kept, step_of}
use Rattle.css_sessions.specs.Told.{StandsFor as SessionsStandFor, IsTold as AreSaid, IsLawful, sessions_of, said_to}
use Rattle.css_sessions.specs.Told.{texts_of}
use Rattle.css_sessions.proofs.Telling.{told_now}
use Rattle.css_tv.specs.Stages.{Stage, IsStage}
use Rattle.css_tv.specs.Outcomes.{Outcome, outcome, outcome_at, kept_after, said_after, outs, say}
use Rattle.css_tv.specs.Standing.{Calls, StandsFor, IsFresh, IsAfterBy, Steps, GrowsBy, Stands, Tells, IsTold, calls_of}
use Rattle.css_tv.specs.Standing.{with_outcome, said_by}
use Rattle.css_tv.specs.declared.event.TvEvent.{TvEvent}
use Rattle.css_tv.specs.declared.event.TvOut.{TvOut}
use Rattle.css_tv.specs.declared.event.TvOut.TheVariants as out
use Rattle.css_tv.specs.declared.fault.TvFault.{TvFault}
use Rattle.css_tv.proofs.Keeping.{keeps}

-- ---- what always holds
after_outcome : (e : TvEvent) (old new : Stage) (before after : List TvOut) (r : Result Outcome TvFault)
    → outcome_at e old ≡ r → IsAfterBy old new before after r → IsStage old → IsStage new
after_outcome e old new before after (Err f) is done stage = absurd done
after_outcome e old new before after (Ok o) is done stage = subst IsStage (sym done.stage) (keeps e old o is stage)

pub keeps_step : {T : Type 0} (result : Result T TvFault) (e : TvEvent) (old new : Stage) (before after : List TvOut)
    → Steps result old new before after (outcome_at e old) → IsStage old → IsStage new
keeps_step (Ok x) e old new before after steps stage =
    after_outcome e old new before after (outcome_at e old) refl steps stage
keeps_step (Err f) e old new before after steps stage = subst IsStage (sym steps.0) stage

-- ---- the calls of one event more
more_calls : (e : TvEvent) (old : Stage) (h : List TvEvent) (o : Outcome) → outcome_at e old ≡ Ok o → StandsFor old h
    → calls_of old.addresses (e ∷ h) ≡ record {
      player = o.asked ++ (calls_of old.addresses h).player;
      sessions =
          o.called ++ (calls_of old.addresses h).sessions;
    }
more_calls e old h o is stands =
    ap (λ x. with_outcome x (calls_of old.addresses h))
    (ap₂ (λ (p : Player) (k : Kept). outcome old.addresses e p k) (sym stands.player.same) (sym stands.sessions.same)
    ∙ is)

stands_now : (e : TvEvent) (old new : Stage) (before after : List TvOut) (h : List TvEvent) (r : Result Outcome TvFault)
    → outcome_at e old ≡ r → IsAfterBy old new before after r → GrowsBy (IsFresh e) old new r
    → StandsFor old h → IsFresh e (calls_of old.addresses h).sessions → StandsFor new (e ∷ h)
stands_now e old new before after h (Err f) is done grows stands fresh = absurd done
stands_now e old new before after h (Ok o) is done grows stands fresh =
    let calls = calls_of old.addresses h in
    let same : calls_of new.addresses (e ∷ h) ≡ record {
      player = o.asked ++ calls.player;
      sessions =
          o.called ++ calls.sessions;
    } =
    ap (λ s. calls_of s.addresses (e ∷ h)) done.stage ∙ more_calls e old h o is stands in
    record {
      player =
          subst (λ (x : Calls). PlayerStandsFor new.player x.player) (sym same) (grows.player calls.player
          stands.player);
      sessions =
          subst (λ (x : Calls). SessionsStandFor new.sessions x.sessions) (sym same)
          (grows.sessions calls.sessions stands.sessions fresh);
    }

pub stands_step : {T : Type 0} (result : Result T TvFault) (e : TvEvent) (old new : Stage) (before after : List TvOut)
    → Steps result old new before after (outcome_at e old)
    → OnOk result (GrowsBy (IsFresh e) old new (outcome_at e old)) → Stands result old new e
stands_step (Ok x) e old new before after steps grows =
    λ h stands fresh. stands_now e old new before after h (outcome_at e old) refl steps grows stands fresh
stands_step (Err f) e old new before after steps grows = tt

-- ---- what is told
kept_all : (es h : List SessionsCall) → kept_after es (sessions_of h) ≡ sessions_of (es ++ h)
kept_all [] h = refl
kept_all (e ∷ es) h = ap (λ k. (step_of e k).kept) (kept_all es h)

said_to-append : (peer : ℕ) (xs ys : List Said) → said_to peer (xs ++ ys) ≡ said_to peer xs ++ said_to peer ys
said_to-append peer xs ys =
    ap (map (λ s. s.text)) (filter-append (λ s. eqb s.peer peer) xs ys) ∙ map-append (λ s. s.text)
    (filter (λ s. eqb s.peer peer) xs) (filter (λ s. eqb s.peer peer) ys)

-- what calls say is what they add to the texts of each session
pub texts_all : (es h : List SessionsCall) → IsLawful (es ++ h) → (peer : ℕ)
    → texts_of peer (es ++ h) ≡ reverse (said_to peer (said_after es (sessions_of h))) ++ texts_of peer h
texts_all [] h lawful peer = refl
texts_all (e ∷ es) h lawful peer =
    let so_far = said_after es (sessions_of h) in
    let now = (step_of e (kept_after es (sessions_of h))).said in
    told_now e (es ++ h) lawful peer
    ∙ ap (λ k. reverse (said_to peer (step_of e k).said) ++ texts_of peer (es ++ h)) (sym (kept_all es h))
    ∙ ap (λ texts. reverse (said_to peer now) ++ texts) (texts_all es h lawful.0 peer)
    ∙ sym (append_assoc (reverse (said_to peer now)) (reverse (said_to peer so_far)) (texts_of peer h))
    ∙ ap (λ texts. texts ++ texts_of peer h) (sym (reverse-append (said_to peer so_far) (said_to peer now)))
    ∙ ap (λ texts. reverse texts ++ texts_of peer h) (sym (said_to-append peer so_far now))

said_all : (es h : List SessionsCall) (said : List Said) → IsLawful (es ++ h) → AreSaid said h
    → AreSaid (said ++ said_after es (sessions_of h)) (es ++ h)
said_all es h said lawful told = λ peer.
    let now = said_after es (sessions_of h) in
    ap reverse (said_to-append peer said now)
    ∙ reverse-append (said_to peer said) (said_to peer now)
    ∙ ap (λ texts. reverse (said_to peer now) ++ texts) (told peer)
    ∙ sym (texts_all es h lawful peer)

texts_in : (xs : List Said) → filter_map said_by (map say xs) ≡ xs
texts_in [] = refl
texts_in (x ∷ xs) = ap (λ ys. x ∷ ys) (texts_in xs)

none_in : (peers : List ℕ) (xs : List TvOut) → filter_map said_by (map out.HangUp peers ++ xs) ≡ filter_map said_by xs
none_in [] xs = refl
none_in (p ∷ ps) xs = none_in ps xs

pub said_in : (o : Outcome) (k : Kept) (before : List TvOut)
    → filter_map said_by (before ++ outs o k) ≡ filter_map said_by before ++ said_after o.called k
said_in o k before =
    filter_map-append said_by before (outs o k) ∙ ap (λ ys. filter_map said_by before ++ ys)
    (none_in o.hung_up (map say (said_after o.called k)) ∙ texts_in (said_after o.called k))

told_now_too : (e : TvEvent) (old new : Stage) (before after : List TvOut) (h : List TvEvent)
    (r : Result Outcome TvFault) → outcome_at e old ≡ r → IsAfterBy old new before after r
    → GrowsBy (IsFresh e) old new r
    → StandsFor old h → IsFresh e (calls_of old.addresses h).sessions
    → IsTold before (calls_of old.addresses h).sessions → IsTold after (calls_of old.addresses (e ∷ h)).sessions
told_now_too e old new before after h (Err f) is done grows stands fresh told = absurd done
told_now_too e old new before after h (Ok o) is done grows stands fresh told =
    let calls = calls_of old.addresses h in
    let lawful : IsLawful (o.called ++ calls.sessions) = (grows.sessions calls.sessions stands.sessions fresh).lawful in
    let said : filter_map said_by after ≡ filter_map said_by before
    ++ said_after o.called (sessions_of calls.sessions) =
    ap (λ xs. filter_map said_by xs) done.out ∙ said_in o old.sessions before ∙ ap (λ k. filter_map said_by before
    ++ said_after o.called k) stands.sessions.same in
    subst (λ (x : Calls). IsTold after x.sessions) (sym (more_calls e old h o is stands))
    (subst (λ xs. AreSaid xs (o.called ++ calls.sessions)) (sym said)
    (said_all o.called calls.sessions (filter_map said_by before) lawful told))

pub tells_step : {T : Type 0} (result : Result T TvFault) (e : TvEvent) (old new : Stage) (before after : List TvOut)
    → Steps result old new before after (outcome_at e old)
    → OnOk result (GrowsBy (IsFresh e) old new (outcome_at e old)) → Tells result old before after e
tells_step (Ok x) e old new before after steps grows =
    λ h stands fresh told. told_now_too e old new before after h (outcome_at e old) refl steps grows stands fresh told
tells_step (Err f) e old new before after steps grows = tt
