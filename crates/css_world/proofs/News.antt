-- What a television tells by an event is in flight, and is what its sessions were to be told by it.
use Rattle.std.proofs.Common.{◌≡◌, ℕ, List, [], ◌∷◌, ◌++◌, refl, sym, ap, ap₂, ◌∙◌, append_assoc, filter_map, subst}
use Rattle.std.proofs.Common.{Result, Ok, Err, filter, map, reverse}
use Rattle.std.proofs.lemmas.List.Elements.{filter-append, filter_map-append}
use Rattle.css_player.specs.Player.{Player}
use Rattle.css_player.specs.Events.{player_of}
use Rattle.css_sessions.specs.Kept.{Event as SessionsCall, Kept}
use Rattle.css_sessions.specs.Told.{IsLawful, said_to, texts_of, sessions_of}
use Rattle.css_tv.proofs.More.{said_in, texts_all}
use Rattle.css_tv.specs.Outcomes.{Outcome, outcome, outcome_at, said_after, outs as outcome_outs}
use Rattle.css_tv.specs.Stages.{Stage}
use Rattle.css_tv.specs.Standing as tvs
use Rattle.css_tv.specs.declared.fault.TvFault.{TvFault}
use Rattle.css_world.specs.declared.session.Phase.{Phase}
use Rattle.css_world.specs.declared.session.Phase.TheVariants.{Unopened, Open, Over}
use Rattle.css_world.specs.Flights.{Session, grown, with_news, news_of}
use Rattle.css_world.proofs.Names.{map-append, Said, Calls, calls_of, with_outcome, said_by, TvEvent, TvOut, addresses}
use Rattle.css_world.proofs.Names.{told_to}

-- ---- texts one after the other
-- what is told to a peer by two lists
said_to-append : (peer : ℕ) (xs ys : List Said) → said_to peer (xs ++ ys) ≡ said_to peer xs ++ said_to peer ys
said_to-append peer xs ys =
    ap (map (λ s. s.text)) (filter-append _ xs ys) ∙ map-append (λ s. s.text) (filter _ xs) (filter _ ys)

-- and by two lists of outputs
news-append : (peer : ℕ) (xs ys : List TvOut) → news_of peer (xs ++ ys) ≡ news_of peer xs ++ news_of peer ys
news-append peer xs ys = ap (said_to peer) (filter_map-append said_by xs ys)
    ∙ said_to-append peer (filter_map said_by xs) (filter_map said_by ys)

-- a queue with more and then more texts
grown-twice : (phase : Phase) (queue xs ys : List (List ℕ))
    → grown phase queue (xs ++ ys) ≡ grown phase (grown phase queue xs) ys
grown-twice Unopened queue xs ys = refl
grown-twice Open queue xs ys = sym (append_assoc queue xs ys)
grown-twice Over queue xs ys = refl

-- one output more puts its text into flight
pub told-next : (peer : ℕ) (xs : List TvOut) (out : TvOut) (first before after : Session)
    → before ≡ with_news (news_of peer xs) first
    → after ≡ with_news (news_of peer (out ∷ [])) before → after ≡ with_news (news_of peer (xs ++ out ∷ [])) first
told-next peer xs out first before after is then_is =
    let whole : List (List ℕ) → Session = λ queue. record { phase = first.phase; down = queue; up = first.up } in
    then_is ∙ ap (with_news (news_of peer (out ∷ []))) is
    ∙ ap whole (sym (grown-twice first.phase first.down (news_of peer xs) (news_of peer (out ∷ []))))
    ∙ ap (λ texts. whole (grown first.phase first.down texts)) (sym (news-append peer xs (out ∷ [])))

-- ---- what an event of the television tells
-- what an outcome tells a peer
news-of-outcome : (peer : ℕ) (o : Outcome) (kept : Kept)
    → news_of peer (outcome_outs o kept) ≡ said_to peer (said_after o.called kept)
news-of-outcome peer o kept = ap (said_to peer) (said_in o kept [])

-- the outcome at a stage is that of the events it stands for
pub outcome-same : (e : TvEvent) (stage : Stage) (events : List TvEvent) → tvs.StandsFor stage events
    → outcome_at e stage ≡ outcome stage.addresses e (player_of (calls_of stage.addresses events).player)
    (sessions_of (calls_of stage.addresses events).sessions)
outcome-same e stage events stands =
    ap₂ (λ (p : Player) (k : Kept). outcome stage.addresses e p k) stands.player.same stands.sessions.same

-- the texts of a peer after an event that has this outcome
texts-after : (peer : ℕ) (e : TvEvent) (old new : Stage) (events : List TvEvent) (told : List TvOut)
    (r : Result Outcome TvFault)
    → outcome_at e old ≡ r → tvs.IsAfterBy old new [] told r → tvs.StandsFor old events → tvs.StandsFor new (e ∷ events)
    → tvs.texts_after old.addresses peer (e ∷ events) ≡ reverse (news_of peer told)
    ++ tvs.texts_after old.addresses peer events
texts-after peer e old new events told (Err fault) is done stands after = absurd done
texts-after peer e old new events told (Ok o) is done stands after =
    let older : List SessionsCall = (calls_of old.addresses events).sessions in
    let calls : calls_of old.addresses (e ∷ events) ≡ record {
      player = o.asked ++ (calls_of old.addresses events).player;
      sessions = o.called ++ older;
    } =
    ap (λ x. with_outcome x (calls_of old.addresses events)) (sym (outcome-same e old events stands) ∙ is) in
    let lawful : IsLawful (o.called ++ older) =
    rw (ap (λ (s : Stage). calls_of s.addresses (e ∷ events)) done.stage ∙ calls) at after.sessions.lawful in
    let news : news_of peer told ≡ said_to peer (said_after o.called (sessions_of older)) =
    ap (news_of peer) done.out ∙ news-of-outcome peer o old.sessions
    ∙ ap (λ k. said_to peer (said_after o.called k)) stands.sessions.same in
    ap (λ (c : Calls). texts_of peer c.sessions) calls ∙ texts_all o.called older lawful peer
    ∙ ap (λ texts. reverse texts ++ texts_of peer older) (sym news)

-- an event that the television took in tells each peer what it was to be told
pub told-news : (peer : ℕ) (e : TvEvent) (old new : Stage) (events : List TvEvent) (told : List TvOut)
    → tvs.IsAfterBy old new [] told (outcome_at e old) → tvs.StandsFor old events → tvs.StandsFor new (e ∷ events)
    → old.addresses ≡ addresses → told_to peer (e ∷ events) ≡ reverse (news_of peer told) ++ told_to peer events
told-news peer e old new events told done stands after same =
    subst (λ a. tvs.texts_after a peer (e ∷ events) ≡ reverse (news_of peer told) ++ tvs.texts_after a peer events) same
    (texts-after peer e old new events told (outcome_at e old) refl done stands after)
