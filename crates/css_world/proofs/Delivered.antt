-- What a television tells is in flight to the companion that it is for, and to no other one.
use Rattle.std.proofs.Common.{◌≡◌, ◌≢◌, ℕ, ◌+◌, ◌-◌, ◌/◌, ◌%◌, ◌≤◌, arith, Bool, cond, List, [], ◌∷◌, ◌++◌, append-nil}
use Rattle.std.proofs.Common.{length, refl, ap, sym, subst, ◌∙◌, inl, inr, ne_eqb}
use Rattle.std.specs.Prelude.{Some, map, slice_set, Result, Ok, Err, OnOk}
use Rattle.css_num.specs.declared.protocol.Kind.TheVariants as kind
use Rattle.css_tv.specs.declared.event.TvOut.TheVariants as outs
use Rattle.css_world.specs.declared.lane.Lane.{Lane}
use Rattle.css_world.specs.declared.session.Phase.{Phase}
use Rattle.css_world.specs.declared.session.Phase.TheVariants.{Unopened, Open, Over}
use Rattle.css_world.specs.Flights.{Session, grown, with_news, news_of}
use Rattle.css_world.specs.Lanes.{IsFor, TakesUp, AllTakeUp, KeepsAllButTexts}
use Rattle.css_world.proofs.Names.{eqb_tells, Said, TvOut, stored, peer_of}
use Rattle.css_world.proofs.News.{told-next}
use Rattle.css_world.proofs.Numbers.{stored_within, stored_same, set_there, set_others, set_part, part_kept, count_kept}

-- ---- nothing is told
-- a queue without more texts
grown-none : (phase : Phase) (queue : List (List ℕ)) → grown phase queue [] ≡ queue
grown-none Unopened queue = refl
grown-none Open queue = append-nil queue
grown-none Over queue = refl

-- a session that is told nothing is as before
untold : (session : Session) (news : List (List ℕ)) → news ≡ [] → session ≡ with_news news session
untold session news none =
    let with_queue : List (List ℕ) → Session = λ queue.
    record { phase = session.phase; down = queue; up = session.up } in
    sym (ap (λ texts. with_news texts session) none ∙ ap with_queue (grown-none session.phase session.down))

-- before anything is told nothing is in flight
pub none_yet : (lanes : List Lane) → AllTakeUp [] lanes lanes
none_yet lanes who lane found = (lane, found, record { cii = untold lane.cii [] refl; ts = untold lane.ts [] refl })

-- ---- one output
-- a text of another peer isn't told to this one
told_other : (peer other : ℕ) (text : List ℕ) → other ≢ peer → news_of peer (outs.Say other text ∷ []) ≡ []
told_other peer other text differs =
    let one : Bool → List (List ℕ) = λ b. map (λ (s : Said). s.text) (cond b (record { peer = other; text = text } ∷ [])
    []) in
    ap one (ne_eqb other peer differs)

-- peers 2K - 1 and 2K are those of companion K
pub said_for : (peer : ℕ) (text : List ℕ) → IsFor (outs.Say peer text) (peer / 2 + peer % 2)
said_for peer text other first differs = (
  told_other (peer_of other kind.Cii) peer text (λ same. differs (omega (arith, same))),
  told_other (peer_of other kind.Ts) peer text (λ same. differs (omega (arith, same))),
)

-- the end of a session is no text
pub hung_up_for : (peer : ℕ) → IsFor (outs.HangUp peer) 0
hung_up_for peer other first differs = (refl, refl)

-- an output is in flight to the companion that it is for, where the others are as before
pub one_told : (out : TvOut) (who : ℕ) (old new : List Lane) → IsFor out who
    → ((other : ℕ) → other ≢ who → stored new other ≡ stored old other)
    → ((before : Lane) → stored old who ≡ Some before
    → (after : Lane) × (stored new who ≡ Some after) × TakesUp who (out ∷ []) before after)
    → AllTakeUp (out ∷ []) old new
one_told out who old new is others told other before found = elim (eqb_tells other who) [
  | inl same ↦
      let here : stored old who ≡ Some before = rw same.1 at found in
      rw same.1 (told before here)
  | inr differs ↦
      let none = is other (stored_within old other before found).0 differs.1 in (
        before,
        others other differs.1 ∙ found,
        record { cii = untold before.cii _ none.0; ts = untold before.ts _ none.1 },
      )
]

-- one that is for none of them
pub none_told : (out : TvOut) (who : ℕ) (lanes : List Lane) → IsFor out who → (1 ≤ who → who ≤ length lanes → ⊥)
    → AllTakeUp (out ∷ []) lanes lanes
none_told out who lanes is apart =
    one_told out who lanes lanes is (λ other differs. refl) (λ before found.
    let within = stored_within lanes who before found in absurd (apart within.0 within.1))

-- ---- outputs one after the other
-- one output more is in flight too
pub told_on : (xs : List TvOut) (out : TvOut) (first before after : List Lane) → AllTakeUp xs first before
    → AllTakeUp (out ∷ []) before after → AllTakeUp (xs ++ out ∷ []) first after
told_on xs out first before after so_far now who lane found =
    let one = so_far who lane found in
    let two = now who one.0 one.1 in (
      two.0,
      two.1,
      record {
        cii = told-next (peer_of who kind.Cii) xs out lane.cii one.0.cii two.0.cii one.2.cii two.2.cii;
        ts = told-next (peer_of who kind.Ts) xs out lane.ts one.0.ts two.0.ts one.2.ts two.2.ts;
      },
    )

-- what isn't touched twice isn't touched
pub kept_on : (first before after : List Lane) → KeepsAllButTexts first before → KeepsAllButTexts before after
    → KeepsAllButTexts first after
kept_on first before after one two = record { companions = two.companions ∙ one.companions }

-- there are as many lanes
pub as_many : (old new : List Lane) → KeepsAllButTexts old new → length new ≡ length old
as_many old new kept = count_kept (λ (lane : Lane). lane.companion) old new kept.companions

-- each lane keeps its companion
pub kept_in_each : (old new : List Lane) (who : ℕ) (after : Lane) → KeepsAllButTexts old new
    → stored new who ≡ Some after
    → (before : Lane) × (stored old who ≡ Some before) × (before.companion ≡ after.companion)
kept_in_each old new who after kept found =
    part_kept (λ (lane : Lane). lane.companion) old new who after kept.companions found

-- ---- one lane
-- what follows from what holds of an Ok holds of it
pub ok_then : {T E P Q : Type 0} (result : Result T E) → OnOk result P → (P → Q) → OnOk result Q
ok_then (Ok x) p next = next p
ok_then (Err fault) p next = tt

-- so does what follows from two such facts
pub on_both : {T E P Q R : Type 0} (result : Result T E) → OnOk result P → OnOk result Q → (P → Q → R) → OnOk result R
on_both (Ok x) p q next = next p q
on_both (Err fault) p q next = tt

-- where one lane takes up an output that is for it, and is written back, all do
pub lane_told : (out : TvOut) (who : ℕ) (old : List Lane) (before after : Lane) → IsFor out who → 1 ≤ who
    → who ≤ length old → stored old who ≡ Some before → TakesUp who (out ∷ []) before after
    → AllTakeUp (out ∷ []) old (slice_set old (who - 1) after)
lane_told out who old before after is first within found taken =
    one_told out who old (slice_set old (who - 1) after) is
    (λ other differs. set_others old who other after first differs)
    (λ lane at.
    let same : before ≡ lane = stored_same old who before lane found at in (
      after,
      set_there old who after first within,
      subst (λ (x : Lane). TakesUp who (out ∷ []) x after) same taken,
    ))

-- and each keeps its companion, where that one does
pub lane_kept : (who : ℕ) (old : List Lane) (before after : Lane) → stored old who ≡ Some before
    → after.companion ≡ before.companion → KeepsAllButTexts old (slice_set old (who - 1) after)
lane_kept who old before after found companion = record {
  companions = set_part (λ (lane : Lane). lane.companion) old who after before found companion;
}
