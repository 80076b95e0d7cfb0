-- The companion stands for its history with the landing.
use Rattle.std.proofs.Common.{◌≡◌, sym, ap, refl, ◌∙◌, arith, List, ℕ, true, cond, ◌&&◌, Some, Result, Ok, Err}
use Rattle.css_companion.specs.Standing as companions
use Rattle.css_world.specs.Standing.{Kept, kept}
use Rattle.css_world.proofs.Names.{Land, WorldFault, Absent, peer, history_of, stored, own_reading}
use Rattle.css_world.proofs.Carrying.{at_line}
use Rattle.css_world.proofs.Answering.{landed, not_landing, not_for}
use Rattle.css_world.proofs.Verbs.{refuses-absent, wants}
use Rattle.css_world.proofs.Owning.{may_ask, read_lane, are_on, are_set, refused_memory}
use Rattle.css_world.proofs.both.Ends.land.Goals as goal

pub returns-clause-carries : goal.returns-clause-carries
returns-clause-carries c = λ header lines now own is ready may.
    let old : Kept = kept header c.args.self.now in
    let lane = c.lane-lane.result.now in
    let found : stored old.datagrams c.args.datagram ≡ Some c.in-Some.datagram.now =
    ap (λ (items : List (List ℕ)). stored items c.args.datagram) (sym c.deref.ensures.value)
    ∙ c.in-Some.ensures.some.0 in
    let whose : stored old.made_for c.args.datagram ≡ Some c.args.who =
    ap (λ (items : List ℕ). stored items c.args.datagram) (sym c.deref-2.ensures.value)
    ∙ c.in-Some.ensures.some.1 ∙ ap Some c.if-owner-who.false in
    let done = landed old lines now.number now.line.t now.line.w c.args.who now.line.l c.args.datagram c.args.reading
    c.in-Some.datagram.now lane c.land.new.self ready.ends c.requires.first c.requires.within c.lane-lane.ensures.value
    found whose
    (c.in_ok-land.ensures.stands _ (history_of c.args.who header lines) peer
    (ready.ends.lanes c.args.who lane c.lane-lane.ensures.value).companion) in
    let on = are_on old lines now c.args.who (Land c.args.datagram c.args.reading) own is may ready.are in
    let ok : Result (Unit {0}) WorldFault = Ok tt in
    record {
      answer = ap (λ b. cond (b && true) ok (Err Absent)) done.0;
      are = are_set c.args.who on c.lane-lane.ensures.value refl refl refl
          (read_lane c.args.who lines now c.args.reading own (ap own_reading is)
          (on.lanes c.args.who lane c.lane-lane.ensures.value) c.land.ensures.own
          (ap (λ (x : companions.Companion). x.setup) c.land.ensures.keeps) c.land.ensures.floor
          (omega (arith, c.land.ensures.after_sleep)));
      ends = at_line _ lines now c.args.who (Land c.args.datagram c.args.reading) own is done.1;
    }

pub returns-in_default-clause-carries : goal.returns-in_default-clause-carries
returns-in_default-clause-carries c = λ header lines now own is ready may.
    let old : Kept = kept header c.args.self.now in
    refuses-absent _ _ lines now c.args.who (Land c.args.datagram c.args.reading)
    (ap (λ b. b && true) (not_landing old lines c.args.who c.args.datagram ready.ends
    (rw c.deref-2.ensures.value at (rw c.deref.ensures.value at c.in_default.ensures.none))))

pub returns-then-owner-who-clause-carries : goal.returns-then-owner-who-clause-carries
returns-then-owner-who-clause-carries c = λ header lines now own is ready may.
    let old : Kept = kept header c.args.self.now in
    let whose : stored old.made_for c.args.datagram ≡ Some c.in-Some.owner =
    ap (λ (items : List ℕ). stored items c.args.datagram) (sym c.deref-2.ensures.value)
    ∙ c.in-Some.ensures.some.1 in
    refuses-absent _ _ lines now c.args.who (Land c.args.datagram c.args.reading)
    (ap (λ b. b && true) (not_for old lines c.args.who c.in-Some.owner c.args.datagram ready.ends whose
    c.if-owner-who.true))

pub land-requires-clause-floor : goal.land-requires-clause-floor
land-requires-clause-floor c =
    let ready = c.requires.ready in
    may_ask c.args.who ready.1 (ready.2.are.lanes c.args.who c.lane-lane.result.now c.lane-lane.ensures.value) ready.3

pub returns-in_err-land-clause-carries : goal.returns-in_err-land-clause-carries
returns-in_err-land-clause-carries c = λ header lines now own is ready may.
    wants _ _ c.from_residual.result lines now c.args.who (Land c.args.datagram c.args.reading)
    c.from_residual.ensures.1

pub returns-in_err-land-clause-refused : goal.returns-in_err-land-clause-refused
returns-in_err-land-clause-refused c = refused_memory _ _ c.from_residual.result c.from_residual.ensures.1
