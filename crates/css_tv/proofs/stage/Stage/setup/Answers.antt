use Rattle.std.proofs.Common.{Ok, refl, subst, arith}
use Rattle.css_tsmsg.specs.Setups.{setup_of}
use Rattle.css_tv.specs.Stages.{Stage}
use Rattle.css_tv.specs.Outcomes.{by_setup}
use Rattle.css_tv.specs.Standing.{Any, GrowsBy}
use Rattle.css_tv.proofs.Room.{one_told, grows_setup}
use Rattle.css_tv.proofs.stage.Stage.setup.Goals as goal

pub deliver-requires : goal.deliver-requires
deliver-requires c =
    omega (
      arith,
      one_told (setup_of c.args.bytes.now) c.new-said.result.items c.setup.new.out.items _ c.new-said.ensures.items
          c.in-Ok.ensures.ok.1 c.in-Ok.ensures.said,
      c.setup.new.out.ok.0,
      c.in_ok-make_room.ensures.ok,
    )

pub returns-in-Ok-clause-stands : goal.returns-in-Ok-clause-stands
returns-in-Ok-clause-stands c =
    let old : Stage =
    record {
      addresses = c.self.inside.addresses;
      player = c.self.inside.player;
      sessions = c.self.inside.sessions;
    } in
    let new : Stage =
    record { addresses = c.self.inside.addresses; player = c.self.inside.player; sessions = c.setup.new.self } in
    subst (λ (s : Stage). GrowsBy Any s new (Ok (by_setup c.args.peer s.player (setup_of c.args.bytes.now))))
    c.self.view_is
    (grows_setup (setup_of c.args.bytes.now) c.args.peer old new c.in-Ok.ensures.ok.1 refl c.in-Ok.ensures.stands)
