use Rattle.std.proofs.Common.{◌≡◌, ◌++◌, length, ap, ◌∙◌, arith}
use Rattle.css_sessions.specs.Kept.{Published, step_of}
use Rattle.css_tv.proofs.Room.{few_news}
use Rattle.css_tv.proofs.publishing.publish.Goals as goal

pub deliver-requires : goal.deliver-requires
deliver-requires c =
    let said = (step_of (Published c.in_ok-state.state c.args.player.now) c.args.sessions.now).said in
    let told : c.published.new.out.items ≡ said =
    c.in_ok-published.ensures.said ∙ ap (λ xs. xs ++ said) c.new-said.ensures.items in
    omega (
      arith,
      few_news c.in_ok-state.state c.args.player.now c.args.sessions.now,
      ap length told,
      c.published.new.out.ok.0,
      c.requires.few,
      c.in_ok-make_room.ensures.ok,
    )
