-- The reading at a line is tested and kept; at a sleep the companion's next reading has to be greater.
use Rattle.std.proofs.Common.{true, refl, ap, rules}
use Rattle.css_world.specs.declared.clocks.Clocks.{Clocks}
use Rattle.css_world.specs.Lending.{with_own}
use Rattle.css_world.proofs.Names.{is_sleep, Numbered, tv_reading, own_reading, tv_seen, own_seen}
use Rattle.css_world.proofs.Delivered.{on_both}
use Rattle.css_world.proofs.Watching.{read_watch, quiet_watch, slept_watch, read_own, read_none, tv_read, own_read}
use Rattle.css_world.proofs.clocks.Clocks.read.Goals as goal

pub returns-in-Take-clause-verdict : goal.returns-in-Take-clause-verdict
returns-in-Take-clause-verdict c = λ header shown lines stand.
    let now : Numbered = record { number = c.args.number; line = c.args.line.now } in
    tv_read header c.args.self.now shown lines now _ c.read-in-Take.result stand (search rules) (search rules)
    c.read-in-Take.ensures.verdict

pub returns-in-Take-clause-stands : goal.returns-in-Take-clause-stands
returns-in-Take-clause-stands c = λ header shown lines stand.
    let now : Numbered = record { number = c.args.number; line = c.args.line.now } in
    on_both c.read-in-Take.result c.read-in-Take.ensures.last c.read-in-Take.ensures.awake (λ last awake.
    read_none header c.args.self.now shown lines now c.read-in-Take.new.self stand (search rules) (search rules)
    (read_watch (tv_seen now) _ (search rules) stand.tv c.read-in-Take.ensures.rest.0 c.read-in-Take.ensures.rest.1
    last awake))

pub returns-in-Ask-clause-verdict : goal.returns-in-Ask-clause-verdict
returns-in-Ask-clause-verdict c = λ header shown lines stand.
    let now : Numbered = record { number = c.args.number; line = c.args.line.now } in
    own_read header c.args.self.now shown lines now _ c.own-clock-in-Ask.result.now c.read.result stand
    c.own-clock-in-Ask.ensures.value (search rules) (search rules) c.read.ensures.verdict

pub returns-in-Ask-clause-stands : goal.returns-in-Ask-clause-stands
returns-in-Ask-clause-stands c = λ header shown lines stand.
    let now : Numbered = record { number = c.args.number; line = c.args.line.now } in
    let found = c.own-clock-in-Ask.ensures.value in
    on_both c.read.result c.read.ensures.last c.read.ensures.awake (λ last awake.
    let new : Clocks = with_own c.args.self.now c.args.line.now.who c.read.new.self in
    read_own header c.args.self.now new shown lines now c.own-clock-in-Ask.result.now c.read.new.self stand found
    (search rules) refl refl
    (read_watch (own_seen now) _ (search rules) (stand.own now.line.who c.own-clock-in-Ask.result.now found)
    c.read.ensures.rest.0 c.read.ensures.rest.1 last awake))

pub returns-in-Sleep-clause-stands : goal.returns-in-Sleep-clause-stands
returns-in-Sleep-clause-stands c = λ header shown lines stand.
    let now : Numbered = record { number = c.args.number; line = c.args.line.now } in
    let found = c.own-clock.ensures.value in
    read_own header c.args.self.now _ shown lines now c.own-clock.result.now
    (record c.own-clock.result.now { woken = true }) stand found (ap tv_reading c.in-Sleep.is) refl refl
    (slept_watch (own_seen now) (ap own_reading c.in-Sleep.is) (ap is_sleep c.in-Sleep.is)
    (stand.own now.line.who c.own-clock.result.now found))

pub returns-in_default-clause-stands : goal.returns-in_default-clause-stands
returns-in_default-clause-stands c = λ header shown lines stand.
    let now : Numbered = record { number = c.args.number; line = c.args.line.now } in
    read_none header c.args.self.now shown lines now c.args.self.now.tv stand (search rules) (search rules)
    (quiet_watch (tv_seen now) (search rules) refl stand.tv)
