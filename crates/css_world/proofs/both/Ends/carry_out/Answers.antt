-- At `wall` and `print` what they tell is printed, and at any other line nothing.
use Rattle.std.proofs.Common.{◌≡◌, ◌<◌, ◌^◌, ℕ, ℤ, pos, negsuc, arith, refl, ap, subst, FitsSigned, w64, unsigned_abs}
use Rattle.std.proofs.Common.{Some, IfSome}
use Rattle.css_tv.specs.declared.event.TvEvent.TheVariants as event
use Rattle.css_world.proofs.Names.{to_z-of_z, Ask, Land, Wall, Print, Programme, Timeline, Viewer, IsVerb, line_of}
use Rattle.css_world.proofs.Names.{Numbered, wall_text, own_reading, span_at, report_at, assigned_at, Line, Verb}
use Rattle.css_world.proofs.Names.{is_own}
use Rattle.css_world.proofs.Carrying.{at_line}
use Rattle.css_world.proofs.AtTelevision.{walls, prints}
use Rattle.css_world.specs.Standing.{Kept, kept, MayRead, MayTake, ReadyFor, ReadyAt}
use Rattle.css_world.specs.declared.both.Ends.{Ends}
use Rattle.css_world.proofs.Going.{prints_nothing, prints_line}
use Rattle.css_world.proofs.both.Ends.carry_out.Goals as goal

-- a timeline's base fits its type
base-fits : (base : ℤ) → unsigned_abs base < 10 ^ 18 → FitsSigned w64 base
base-fits (pos n) small = record { sfits = omega (arith, small) }
base-fits (negsuc n) small = record { sfits = omega (arith, small) }

-- what is ready for the line is ready for its reading
ready_at : (ends : Ends) (line : Line) (verb : Verb) (reading : ℕ) → line.verb ≡ verb → own_reading verb ≡ Some reading
    → ReadyFor ends line → ReadyAt ends line.who reading
ready_at ends line verb reading is takes ready =
    let may : MayTake line.who ready.1 verb = subst (MayTake line.who ready.1) is ready.3 in (
      ready.0,
      ready.1,
      ready.2,
      subst (λ o. IfSome o (MayRead line.who ready.1)) takes may,
    )

pub ask-requires-clause-first : goal.ask-requires-clause-first
ask-requires-clause-first c = c.requires.of.own (ap is_own c.in-Ask.is)

pub ask-requires-clause-ready : goal.ask-requires-clause-ready
ask-requires-clause-ready c = ready_at c.args.self.now c.args.line (Ask c.in-Ask.reading) _ c.in-Ask.is refl
    c.requires.ready

pub land-requires-clause-first : goal.land-requires-clause-first
land-requires-clause-first c = c.requires.of.own (ap is_own c.in-Land.is)

pub land-requires-clause-ready : goal.land-requires-clause-ready
land-requires-clause-ready c = ready_at c.args.self.now c.args.line (Land c.in-Land.datagram c.in-Land.reading) _
    c.in-Land.is refl c.requires.ready

pub wall-requires-clause-first : goal.wall-requires-clause-first
wall-requires-clause-first c = c.requires.of.own (ap is_own c.in-Wall.is)

pub wall-requires-clause-ready : goal.wall-requires-clause-ready
wall-requires-clause-ready c = ready_at c.args.self.now c.args.line (Wall c.in-Wall.reading) _ c.in-Wall.is refl
    c.requires.ready

pub print-requires-clause-first : goal.print-requires-clause-first
print-requires-clause-first c = c.requires.of.own (ap is_own c.in-Print.is)

pub print-requires-clause-ready : goal.print-requires-clause-ready
print-requires-clause-ready c = ready_at c.args.self.now c.args.line (Print c.in-Print.reading) _ c.in-Print.is refl
    c.requires.ready

pub open-requires-clause-first : goal.open-requires-clause-first
open-requires-clause-first c = c.requires.of.own (ap is_own c.in-Opening.is)

pub open-requires-clause-ready : goal.open-requires-clause-ready
open-requires-clause-ready c = (c.requires.ready.0, c.requires.ready.1, c.requires.ready.2)

pub bring-requires-clause-first : goal.bring-requires-clause-first
bring-requires-clause-first c = c.requires.of.own (ap is_own c.in-Bring.is)

pub bring-requires-clause-ready : goal.bring-requires-clause-ready
bring-requires-clause-ready c = (c.requires.ready.0, c.requires.ready.1, c.requires.ready.2)

pub up-requires-clause-first : goal.up-requires-clause-first
up-requires-clause-first c = c.requires.of.own (ap is_own c.in-Up.is)

pub up-requires-clause-ready : goal.up-requires-clause-ready
up-requires-clause-ready c = (c.requires.ready.0, c.requires.ready.1, c.requires.ready.2)

pub present-requires-clause-first : goal.present-requires-clause-first
present-requires-clause-first c = c.requires.of.own (ap is_own c.in-Present.is)

pub close-requires-clause-first : goal.close-requires-clause-first
close-requires-clause-first c = c.requires.of.own (ap is_own c.in-Close.is)

pub close-requires-clause-ready : goal.close-requires-clause-ready
close-requires-clause-ready c = (c.requires.ready.0, c.requires.ready.1, c.requires.ready.2)

pub sleep-requires-clause-first : goal.sleep-requires-clause-first
sleep-requires-clause-first c = c.requires.of.own (ap is_own c.in-Sleep.is)

pub returns-in-Ask-clause-prints : goal.returns-in-Ask-clause-prints
returns-in-Ask-clause-prints c =
    prints_nothing c.args.self.now c.ask.new.self c.args.out.now.items c.ask.result
    c.args.number c.args.line c.in-Ask.is (λ header lines. refl) c.ask.ensures.carries

pub returns-in-Take-clause-prints : goal.returns-in-Take-clause-prints
returns-in-Take-clause-prints c =
    prints_nothing c.args.self.now c.take.new.self c.args.out.now.items c.take.result
    c.args.number c.args.line c.in-Take.is (λ header lines. refl) (c.take.ensures.carries c.args.line.who)

pub returns-in-Give-clause-prints : goal.returns-in-Give-clause-prints
returns-in-Give-clause-prints c =
    prints_nothing c.args.self.now c.give.new.self c.args.out.now.items c.give.result
    c.args.number c.args.line c.in-Give.is (λ header lines. refl) (c.give.ensures.carries c.args.line.who)

pub returns-in-Land-clause-prints : goal.returns-in-Land-clause-prints
returns-in-Land-clause-prints c =
    prints_nothing c.args.self.now c.land.new.self c.args.out.now.items c.land.result
    c.args.number c.args.line c.in-Land.is (λ header lines. refl) c.land.ensures.carries

pub returns-in-Programme-clause-prints : goal.returns-in-Programme-clause-prints
returns-in-Programme-clause-prints c =
    prints_nothing c.args.self.now c.happen.new.self c.args.out.now.items c.happen.result
    c.args.number c.args.line c.in-Programme.is
    (λ header lines. refl) (c.happen.ensures.carries c.args.line.who (Programme c.in-Programme.content_id) refl)

pub returns-in-Timeline-clause-prints : goal.returns-in-Timeline-clause-prints
returns-in-Timeline-clause-prints c =
    prints_nothing c.args.self.now c.happen-in-Timeline.new.self c.args.out.now.items c.happen-in-Timeline.result
    c.args.number c.args.line c.in-Timeline.is (λ header lines. refl)
    (c.happen-in-Timeline.ensures.carries c.args.line.who
    (Timeline c.in-Timeline.programme c.in-Timeline.selector c.in-Timeline.rate c.in-Timeline.base)
    (ap (λ base. event.AddTimeline c.in-Timeline.programme c.in-Timeline.selector c.in-Timeline.rate base)
    (to_z-of_z w64 c.in-Timeline.base
    (base-fits c.in-Timeline.base (subst IsVerb c.in-Timeline.is c.requires.line.verb).base))))

pub returns-in-Viewer-clause-prints : goal.returns-in-Viewer-clause-prints
returns-in-Viewer-clause-prints c =
    prints_nothing c.args.self.now c.happen-in-Viewer.new.self c.args.out.now.items c.happen-in-Viewer.result
    c.args.number c.args.line c.in-Viewer.is (λ header lines. refl)
    (c.happen-in-Viewer.ensures.carries c.args.line.who (Viewer c.in-Viewer.reading c.in-Viewer.command) refl)

pub returns-in-Opening-clause-prints : goal.returns-in-Opening-clause-prints
returns-in-Opening-clause-prints c =
    prints_nothing c.args.self.now c.open.new.self c.args.out.now.items c.open.result
    c.args.number c.args.line c.in-Opening.is (λ header lines. refl) c.open.ensures.carries

pub returns-in-Bring-clause-prints : goal.returns-in-Bring-clause-prints
returns-in-Bring-clause-prints c =
    prints_nothing c.args.self.now c.bring.new.self c.args.out.now.items c.bring.result
    c.args.number c.args.line c.in-Bring.is (λ header lines. refl) c.bring.ensures.carries

pub returns-in-Up-clause-prints : goal.returns-in-Up-clause-prints
returns-in-Up-clause-prints c =
    prints_nothing c.args.self.now c.up.new.self c.args.out.now.items c.up.result
    c.args.number c.args.line c.in-Up.is (λ header lines. refl) c.up.ensures.carries

pub returns-in-Present-clause-prints : goal.returns-in-Present-clause-prints
returns-in-Present-clause-prints c =
    prints_nothing c.args.self.now c.present.new.self c.args.out.now.items c.present.result
    c.args.number c.args.line c.in-Present.is (λ header lines. refl) c.present.ensures.carries

pub returns-in-Close-clause-prints : goal.returns-in-Close-clause-prints
returns-in-Close-clause-prints c =
    prints_nothing c.args.self.now c.close.new.self c.args.out.now.items c.close.result
    c.args.number c.args.line c.in-Close.is (λ header lines. refl) c.close.ensures.carries

pub returns-in-Sleep-clause-prints : goal.returns-in-Sleep-clause-prints
returns-in-Sleep-clause-prints c =
    prints_nothing c.args.self.now c.sleep.new.self c.args.out.now.items c.sleep.result
    c.args.number c.args.line c.in-Sleep.is (λ header lines. refl) c.sleep.ensures.carries

pub returns-in-Wall-clause-prints : goal.returns-in-Wall-clause-prints
returns-in-Wall-clause-prints c = λ header lines ready may.
    let old : Kept = kept header c.args.self.now in
    let now : Numbered = record { number = c.args.number; line = c.args.line } in
    let who = c.args.line.who in
    prints_line old c.args.out.now.items c.wall.new.out.items c.wall.result lines now (Wall c.in-Wall.reading)
    (wall_text c.args.number (span_at who header lines c.in-Wall.reading) c.args.line.w) c.in-Wall.is refl refl
    (c.wall.ensures.printed header lines ready) c.wall.ensures.err ready may
    (at_line old lines now who (Wall c.in-Wall.reading) refl c.in-Wall.is
    (walls old lines c.args.number c.args.line.t c.args.line.w who c.args.line.l c.in-Wall.reading ready.ends))

pub returns-in-Print-clause-prints : goal.returns-in-Print-clause-prints
returns-in-Print-clause-prints c = λ header lines ready may.
    let old : Kept = kept header c.args.self.now in
    let now : Numbered = record { number = c.args.number; line = c.args.line } in
    let who = c.args.line.who in
    prints_line old c.args.out.now.items c.print.new.out.items c.print.result lines now (Print c.in-Print.reading)
    (line_of c.args.number (report_at who header lines c.in-Print.reading) (assigned_at who header lines c.args.line.w))
    c.in-Print.is refl refl (c.print.ensures.printed header lines ready) c.print.ensures.err ready may
    (at_line old lines now who (Print c.in-Print.reading) refl c.in-Print.is
    (prints old lines c.args.number c.args.line.t c.args.line.w who c.args.line.l c.in-Print.reading ready.ends))
