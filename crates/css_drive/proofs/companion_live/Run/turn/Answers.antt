use Rattle.std.proofs.Common.{◌≡◌, sym, ◌∙◌, arith, true, false}
use Rattle.std.proofs.lemmas.Result.{err_from_is_err_and, on_ok_weaker}
use Rattle.css_drive.specs.CompanionStanding.{is_calling}
use Rattle.css_drive.proofs.CompanionSteps.{◌>=>◌, comes}
use Rattle.css_drive.proofs.CompanionEnds as ends
use Rattle.css_drive.proofs.companion_live.Run.turn.Goals as goal

-- ---- the turn didn't begin
pub returns-in_err-start : goal.returns-in_err-start
returns-in_err-start g c =
    let p = err_from_is_err_and c.from_residual.result c.from_residual.ensures.1 in
    rw (p.1, p.2) (assumption (c.in_err-start.ensures, c.start.ensures))

pub start-requires : goal.start-requires
start-requires g c = record {
  floor = c.requires.floor;
  made = c.requires.made;
  reported = omega (arith, c.requires.reported, c.args.config.now.few_reports);
}

-- ---- the calls of the turn
pub calls-requires : goal.calls-requires
calls-requires g c = record { floor = c.in_ok-start.ensures.floor; bounds = c.requires.bounds }

pub returns-then-is_calling : goal.returns-then-is_calling
returns-then-is_calling g c = record {
  goes = c.in_ok-start.ensures.goes >=> (λ before started h s k d. c.calls.ensures.goes before started h s k
      (ends.in_turn s d true (sym c.is_calling.ensures ∙ c.if-is_calling.true)));
  names = ends.names_on c.start.ensures.names c.calls.ensures.stays.names;
  floor = c.calls.ensures.stays.floor c.in_ok-start.ensures.floor;
  made = ends.on_ok c.calls.result (c.calls.ensures.stays.made ∙ c.in_ok-start.ensures.made);
  dials = omega (arith, c.start.ensures.dials, c.calls.ensures.stays.dials);
  early = c.calls.ensures.stays.early;
  tried = λ started le tried. on_ok_weaker c.calls.result (λ risen few begun none. ends.risen_within _ _ _ _
      (omega (arith, le, c.start.ensures.dials)) (omega arith) (risen none)) c.calls.ensures.tried;
}

-- ---- nothing follows the report
pub returns : goal.returns
returns g c =
    let last : is_calling c.args.config.now c.start.new.self.live.now ≡ false =
    sym c.is_calling.ensures ∙ c.if-is_calling.false in
    record {
      goes = λ before started h s k d.
          let a = c.in_ok-start.ensures.goes before started h s k d in
          comes a.stands a.known _ (ends.in_turn a.stands a.next false last);
      names = c.start.ensures.names;
      floor = c.in_ok-start.ensures.floor;
      made = c.in_ok-start.ensures.made;
      dials = c.start.ensures.dials;
      early = tt;
      tried = λ started le tried few some none. ends.risen_within _ _ _ _ (omega arith) c.start.ensures.dials
          (tried c.requires.reported (λ first. ends.first_calls c.args.config.now c.start.new.self.live.now few
          (c.in_ok-start.ensures.first first) last) (c.in_ok-start.ensures.dialled none));
    }
