use Rattle.std.proofs.Common.{refl, inl, inr, arith}
use Rattle.css_drive.proofs.CompanionEnds as ends
use Rattle.css_drive.proofs.companion_live.Run.hang_up.Goals as goal

pub returns-in-Err : goal.returns-in-Err
returns-in-Err g c = record {
  stops = λ cfg before started x. c.in-Err.ensures.goes cfg before started _ x _ (ends.left x);
  names = c.in-Err.ensures.stays.names;
  dials = c.in-Err.ensures.stays.dials;
  kind = inr c.in-Err.ensures.stays.early;
}

pub returns-in-Ok-hang_up_one : goal.returns-in-Ok-hang_up_one
returns-in-Ok-hang_up_one g c = record {
  stops = λ cfg before started x.
      let y = c.in-Ok.ensures.goes cfg before started _ x _ (ends.left x) in
      let z = c.in-Ok-hang_up_one.ensures.goes cfg before started _ y _ (ends.cii_shut y c.in-Ok.ensures.shut) in
      ends.hung_up z (c.in-Ok-hang_up_one.ensures.cii c.in-Ok.ensures.shut) c.in-Ok-hang_up_one.ensures.shut;
  names = ends.names_on c.in-Ok.ensures.stays.names c.in-Ok-hang_up_one.ensures.stays.names;
  dials = omega (arith, c.in-Ok.ensures.stays.dials, c.in-Ok-hang_up_one.ensures.stays.dials);
  kind = inl refl;
}

pub returns-in-Err-hang_up_one : goal.returns-in-Err-hang_up_one
returns-in-Err-hang_up_one g c = record {
  stops = λ cfg before started x.
      let y = c.in-Ok.ensures.goes cfg before started _ x _ (ends.left x) in
      c.in-Err-hang_up_one.ensures.goes cfg before started _ y _ (ends.cii_shut y c.in-Ok.ensures.shut);
  names = ends.names_on c.in-Ok.ensures.stays.names c.in-Err-hang_up_one.ensures.stays.names;
  dials = omega (arith, c.in-Ok.ensures.stays.dials, c.in-Err-hang_up_one.ensures.stays.dials);
  kind = inr c.in-Err-hang_up_one.ensures.stays.early;
}
