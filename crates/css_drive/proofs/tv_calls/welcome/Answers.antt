use Rattle.std.proofs.Common.{ap, refl, [], ◌∷◌, None}
use Rattle.css_model.specs.History.{NoneCame}
use Rattle.css_model.specs.declared.Kind.TheVariants as peer_kind
use Rattle.css_num.specs.declared.protocol.Kind.TheVariants as kind
use Rattle.css_outside.specs.Outsides.{Counts}
use Rattle.css_drive.specs.TvProgress.{Asked}
use Rattle.css_drive.proofs.TvSteps.{failed, moved, welcomes}
use Rattle.css_drive.proofs.tv_calls.welcome.Goals as goal

pub returns-in-Ok-None : goal.returns-in-Ok-None
returns-in-Ok-None g c from air s =
    let k = c.in-Ok-None.ensures.counted in
    moved s refl (NoneCame ∷ []) tt (None, refl) (record {
      told = rw c.in-Ok-None.field-0-is at c.in-Ok-None.ensures.told;
      dials = ap (λ (x : Counts). x.dial_faults) k.same;
      faults = k.faults;
      peers = rw c.in-Ok-None.field-0-is at k.peer;
    })

pub returns-in-Ok-Some-default-Cii : goal.returns-in-Ok-Some-default-Cii
returns-in-Ok-Some-default-Cii g c from air s =
    let w = c.in-Ok-Some-default-Cii in
    c.play.ensures (Asked None) from air (welcomes s w.peer peer_kind.Cii kind.Cii (λ p. refl)
    (rw w.field-0-0-1-is at (rw w.field-0-is at w.ensures.told))
    (rw w.field-0-0-1-is at (rw w.field-0-is at w.ensures.counted)))

pub returns-in-Ok-Some-default-Ts : goal.returns-in-Ok-Some-default-Ts
returns-in-Ok-Some-default-Ts g c from air s =
    let w = c.in-Ok-Some-default-Ts in
    c.play-in-Ok-Some-default-Ts.ensures (Asked None) from air (welcomes s w.peer peer_kind.Ts kind.Ts (λ p. refl)
    (rw w.field-0-0-1-is at (rw w.field-0-is at w.ensures.told))
    (rw w.field-0-0-1-is at (rw w.field-0-is at w.ensures.counted)))

pub returns-in-Err : goal.returns-in-Err
returns-in-Err g c from air s =
    failed s.history (c.end_of.ensures.failed _ _ _ refl c.in-Err.ensures.told c.in-Err.ensures.counted.faults
    (ap (λ (x : Counts). x.dial_faults) c.in-Err.ensures.counted.same))
