use Rattle.std.proofs.Common.{sym, subst}
use Rattle.std.specs.Str.{IsUtf8}
use Rattle.css_tv.proofs.HostTexts.{wc_utf8, ts_utf8}
use Rattle.css_tv.proofs.urls.addresses_of.Goals as goal

pub returns-clause-wc_utf8 : goal.returns-clause-wc_utf8
returns-clause-wc_utf8 c =
    subst IsUtf8 (sym c.in_ok-clock.ensures) (wc_utf8 c.args.host.now c.args.port c.requires.port c.requires.utf8)

pub returns-clause-ts_utf8 : goal.returns-clause-ts_utf8
returns-clause-ts_utf8 c =
    subst IsUtf8 (sym c.in_ok-sessions.ensures) (ts_utf8 c.args.host.now c.args.port c.requires.port c.requires.utf8)
