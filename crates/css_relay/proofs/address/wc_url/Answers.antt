-- The address is UTF-8.
use Rattle.std.proofs.Common.{◌<◌, ◌^◌, rules, sym, subst}
use Rattle.std.proofs.lemmas.Result.{IfOk-weaker}
use Rattle.std.specs.Str.{IsUtf8}
use Rattle.css_relay.proofs.HostTexts.{wc_url_utf8}
use Rattle.css_relay.proofs.address.wc_url.Goals as goal

pub returns-clause-utf8 : goal.returns-clause-utf8
returns-clause-utf8 c =
    let small : c.args.port < 2 ^ 16 = search rules in
    IfOk-weaker c.udp_url.result _ _ (λ url same. subst IsUtf8 (sym same)
    (wc_url_utf8 c.args.host.now c.args.port small c.requires)) c.udp_url.ensures
