-- Each turn finds one timeline more.
use Rattle.std.proofs.Common.{◌≡◌, ◌<◌, ◌≤◌, Some, None, length, get_or, sym, subst, rules}
use Rattle.std.specs.Str.{IsUtf8}
use Rattle.serde_json.specs.View.{view}
use Rattle.css_cii.specs.Texts.{SelectorsAreUtf8}
use Rattle.css_cii.specs.Timelines.{timeline_of}
use Rattle.css_cii.proofs.Runs.{one_found, nothing_found, all_told, none_told}
use Rattle.css_cii.proofs.timelines.timelines_in.Goals as goal

pub loop-value-preserved : goal.loop-value-preserved
loop-value-preserved c =
    let told : Some c.in-Some.timeline ≡ timeline_of (view c.value-item.result) = search rules in
    let entries = sym c.deref-value-items.ensures.value in
    let lt : c.loop-value.value-index < length c.args.values.now.items = rw entries c.loop-value-test.true in
    let is : c.value-item.result ≡ get_or c.args.values.now.items c.loop-value.value-index c.value-item.result =
    rw entries c.value-item.is in
    let utf8 : IsUtf8 c.in-Some.timeline.selector = search rules in
    rw (c.in_ok-push.ensures.items) (one_found c.args.values.now.items c.loop-value.found.items
    c.loop-value.value-index c.value-item.result c.in-Some.timeline lt is told utf8 c.loop-value.invariant)

pub loop-value-init : goal.loop-value-init
loop-value-init c = rw (c.new-found.ensures.items) (nothing_found c.args.values.now.items)

pub returns-clause-value : goal.returns-clause-value
returns-clause-value c =
    let entries = sym c.deref-value-items.ensures.value in
    let past : length c.args.values.now.items ≤ c.loop-value.value-index = rw entries c.loop-value-test.false in
    rw (c.of.ensures) (all_told c.loop-value.found.items c.args.values.now.items c.loop-value.value-index past
    c.loop-value.invariant.told)

pub returns-clause-utf8 : goal.returns-clause-utf8
returns-clause-utf8 c = subst SelectorsAreUtf8 (sym c.of.ensures) c.loop-value.invariant.utf8

pub returns-in_default-clause-value : goal.returns-in_default-clause-value
returns-in_default-clause-value c =
    let told : None ≡ timeline_of (view c.value-item.result) = search rules in
    let entries = sym c.deref-value-items.ensures.value in
    let lt : c.loop-value.value-index < length c.args.values.now.items = rw entries c.loop-value-test.true in
    let is : c.value-item.result ≡ get_or c.args.values.now.items c.loop-value.value-index c.value-item.result =
    rw entries c.value-item.is in
    none_told c.loop-value.found.items c.args.values.now.items c.loop-value.value-index c.value-item.result lt is told
    c.loop-value.invariant.told
