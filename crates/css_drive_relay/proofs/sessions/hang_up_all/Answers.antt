use Rattle.std.proofs.Common.{◌≡◌, ◌++◌, ◌∷◌, [], ℕ, List, subst, ap, arith}
use Rattle.std.specs.Option.{option_to_list}
use Rattle.std.specs.Prelude.{drop, get_or, ◌+◌}
use Rattle.css_drive.proofs.TvSteps.{peers_all, peer_from}
use Rattle.css_drive_relay.specs.Standing.{Hangs}
use Rattle.css_drive_relay.proofs.Staying as staying
use Rattle.css_drive_relay.proofs.sessions.hang_up_all.Goals as goal

pub loop-peer-init : goal.loop-peer-init
loop-peer-init g c = staying.none_hung _ _

pub loop-peer-preserved : goal.loop-peer-preserved
loop-peer-preserved g c =
    let i : ℕ = c.loop-peer.peer-index in
    let peer : ℕ = get_or c.deref-peer-items.result.now i 0 in
    staying.one_hung c.loop-peer.invariant (ap (λ xs. xs ++ option_to_list c.args.live.now.own.cii_open)
    (subst (λ (xs : List ℕ). drop i xs ≡ peer ∷ drop (i + 1) xs) c.deref-peer-items.ensures.value
    (peer_from c.deref-peer-items.result.now i c.loop-peer-test.true))) c.in_ok-hang_up.ensures.told

pub returns-in_err-hang_up-clause-hangs : goal.returns-in_err-hang_up-clause-hangs
returns-in_err-hang_up-clause-hangs g c =
    staying.err_so (Hangs _ _ _) _ _ c.from_residual.ensures.1
    (staying.hanging_fails c.loop-peer.invariant c.in_err-hang_up.ensures.told)

pub returns-in-None-clause-hangs : goal.returns-in-None-clause-hangs
returns-in-None-clause-hangs g c =
    let over = c.loop-peer-test.false in
    staying.all_hung c.loop-peer.invariant (staying.left_last
    (subst (λ (xs : List ℕ). drop c.loop-peer.peer-index xs ≡ []) c.deref-peer-items.ensures.value
    (peers_all c.deref-peer-items.result.now c.loop-peer.peer-index (omega (arith, over)))) c.in-None.is)

pub returns-in-Some-clause-hangs : goal.returns-in-Some-clause-hangs
returns-in-Some-clause-hangs g c =
    let over = c.loop-peer-test.false in
    staying.last_hung _ c.loop-peer.invariant (staying.left_last
    (subst (λ (xs : List ℕ). drop c.loop-peer.peer-index xs ≡ []) c.deref-peer-items.ensures.value
    (peers_all c.deref-peer-items.result.now c.loop-peer.peer-index (omega (arith, over)))) c.in-Some.is)
    c.hang_up-in-Some.ensures.told
