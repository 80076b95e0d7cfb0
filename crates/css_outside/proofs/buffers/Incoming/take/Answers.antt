use Rattle.std.proofs.Common.{ℕ, List, ◌≡◌, ◌≤◌, ◌+◌, ◌-◌, length, take, drop, ◌∙◌, ap, arith}
use Rattle.std.proofs.lemmas.List.{length-drop}
use Rattle.css_outside.proofs.Known.{given_front}
use Rattle.css_outside.proofs.buffers.Incoming.take.Goals as goal

pub returns-clause-bytes : goal.returns-clause-bytes
returns-clause-bytes c =
    let bytes = c.self.inside.bytes.items in
    let at = c.self.inside.at in
    let count = c.min-count.result in
    let fits : count ≤ length (drop at bytes) = omega (arith, length-drop at bytes) in
    let given : c.copy_from_slice.new.self ≡ take count (drop at bytes) =
    c.copy_from_slice.ensures.after
    ∙ ap (λ (k : ℕ). take k (drop at c.deref.result.now)) (let e : (at + count) - at ≡ count = omega arith in e)
    ∙ ap (λ (l : List ℕ). take count (drop at l)) c.deref.ensures.value in
    rw (ap (λ s. s.left) c.self.view_is) at
    (given_front bytes c.copy_from_slice.new.self (drop count c.args.into.now) at count given fits)
