-- The pieces of the line, one after the other.
use Rattle.std.proofs.Common.{◌≡◌, ℕ, ℤ, List, [], ◌∷◌, ◌++◌, append_assoc, to_z, of_z, codes, decimal}
use Rattle.css_world.proofs.Names.{signed_decimal, w128, to_z-of_z}
use Rattle.css_world.proofs.Appending.{begins, on_ok, on_err, at_err}
use Rattle.css_world.proofs.printed.print_ends.Goals as goal
use Rattle.css_world.proofs.printed.print_ends.Given as given

-- what stands after the second piece
after_two : (before name one two : List ℕ) (number : ℕ) (lo : ℤ)
    → one ≡ before ++ decimal number ++ name → two ≡ one ++ signed_decimal lo ++ codes " "
    → two ≡ before ++ (decimal number ++ name ++ signed_decimal lo ++ codes " ")
after_two before name one two number lo a b = rw (b, a) (simp append_assoc)

-- after the third one
after_three : (before name one two third : List ℕ) (number : ℕ) (lo hi : ℤ)
    → one ≡ before ++ decimal number ++ name → two ≡ one ++ signed_decimal lo ++ codes " "
    → third ≡ two ++ signed_decimal hi ++ codes " at " → third ≡ before
    ++ (decimal number ++ name ++ signed_decimal lo ++ codes " " ++ signed_decimal hi ++ codes " at ")
after_three before name one two third number lo hi a b d = rw (d, b, a) (simp append_assoc)

-- and after the last one
after_four : (before name third all : List ℕ) (number : ℕ) (lo hi : ℤ) (place : List ℕ) → third ≡ before
    ++ (decimal number ++ name ++ signed_decimal lo ++ codes " " ++ signed_decimal hi ++ codes " at ")
    → all ≡ third ++ place ++ 10 ∷ []
    → all ≡ before ++ (decimal number ++ name ++ signed_decimal lo ++ codes " " ++ signed_decimal hi
    ++ codes " at " ++ place ++ 10 ∷ [])
after_four before name third all number lo hi place d e = rw (e, d) (simp append_assoc)

-- what the pieces are that were added before the last one
front : (g : given.Over) (c : goal.After-add-4 g) → c.add-3.new.out.items ≡ c.args.out.now.items
    ++ (decimal c.args.number ++ c.args.name.now ++ signed_decimal c.args.lo ++ codes " "
    ++ signed_decimal c.args.hi ++ codes " at ")
front g c =
    let before : List ℕ = c.args.out.now.items in
    let lo : to_z w128 (of_z w128 c.args.lo) ≡ c.args.lo = to_z-of_z w128 c.args.lo c.ranges.lo in
    let hi : to_z w128 (of_z w128 c.args.hi) ≡ c.args.hi = to_z-of_z w128 c.args.hi c.ranges.hi in
    let two : c.add-2.new.out.items ≡ c.add.new.out.items ++ signed_decimal c.args.lo ++ codes " " =
    rw lo at c.in_ok-add-2.ensures.ok in
    let third : c.add-3.new.out.items ≡ c.add-2.new.out.items ++ signed_decimal c.args.hi ++ codes " at " =
    rw hi at c.in_ok-add-3.ensures.ok in
    after_three before c.args.name.now c.add.new.out.items c.add-2.new.out.items c.add-3.new.out.items c.args.number
    c.args.lo c.args.hi c.in_ok-add.ensures.ok two third

pub returns-in_err-add-3-clause-err : goal.returns-in_err-add-3-clause-err
returns-in_err-add-3-clause-err g c =
    let before : List ℕ = c.args.out.now.items in
    let lo : to_z w128 (of_z w128 c.args.lo) ≡ c.args.lo = to_z-of_z w128 c.args.lo c.ranges.lo in
    let two : c.add-2.new.out.items ≡ c.add.new.out.items ++ signed_decimal c.args.lo ++ codes " " =
    rw lo at c.in_ok-add-2.ensures.ok in
    at_err c.from_residual-in_err-add-3.result
    (begins before (decimal c.args.number ++ c.args.name.now ++ signed_decimal c.args.lo ++ codes " ")
    c.add-2.new.out.items c.add-3.new.out.items
    (after_two before c.args.name.now c.add.new.out.items c.add-2.new.out.items c.args.number c.args.lo
    c.in_ok-add.ensures.ok two)
    c.in_err-add-3.ensures.err)

pub returns-clause-ok : goal.returns-clause-ok
returns-clause-ok g c =
    on_ok c.add-4.result
    (after_four c.args.out.now.items c.args.name.now c.add-3.new.out.items c.add-4.new.out.items c.args.number
    c.args.lo c.args.hi (g.I.Integer.text c.args.at) (front g c))
    c.add-4.ensures.ok

pub returns-clause-err : goal.returns-clause-err
returns-clause-err g c =
    on_err c.add-4.result
    (begins c.args.out.now.items (decimal c.args.number ++ c.args.name.now ++ signed_decimal c.args.lo ++ codes " "
    ++ signed_decimal c.args.hi ++ codes " at ")
    c.add-3.new.out.items c.add-4.new.out.items (front g c))
    c.add-4.ensures.err
