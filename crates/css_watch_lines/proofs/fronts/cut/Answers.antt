use Rattle.std.proofs.Common.{◌∙◌, ap, sym, subst, take, arith, ℕ, List}
use Rattle.css_watch_lines.proofs.Cuts.{IsLast, cut_is}
use Rattle.css_watch_lines.proofs.fronts.cut.Goals as goal

pub returns : goal.returns
returns c =
    let floor = c.floor_char_boundary-end.ensures in
    let same = c.as_str.ensures.value in
    c.truncate.ensures.bytes ∙ cut_is _ _ (omega arith) (subst (λ (words : List ℕ). IsLast words 1000
    c.floor_char_boundary-end.result) same (record {
      bound = floor.bound;
      boundary = floor.boundary;
      nearest = floor.nearest;
    }))
