use Rattle.std.proofs.Common.{◌≡◌, ℤ, ◌∙◌, arith, rules, sym, ap, ap₂, subst, length, to_z, of_z, w32, w64}
use Rattle.std.specs.Prelude.{Ok}
use Rattle.std.proofs.lemmas.List.{length-reverse}
use Rattle.css_companion.specs.Reports.{IsTimed}
use Rattle.css_companion.specs.Standing.{own_of}
use Rattle.css_companion.specs.declared.knowledge.Timing.{Timing}
use Rattle.css_companion_c.proofs.Copies.{all_possible}
use Rattle.css_companion_c.proofs.snapshot.taken.Goals as goal

pub returns : goal.returns
returns c =
    let own = sym c.local-local.ensures ∙ sym c.local.view_is in
    let kept = sym c.answers-answers.ensures.kept ∙ sym c.all_plain.ensures in
    let content : to_z w64 (of_z w64 c.timing.inside.0.0) ≡ c.timing.inside.0.0 = search rules in
    let speed : to_z w32 (of_z w32 c.timing.inside.0.1.1.0) ≡ c.timing.inside.0.1.1.0 = search rules in
    let numbers : Timing = record {
      content = to_z w64 (of_z w64 c.timing.inside.0.0);
      wall = c.timing.inside.0.1.0;
      speed = to_z w32 (of_z w32 c.timing.inside.0.1.1.0);
      rate = record {
        units_per_tick = c.timing.inside.0.1.1.1.0.units_per_tick;
        units_per_second = c.timing.inside.0.1.1.1.0.units_per_second;
      };
    } in
    let same : numbers ≡ c.args.timing =
    ap₂ (λ (x y : ℤ). record numbers { content = x; speed = y }) content speed ∙ c.timing.view_is in
    record {
      own = own;
      floor = sym c.floor.ensures;
      kept = kept;
      timing = c.requires.timing ∙ ap Ok (sym same);
      meaning = λ history known. c.requires.meaning history known ∙ ap Ok (sym same);
      in_range = record {
        own = c.local.invariant;
        count = omega (
          arith,
          c.requires.few,
          ap length c.answers-answers.ensures.kept,
          length-reverse c.args.companion.now.client.estimate.kept,
        );
        possible = λ reading later.
            all_possible _ (own_of c.args.companion.now) reading c.args.companion.now.client.estimate.kept _ own kept
            (c.answers-answers.ensures.possible reading (omega (arith, later, c.floor.ensures)));
        timed = subst IsTimed (sym same) c.requires.timed;
        rate = c.timing.invariant;
      };
    }
