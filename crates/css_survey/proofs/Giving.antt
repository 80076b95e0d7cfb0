-- What a generator gave, and whether there was a line more.
use Rattle.std.proofs.Common.{◌≡◌, ◌+◌, ◌<◌, ℕ, List, Bool, true, false, cond, ltb, refl, ltb-true, Some, None}
use Rattle.css_gen.specs.Generated.{Generator, text_after, next_text, after_next}

-- A generator gave this text: it was the next one, and there was one line more.
pub record Gave (before after : Generator) (bytes : List ℕ) : Type 0 where
  pub more : before.given < before.lines
  pub text : bytes ≡ text_after before
  pub gone : after ≡ record before { given = before.given + 1 }

pub gave : (before after : Generator) (text : List ℕ) → Some text ≡ next_text before → after ≡ after_next before
    → Gave before after text
gave before after text given left = by (ltb before.given before.lines) refl given left
  where
    next : List ℕ
    next = text_after before

    left_so : Generator
    left_so = record before { given = before.given + 1 }

    by : (b : Bool) → ltb before.given before.lines ≡ b → Some text ≡ cond b (Some next) None
        → after ≡ cond b left_so before → Gave before after text
    by true more is left = record { more = ltb-true before.given before.lines more; text = cc; gone = left }
    by false more is left = absurd (cc)
