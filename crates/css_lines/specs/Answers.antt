-- What a reader of lines answers.
use Rattle.std.specs.Prelude.{◌≡◌, ℕ, List, ◌++◌, Result, Ok, Err, MatchResult}
use Rattle.css_lines.specs.declared.reader.LineFault.{LineFault}
use Rattle.css_lines.specs.declared.reader.LineFault.TheVariants.{Refused, Memory}

-- the cause is the meant one, and want of memory may come at any line
abbrev pub MayFault : {Cause : Type 0} → Result (List ℕ) Cause → LineFault Cause → Type 0
MayFault meant (Refused cause) = meant ≡ Err cause
MayFault meant Memory = Unit {0}

-- a call added what is meant to the output, or answered the meant cause or want of memory and added nothing
pub record Answers {T Cause : Type 0} (meant : Result (List ℕ) Cause) (old new : List ℕ)
    (result : Result T (LineFault Cause)) : Type 0 where
  pub cases : MatchResult result (λ _. (printed : List ℕ) × (meant ≡ Ok printed) × (new ≡ old ++ printed))
      (λ fault. MayFault meant fault × (new ≡ old))
