-- A text is refused as the history says, or memory ran out.
use Rattle.std.proofs.Common.{◌≡◌, ℕ, sym, subst, ap, ◌∙◌, inl, inr, Some, None, Result, Ok, Err}
use Rattle.std.specs.Prelude.{◌⊎◌}
use Rattle.std.specs.Result.{result_err}
use Rattle.css_cii.specs.declared.state.State.{State}
use Rattle.css_companion.specs.Contents.{next_number, told_under}
use Rattle.css_companion.specs.Steps.{none_owed}
use Rattle.css_companion.specs.declared.fault.CompanionFault.{CompanionFault}
use Rattle.css_companion.specs.declared.fault.CompanionFault.TheVariants as fault
use Rattle.css_drive.specs.CompanionDue.{end_by}
use Rattle.css_drive.specs.CompanionStanding.{IsRefusal}
use Rattle.css_drive.specs.declared.driven.Driven.{Driven}
use Rattle.css_drive.specs.declared.driven.Driven.TheVariants as driven
use Rattle.css_drive.proofs.companion_hears.take_in.Goals as goal

ends_so : (refusal : CompanionFault) (ended : Driven) → ended ≡ end_by refusal → IsRefusal (Some refusal) ended
ends_so refusal driven.Memory e = tt
ends_so refusal ended e = e

refuses : (told : Result State CompanionFault) (found : CompanionFault) (ended : Driven)
    → (none_owed told ≡ Err found) ⊎ (found ≡ fault.Memory) → ended ≡ end_by found → IsRefusal (result_err told) ended
refuses (Ok state) found ended (inl e) same = absurd (cc)
refuses (Err other) found ended (inl e) same =
    let is : other ≡ found = cc in ends_so other ended (same ∙ ap end_by (sym is))
refuses told found ended (inr e) same =
    subst (λ (d : Driven). IsRefusal (result_err told) d) (sym (same ∙ ap end_by e)) tt

pub returns-in-Cii-clause-told : goal.returns-in-Cii-clause-told
returns-in-Cii-clause-told c = λ own peer history is k.
    let answer = rw (k.stands.texts, k.stands.state) at c.in-Err.ensures.answer in
    rw c.in-Cii.is (refuses _ _ _ answer c.refused.ensures.end)
