-- A text that the companion refuses is a wrong line of the record.
use Rattle.std.proofs.Common.{◌≡◌, ◌⊎◌, inl, inr, ap, sym, subst, refl, List}
use Rattle.std.specs.Prelude.{ℕ, Option, Result, Ok, Err, IsErrAnd}
use Rattle.css_num.specs.Gives.{GivesBy}
use Rattle.css_cii.specs.declared.state.State.{State}
use Rattle.css_companion.specs.Standing as companions
use Rattle.css_companion.specs.Steps as steps
use Rattle.css_companion.specs.declared.event.CompanionEvent.{CompanionEvent}
use Rattle.css_companion.specs.declared.event.CompanionEvent.TheVariants as event
use Rattle.css_companion.specs.declared.fault.CompanionFault.{CompanionFault}
use Rattle.css_companion.specs.declared.fault.CompanionFault.TheVariants as told
use Rattle.css_audit.specs.Faults.{told_fault}
use Rattle.css_audit.specs.Standing.{IsRecorded, event_verdict}
use Rattle.css_audit.specs.Verdicts.{cii_verdict}
use Rattle.css_audit.specs.declared.fault.AuditFault.{AuditFault}
use Rattle.css_audit.specs.declared.fault.AuditFault.TheVariants as fault
use Rattle.css_audit.specs.declared.place.Place.{Place}

-- a refusal is one fault
same_refused : (one other : CompanionFault) (result : Result (Option (List ℕ)) CompanionFault) → result ≡ Err one
    → result ≡ Err other → one ≡ other
same_refused one other result is e = cc

cii-wrong : (told : Result State CompanionFault) (refused : CompanionFault) → steps.none_owed told ≡ Err refused
    → cii_verdict told ≡ Err (told_fault refused)
cii-wrong (Ok state) refused e = absurd (cc)
cii-wrong (Err other) refused e =
    ap (λ (f : CompanionFault). Err (told_fault f)) (same_refused other refused (Err other) refl e)

-- one that is refused is wrong, but for want of memory
event-refused : (companion : companions.Companion) (e : CompanionEvent) (refused : CompanionFault) → IsRecorded e
    → steps.owed companion e ≡ Err refused → event_verdict companion e ≡ Err (told_fault refused)
event-refused companion (event.CiiText bytes) refused is q = cii-wrong _ refused q
event-refused companion event.CiiClosed refused is q = absurd (cc)
event-refused companion event.TsOpened refused is q = absurd is
event-refused companion (event.TsText bytes) refused is q = absurd (cc)
event-refused companion event.TsClosed refused is q = absurd (cc)
event-refused companion (event.Present earliest latest) refused is q = absurd is

pub event-wrong : (companion : companions.Companion) (e : CompanionEvent) (refused : CompanionFault) → IsRecorded e
    → (steps.owed companion e ≡ Err refused) ⊎ (refused ≡ told.Memory)
    → (event_verdict companion e ≡ Err (told_fault refused)) ⊎ (told_fault refused ≡ fault.Memory)
event-wrong companion e refused is (inl q) = inl (event-refused companion e refused is q)
event-wrong companion e refused is (inr q) = inr (ap told_fault q)

-- the fault that is made of it is what is wrong
pub gives-wrong : (companion : companions.Companion) (e : CompanionEvent) (refused : CompanionFault)
    (result : Result Place AuditFault) → IsRecorded e
    → (steps.owed companion e ≡ Err refused) ⊎ (refused ≡ told.Memory)
    → IsErrAnd result (λ made. made ≡ told_fault refused)
    → GivesBy (λ (x : Place). tt) fault.Memory result (event_verdict companion e)
gives-wrong companion e refused (Ok next) is answer made = absurd made
gives-wrong companion e refused (Err wrong) is answer made =
    subst (λ (f : AuditFault). (event_verdict companion e ≡ Err f) ⊎ (f ≡ fault.Memory)) (sym made)
    (event-wrong companion e refused is answer)
