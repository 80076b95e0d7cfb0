-- Each drawn line is accepted after those before it.
use Rattle.std.proofs.Common.{◌≡◌, ℕ, suc, zero, ◌+◌, ◌<◌, ◌≤◌, arith, ap, sym, subst, ◌∙◌, refl, Bool, true, false}
use Rattle.std.proofs.Common.{List, ◌∷◌, None, IfSome, Result, Ok, length}
use Rattle.css_meaning.specs.Accepted.{AreAccepted, IsNext}
use Rattle.css_gen.specs.Course.{clock}
use Rattle.css_gen.specs.Crowd.{senders_after, askers_after}
use Rattle.css_survey.specs.Generated.{header_for, heading, line_for, numbered_for, generated}
use Rattle.css_survey.proofs.Names.{result_and, length-replicate, is_own, IsLine, IsSecond, Line, Verb, Ask, Take, Give}
use Rattle.css_survey.proofs.Names.{Land, Viewer, Wall, Print, WorldFault, Numbered, tv_reading, own_reading}
use Rattle.css_survey.proofs.Names.{shown_tested, reading_tested, tested, carried_out, line_meant, companion}
use Rattle.css_survey.proofs.Names.{clock-goes_on}
use Rattle.css_survey.proofs.Watched.{both-ok}
use Rattle.css_survey.proofs.Seen.{Oscillators, AllSeen, IsShown, shown-ok, reads-ok, all-seen}
use Rattle.css_survey.proofs.Comes.{AreExchanged, Comes, given_after, done}

-- What lines leave behind: the clocks at true time, who sent each request and who sent that of each take, and how many
-- takes were answered.
pub record State : Type 0 where
  pub tv_fast : Bool
  pub fast : Oscillators
  pub time : ℕ
  pub senders : List ℕ
  pub askers : List ℕ
  pub answers : ℕ

-- after one line more
abbrev pub after : State → Line → State
after s line = record s {
  time = line.t;
  senders = senders_after s.senders line.who line.verb;
  askers = askers_after s.senders s.askers line.verb;
  answers = given_after s.answers line.verb;
}

-- Lines are accepted, and the next line finds this state.
pub record Holds (companions : ℕ) (s : State) (number : ℕ) (lines : List Numbered) : Type 0 where
  pub accepted : AreAccepted (header_for companions) lines
  pub seen : AllSeen s.tv_fast s.fast s.time number lines
  pub exchanged : AreExchanged companions s.senders s.askers s.answers (clock s.tv_fast s.time) lines
  pub last : IsNext number lines

-- A line comes later, shows what the clocks do, and says what can happen.
pub record IsDrawn (companions : ℕ) (s : State) (line : Line) (next : State) : Type 0 where
  pub range : IsLine line
  pub second : IsSecond companions line
  pub late : s.time + 30000 ≤ line.t
  pub tv : line.w ≡ clock s.tv_fast line.t
  pub own : 1 ≤ line.who → line.l ≡ clock (s.fast line.who) line.t
  pub comes : Comes s.senders s.askers s.answers line.w line.who line.l line.verb
  pub is : next ≡ after s line

-- ---- its readings
reads-tv : (senders askers : List ℕ) (given w who l : ℕ) (verb : Verb) → Comes senders askers given w who l verb
    → IfSome (tv_reading verb) (λ reading. reading ≡ w)
reads-tv senders askers given w who l (Take n r) comes = comes.2
reads-tv senders askers given w who l (Give n r) comes = comes.2
reads-tv senders askers given w who l (Viewer r command) comes = absurd comes
reads-tv senders askers given w who l _ comes = tt

reads-own : (senders askers : List ℕ) (given w who l : ℕ) (verb : Verb) → Comes senders askers given w who l verb
    → IfSome (own_reading verb) (λ reading. reading ≡ l)
reads-own senders askers given w who l (Ask r) comes = comes
reads-own senders askers given w who l (Land n r) comes = comes.1
reads-own senders askers given w who l (Print r) comes = comes
reads-own senders askers given w who l (Wall r) comes = absurd comes
reads-own senders askers given w who l _ comes = tt

-- a reading is a companion's only where it takes part
own-none : (verb : Verb) → is_own verb ≡ false → own_reading verb ≡ None
own-none (Ask r) e = absurd (cc)
own-none (Land n r) e = absurd (cc)
own-none (Wall r) e = absurd (cc)
own-none (Print r) e = absurd (cc)
own-none _ e = refl

-- ---- one line more
pub goes_on : (companions : ℕ) (s next : State) (number : ℕ) (lines : List Numbered) (now : Numbered)
    → Holds companions s number lines → IsDrawn companions s now.line next → now.number ≡ number
    → Holds companions next (number + 1) (now ∷ lines)
goes_on companions s next number lines now h drawn is =
    let header = header_for companions in
    let line = now.line in
    let none : line.who ≡ 0 → own_reading line.verb ≡ None =
    λ nobody. not-own (is_own line.verb) refl nobody drawn.second.own in
    let shown : IsShown companions s.tv_fast s.fast now = record {
      few = drawn.second.who;
      tv = drawn.tv;
      own = drawn.own;
      tv_reads = reads-tv s.senders s.askers s.answers line.w line.who line.l line.verb drawn.comes;
      own_reads = reads-own s.senders s.askers s.answers line.w line.who line.l line.verb drawn.comes;
      none = none;
    } in
    let late = drawn.late in
    let later : s.time ≤ line.t = omega arith in
    let gone : clock s.tv_fast s.time < line.w = rw drawn.tv (clock-goes_on s.tv_fast s.time line.t late) in
    let step = done companions s.senders s.askers s.answers (clock s.tv_fast s.time) lines h.exchanged now.number line.t
    line.w line.who line.l gone line.verb drawn.comes in
    let passes : tested header lines now ≡ Ok tt =
    both-ok (shown_tested header lines now) (reading_tested header lines now)
    (shown-ok companions s.tv_fast s.fast s.time number lines h.seen now later shown)
    (reads-ok companions s.tv_fast s.fast s.time number lines h.seen now later shown late) in
    let meant : line_meant header lines now ≡ Ok step.printed =
    ap (λ (r : Result (Unit {0}) WorldFault). result_and r (carried_out header lines now)) passes ∙ step.carried in
    let of : IsSecond (length header.companions) line =
    subst (λ n. IsSecond n line) (sym (length-replicate companions companion)) drawn.second in
    rw drawn.is (record {
      accepted = (drawn.range, of, subst (λ n. IsNext n lines) (sym is) h.last, (step.printed, meant), h.accepted);
      seen = all-seen companions s.tv_fast s.fast s.time number lines h.seen now later shown is;
      exchanged = subst (λ n. AreExchanged companions (after s line).senders (after s line).askers
          (after s line).answers
          n (now ∷ lines)) drawn.tv step.after;
      last = omega (arith, is);
    })
  where
    not-own : (own : Bool) → is_own now.line.verb ≡ own → now.line.who ≡ 0
        → (is_own now.line.verb ≡ true → 1 ≤ now.line.who) → own_reading now.line.verb ≡ None
    not-own true e nobody some = let one = some e in absurd (omega (arith, one, nobody))
    not-own false e nobody some = own-none now.line.verb e

-- ---- all lines
-- after the opening, of so many lines, each line that is generated is drawn
module _ (seed companions whole : ℕ) (state : ℕ → State)
    (drawn : (n : ℕ) → n ≤ 200000 → IsDrawn companions (state n)
    (line_for seed companions (heading companions + suc (whole + n))) (state (suc n)))
    (first : Holds companions (state 0) (heading companions + suc whole) (generated seed companions whole)) where
  pub all-hold : (n : ℕ) → n ≤ 200000
      → Holds companions (state n) (heading companions + suc (whole + n)) (generated seed companions (whole + n))
  unfolding generated
  all-hold zero few = let same : whole + 0 ≡ whole = omega arith in rw same first
  all-hold (suc n) few =
      let same : whole + suc n ≡ suc (whole + n) = omega arith in
      let number = heading companions + suc (whole + n) in
      let next : number + 1 ≡ heading companions + suc (suc (whole + n)) = omega arith in
      rw same (subst (λ m. Holds companions (state (suc n)) m (generated seed companions (suc (whole + n)))) next
      (goes_on companions (state n) (state (suc n)) number (generated seed companions (whole + n))
      (numbered_for seed companions number) (all-hold n (omega (arith, few))) (drawn n (omega (arith, few))) refl))
