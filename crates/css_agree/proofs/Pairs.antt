-- The reader that names two lines stands for one text more, and the answers of those two contradict each other.
use Rattle.std.proofs.Common.{◌≡◌, inl, inr, ℕ, ◌+◌, arith, ap, sym, subst, ◌∙◌, refl, Bool, true, false}
use Rattle.std.proofs.Common.{List, [], ◌∷◌, ◌++◌, length}
use Rattle.std.specs.Prelude.{pos, ◌≤ℤ◌, int_lt, if◌then◌else◌, Option, Some, None, option_map}
use Rattle.std.specs.Prelude.{All, Contains, IfErr, OnOk, Result, Ok, Err, reverse}
use Rattle.std.proofs.lemmas.Int.{ints}
use Rattle.std.proofs.lemmas.List.Elements.{All-cons, All-nil, All-map, All-weaker, All-contains}
use Rattle.std.proofs.lemmas.List.Elements.{Contains-append_left, Contains-append_right, Contains-push}
use Rattle.css_model.specs.WallClock.{Answer, Local, IsLocal, lo, hi, scaled_width}
use Rattle.css_span.specs.Frontiers.{Answers}
use Rattle.css_lines.specs.Answers.{MayFault}
use Rattle.css_lines.specs.declared.reader.LineFault as engine
use Rattle.css_lines.specs.declared.reader.LineFault.TheVariants as engines
use Rattle.css_schedule.specs.declared.fault.LineFault.{LineFault}
use Rattle.css_agree.specs.declared.input.AnswerLine.{AnswerLine}
use Rattle.css_agree.specs.declared.input.AnswerLine.TheVariants as lines
use Rattle.css_agree.specs.declared.named.End.{End}
use Rattle.css_agree.specs.declared.named.End.TheVariants.{Low, High}
use Rattle.css_agree.specs.declared.named.Named.{Named}
use Rattle.css_agree.specs.declared.naming.Names.{Names as KeptNames}
use Rattle.css_agree.specs.declared.naming.Naming.{Naming}
use Rattle.css_agree.specs.declared.reader.Cause.{Cause}
use Rattle.css_agree.specs.Agreeing.{Numbered, with_line, lines_in, after_line, answers_in, read_meant, meant_after}
use Rattle.css_agree.specs.Agreeing.{text_meant}
use Rattle.css_agree.specs.Agreements.{Contradict, DeclareInRange, HasGreatestLow, HasLeastHigh}
use Rattle.css_agree.specs.Disagreements.{disagree}
use Rattle.css_agree.specs.Inputs.{line_of, local_of}
use Rattle.css_agree.specs.Keeping.{Kept, StandsFor}
use Rattle.css_agree.specs.Named.{Leads, best_of, number_of_best}
use Rattle.css_agree.specs.NamesKept.{kept_with}
use Rattle.css_agree.specs.Naming.{answers_of, between_line, between_text, line_names, named_after, named_in}
use Rattle.css_agree.specs.Naming.{followed, names_after, names_meant, naming}
use Rattle.css_agree.specs.NamesKept.{KeepsNames, NamesStand, StandsNamed}
use Rattle.css_agree.specs.Naming.{numbers_text, read_names, with_named}
use Rattle.css_agree.specs.Promise.{AreNamed, ArePaired}
use Rattle.css_agree.proofs.Disagreements.{contradicting}
use Rattle.css_agree.proofs.Leading.{IsBest, best_of-is, names-with, no_best, number-is}
use Rattle.css_agree.proofs.Reading.{lines_in-push}
use Rattle.css_agree.proofs.Shared.{lo-mono, hi-mono}
use Rattle.css_agree.proofs.Shown.{same_low, same_high}
use Rattle.css_agree.proofs.Truth.{contradiction_is_false}

-- ---- answers with and without their lines' numbers
pub answers-after : (own : Local) (number : ℕ) (line : AnswerLine) (named : List Named)
    → answers_of (named_after own number line named) ≡ after_line own line (answers_of named)
answers-after own number (lines.At reading) named = refl
answers-after own number (lines.Answer answer) named = by (int_lt (scaled_width own answer answer.t4) (pos 0))
  where
    by : (b : Bool) → answers_of (if b then named else record { number = number; answer = answer } ∷ named)
        ≡ (if b then answers_of named else answer ∷ answers_of named)
    by true = refl
    by false = refl

pub answers-in : (own : Local) (older : List Numbered) → answers_of (named_in own older) ≡ answers_in own older
answers-in own [] = refl
answers-in own (now ∷ older) =
    answers-after own now.number now.line (named_in own older) ∙ ap (after_line own now.line) (answers-in own older)

-- an answer of a line is among the answers
among : (named : List Named) → All (λ one. Contains (answers_of named) one.answer) named
among [] = All-nil (λ one. Contains (answers_of []) one.answer)
among (first ∷ others) =
    All-cons (λ one. Contains (answers_of (first ∷ others)) one.answer) first others
    (Contains-append_left (first.answer ∷ []) (answers_of others) first.answer (Contains-push [] first.answer))
    (All-weaker (λ one. Contains (answers_of others) one.answer)
    (λ one. Contains (answers_of (first ∷ others)) one.answer)
    (λ one. Contains-append_right (first.answer ∷ []) (answers_of others) one.answer) others (among others))

-- ---- two that are named contradict each other
apart : (own : Local) (r : ℕ) (named : List Named) (a b : Named) → IsLocal own
    → disagree own r (answers_of named) ≡ true → IsBest Low own r named a → IsBest High own r named b
    → Contradict own r (answers_of named) a.answer b.answer
apart own r named a b local e low high =
    let answers = answers_of named in
    let found = contradicting own r answers e in
    let greatest_low : HasGreatestLow own r answers a.answer = record {
      is_among = All-contains (λ one. Contains answers one.answer) named a (among named) low.among;
      greatest = All-map (λ other. lo own other r ≤ℤ lo own a.answer r) (λ one. one.answer) named
          (All-weaker (Leads Low own r a) (λ one. lo own one.answer r ≤ℤ lo own a.answer r)
          (λ one h. lo-mono own one.answer a.answer r h.best) named low.leads);
    } in
    let least_high : HasLeastHigh own r answers b.answer = record {
      is_among = All-contains (λ one. Contains answers one.answer) named b (among named) high.among;
      least = All-map (λ other. hi own b.answer r ≤ℤ hi own other r) (λ one. one.answer) named
          (All-weaker (Leads High own r b) (λ one. hi own b.answer r ≤ℤ hi own one.answer r)
          (λ one h. hi-mono own b.answer one.answer r local (omega (arith, ints, h.best))) named high.leads);
    } in
    record {
      greatest_low = greatest_low;
      least_high = least_high;
      apart = omega (
        arith,
        ints,
        found.2.apart,
        same_low own r answers found.0 a.answer found.2.greatest_low greatest_low,
        same_high own r answers found.1 b.answer found.2.least_high least_high,
      );
    }

-- of answers that disagree each end has a best
no_names : (end : End) (own : Local) (r : ℕ) (named : List Named) → disagree own r (answers_of named) ≡ true
    → best_of end own r named ≡ None → ⊥
no_names end own r named e none =
    let nothing : disagree own r (answers_of named) ≡ false =
    ap (λ xs. disagree own r (answers_of xs)) (no_best end own r named none) in
    absurd (cc)

named_at : (own : Local) (older : List Numbered) (number r : ℕ) → IsLocal own → DeclareInRange (answers_in own older)
    → AreNamed own older number (lines.At r) (between_text own number r (named_in own older))
named_at own older number r local most =
    by (disagree own r (answers_of named)) refl (best_of Low own r named) refl (best_of High own r named) refl
  where
    named : List Named
    named = named_in own older

    is : answers_of named ≡ answers_in own older
    is = answers-in own older

    pair : (a b : Named) → disagree own r (answers_of named) ≡ true → best_of Low own r named ≡ Some a
        → best_of High own r named ≡ Some b → ArePaired own older number r (between_line number a.number b.number)
    pair a b e is_low is_high =
        let low = best_of-is Low own r named a is_low in
        let high = best_of-is High own r named b is_high in
        let both : Contradict own r (answers_in own older) a.answer b.answer =
        subst (λ (xs : Answers). Contradict own r xs a.answer b.answer) is (apart own r named a b local e low high) in
        record {
          low = a;
          high = b;
          low_is = low.among;
          high_is = high.among;
          low_leads = low.leads;
          high_leads = high.leads;
          apart = both;
          is_true = contradiction_is_false own r (answers_in own older) a.answer b.answer most both;
          is_printed = refl;
        }

    by : (t : Bool) → disagree own r (answers_of named) ≡ t → (o : Option Named) → best_of Low own r named ≡ o
        → (p : Option Named) → best_of High own r named ≡ p
        → AreNamed own older number (lines.At r)
        (if t then numbers_text number (option_map (λ b. b.number) o) (option_map (λ b. b.number) p) else [])
    by false e o low p high = inl (sym (ap (disagree own r) is) ∙ e, refl)
    by true e None low p high = absurd (no_names Low own r named e low)
    by true e (Some a) low None high = absurd (no_names High own r named e high)
    by true e (Some a) low (Some b) high = inr (pair a b e low high)

pub are_named : (own : Local) (older : List Numbered) (number : ℕ) (line : AnswerLine) → IsLocal own
    → DeclareInRange (answers_in own older)
    → AreNamed own older number line (line_names own number line (named_in own older))
are_named own older number (lines.Answer answer) local most = refl
are_named own older number (lines.At reading) local most = named_at own older number reading local most

-- ---- what is kept to name them
pub on_ok : {A E : Type 0} (P Q : Type 0) (r : Result A E) → (P → Q) → OnOk r P → OnOk r Q
on_ok P Q (Ok value) f h = f h
on_ok P Q (Err fault) f h = tt

pub if_err : {A E : Type 0} (P Q : E → Type 0) (r : Result A E) → ((fault : E) → P fault → Q fault) → IfErr r P
    → IfErr r Q
if_err P Q (Ok value) f h = tt
if_err P Q (Err fault) f h = f fault h

-- an answer that is possible at its landing was taken in
pub keeps-added : (own : Local) (number r q : ℕ) (answer : Answer) (named : List Named) (old new : KeptNames)
    → int_lt (scaled_width own answer answer.t4) (pos 0) ≡ false
    → new.lows.items ≡ kept_with Low own r (record { number = number; answer = answer }) old.lows.items
    → new.highs.items ≡ kept_with High own q (record { number = number; answer = answer }) old.highs.items
    → KeepsNames own old named → KeepsNames own new (with_named own number answer named)
keeps-added own number r q answer named old new possible lows highs keeps =
    let one : Named = record { number = number; answer = answer } in
    let both : KeepsNames own new (one ∷ named) = record {
      lows = rw lows (names-with Low own r one old.lows.items named keeps.lows);
      highs = rw highs (names-with High own q one old.highs.items named keeps.highs);
    } in
    rw possible both

-- what is printed of answers that disagree
pub between-said : (own : Local) (number r : ℕ) (named : List Named) (names : KeptNames) (low high : Option ℕ)
    → disagree own r (answers_of named) ≡ true → KeepsNames own names named
    → low ≡ number_of_best Low own r (reverse names.lows.items)
    → high ≡ number_of_best High own r (reverse names.highs.items)
    → numbers_text number low high ≡ between_text own number r named
between-said own number r named names low high e keeps is_low is_high =
    let lows = is_low ∙ number-is Low own r names.lows.items named keeps.lows in
    let highs = is_high ∙ number-is High own r names.highs.items named keeps.highs in
    ap (λ (l : Option ℕ). numbers_text number l high) lows
    ∙ ap (λ (h : Option ℕ). numbers_text number (number_of_best Low own r named) h) highs
    ∙ ap (λ (t : Bool). if t
    then numbers_text number (number_of_best Low own r named) (number_of_best High own r named) else []) (sym e)

-- ---- the reader
same_Some : {A : Type 0} (x y : A) → Some x ≡ Some y → x ≡ y
same_Some x y e = cc

same_Ok : {A E : Type 0} (x y : A) (r : Result A E) → r ≡ Ok x → r ≡ Ok y → x ≡ y
same_Ok x y r e f = cc

-- it took the header
pub names-header : (reader : Naming) (text : List ℕ) → reader.agreeing.agree ≡ None → (before : List (List ℕ))
    → StandsNamed reader before → NamesStand reader.names (before ++ text ∷ [])
names-header reader text none [] stands = λ own header. stands.1 own
names-header reader text none (first ∷ texts) stands =
    let known = stands.0.1 in
    let there : Some known.0 ≡ None = sym known.1 ∙ none in
    absurd (cc)

-- what it knows behind the header
pub record Known (reader : Naming) (agree : Kept) (first : List ℕ) (texts : List (List ℕ)) : Type 0 where
  pub header : local_of first ≡ Ok agree.local
  pub stands : StandsFor agree (answers_of (named_in agree.local (lines_in texts)))
  pub keeps : KeepsNames agree.local reader.names (named_in agree.local (lines_in texts))

known : (reader : Naming) (agree : Kept) (first : List ℕ) (texts : List (List ℕ)) → reader.agreeing.agree ≡ Some agree
    → StandsNamed reader (first ∷ texts) → Known reader agree first texts
known reader agree first texts there stands =
    let found = stands.0.1 in
    let same : found.0 ≡ agree = same_Some found.0 agree (sym found.1 ∙ there) in
    let header : local_of first ≡ Ok agree.local = found.2 ∙ ap (λ (k : Kept). Ok k.local) same in record {
      header = header;
      stands = subst (StandsFor agree) (sym (answers-in agree.local (lines_in texts)))
          (subst (λ (k : Kept). StandsFor k (answers_in k.local (lines_in texts))) same found.3.stands);
      keeps = stands.1 agree.local header;
    }

-- before the header it knows nothing
not_yet : (reader : Naming) (agree : Kept) → reader.agreeing.agree ≡ Some agree → StandsNamed reader [] → ⊥
not_yet reader agree there stands =
    let none : None ≡ Some agree = sym stands.0.1 ∙ there in
    cc

pub names-line : (reader : Naming) (agree : Kept) (new : KeptNames) (number : ℕ) (text : List ℕ)
    → reader.agreeing.agree ≡ Some agree
    → ((older : List Numbered) → KeepsNames agree.local reader.names (named_in agree.local older)
    → KeepsNames agree.local new (named_in agree.local (with_line number older (line_of text))))
    → (before : List (List ℕ)) → StandsNamed reader before → number ≡ length before + 1
    → NamesStand new (before ++ text ∷ [])
names-line reader agree new number text there goes [] stands is = absurd (not_yet reader agree there stands)
names-line reader agree new number text there goes (first ∷ texts) stands is =
    let it = known reader agree first texts there stands in
    let lines : with_line number (lines_in texts) (line_of text) ≡ lines_in (texts ++ text ∷ []) =
    ap (λ (n : ℕ). with_line n (lines_in texts) (line_of text)) is ∙ sym (lines_in-push first texts text) in
    λ own header.
    let same : agree.local ≡ own = same_Ok agree.local own (local_of first) it.header header in
    subst (λ (o : Local). KeepsNames o new (named_in o (lines_in (texts ++ text ∷ [])))) same
    (subst (λ (ls : List Numbered). KeepsNames agree.local new (named_in agree.local ls)) lines
    (goes (lines_in texts) it.keeps))

-- what is meant of a line behind the header
meant-is : (agree : Kept) (first : List ℕ) (texts : List (List ℕ)) (number : ℕ) (text : List ℕ)
    → local_of first ≡ Ok agree.local → number ≡ length (first ∷ texts) + 1
    → read_meant agree.local (lines_in texts) number (line_of text) ≡ text_meant (first ∷ texts) text
meant-is agree first texts number text header is =
    ap (λ (n : ℕ). read_meant agree.local (lines_in texts) n (line_of text)) is
    ∙ ap (λ (r : Result Local LineFault). meant_after r (lines_in texts) (length (first ∷ texts) + 1) (line_of text))
    (sym header)

names-is : (agree : Kept) (first : List ℕ) (texts : List (List ℕ)) (number : ℕ) (text : List ℕ)
    → local_of first ≡ Ok agree.local → number ≡ length (first ∷ texts) + 1
    → read_names agree.local (lines_in texts) number (line_of text) ≡ names_meant (first ∷ texts) text
names-is agree first texts number text header is =
    ap (λ (n : ℕ). read_names agree.local (lines_in texts) n (line_of text)) is
    ∙ ap (λ (r : Result Local LineFault). names_after r (lines_in texts) (length (first ∷ texts) + 1) (line_of text))
    (sym header)

-- a fault that may come of a line may come of it with names
may_follow : (meant : Result (List ℕ) Cause) (more : List ℕ) (fault : engine.LineFault Cause) → MayFault meant fault
    → MayFault (followed meant more) fault
may_follow meant more (engines.Refused cause) h = ap (λ (r : Result (List ℕ) Cause). followed r more) h
may_follow meant more engines.Memory h = tt

pub faults-line : {A : Type 0} (reader : Naming) (agree : Kept) (number : ℕ) (text : List ℕ)
    (result : Result A (engine.LineFault Cause)) → reader.agreeing.agree ≡ Some agree
    → ((older : List Numbered) → IfErr result (MayFault (read_meant agree.local older number (line_of text))))
    → (before : List (List ℕ)) → StandsNamed reader before → number ≡ length before + 1
    → IfErr result (MayFault (naming.line before text))
faults-line reader agree number text result there may [] stands is = absurd (not_yet reader agree there stands)
faults-line reader agree number text result there may (first ∷ texts) stands is =
    let it = known reader agree first texts there stands in
    let meant = meant-is agree first texts number text it.header is in
    if_err (MayFault (read_meant agree.local (lines_in texts) number (line_of text)))
    (MayFault (naming.line (first ∷ texts) text)) result
    (λ fault h. may_follow (text_meant (first ∷ texts) text) (names_meant (first ∷ texts) text) fault
    (subst (λ (m : Result (List ℕ) Cause). MayFault m fault) meant h))
    (may (lines_in texts))

pub prints-line : (reader : Naming) (agree : Kept) (number : ℕ) (text old new : List ℕ)
    → reader.agreeing.agree ≡ Some agree
    → ((older : List Numbered) → StandsFor agree (answers_of (named_in agree.local older))
    → KeepsNames agree.local reader.names (named_in agree.local older)
    → new ≡ old ++ read_names agree.local older number (line_of text))
    → (before : List (List ℕ)) → StandsNamed reader before → number ≡ length before + 1
    → new ≡ old ++ names_meant before text
prints-line reader agree number text old new there prints [] stands is = absurd (not_yet reader agree there stands)
prints-line reader agree number text old new there prints (first ∷ texts) stands is =
    let it = known reader agree first texts there stands in
    prints (lines_in texts) it.stands it.keeps
    ∙ ap (λ (t : List ℕ). old ++ t) (names-is agree first texts number text it.header is)
