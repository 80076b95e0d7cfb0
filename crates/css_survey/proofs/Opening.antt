-- The opening of a generated schedule is accepted, whatever the number of its companions.
use Rattle.std.proofs.Common.{◌≡◌, ◌≢◌, ℕ, suc, zero, ◌+◌, ◌-◌, ◌*◌, ◌/◌, ◌%◌, ◌<◌, ◌≤◌, arith, ap, sym, subst, ◌∙◌}
use Rattle.std.proofs.Common.{refl, Bool, true, false, List, [], ◌∷◌, length, le-ltb, lt-ltb, le-leb, eqb-true, Option}
use Rattle.std.proofs.Common.{Some, None, IfSome, unwrap_or, Result, Ok, codes, ◌==◌, nat_lt, if◌then◌else◌}
use Rattle.css_num.specs.declared.protocol.Kind.TheVariants.{Cii, Ts}
use Rattle.css_tsmsg.specs.Setups.{IsUtf8Setup, setup_text, setup_of as setup_read}
use Rattle.css_tsmsg.proofs.ReadBack.{setup_reads}
use Rattle.css_meaning.specs.Accepted.{AreAccepted, IsNext}
use Rattle.css_meaning.proofs.Ends.{history_other}
use Rattle.css_gen.specs.Opening.{opening_verb}
use Rattle.css_gen.specs.Second.{clock_line, line_placed, openings, second_line}
use Rattle.css_gen.specs.Generated.{line_numbered}
use Rattle.css_gen.proofs.Crowds.{crowd-companions}
use Rattle.css_gen.proofs.CrowdRanges.{placed-range, placed-second}
use Rattle.css_survey.specs.Generated.{header_for, heading, line_for, generated}
use Rattle.css_survey.proofs.Names.{result_and, length-replicate, All-nil, IsLine, IsSecond, Line, Verb, Opening, Bring}
use Rattle.css_survey.proofs.Names.{Up, WorldFault, setup_of, Numbered, events_of, tv_reading, own_reading}
use Rattle.css_survey.proofs.Names.{shown_tested, reading_tested, tested, carried_out, line_meant, pts, companion}
use Rattle.css_survey.proofs.Names.{opening_line, AreSome, clock-start, pts-utf8, stem-utf8, opening-range}
use Rattle.css_survey.proofs.Accepting.{Holds}
use Rattle.css_survey.proofs.Comes.{AreExchanged, IsTicket, is_idle, still}
use Rattle.css_survey.proofs.Generating.{of-one}
use Rattle.css_survey.proofs.MadeOf.{made_of}
use Rattle.css_survey.proofs.Seen.{Oscillators, AllSeen, IsShown, get-replicate, shown-ok, all-seen}
use Rattle.css_survey.proofs.Watched.{IsSeen, AreSeen, both-ok}
use Rattle.css_survey.proofs.Sessions.{list_of, own_line, own_1, own_2, own_3, own_4, IsUnheard, carried-1, carried-2}
use Rattle.css_survey.proofs.Sessions.{carried-3, carried-4, carried-5, more-open, still-unheard}

-- ---- the lines
-- the lines of the opening, from the first after the header on
abbrev first_line : (companions count : ℕ) → Line
first_line companions count = if companions == 1 then opening_line (count + 2) else line_placed (count + 2)

abbrev placed : (companions count : ℕ) → Numbered
placed companions count = record { number = heading companions + suc count; line = first_line companions count }

-- the first of them, so many; the newest stands first
unfoldable pub opened_to : (companions count : ℕ) → List Numbered
opened_to companions zero = []
opened_to companions (suc count) = placed companions count ∷ opened_to companions count

-- so many lines there are
abbrev pub whole_of : (companions : ℕ) → ℕ
whole_of companions = 3 + 5 * companions

-- ---- what each of them is
-- None reads a companion's clock or exchanges anything, and what is read of the wall clock is one second.
verb-unread : (number : ℕ) → own_reading (opening_verb number) ≡ None
unfolding opening_verb
verb-unread number = grind arith

verb-idle : (number : ℕ) → is_idle (opening_verb number) ≡ true
unfolding opening_verb
verb-idle number = grind arith

verb-read : (number : ℕ) → unwrap_or (tv_reading (opening_verb number)) 1000000000 ≡ 1000000000
unfolding opening_verb
verb-read number = grind arith

-- A line at true time 0, where each clock shows one second.
record IsFirst (companions : ℕ) (line : Line) : Type 0 where
  range : IsLine line
  second : IsSecond companions line
  time : line.t ≡ 0
  wall : line.w ≡ 1000000000
  own : 1 ≤ line.who → line.l ≡ 1000000000
  tv_reads : unwrap_or (tv_reading line.verb) 1000000000 ≡ 1000000000
  own_reads : own_reading line.verb ≡ None
  idle : is_idle line.verb ≡ true

clock-first : (companions who l number : ℕ) → IsLine (clock_line who l number)
    → IsSecond companions (clock_line who l number) → (1 ≤ who → l ≡ 1000000000)
    → IsFirst companions (clock_line who l number)
clock-first companions who l number range second own = record {
  range = range;
  second = second;
  time = refl;
  wall = refl;
  own = own;
  tv_reads = verb-read number;
  own_reads = verb-unread number;
  idle = verb-idle number;
}

placed-first : (companions place : ℕ) → 2 ≤ place → place ≤ 4 + 5 * companions → IsFirst companions (line_placed place)
placed-first companions place low high =
    by (nat_lt place 5) (placed-range place) (placed-second companions place low high)
  where
    line : Bool → Line
    line b = if b then clock_line 0 0 place else clock_line (place / 5) 1000000000 (5 + place % 5)

    by : (b : Bool) → IsLine (line b) → IsSecond companions (line b) → IsFirst companions (line b)
    by true range second = clock-first companions 0 0 place range second (λ some. absurd (omega (arith, some)))
    by false range second = clock-first companions (place / 5) 1000000000 (5 + place % 5) range second (λ some. refl)

first-is : (companions count : ℕ) → count < whole_of companions → IsFirst companions (first_line companions count)
first-is companions count below = by (companions == 1) refl
  where
    by : (b : Bool) → (companions == 1) ≡ b
        → IsFirst companions (if b then opening_line (count + 2) else line_placed (count + 2))
    by true e =
        clock-first companions 1 1000000000 (count + 2) (opening-range (count + 2))
        (subst (λ n. IsSecond n (opening_line (count + 2))) (sym (eqb-true companions 1 e))
        (of-one 0 1000000000 1000000000 (opening_verb (count + 2)))) (λ some. refl)
    by false e = placed-first companions (count + 2) (omega arith) (omega (arith, below))

-- five lines of companion `who` are at the places from 5 * who on
first-own : (companions count who i : ℕ) → who ≤ companions → 1 ≤ who → i < 5 → count + 2 ≡ 5 * who + i
    → first_line companions count ≡ clock_line who 1000000000 (5 + i)
first-own companions count who i within some few is = by (companions == 1) refl
  where
    by : (b : Bool) → (companions == 1) ≡ b
        → (if b then opening_line (count + 2) else line_placed (count + 2)) ≡ clock_line who 1000000000 (5 + i)
    by true e =
        let one : who ≡ 1 = omega (arith, eqb-true companions 1 e, within, some) in
        let place : count + 2 ≡ 5 + i = omega (arith, one, is) in
        simp (one, place)
    by false e =
        let late = le-ltb (count + 2) 5 (omega (arith, is, some)) in
        let quotient : (count + 2) / 5 ≡ who = omega (arith, is, few) in
        let rest : (count + 2) % 5 ≡ i = omega (arith, is, few) in
        simp (late, quotient, rest)

-- ---- the clocks
seen-none : (fast : Bool) (number : ℕ) → AreSeen fast 0 number []
seen-none fast number = record { each = All-nil (IsSeen fast 0); accepted = tt; last = tt }

-- a reading of one second is what is shown then
reads-shown : (reading : Option ℕ) (shown : ℕ) → unwrap_or reading 1000000000 ≡ 1000000000 → shown ≡ 1000000000
    → IfSome reading (λ r. r ≡ shown)
reads-shown None shown reads is = tt
reads-shown (Some r) shown reads is = reads ∙ sym is

-- a line of the opening shows one second
first-shown : (companions : ℕ) (tv_fast : Bool) (fast : Oscillators) (now : Numbered) → IsFirst companions now.line
    → IsShown companions tv_fast fast now
first-shown companions tv_fast fast now first = record {
  few = first.second.who;
  tv = simp (first.wall, first.time, clock-start);
  own = λ some. simp (first.own some, first.time, clock-start);
  tv_reads = reads-shown (tv_reading now.line.verb) now.line.w first.tv_reads first.wall;
  own_reads = rw first.own_reads tt;
  none = λ nobody. first.own_reads;
}

opening-seen : (companions count : ℕ) (tv_fast : Bool) (fast : Oscillators) → count ≤ whole_of companions
    → AllSeen tv_fast fast 0 (heading companions + suc count) (opened_to companions count)
unfolding opened_to
opening-seen companions zero tv_fast fast within = record {
  tv = seen-none tv_fast (heading companions + suc zero);
  own = λ who some. seen-none (fast who) (heading companions + suc zero);
}
opening-seen companions (suc count) tv_fast fast within =
    let now = placed companions count in
    let lines = opened_to companions count in
    let first = first-is companions count (omega (arith, within)) in
    let next : heading companions + suc count + 1 ≡ heading companions + suc (suc count) = omega arith in
    subst (λ n. AllSeen tv_fast fast 0 n (now ∷ lines)) next
    (subst (λ t. AllSeen tv_fast fast t (heading companions + suc count + 1) (now ∷ lines)) first.time
    (all-seen companions tv_fast fast 0 (heading companions + suc count) lines
    (opening-seen companions count tv_fast fast (omega (arith, within))) now (omega arith)
    (first-shown companions tv_fast fast now first) refl))

-- ---- what is exchanged
-- nothing is
opening-exchanged : (companions count : ℕ) → count ≤ whole_of companions
    → AreExchanged companions [] [] 0 1000000000 (opened_to companions count)
unfolding opened_to made_of
opening-exchanged companions zero within = record {
  requests = refl;
  asked_by = refl;
  takes = refl;
  tickets = All-nil (IsTicket 1000000000);
  taken_by = refl;
  answers = omega arith;
  none_ahead = λ take ahead. refl;
  made_by = refl;
}
opening-exchanged companions (suc count) within =
    let now = placed companions count in
    let lines = opened_to companions count in
    let first = first-is companions count (omega (arith, within)) in
    let wall = first.wall in
    subst (λ w. AreExchanged companions [] [] 0 w (now ∷ lines)) first.wall
    (still companions [] [] 0 1000000000 lines (opening-exchanged companions count (omega (arith, within))) now.number
    now.line.t now.line.w now.line.who now.line.l (omega arith) now.line.verb first.idle)

-- ---- the header
-- what each companion asks of the television
setup-for : (companions who : ℕ) → 1 ≤ who → who ≤ companions
    → setup_of who (header_for companions) ≡ record { stem = codes "dvb://"; selector = pts }
setup-for companions who first within = simp (get-replicate companions (who - 1) companion
    (omega (arith, first, within)))

-- and that is read back
setup-reads : (companions who : ℕ) → 1 ≤ who → who ≤ companions
    → let setup = setup_of who (header_for companions) in setup_read (setup_text setup) ≡ Ok setup
setup-reads companions who first within =
    setup_reads (setup_of who (header_for companions))
    (subst IsUtf8Setup (sym (setup-for companions who first within))
    (record { stem = stem-utf8; selector = pts-utf8 }))

-- ---- a line more
-- a later number comes after the last one
opening-next : (companions count number : ℕ) → heading companions + count < number
    → IsNext number (opened_to companions count)
unfolding opened_to
opening-next companions zero number later = tt
opening-next companions (suc count) number later = omega (arith, later)

-- A line of the opening that is meant is accepted.
accepted-more : (companions count : ℕ) → count < whole_of companions
    → line_meant (header_for companions) (opened_to companions count) (placed companions count) ≡ Ok []
    → AreAccepted (header_for companions) (opened_to companions count)
    → AreAccepted (header_for companions) (opened_to companions (suc count))
unfolding opened_to
accepted-more companions count within meant before =
    let first = first-is companions count within in (
      first.range,
      subst (λ n. IsSecond n (first_line companions count)) (sym (length-replicate companions companion)) first.second,
      opening-next companions count (heading companions + suc count) (omega arith),
      ([], meant),
      before,
    )

-- the lines up to a count are these, and they are accepted
record AreOpened (companions count : ℕ) (lines : List Numbered) : Type 0 where
  same : opened_to companions count ≡ lines
  accepted : AreAccepted (header_for companions) (opened_to companions count)

-- So is a companion's line that can happen.
opened-more : (companions count who i : ℕ) (verb : Verb) (lines : List Numbered) → 1 ≤ who → who ≤ companions → i < 5
    → count + 2 ≡ 5 * who + i → opening_verb (5 + i) ≡ verb → tv_reading verb ≡ None
    → carried_out (header_for companions) lines (own_line companions count who verb) ≡ Ok []
    → AreOpened companions count lines → AreOpened companions (suc count) (own_line companions count who verb ∷ lines)
unfolding opened_to
opened-more companions count who i verb lines some few small place is unread carried before =
    let header = header_for companions in
    let older = opened_to companions count in
    let now = placed companions count in
    let below : count < whole_of companions = omega (arith, place, few, small) in
    let first = first-is companions count below in
    let line : first_line companions count ≡ (own_line companions count who verb).line =
    first-own companions count who i few some small place ∙ ap (λ v. record {
      t = 0;
      w = 1000000000;
      who = who;
      l = 1000000000;
      verb = v;
    }) is in
    let same : now ≡ own_line companions count who verb =
    ap (λ (l : Line). record { number = heading companions + suc count; line = l }) line in
    let shown : shown_tested header older now ≡ Ok tt =
    shown-ok companions true (λ n. true) 0 (heading companions + suc count) older
    (opening-seen companions count true (λ n. true) (omega (arith, below))) now (omega arith)
    (first-shown companions true (λ n. true) now first) in
    let reads : reading_tested header older (own_line companions count who verb) ≡ Ok tt =
    simp (unread, ap (λ (l : Line). own_reading l.verb) (sym line) ∙ first.own_reads) in
    let passes : tested header older (own_line companions count who verb) ≡ Ok tt =
    both-ok (shown_tested header older (own_line companions count who verb))
    (reading_tested header older (own_line companions count who verb))
    (subst (λ n. shown_tested header older n ≡ Ok tt) same shown) reads in
    let meant : line_meant header older (own_line companions count who verb) ≡ Ok [] =
    ap (λ (r : Result (Unit {0}) WorldFault). result_and r (carried_out header older
    (own_line companions count who verb))) passes
    ∙ ap (λ ls. carried_out header ls (own_line companions count who verb)) before.same ∙ carried in
    record {
      same = ap (λ n. n ∷ older) same ∙ ap (λ ls. own_line companions count who verb ∷ ls) before.same;
      accepted = accepted-more companions count below
          (subst (λ n. line_meant header older n ≡ Ok []) (sym same) meant) before.accepted;
    }

-- ---- companion by companion
-- Up to a count all lines are accepted: they opened the sessions of so many companions, and the others did nothing.
record HaveOpened (companions opened count : ℕ) : Type 0 where
  accepted : AreAccepted (header_for companions) (opened_to companions count)
  few : length (list_of (events_of (header_for companions) (opened_to companions count))) ≡ 2 * opened
  rest : (who : ℕ) → opened < who → who ≤ companions → IsUnheard who (header_for companions)
      (opened_to companions count)

-- the television's three lines
tv-one : HaveOpened 1 0 3
unfolding opened_to opening_verb
tv-one = record {
  accepted = accepted-more 1 2 (omega arith) refl (accepted-more 1 1 (omega arith) refl
      (accepted-more 1 0 (omega arith) refl tt));
  few = refl;
  rest = λ who above within.
      let one : 1 ≡ who = omega (arith, above, within) in
      subst (λ n. IsUnheard n (header_for 1) (opened_to 1 3)) one (record { own = refl; received = refl });
}

tv-several : (companions : ℕ) → (companions == 1) ≡ false → HaveOpened companions 0 3
unfolding opened_to opening_verb
tv-several companions e =
    let header = header_for companions in
    let a1 = accepted-more companions 0 (omega arith) (rw e refl) tt in
    let a2 = accepted-more companions 1 (omega arith) (rw e refl) a1 in
    record {
      accepted = accepted-more companions 2 (omega arith) (rw e refl) a2;
      few = rw e refl;
      rest = λ who above within.
          let differs : 0 ≢ who = λ is. omega (arith, is, above) in
          record {
            own = history_other header (placed companions 2) (opened_to companions 2) who (rw e differs)
                ∙ history_other header (placed companions 1) (opened_to companions 1) who (rw e differs)
                ∙ history_other header (placed companions 0) [] who (rw e differs);
            received = rw e refl;
          };
    }

tv-opened : (companions : ℕ) → HaveOpened companions 0 3
tv-opened companions = by (companions == 1) refl
  where
    by : (b : Bool) → (companions == 1) ≡ b → HaveOpened companions 0 3
    by true e = subst (λ n. HaveOpened n 0 3) (sym (eqb-true companions 1 e)) tv-one
    by false e = tv-several companions e

-- one companion more
one-opened : (companions opened count : ℕ) → companions ≤ 16 → opened < companions → count ≡ 3 + 5 * opened
    → HaveOpened companions opened count → HaveOpened companions (suc opened) (suc (suc (suc (suc (suc count)))))
unfolding opening_verb
one-opened companions opened count high below is before =
    let who = suc opened in
    let header = header_for companions in
    let lines = opened_to companions count in
    let first : 1 ≤ who = omega arith in
    let within : who ≤ companions = omega (arith, below) in
    let few = before.few in
    let room : length (list_of (events_of header lines)) + 2 ≤ 256 = omega (arith, few, high, below) in
    let unheard = before.rest who (omega arith) within in
    let reads = setup-reads companions who first within in
    let c1 = carried-1 header companions count who lines first room unheard reads in
    let c2 = carried-2 header companions count who lines first room unheard reads in
    let c3 = carried-3 header companions count who lines first room unheard reads in
    let c4 = carried-4 header companions count who lines first room unheard reads in
    let c5 = carried-5 header companions count who lines first room unheard reads in
    let o0 : AreOpened companions count lines = record { same = refl; accepted = before.accepted } in
    let o1 = opened-more companions count who 0 (Opening Cii) lines first within (omega arith) (omega (arith, is)) refl
    refl c1 o0 in
    let o2 = opened-more companions (suc count) who 1 (Bring Cii) (own_1 companions count who lines) first within
    (omega arith) (omega (arith, is)) refl refl c2 o1 in
    let o3 = opened-more companions (suc (suc count)) who 2 (Opening Ts) (own_2 companions count who lines) first within
    (omega arith) (omega (arith, is)) refl refl c3 o2 in
    let o4 = opened-more companions (suc (suc (suc count))) who 3 Up (own_3 companions count who lines) first within
    (omega arith) (omega (arith, is)) refl refl c4 o3 in
    let o5 = opened-more companions (suc (suc (suc (suc count)))) who 4 (Bring Ts) (own_4 companions count who lines)
    first within (omega arith) (omega (arith, is)) refl refl c5 o4 in
    let more = more-open header companions count who lines first room unheard reads in
    record {
      accepted = o5.accepted;
      few = simp (o5.same, more) (omega (arith, few));
      rest = λ other above most. rw o5.same (still-unheard header companions count who lines first room unheard reads
          other (omega (arith, above)) (λ same. omega (arith, same, above))
          (before.rest other (omega (arith, above)) most));
    }

-- and so all of them
all-opened : (companions opened : ℕ) → companions ≤ 16 → opened ≤ companions
    → HaveOpened companions opened (3 + 5 * opened)
all-opened companions zero high within = tv-opened companions
all-opened companions (suc opened) high within =
    let count : suc (suc (suc (suc (suc (3 + 5 * opened))))) ≡ 3 + 5 * suc opened = omega arith in
    subst (λ n. HaveOpened companions (suc opened) n) count
    (one-opened companions opened (3 + 5 * opened) high (omega (arith, within)) refl
    (all-opened companions opened high (omega (arith, within))))

-- ---- by their numbers
-- a line of the opening by its number
first-generated : (seed companions count : ℕ) → count < whole_of companions
    → line_for seed companions (heading companions + suc count) ≡ first_line companions count
unfolding second_line line_numbered
first-generated seed companions count below = by (companions == 1) refl
  where
    by : (b : Bool) → (companions == 1) ≡ b
        → (if b then line_numbered seed ((if b then 1 else companions + 1) + suc count)
        else second_line seed companions ((if b then 1 else companions + 1) + suc count))
        ≡ (if b then opening_line (count + 2) else line_placed (count + 2))
    by true e =
        let number : 1 + suc count ≡ count + 2 = omega arith in
        let early = lt-ltb (count + 2) 10 (omega (arith, eqb-true companions 1 e, below)) in
        simp (number, early)
    by false e =
        let number = companions + 1 + suc count in
        let kept = crowd-companions seed companions (number - (openings companions + 1)) in
        let early = le-leb number (openings companions) (omega (arith, below)) in
        let place : number - companions ≡ count + 2 = omega arith in
        simp kept (simp (early, place))

-- The opening is the first generated lines.
opening-generated : (seed companions count : ℕ) → count ≤ whole_of companions
    → generated seed companions count ≡ opened_to companions count
unfolding generated opened_to
opening-generated seed companions zero few = refl
opening-generated seed companions (suc count) few =
    simp (
      first-generated seed companions count (omega (arith, few)),
      opening-generated seed companions count (omega (arith, few)),
    )

-- so a generator's lines begin
pub opening-holds : (seed companions : ℕ) (tv_fast : Bool) (fast : Oscillators) → AreSome companions → Holds companions
    (record { tv_fast = tv_fast; fast = fast; time = 0; senders = []; askers = []; answers = 0 })
    (heading companions + suc (whole_of companions)) (generated seed companions (whole_of companions))
opening-holds seed companions tv_fast fast some =
    let whole = whole_of companions in
    rw (opening-generated seed companions whole (omega arith)) (record {
      accepted = (all-opened companions companions some.high (omega arith)).accepted;
      seen = opening-seen companions whole tv_fast fast (omega arith);
      exchanged = rw (clock-start tv_fast) (opening-exchanged companions whole (omega arith));
      last = opening-next companions whole (heading companions + suc whole) (omega arith);
    })
