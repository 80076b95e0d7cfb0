-- The two worlds: the clocks keep their errors between each two of their moments.
use Rattle.std.proofs.Common.{◌≡◌, ℕ, ◌+◌, ◌-◌, ◌*◌, ◌<◌, ◌≤◌, arith, List, [], ◌∷◌, ap}
use Rattle.css_model.specs.declared.TheConstants.{F}
use Rattle.css_model.specs.Numbers.{IsWithin, max_error}
use Rattle.css_model.specs.WallClock.{Answer, Local, IsLocal}
use Rattle.css_limits.specs.Worlds.{Shown, shortest, gone, since_asked, turnaround, until_between, until_last}
use Rattle.css_limits.specs.Worlds.{latest_first, latest_transmit, latest_at, latest_last, earliest_received}
use Rattle.css_limits.specs.Worlds.{earliest_first, earliest_receipt, earliest_landed, earliest_between, earliest_last}
use Rattle.css_limits.proofs.Lists.{IsOnLine, IsOnLine-goes, Goes-runs, Goes, Goes-then, Runs, InOrder, WithEach}
use Rattle.css_limits.proofs.Times.{down_is, up_is, longest_is, longest-mono, gone_is, IsGone}
use Rattle.css_limits.proofs.Open.{IsOpen, turnaround-fits}
use Rattle.std.proofs.Math.Nat.{mul-le-mul_left}
use Rattle.css_limits.specs.Limits.{HasRun}
use Rattle.css_limits.proofs.After.{earliest_after}

-- the wall clock runs at its fastest, and the companion's at its slowest
pub record OnLines (own : Local) (answer : Answer) (m : Shown) : Type 0 where
  pub wall : IsOnLine (F + answer.error) (F * (answer.t2 + answer.precision) + F) m.time m.wall
  pub clock : IsOnLine (F - own.error) (F * (answer.t1 - own.precision)) m.time m.own

-- such moments keep the errors
OnLines-run : (own : Local) (answer : Answer) (m n : Shown) → IsLocal own → m.time ≤ n.time
    → OnLines own answer m → OnLines own answer n → Runs answer.error own.error m n
OnLines-run own answer m n ranges order here there =
    let after : n.time ≡ m.time + (n.time - m.time) = omega arith in
    record {
      order = order;
      tv = Goes-runs answer.error F F (n.time - m.time) m.time n.time m.wall n.wall (omega arith) (omega arith) after
          (IsOnLine-goes answer.error (F + answer.error) (F * (answer.t2 + answer.precision) + F) (n.time - m.time)
          m.time m.wall n.time n.wall after (omega arith) (omega arith) here.wall there.wall);
      own = Goes-runs own.error F F (n.time - m.time) m.time n.time m.own n.own (omega arith) (omega arith) after
          (IsOnLine-goes own.error (F - own.error) (F * (answer.t1 - own.precision)) (n.time - m.time)
          m.time m.own n.time n.own after (omega (arith, ranges.error)) (omega (arith, ranges.error))
          here.clock there.clock);
    }

-- each of the moments is so
first_on : (own : Local) (answer : Answer) → OnLines own answer (latest_first own answer)
first_on own answer = record {
  wall = record { below = omega arith; above = omega arith };
  clock = record { below = omega arith; above = omega arith };
}

transmit_on : (own : Local) (answer : Answer) → answer.error ≤ max_error
    → OnLines own answer (latest_transmit own answer)
transmit_on own answer most =
    let passed = answer.t3 - answer.precision - (answer.t2 + answer.precision) in
    let went = gone_is answer.error passed most in
    let time = shortest answer.error passed in
    let down = down_is ((F - own.error) * time) F (omega arith) in
    record {
      wall = record { below = omega (arith, went.near); above = omega (arith, went.fast) };
      clock = record { below = omega (arith, down.reached); above = omega (arith, down.greatest) };
    }

-- the companion's clock at a reading
own_at : (own : Local) (answer : Answer) (reading : ℕ) → IsLocal own → own.precision ≤ answer.t1
    → answer.t1 ≤ reading + 2 * own.precision + 1
    → IsOnLine (F - own.error) (F * (answer.t1 - own.precision)) (since_asked own answer reading)
    (reading + own.precision)
own_at own answer reading ranges early order =
    let time = longest_is own.error (reading + 2 * own.precision + 1 - answer.t1) (omega (arith, ranges.error)) in
    record { below = omega (arith, time.greatest); above = omega (arith, time.reached) }

at_on : (own : Local) (answer : Answer) (reading : ℕ) → IsLocal own → own.precision ≤ answer.t1
    → answer.t1 ≤ reading + 2 * own.precision + 1 → OnLines own answer (latest_at own answer reading)
unfolding latest_at
at_on own answer reading ranges early order =
    let time = since_asked own answer reading in
    let up = up_is ((F + answer.error) * time) F (omega arith) in
    record {
      wall = record { below = omega (arith, up.least); above = omega (arith, up.reached) };
      clock = own_at own answer reading ranges early order;
    }

last_on : (own : Local) (answer : Answer) (reading : ℕ) → IsLocal own → own.precision ≤ answer.t1
    → answer.t1 ≤ reading + 2 * own.precision + 1 → OnLines own answer (latest_last own answer reading)
last_on own answer reading ranges early order =
    let time = since_asked own answer reading in
    let down = down_is ((F + answer.error) * time) F (omega arith) in
    record {
      wall = record { below = omega (arith, down.reached); above = omega (arith, down.greatest) };
      clock = own_at own answer reading ranges early order;
    }

-- the moments of the latest world behind the first
abbrev pub latest_later : Local → Answer → (between reading : ℕ) → List Shown
latest_later own answer between reading =
    latest_first own answer ∷ latest_transmit own answer ∷ latest_at own answer answer.t4
    ∷ latest_at own answer between ∷ latest_last own answer reading ∷ []

-- they are in order
pub latest_runs : (own : Local) (answer : Answer) (between reading : ℕ) → IsOpen own answer
    → answer.t4 ≤ between → between ≤ reading
    → InOrder (Runs answer.error own.error) (latest_first own answer) (latest_later own answer between reading)
unfolding latest_at
latest_runs own answer between reading given later last =
    let ranges = given.ranges in
    let beyond = λ (r : ℕ). r + 2 * own.precision + 1 - answer.t1 in
    let small : own.error < F = omega (arith, ranges.error) in
    let fits = turnaround-fits own answer (answer.t3 - answer.precision - (answer.t2 + answer.precision)) given
    (omega arith) in
    let to_between = longest-mono own.error (beyond answer.t4) (beyond between) small (omega arith) in
    let to_last = longest-mono own.error (beyond between) (beyond reading) small (omega arith) in
    let m0 = latest_first own answer in
    let m2 = latest_transmit own answer in
    let m3 = latest_at own answer answer.t4 in
    let m4 = latest_at own answer between in
    let m5 = latest_last own answer reading in
    let p0 = first_on own answer in
    let p2 = transmit_on own answer given.error in
    let p3 = at_on own answer answer.t4 ranges given.t1 given.order in
    let p4 = at_on own answer between ranges given.t1 (omega (arith, given.order)) in
    let p5 = last_on own answer reading ranges given.t1 (omega (arith, given.order)) in
    let run = λ (m n : Shown) (order : m.time ≤ n.time) (p : OnLines own answer m) (q : OnLines own answer n).
    OnLines-run own answer m n ranges order p q in
    let o02 : m0.time ≤ m2.time = omega arith in
    let o03 : m0.time ≤ m3.time = omega arith in
    let o04 : m0.time ≤ m4.time = omega arith in
    let o05 : m0.time ≤ m5.time = omega arith in
    let o23 : m2.time ≤ m3.time = omega (arith, fits) in
    let o24 : m2.time ≤ m4.time = omega (arith, fits, to_between) in
    let o25 : m2.time ≤ m5.time = omega (arith, fits, to_between, to_last) in
    let o34 : m3.time ≤ m4.time = omega (arith, to_between) in
    let o35 : m3.time ≤ m5.time = omega (arith, to_between, to_last) in
    let o45 : m4.time ≤ m5.time = omega (arith, to_last) in
    let from_first : WithEach (Runs answer.error own.error) m0 (m2 ∷ m3 ∷ m4 ∷ m5 ∷ []) =
    (run m0 m2 o02 p0 p2, (run m0 m3 o03 p0 p3, (run m0 m4 o04 p0 p4, (run m0 m5 o05 p0 p5, tt))))
    in (
      (run m0 m0 (omega arith) p0 p0, from_first),
      (
        from_first,
        (
          (run m2 m3 o23 p2 p3, (run m2 m4 o24 p2 p4, (run m2 m5 o25 p2 p5, tt))),
          ((run m3 m4 o34 p3 p4, (run m3 m5 o35 p3 p5, tt)), ((run m4 m5 o45 p4 p5, tt), tt)),
        ),
      ),
    )

-- the transmit value reads the wall clock
pub latest_transmit-near : (own : Local) (answer : Answer) → IsOpen own answer
    → IsWithin answer.precision answer.t3 (latest_transmit own answer).wall
latest_transmit-near own answer given =
    let passed = answer.t3 - answer.precision - (answer.t2 + answer.precision) in
    let went = gone_is answer.error passed given.error in
    omega (arith, went.enough, went.exact, went.none, given.precise, given.t3)

-- From one moment to another the wall clock may fall short by `low` and go beyond by `high`, and the companion's the
-- other way round.
pub record Leans (tv own low high : ℕ) (m n : Shown) : Type 0 where
  pub passed : ℕ
  pub after : n.time ≡ m.time + passed
  pub wall : Goes tv low high passed m.wall n.wall
  pub clock : Goes own high low passed m.own n.own

-- Up to the landing the wall clock goes on fast and the companion's slowly, and after it the other way round.
abbrev pub Leads : (tv own : ℕ) (m landed : Shown) → Type 0
Leads tv own m landed = Leans tv own 0 F m landed

abbrev pub Trails : (tv own : ℕ) (landed n : Shown) → Type 0
Trails tv own landed n = Leans tv own F 0 landed n

-- over the landing the clocks keep the errors
over : (tv own : ℕ) (m landed n : Shown) → Leads tv own m landed → Trails tv own landed n → Runs tv own m n
over tv own m landed n a b =
    let after : n.time ≡ m.time + (a.passed + b.passed) = omega (arith, a.after, b.after) in
    record {
      order = omega arith;
      tv = Goes-runs tv F F (a.passed + b.passed) m.time n.time m.wall n.wall (omega arith) (omega arith) after
          (Goes-then tv 0 F F 0 a.passed b.passed m.wall landed.wall n.wall a.wall b.wall);
      own = Goes-runs own F F (a.passed + b.passed) m.time n.time m.own n.own (omega arith) (omega arith) after
          (Goes-then own F 0 0 F a.passed b.passed m.own landed.own n.own a.clock b.clock);
    }

still : (tv own low high : ℕ) (m : Shown) → Leans tv own low high m m
still tv own low high m = record {
  passed = 0;
  after = omega arith;
  wall = record { least = omega arith; most = omega arith };
  clock = record { least = omega arith; most = omega arith };
}

-- the part of a time by which a slow clock falls behind
pub behind : (error time : ℕ) → error ≤ F → (F - error) * time + error * time ≡ F * time
behind error time small =
    let parts : F - error + error ≡ F = omega arith in
    omega (arith, ap (λ n. n * time) parts)

-- the wall clock while the television answers
answered : (answer : Answer) → answer.error ≤ max_error
    → IsGone answer.error (answer.t3 - answer.precision - earliest_received answer) (turnaround answer)
    (gone answer.error (answer.t3 - answer.precision - earliest_received answer))
answered answer most = gone_is answer.error (answer.t3 - answer.precision - earliest_received answer) most

-- which it can within the round trip
answer-fits : (own : Local) (answer : Answer) → IsOpen own answer
    → turnaround answer ≤ since_asked own answer answer.t4
answer-fits own answer given =
    turnaround-fits own answer (answer.t3 - answer.precision - earliest_received answer) given (omega arith)

-- the moments before the landing
first_leads : (own : Local) (answer : Answer) → IsOpen own answer → HasRun own answer
    → Leads answer.error own.error (earliest_first own answer) (earliest_landed own answer)
first_leads own answer given old =
    let small = given.ranges.error in
    let x = turnaround answer in
    let s = since_asked own answer answer.t4 in
    let fits = answer-fits own answer given in
    let went = answered answer given.error in
    let longest = longest_is own.error (answer.t4 + 2 * own.precision + 1 - answer.t1) (omega (arith, small)) in
    let slow = behind own.error s (omega (arith, small)) in
    let part : answer.error * x ≤ answer.error * s = mul-le-mul_left answer.error fits in
    let begun : s - x ≤ earliest_received answer = omega (arith, given.t2, given.t3) in
    record {
      passed = s;
      after = omega arith;
      wall = record { least = omega (arith, went.fast); most = omega (arith, went.near, part) };
      clock = record {
        least = omega (arith, longest.reached, slow, given.t1, given.order);
        most = omega (arith, longest.greatest, slow, given.t1, given.order);
      };
    }

receipt_leads : (own : Local) (answer : Answer) → IsOpen own answer
    → Leads answer.error own.error (earliest_receipt own answer) (earliest_landed own answer)
receipt_leads own answer given =
    let small = given.ranges.error in
    let x = turnaround answer in
    let fits = answer-fits own answer given in
    let went = answered answer given.error in
    let longest = longest_is own.error (answer.t4 + 2 * own.precision + 1 - answer.t1) (omega (arith, small)) in
    let part = mul-le-mul_left (F - own.error) fits in
    let down = down_is ((F - own.error) * x) F (omega arith) in
    let slow = behind own.error x (omega (arith, small)) in
    record {
      passed = x;
      after = omega arith;
      wall = record { least = omega (arith, went.fast); most = omega (arith, went.near) };
      clock = record {
        least = omega (arith, longest.reached, part, down.greatest, slow, given.t1, given.order);
        most = omega (arith, down.reached, slow);
      };
    }

-- from the sending to the receipt
first_receipt : (own : Local) (answer : Answer) → IsOpen own answer → HasRun own answer
    → Runs answer.error own.error (earliest_first own answer) (earliest_receipt own answer)
first_receipt own answer given old =
    let small = given.ranges.error in
    let x = turnaround answer in
    let s = since_asked own answer answer.t4 in
    let u = s - x in
    let fits = answer-fits own answer given in
    let longest = longest_is own.error (answer.t4 + 2 * own.precision + 1 - answer.t1) (omega (arith, small)) in
    let part = mul-le-mul_left (F - own.error) fits in
    let down = down_is ((F - own.error) * x) F (omega arith) in
    let slow = behind own.error u (omega (arith, small)) in
    let whole : u + x ≡ s = omega arith in
    let same : (F - own.error) * (u + x) ≡ (F - own.error) * s = ap (λ n. (F - own.error) * n) whole in
    let begun : u ≤ earliest_received answer = omega (arith, given.t2, given.t3) in
    record {
      order = omega arith;
      tv = Goes-runs answer.error 0 0 u 0 u (earliest_received answer - u) (earliest_received answer) (omega arith)
          (omega arith) (omega arith) (record { least = omega arith; most = omega arith });
      own = Goes-runs own.error F F u 0 u (earliest_first own answer).own (earliest_receipt own answer).own
          (omega arith) (omega arith) (omega arith) (record {
            least = omega (arith, longest.reached, same, down.reached, slow, given.t1, given.order);
            most = omega (arith, longest.greatest, same, part, down.greatest, slow, given.t1, given.order);
          });
    }

-- the moments after it
between_trails : (own : Local) (answer : Answer) (between reading : ℕ) → IsOpen own answer
    → answer.t4 + 2 * own.precision + 1 ≤ reading
    → Trails answer.error own.error (earliest_landed own answer) (earliest_between own answer between reading)
between_trails own answer between reading given late =
    let passed = until_between own answer between reading in
    let clock = earliest_after own answer between reading given.ranges late in
    let slow = behind answer.error passed (omega (arith, given.error)) in
    let down = down_is ((F - answer.error) * passed) F (omega arith) in
    record {
      passed = passed;
      after = omega arith;
      wall = record { least = omega (arith, down.greatest, slow); most = omega (arith, down.reached, slow) };
      clock = record {
        least = omega (arith, clock.middle_early, clock.low);
        most = omega (arith, clock.middle_late);
      };
    }

last_trails : (own : Local) (answer : Answer) (between reading : ℕ) → IsOpen own answer
    → answer.t4 + 2 * own.precision + 1 ≤ reading
    → Trails answer.error own.error (earliest_landed own answer) (earliest_last own answer between reading)
last_trails own answer between reading given late =
    let passed = until_last own answer between reading in
    let clock = earliest_after own answer between reading given.ranges late in
    let slow = behind answer.error passed (omega (arith, given.error)) in
    let up = up_is ((F - answer.error) * passed) F (omega arith) in
    record {
      passed = passed;
      after = omega arith;
      wall = record { least = omega (arith, up.reached, slow); most = omega (arith, up.least, slow) };
      clock = record {
        least = omega (arith, clock.last_early, clock.low, clock.high);
        most = omega (arith, clock.last_late);
      };
    }

-- from one of them to the other
between_last : (own : Local) (answer : Answer) (between reading : ℕ) → IsOpen own answer
    → answer.t4 + 2 * own.precision + 1 ≤ reading
    → Runs answer.error own.error (earliest_between own answer between reading)
    (earliest_last own answer between reading)
between_last own answer between reading given late =
    let short = until_between own answer between reading in
    let long = until_last own answer between reading in
    let clock = earliest_after own answer between reading given.ranges late in
    let slope = F - answer.error in
    let down = down_is (slope * short) F (omega arith) in
    let up = up_is (slope * long) F (omega arith) in
    let whole : short + (long - short) ≡ long = omega (arith, clock.order) in
    let same : slope * (short + (long - short)) ≡ slope * long = ap (λ n. slope * n) whole in
    let slow = behind answer.error (long - short) (omega (arith, given.error)) in
    let m = earliest_between own answer between reading in
    let n = earliest_last own answer between reading in
    let after : n.time ≡ m.time + (long - short) = omega (arith, clock.order) in
    record {
      order = omega (arith, clock.order);
      tv = Goes-runs answer.error F F (long - short) m.time n.time m.wall n.wall (omega arith) (omega arith) after
          (record {
            least = omega (arith, down.reached, up.reached, same, slow);
            most = omega (arith, down.greatest, up.least, same, slow);
          });
      own = Goes-runs own.error 0 F (long - short) m.time n.time m.own n.own (omega arith) (omega arith) after
          (record {
            least = omega (arith, clock.rest_early, clock.high);
            most = omega (arith, clock.rest_late);
          });
    }

-- the moments of the earliest world behind the first
abbrev pub earliest_later : Local → Answer → (between reading : ℕ) → List Shown
earliest_later own answer between reading =
    earliest_receipt own answer ∷ earliest_landed own answer ∷ earliest_landed own answer
    ∷ earliest_between own answer between reading ∷ earliest_last own answer between reading ∷ []

-- they are in order
pub earliest_runs : (own : Local) (answer : Answer) (between reading : ℕ) → IsOpen own answer → HasRun own answer
    → answer.t4 + 2 * own.precision + 1 ≤ reading
    → InOrder (Runs answer.error own.error) (earliest_first own answer) (earliest_later own answer between reading)
earliest_runs own answer between reading given old late =
    let m0 = earliest_first own answer in
    let m1 = earliest_receipt own answer in
    let m2 = earliest_landed own answer in
    let m4 = earliest_between own answer between reading in
    let m5 = earliest_last own answer between reading in
    let run = λ (m n : Shown) (a : Leads answer.error own.error m m2) (b : Trails answer.error own.error m2 n).
    over answer.error own.error m m2 n a b in
    let l0 = first_leads own answer given old in
    let l1 = receipt_leads own answer given in
    let l2 = still answer.error own.error 0 F m2 in
    let t2 = still answer.error own.error F 0 m2 in
    let t4 = between_trails own answer between reading given late in
    let t5 = last_trails own answer between reading given late in
    let from_landed : WithEach (Runs answer.error own.error) m2 (m4 ∷ m5 ∷ []) =
    (run m2 m4 l2 t4, (run m2 m5 l2 t5, tt)) in (
      (
        first_receipt own answer given old,
        (run m0 m2 l0 t2, (run m0 m2 l0 t2, (run m0 m4 l0 t4, (run m0 m5 l0 t5, tt)))),
      ),
      (
        (run m1 m2 l1 t2, (run m1 m2 l1 t2, (run m1 m4 l1 t4, (run m1 m5 l1 t5, tt)))),
        (
          (run m2 m2 l2 t2, from_landed),
          (from_landed, ((between_last own answer between reading given late, tt), tt)),
        ),
      ),
    )

-- the transmit value reads the wall clock
pub earliest_transmit-near : (own : Local) (answer : Answer) → IsOpen own answer
    → IsWithin answer.precision answer.t3 (earliest_landed own answer).wall
earliest_transmit-near own answer given =
    let went = answered answer given.error in
    omega (arith, went.enough, went.exact, went.none, given.precise, given.t2, given.t3)
