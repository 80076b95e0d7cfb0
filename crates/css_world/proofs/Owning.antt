-- What is always so of both ends stays so, line after line; and what a refusal keeps.
use Rattle.std.proofs.Common.{◌≡◌, ◌≤◌, ◌<◌, ◌+◌, ◌-◌, ◌&&◌, ◌||◌, ℕ, arith, Bool, true, false, List, ◌∷◌, length}
use Rattle.std.proofs.Common.{length-set, refl, ap, sym, subst, ◌∙◌, inl, inr}
use Rattle.std.specs.Prelude.{Option, Some, None, Result, Ok, Err, IfSome, IfErr, slice_set, map, max, is_none}
use Rattle.std.specs.Option.{option_map}
use Rattle.css_client.specs.Clients.{local_of}
use Rattle.css_companion.specs.Standing as companions
use Rattle.css_schedule.specs.Headers.{max_companions}
use Rattle.css_tv.specs.Stages.{Television as Tv}
use Rattle.css_meaning.specs.declared.fault.WorldFault.TheVariants as faults
use Rattle.css_meaning.specs.Clocks.{Seen, least_next, last_reading, has_woken}
use Rattle.css_world.specs.declared.both.Ends.{Ends}
use Rattle.css_world.specs.declared.lane.Lane.{Lane}
use Rattle.css_world.specs.Lanes.{IsLaneOf, KeepsAllButTexts, KeepsTv}
use Rattle.css_world.specs.Standing.{Kept, EndsAre, DeclaresTheSame, IsReady, MayRead, MayTake, KeepsBoth, KeepsRefused}
use Rattle.css_world.proofs.Names.{option_or, IsErrAnd, eqb_tells, Companion, is_sleep, Header, Verb, Sleep, WorldFault}
use Rattle.css_world.proofs.Names.{Reading, Numbered, server_of, stored, own_reading, seen_of, seen_own, seen_other}
use Rattle.css_world.proofs.Delivered.{as_many, kept_in_each}
use Rattle.css_world.proofs.Numbers.{each_set, set_part, stored_within}

-- ---- the least next reading
-- the next reading after a sleep is at most one more than a reading that may come now
sleep-above : (woken : Bool) (last : Option Reading) (reading : ℕ) → least_next woken last ≤ reading
    → least_next true last ≤ reading + 1
sleep-above woken last reading least = grind (arith, least)

-- and no less than that
sleep-least : (woken : Bool) (last : Option Reading) → least_next woken last ≤ least_next true last
sleep-least woken last = grind arith

-- the last reading, and whether the companion slept, after one more line
abbrev last_with : ℕ → Option ℕ → Option Reading → Option Reading
last_with number reading last = option_or (option_map (λ value. record { line = number; value = value }) reading) last

-- a line doesn't lower the least next reading, nor that after a sleep
rises : (number : ℕ) (reading : Option ℕ) (woke woken : Bool) (last : Option Reading)
    → IfSome reading (λ r. least_next woken last ≤ r)
    → (least_next woken last ≤ least_next (is_none reading && (woke || woken)) (last_with number reading last))
    × (least_next true last ≤ least_next true (last_with number reading last))
rises number (Some r) woke woken last may = (may, sleep-above woken last r may)
rises number None true woken last may = (sleep-least woken last, omega arith)
rises number None false woken last may = (omega arith, omega arith)

-- a companion's reading is then the least next one
read_at : (now : Numbered) (lines : List Numbered) (who reading : ℕ) → now.line.who ≡ who
    → own_reading now.line.verb ≡ Some reading
    → (least_next (has_woken (seen_of who (now ∷ lines))) (last_reading (seen_of who (now ∷ lines))) ≡ reading)
    × (least_next true (last_reading (seen_of who (now ∷ lines))) ≡ reading + 1)
read_at now lines who reading own is =
    let seen = seen_of who lines in
    let woken : Option ℕ → Bool = λ r. is_none r && (is_sleep now.line.verb || has_woken seen) in
    let last : Option ℕ → Option Reading = λ r. last_with now.number r (last_reading seen) in
    let here = seen_own now lines who own in (
      ap (λ (s : List Seen). least_next (has_woken s) (last_reading s)) here
          ∙ ap (λ r. least_next (woken r) (last r)) is,
      ap (λ (s : List Seen). least_next true (last_reading s)) here ∙ ap (λ r. least_next true (last r)) is,
    )

-- after a sleep it has to be above the last one
slept_at : (now : Numbered) (lines : List Numbered) (who : ℕ) → now.line.who ≡ who → now.line.verb ≡ Sleep
    → has_woken (seen_of who (now ∷ lines)) ≡ true
slept_at now lines who own is =
    ap has_woken (seen_own now lines who own)
    ∙ ap (λ (v : Verb). is_none (own_reading v) && (is_sleep v || has_woken (seen_of who lines))) is

-- ---- one lane
-- a lane may be asked, where a reading may come
pub may_ask : {header : Header} {lane : Lane} {reading : ℕ} (who : ℕ) (lines : List Numbered)
    → IsLaneOf header who (seen_of who lines) lane → MayRead who lines reading → lane.companion.client.floor ≤ reading
may_ask who lines is may = omega (arith, is.floor, may)

-- it is as the header declares, where its client and its setup are as before
pub same_lane : {header : Header} {who : ℕ} {seen : List Seen} {lane new : Lane} → IsLaneOf header who seen lane
    → new.companion.client ≡ lane.companion.client → new.companion.setup ≡ lane.companion.setup
    → IsLaneOf header who seen new
same_lane {header} {who} {seen} {lane} {new} is client setup = record {
  own = ap local_of client ∙ is.own;
  setup = setup ∙ is.setup;
  floor = subst (λ c. c.floor ≤ least_next (has_woken seen) (last_reading seen)) (sym client) is.floor;
  after_sleep = subst (λ c. c.after_sleep ≤ least_next true (last_reading seen)) (sym client) is.after_sleep;
}

-- after a reading of its clock
pub read_lane : {header : Header} {lane new : Lane} (who : ℕ) (lines : List Numbered) (now : Numbered) (reading : ℕ)
    → now.line.who ≡ who → own_reading now.line.verb ≡ Some reading
    → IsLaneOf header who (seen_of who (now ∷ lines)) lane
    → companions.own_of new.companion ≡ companions.own_of lane.companion
    → new.companion.setup ≡ lane.companion.setup → new.companion.client.floor ≤ reading
    → new.companion.client.after_sleep ≤ max lane.companion.client.after_sleep (reading + 1)
    → IsLaneOf header who (seen_of who (now ∷ lines)) new
read_lane who lines now reading at takes is own setup floor after_sleep =
    let least = read_at now lines who reading at takes in record {
      own = own ∙ is.own;
      setup = setup ∙ is.setup;
      floor = omega (arith, floor, least.0);
      after_sleep = omega (arith, after_sleep, is.after_sleep, least.1);
    }

-- and after a sleep
pub slept_lane : {header : Header} {lane new : Lane} (who : ℕ) (lines : List Numbered) (now : Numbered)
    → now.line.who ≡ who → now.line.verb ≡ Sleep → IsLaneOf header who (seen_of who (now ∷ lines)) lane
    → companions.own_of new.companion ≡ companions.own_of lane.companion → new.companion.setup ≡ lane.companion.setup
    → new.companion.client.floor ≡ max lane.companion.client.floor lane.companion.client.after_sleep
    → new.companion.client.after_sleep ≡ lane.companion.client.after_sleep
    → IsLaneOf header who (seen_of who (now ∷ lines)) new
slept_lane who lines now at sleeps is own setup floor after_sleep =
    let last = last_reading (seen_of who (now ∷ lines)) in
    let woken = ap (λ b. least_next b last) (slept_at now lines who at sleeps) in record {
      own = own ∙ is.own;
      setup = setup ∙ is.setup;
      floor = omega (arith, floor, is.floor, is.after_sleep, woken);
      after_sleep = omega (arith, after_sleep, is.after_sleep);
    }

-- ---- all
-- after a line
pub are_on : (ends : Kept) (lines : List Numbered) (now : Numbered) (who : ℕ) (verb : Verb) → now.line.who ≡ who
    → now.line.verb ≡ verb → MayTake who lines verb → EndsAre ends lines → EndsAre ends (now ∷ lines)
are_on ends lines now who verb own is may was = record {
  declares = was.declares;
  addresses = was.addresses;
  count = was.count;
  lanes = λ n lane found. by n lane (was.lanes n lane found);
}
  where
    by : (n : ℕ) (lane : Lane) → IsLaneOf ends.header n (seen_of n lines) lane
        → IsLaneOf ends.header n (seen_of n (now ∷ lines)) lane
    by n lane of = elim (eqb_tells now.line.who n) [
      | inl same ↦
          let seen = seen_of n lines in
          let here : MayTake n lines now.line.verb =
          subst (λ k. MayTake k lines now.line.verb) (sym own ∙ same.1) (rw is may) in
          let up = rises now.number (own_reading now.line.verb) (is_sleep now.line.verb) (has_woken seen)
          (last_reading seen) here in
          rw (seen_own now lines n same.1) (record {
            own = of.own;
            setup = of.setup;
            floor = omega (arith, of.floor, up.0);
            after_sleep = omega (arith, of.after_sleep, up.1);
          })
      | inr other ↦ rw (seen_other now lines n other.1) of
    ]

-- where one lane is written over
pub are_set : {old new : Kept} {lines : List Numbered} (who : ℕ) {before after : Lane} → EndsAre old lines
    → stored old.lanes who ≡ Some before → new.header ≡ old.header → new.tv.tv ≡ old.tv.tv
    → new.lanes ≡ slice_set old.lanes (who - 1) after → IsLaneOf old.header who (seen_of who lines) after
    → EndsAre new lines
are_set {old} {new} {lines} who {before} {after} was found header tv lanes is =
    let within = stored_within old.lanes who before found in
    let all : EndsAre (record new { header = old.header }) lines = record {
      declares = subst (λ (t : Tv). DeclaresTheSame (server_of old.header) t.server) (sym tv) was.declares;
      addresses = ap (λ (t : Tv). t.stage.addresses) tv ∙ was.addresses;
      count = ap (λ (xs : List Lane). length xs) lanes ∙ length-set old.lanes (who - 1) after ∙ was.count;
      lanes = λ n x at.
          each_set (λ n x. IsLaneOf old.header n (seen_of n lines) x) old.lanes who after within.0 within.1 was.lanes is
          n x (subst (λ (xs : List Lane). stored xs n ≡ Some x) lanes at);
    } in
    subst (λ (h : Header). EndsAre (record new { header = h }) lines) (sym header) all

-- where the television was told something, and no lane but for its texts was touched
pub are_told : {old new : Kept} {lines : List Numbered} → EndsAre old lines → new.header ≡ old.header
    → DeclaresTheSame old.tv.tv.server new.tv.tv.server → new.tv.tv.stage.addresses ≡ old.tv.tv.stage.addresses
    → KeepsAllButTexts old.lanes new.lanes → EndsAre new lines
are_told {old} {new} {lines} was header server addresses kept =
    let all : EndsAre (record new { header = old.header }) lines = record {
      declares = record {
        precision = server.precision ∙ was.declares.precision;
        error = server.error ∙ was.declares.error;
        follow = server.follow ∙ was.declares.follow;
      };
      addresses = addresses ∙ was.addresses;
      count = as_many old.lanes new.lanes kept ∙ was.count;
      lanes = λ n x at.
          let before = kept_in_each old.lanes new.lanes n x kept at in
          same_lane (was.lanes n before.0 before.1) (ap (λ (c : Companion). c.client) (sym before.2))
          (ap (λ (c : Companion). c.setup) (sym before.2));
    } in
    subst (λ (h : Header). EndsAre (record new { header = h }) lines) (sym header) all

-- where it took in an event
pub are_played : {old new : Kept} {lines : List Numbered} → EndsAre old lines → new.header ≡ old.header
    → (new.tv.tv.server ≡ old.tv.tv.server) × (new.tv.tv.stage.addresses ≡ old.tv.tv.stage.addresses)
    → KeepsAllButTexts old.lanes new.lanes → EndsAre new lines
are_played was header same kept = are_told was header (record {
  precision = ap (λ s. s.precision) same.0;
  error = ap (λ s. s.error) same.0;
  follow = ap (λ s. s.follow) same.0;
}) same.1 kept

-- where one lane's texts were touched, then it took in an event, and then the companion did
pub are_attended : {old new : Kept} {lines : List Numbered} (who : ℕ) {before mid : Lane} (between final : Lane)
    (tv : Tv) (played : List Lane) → EndsAre old lines → stored old.lanes who ≡ Some before
    → between.companion ≡ before.companion
    → (tv.server ≡ old.tv.tv.server) × (tv.stage.addresses ≡ old.tv.tv.stage.addresses)
    → KeepsAllButTexts (slice_set old.lanes (who - 1) between) played → stored played who ≡ Some mid
    → final.companion.client ≡ mid.companion.client → final.companion.setup ≡ mid.companion.setup
    → new.header ≡ old.header → new.tv.tv ≡ tv → new.lanes ≡ slice_set played (who - 1) final → EndsAre new lines
are_attended {old} {new} {lines} who {before} {mid} between final tv played was found companion same kept there client
    setup header new_tv lanes =
    let begun : Kept = record old { lanes = slice_set old.lanes (who - 1) between } in
    let told : Kept = record old { tv = record old.tv { tv = tv }; lanes = played } in
    let first : EndsAre begun lines =
    are_set who was found refl refl refl (same_lane (was.lanes who before found)
    (ap (λ (c : Companion). c.client) companion) (ap (λ (c : Companion). c.setup) companion)) in
    let second : EndsAre told lines = are_played first refl same kept in
    are_set who second there header new_tv lanes (same_lane (second.lanes who mid there) client setup)

-- where no lane was touched, none but for its texts was
pub same_lanes : (lanes : List Lane) → KeepsAllButTexts lanes lanes
same_lanes lanes = record { companions = refl }

-- ---- numbers of companions
-- the lanes are few
pub few : {ends : Kept} {lines : List Numbered} → IsReady ends lines → length ends.lanes ≤ max_companions
few {ends} ready = subst (λ n. n ≤ max_companions) (sym ready.are.count) ready.declared.companions.high

-- so are they after one was written over
pub few_set : {ends : Kept} {lines : List Numbered} (who : ℕ) (lane : Lane) → IsReady ends lines
    → length (slice_set ends.lanes (who - 1) lane) ≤ max_companions
few_set {ends} who lane ready = rw (length-set ends.lanes (who - 1) lane) (few ready)

-- and so are the numbers of companions
pub few_numbers : {ends : Kept} {lines : List Numbered} (who : ℕ) → IsReady ends lines → who ≤ length ends.lanes
    → who < 2147483648
few_numbers who ready within =
    let most = few ready in
    omega (arith, within, most)

-- the lane of a number is there after one was written over and the television took in an event
pub within_played : (who : ℕ) (lane : Lane) (old played : List Lane) → who ≤ length old
    → KeepsAllButTexts (slice_set old (who - 1) lane) played → who ≤ length played
within_played who lane old played within kept =
    rw (as_many (slice_set old (who - 1) lane) played kept ∙ length-set old (who - 1) lane) within

-- ---- refusals
refused_by : (old new : Ends) (fault : WorldFault) → KeepsBoth old new → KeepsRefused old new fault
refused_by old new faults.Memory both = tt
refused_by old new _ both = both

-- both ends are as before, where that lane keeps its companion
pub both_kept : (old new : Ends) (who : ℕ) (before after : Lane) → stored old.lanes.list.items who ≡ Some before
    → after.companion ≡ before.companion → new.tv.tv ≡ old.tv.tv
    → new.lanes.list.items ≡ slice_set old.lanes.list.items (who - 1) after → KeepsBoth old new
both_kept old new who before after found same tv lanes = record {
  tv = tv;
  companions = ap (map (λ (lane : Lane). lane.companion)) lanes
      ∙ set_part (λ (lane : Lane). lane.companion) old.lanes.list.items who after before found same;
}

pub refused_kept : (old new : Ends) (result : Result (Unit {0}) WorldFault) → KeepsBoth old new
    → IfErr result (λ fault. KeepsRefused old new fault)
refused_kept old new (Ok x) both = tt
refused_kept old new (Err fault) both = refused_by old new fault both

-- want of memory keeps nothing
pub refused_memory : (old new : Ends) (result : Result (Unit {0}) WorldFault)
    → IsErrAnd result (λ fault. fault ≡ faults.Memory) → IfErr result (λ fault. KeepsRefused old new fault)
refused_memory old new (Ok x) memory = tt
refused_memory old new (Err fault) memory = rw memory (let none : KeepsRefused old new faults.Memory = tt in none)

-- and where the player refuses
pub refused_played : (old new : Ends) (who : ℕ) (before after : Lane) (result : Result (Unit {0}) WorldFault)
    (fault : WorldFault) → IsErrAnd result (λ f. f ≡ fault) → stored old.lanes.list.items who ≡ Some before
    → after.companion ≡ before.companion
    → KeepsAllButTexts (slice_set old.lanes.list.items (who - 1) after) new.lanes.list.items
    → KeepsTv old.tv.tv new.tv.tv fault → IfErr result (λ f. KeepsRefused old new f)
refused_played old new who before after (Ok x) fault is found same kept tv = tt
refused_played old new who before after (Err exit) fault is found same kept tv = rw is (by fault tv)
  where
    by : (f : WorldFault) → KeepsTv old.tv.tv new.tv.tv f → KeepsRefused old new f
    by faults.Memory tv = tt
    by _ tv = record {
      tv = tv;
      companions = kept.companions
          ∙ set_part (λ (lane : Lane). lane.companion) old.lanes.list.items who after before found same;
    }
