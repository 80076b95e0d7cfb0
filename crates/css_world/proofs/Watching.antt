-- What the clocks say of a line: all watches are shown it, and the line's companion or the television reads its own.
use Rattle.std.proofs.Common.{◌≡◌, ◌≢◌, ◌-◌, ◌&&◌, ◌||◌, ℕ, Bool, true, false, cond, List, [], ◌∷◌, length, arith}
use Rattle.std.proofs.Common.{length-set, ne_eqb, refl, ap, sym, subst, ◌∙◌, inl, inr, Option, Some, None, Result, Ok}
use Rattle.std.proofs.Common.{Err, slice_set, is_none, option_map, eq-eqb}
use Rattle.css_model.specs.Numbers.{precision_ns}
use Rattle.css_moments.specs.Drifts.{verdict}
use Rattle.css_moments.specs.Standing as drifts
use Rattle.css_moments.specs.Standing.{Drift}
use Rattle.css_meaning.specs.Clocks.{Seen, last_reading, has_woken, read_verdict, reading_verdict, shown_at, told_by}
use Rattle.css_meaning.specs.Clocks.{told_with, broken_by, clock_verdict}
use Rattle.css_meaning.specs.Verdicts.{local_of}
use Rattle.css_world.specs.declared.clocks.Clocks.{Clocks}
use Rattle.css_world.specs.declared.watch.Watch.{Watch}
use Rattle.css_world.specs.Standing.{WatchStands, ClocksStand}
use Rattle.css_world.proofs.Names.{option_or, result_and, result_map_both, eqb_tells, is_sleep, Header, WorldFault}
use Rattle.css_world.proofs.Names.{Reading, Numbered, stored, tv_seen, own_seen, tv_reading, own_reading, seen_of_tv}
use Rattle.css_world.proofs.Names.{seen_of, own_shown_tested, shown_tested, reading_tested, seen_own, seen_other}
use Rattle.css_world.proofs.Numbers.{each_written, stored_within}

-- ---- one watch
-- it stands for the same lines
watch_as : {allowed near : ℕ} {shown read shown_too read_too : List Seen} {watch : Watch} → shown ≡ shown_too
    → read ≡ read_too → WatchStands allowed near shown read watch → WatchStands allowed near shown_too read_too watch
watch_as {allowed} {near} {shown} {read} {shown_too} {read_too} {watch} same too is = record {
  error = is.error;
  precision = is.precision;
  drift = subst (λ (s : List Seen). drifts.StandsFor watch.drift (told_by s)) same is.drift;
  last = is.last ∙ ap last_reading too;
  woken = is.woken ∙ ap has_woken too;
}

-- it was shown more
pub shown_watch : {allowed near : ℕ} {shown read : List Seen} {before after : Watch} (more : List Seen)
    → WatchStands allowed near shown read before → after.drift.error ≡ before.drift.error
    → after.precision ≡ before.precision → after.last ≡ before.last → after.woken ≡ before.woken
    → drifts.StandsFor after.drift (told_by more) → WatchStands allowed near more read after
shown_watch more is error precision last woken drift = record {
  error = error ∙ is.error;
  precision = precision ∙ is.precision;
  drift = drift;
  last = last ∙ is.last;
  woken = woken ∙ is.woken;
}

-- the last reading after a line, and whether the end slept since
last_with : (now : Seen) (read : List Seen) (reading : Option ℕ) → now.reading ≡ reading
    → (last_reading (now ∷ read)
    ≡ option_or (option_map (λ value. record { line = now.number; value = value }) reading) (last_reading read))
    × (has_woken (now ∷ read) ≡ (is_none reading && (now.woke || has_woken read)))
last_with now read reading is =
    let last : Option ℕ → Option Reading =
    λ r. option_or (option_map (λ value. record { line = now.number; value = value }) r) (last_reading read) in
    (ap last is, ap (λ r. is_none r && (now.woke || has_woken read)) is)

-- it was read
pub read_watch : {allowed near : ℕ} {shown read : List Seen} {before after : Watch} (now : Seen) (reading : ℕ)
    → now.reading ≡ Some reading → WatchStands allowed near shown read before → after.drift ≡ before.drift
    → after.precision ≡ before.precision → after.last ≡ Some (record { line = now.number; value = reading })
    → after.woken ≡ false → WatchStands allowed near shown (now ∷ read) after
read_watch {allowed} {near} {shown} {read} now reading is stands drift precision last awake =
    let then = last_with now read (Some reading) is in record {
      error = ap (λ (d : Drift). d.error) drift ∙ stands.error;
      precision = precision ∙ stands.precision;
      drift = subst (λ (d : Drift). drifts.StandsFor d (told_by shown)) (sym drift) stands.drift;
      last = last ∙ sym then.0;
      woken = awake ∙ sym then.1;
    }

-- it wasn't, and the end may have slept
pub quiet_watch : {allowed near : ℕ} {shown read : List Seen} {watch : Watch} (now : Seen) → now.reading ≡ None
    → now.woke ≡ false → WatchStands allowed near shown read watch → WatchStands allowed near shown (now ∷ read) watch
quiet_watch {allowed} {near} {shown} {read} now is awake stands =
    let then = last_with now read None is in record {
      error = stands.error;
      precision = stands.precision;
      drift = stands.drift;
      last = stands.last ∙ sym then.0;
      woken = stands.woken ∙ sym (then.1 ∙ ap (λ b. b || has_woken read) awake);
    }

pub slept_watch : {allowed near : ℕ} {shown read : List Seen} {watch : Watch} (now : Seen) → now.reading ≡ None
    → now.woke ≡ true → WatchStands allowed near shown read watch
    → WatchStands allowed near shown (now ∷ read) (record watch { woken = true })
slept_watch {allowed} {near} {shown} {read} now is sleeps stands =
    let then = last_with now read None is in record {
      error = stands.error;
      precision = stands.precision;
      drift = stands.drift;
      last = stands.last ∙ sym then.0;
      woken = sym (then.1 ∙ ap (λ b. b || has_woken read) sleeps);
    }

-- ---- all of them
-- the watch of companion `n` stands for what its clock showed and what was read of it
abbrev OwnStands : Header → ℕ → List Seen → List Seen → Watch → Type 0
OwnStands header n shown read watch =
    WatchStands (local_of n header).error (local_of n header).precision shown read watch

-- a line is shown; the watches of other companions than the line's are not touched
pub shown_clocks : (header : Header) (old new : Clocks) (lines : List Numbered) (now : Numbered) (before after : Watch)
    → ClocksStand header old lines lines → stored old.own.items now.line.who ≡ Some before
    → WatchStands header.tv_error (precision_ns header.tv_precision) (seen_of_tv (now ∷ lines)) (seen_of_tv lines)
    new.tv → new.own.items ≡ slice_set old.own.items (now.line.who - 1) after
    → OwnStands header now.line.who (own_seen now ∷ seen_of now.line.who lines) (seen_of now.line.who lines) after
    → ClocksStand header new (now ∷ lines) lines
shown_clocks header old new lines now before after stand found tv same own =
    let who = now.line.who in
    let within = stored_within old.own.items who before found in record {
      tv = tv;
      count = ap (λ (xs : List Watch). length xs) same ∙ length-set old.own.items (who - 1) after ∙ stand.count;
      own = λ n x at.
          each_written (λ n x. OwnStands header n (seen_of n (now ∷ lines)) (seen_of n lines) x) old.own.items who after
          within.0 within.1
          (λ n x differs there. watch_as (sym (seen_other now lines n (λ is. differs (sym is)))) refl
          (stand.own n x there)) (watch_as (sym (seen_own now lines who refl)) refl own) n x
          (subst (λ (xs : List Watch). stored xs n ≡ Some x) same at);
    }

-- to the television alone
pub shown_tv : (header : Header) (old : Clocks) (lines : List Numbered) (now : Numbered) (tv : Watch)
    → ClocksStand header old lines lines → now.line.who ≡ 0
    → WatchStands header.tv_error (precision_ns header.tv_precision) (seen_of_tv (now ∷ lines)) (seen_of_tv lines) tv
    → ClocksStand header (record old { tv = tv }) (now ∷ lines) lines
shown_tv header old lines now tv stand nobody shown = record {
  tv = shown;
  count = stand.count;
  own = λ n x at. watch_as (sym (seen_other now lines n (apart n x at))) refl (stand.own n x at);
}
  where
    apart : (n : ℕ) (x : Watch) → stored old.own.items n ≡ Some x → now.line.who ≢ n
    apart n x at same =
        let within = stored_within old.own.items n x at in
        absurd (omega (arith, within.0, same, nobody))

-- the line's companion reads its own
pub read_own : (header : Header) (old new : Clocks) (shown lines : List Numbered) (now : Numbered)
    (before after : Watch) → ClocksStand header old shown lines → stored old.own.items now.line.who ≡ Some before
    → tv_reading now.line.verb ≡ None → new.tv ≡ old.tv
    → new.own.items ≡ slice_set old.own.items (now.line.who - 1) after
    → OwnStands header now.line.who (seen_of now.line.who shown) (own_seen now ∷ seen_of now.line.who lines) after
    → ClocksStand header new shown (now ∷ lines)
read_own header old new shown lines now before after stand found none tv same own =
    let who = now.line.who in
    let within = stored_within old.own.items who before found in record {
      tv = rw tv (quiet_watch (tv_seen now) none refl stand.tv);
      count = ap (λ (xs : List Watch). length xs) same ∙ length-set old.own.items (who - 1) after ∙ stand.count;
      own = λ n x at.
          each_written (λ n x. OwnStands header n (seen_of n shown) (seen_of n (now ∷ lines)) x) old.own.items who after
          within.0 within.1
          (λ n x differs there. watch_as refl (sym (seen_other now lines n (λ is. differs (sym is))))
          (stand.own n x there)) (watch_as refl (sym (seen_own now lines who refl)) own) n x
          (subst (λ (xs : List Watch). stored xs n ≡ Some x) same at);
    }

-- or none does
pub read_none : (header : Header) (old : Clocks) (shown lines : List Numbered) (now : Numbered) (tv : Watch)
    → ClocksStand header old shown lines → own_reading now.line.verb ≡ None → is_sleep now.line.verb ≡ false
    → WatchStands header.tv_error (precision_ns header.tv_precision) (seen_of_tv shown) (seen_of_tv (now ∷ lines)) tv
    → ClocksStand header (record old { tv = tv }) shown (now ∷ lines)
read_none header old shown lines now tv stand none awake read = record {
  tv = read;
  count = stand.count;
  own = λ n x at. by n x (stand.own n x at);
}
  where
    by : (n : ℕ) (x : Watch) → OwnStands header n (seen_of n shown) (seen_of n lines) x
        → OwnStands header n (seen_of n shown) (seen_of n (now ∷ lines)) x
    by n x is = elim (eqb_tells now.line.who n) [
      | inl same ↦ watch_as refl (sym (seen_own now lines n same.1)) (quiet_watch (own_seen now) none awake is)
      | inr other ↦ watch_as refl (sym (seen_other now lines n other.1)) is
    ]

-- ---- what is answered
-- what the drift of an end tells
pub clock_told : {allowed near : ℕ} {shown read : List Seen} {watch : Watch} (now : Seen) (error : ℕ)
    (result : Result (Unit {0}) WorldFault) → WatchStands allowed near shown read watch → error ≡ watch.drift.error
    → result ≡ result_map_both (λ x. x) broken_by (verdict error (told_with now.woke (told_by shown)) (shown_at now))
    → result ≡ clock_verdict allowed shown now
clock_told {allowed} {near} {shown} now error result stands same is =
    is ∙ ap (λ e. result_map_both (λ x. x) broken_by (verdict e (told_with now.woke (told_by shown)) (shown_at now)))
    (same ∙ stands.error)

-- where the wall clock is refused, so is the line
pub wall_refused : (header : Header) (lines : List Numbered) (now : Numbered) (fault : WorldFault)
    → Err fault ≡ clock_verdict header.tv_error (seen_of_tv lines) (tv_seen now)
    → Err fault ≡ shown_tested header lines now
wall_refused header lines now fault is = ap (λ v. result_and v (own_shown_tested header lines now)) is

-- where it isn't, the companion's clock decides
pub own_shown : (header : Header) (lines : List Numbered) (now : Numbered) (result : Result (Unit {0}) WorldFault)
    → now.line.who ≢ 0 → Ok tt ≡ clock_verdict header.tv_error (seen_of_tv lines) (tv_seen now)
    → result ≡ clock_verdict (local_of now.line.who header).error (seen_of now.line.who lines) (own_seen now)
    → result ≡ shown_tested header lines now
own_shown header lines now result somebody wall is =
    is
    ∙ sym (ap (λ b. cond b (Ok tt)
    (clock_verdict (local_of now.line.who header).error (seen_of now.line.who lines) (own_seen now)))
    (ne_eqb now.line.who 0 somebody))
    ∙ ap (λ v. result_and v (own_shown_tested header lines now)) wall

-- or there is none
pub none_shown : (header : Header) (lines : List Numbered) (now : Numbered) → now.line.who ≡ 0
    → Ok tt ≡ clock_verdict header.tv_error (seen_of_tv lines) (tv_seen now) → Ok tt ≡ shown_tested header lines now
none_shown header lines now nobody wall =
    let own : Result (Unit {0}) WorldFault =
    clock_verdict (local_of now.line.who header).error (seen_of now.line.who lines) (own_seen now) in
    let here : Ok tt ≡ own_shown_tested header lines now = sym
    (ap (λ b. cond b (Ok tt) own) (eq-eqb now.line.who 0 nobody)) in
    here ∙ ap (λ v. result_and v (own_shown_tested header lines now)) wall

-- a test that is passed leaves the other one
and_ok : (one : Result (Unit {0}) WorldFault) → result_and one (Ok tt) ≡ one
and_ok (Ok tt) = refl
and_ok (Err fault) = refl

-- what is tested at a line, where the television takes one reading and the companion the other
abbrev tested_by : Header → List Numbered → Numbered → Option ℕ → Option ℕ → Result (Unit {0}) WorldFault
tested_by header lines now tv own =
    result_and (reading_verdict now.number (precision_ns header.tv_precision) now.line.w false
    (last_reading (seen_of_tv lines)) tv)
    (reading_verdict now.number (local_of now.line.who header).precision now.line.l
    (has_woken (seen_of now.line.who lines)) (last_reading (seen_of now.line.who lines)) own)

tested_as : (header : Header) (lines : List Numbered) (now : Numbered) (tv own : Option ℕ)
    → tv_reading now.line.verb ≡ tv → own_reading now.line.verb ≡ own
    → tested_by header lines now tv own ≡ reading_tested header lines now
tested_as header lines now tv own is too =
    sym (ap (λ r. tested_by header lines now r (own_reading now.line.verb)) is ∙ ap (tested_by header lines now tv) too)

-- the television never sleeps
and_false : (b : Bool) → (b && false) ≡ false
and_false true = refl
and_false false = refl

tv_awake : (lines : List Numbered) → has_woken (seen_of_tv lines) ≡ false
tv_awake [] = refl
tv_awake (now ∷ older) =
    ap (λ b. is_none (tv_reading now.line.verb) && b) (tv_awake older) ∙ and_false (is_none (tv_reading now.line.verb))

-- what a watch answers of a reading
watch_read : {allowed near : ℕ} {shown read : List Seen} {watch : Watch} (number at reading : ℕ)
    → WatchStands allowed near shown read watch → read_verdict number watch.precision at watch.woken watch.last reading
    ≡ read_verdict number near at (has_woken read) (last_reading read) reading
watch_read {allowed} {near} {shown} {read} {watch} number at reading is =
    ap (λ p. read_verdict number p at watch.woken watch.last reading) is.precision
    ∙ ap (λ b. read_verdict number near at b watch.last reading) is.woken
    ∙ ap (λ l. read_verdict number near at (has_woken read) l reading) is.last

-- where the television reads its clock, that decides
pub tv_read : (header : Header) (old : Clocks) (shown lines : List Numbered) (now : Numbered) (reading : ℕ)
    (result : Result (Unit {0}) WorldFault) → ClocksStand header old shown lines
    → tv_reading now.line.verb ≡ Some reading → own_reading now.line.verb ≡ None
    → result ≡ read_verdict now.number old.tv.precision now.line.w old.tv.woken old.tv.last reading
    → result ≡ reading_tested header lines now
tv_read header old shown lines now reading result stand tv own is =
    let precision = precision_ns header.tv_precision in
    let last = last_reading (seen_of_tv lines) in
    is ∙ watch_read now.number now.line.w reading stand.tv
    ∙ ap (λ b. read_verdict now.number precision now.line.w b last reading) (tv_awake lines)
    ∙ sym (and_ok (read_verdict now.number precision now.line.w false last reading))
    ∙ tested_as header lines now (Some reading) None tv own

-- where the companion does, that does
pub own_read : (header : Header) (old : Clocks) (shown lines : List Numbered) (now : Numbered) (reading : ℕ)
    (watch : Watch) (result : Result (Unit {0}) WorldFault) → ClocksStand header old shown lines
    → stored old.own.items now.line.who ≡ Some watch
    → tv_reading now.line.verb ≡ None → own_reading now.line.verb ≡ Some reading
    → result ≡ read_verdict now.number watch.precision now.line.l watch.woken watch.last reading
    → result ≡ reading_tested header lines now
own_read header old shown lines now reading watch result stand found tv own is =
    is ∙ watch_read now.number now.line.l reading (stand.own now.line.who watch found)
    ∙ tested_as header lines now None (Some reading) tv own
