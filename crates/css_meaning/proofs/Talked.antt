-- Accepted lines keep what both ends know of the two sessions of a companion.
use Rattle.std.proofs.Common.{◌≡◌, ℕ, zero, suc, ◌-◌, ◌*◌, ◌≤◌, refl, ap, sym, subst, ◌∙◌, arith, Bool, true, false}
use Rattle.std.proofs.Common.{◌||◌, List, [], ◌∷◌, ◌++◌, length, Option, Some, None, is_some, option_map, unwrap_or}
use Rattle.std.proofs.Common.{slice_get, All, option_to_list}
use Rattle.std.proofs.lemmas.List.Elements.{All-head, All-tail}
use Rattle.std.proofs.lemmas.Str.{IsUtf8-nil}
use Rattle.css_model.specs.declared.Kind.TheVariants as session
use Rattle.css_model.specs.History.{Closed}
use Rattle.css_tsmsg.specs.Setups.{IsUtf8Setup, setup_text}
use Rattle.css_num.specs.declared.protocol.Kind.TheVariants as kind
use Rattle.css_sessions.specs.Told.{Unset, ended}
use Rattle.css_tv.specs.States.{published_state}
use Rattle.css_tv.specs.declared.event.TvEvent.TheVariants as event
use Rattle.css_companion.specs.Meanings.{kind_of, is_ts, is_closed}
use Rattle.css_companion.specs.Steps.{window}
use Rattle.css_schedule.specs.declared.line.Verb.TheVariants as verb
use Rattle.css_schedule.specs.declared.header.CompanionLine.{CompanionLine}
use Rattle.css_meaning.specs.Sessions.{addresses, peer_of, setup_of, is_open, was_opened, written_to, received_from}
use Rattle.css_meaning.specs.Sessions.{next_down, next_up}
use Rattle.css_meaning.specs.Happened.{hearing, done_by}
use Rattle.css_meaning.specs.Verdicts.{can_talk, IsDeclared}
use Rattle.css_meaning.proofs.Names.{and_parts, not-true, Message, History, Dialled, Wrote, presentation_text}
use Rattle.css_meaning.proofs.Names.{IsPresentation, Presentation, Setup, setup_reads, Kind, calls_of, TvEvent, Header}
use Rattle.css_meaning.proofs.Names.{Verb, IsVerb, IsCompanion, IsCount}
use Rattle.css_meaning.proofs.Peers.{cii_of, ts_of, cii-ts, ts-cii}
use Rattle.css_meaning.proofs.Entries.{dialled-kind, dialled-kind_apart, dialled-open_apart, closed-open_apart}
use Rattle.css_meaning.proofs.Entries.{dialled-open, closed-open, wrote-one, received-one, received_not, concerns}
use Rattle.css_meaning.proofs.Ends.{events_with}
use Rattle.css_meaning.proofs.Staging.{AreBelow, IsSound, IsStaging}
use Rattle.css_meaning.proofs.Staged.{IsKeptBy, IsKeptApart, one_staged}
use Rattle.css_meaning.proofs.Lives.{LifeGoesOn, goes_on, shown_after, lived_after, opens_as, closes_as}
use Rattle.css_meaning.proofs.Talking.{lived_as, published_addresses, HasCii, IsCiiOpened, HasCiiOf, HasTs, HasTsOf}
use Rattle.css_meaning.proofs.Talking.{IsOpened, Exchanged, exchanged, AreWritten, written_at, later_written, Shows}
use Rattle.css_meaning.proofs.Talking.{shows_over, HasTalked, cii_goes, cii_ends, cii_apart, ts_goes, ts_live, ts_never}
use Rattle.css_meaning.proofs.Talking.{ts_becomes, shows_goes, text_comes}

-- no peer above those of 16 companions is known
abbrev AreFew : List TvEvent → Type 0
AreFew events = AreBelow 32 events

module _ (header : Header) (who : ℕ) (first : 1 ≤ who) (events : List TvEvent) (own : History)
    (before : HasTalked header who events own) where
  -- what the companion asks of the television
  abbrev setup : Setup
  setup = setup_of who header

  -- the peers of its sessions
  abbrev cii : ℕ
  cii = cii_of who

  abbrev ts : ℕ
  ts = ts_of who

  -- by an event that isn't of it a session goes on
  goes : (peer : ℕ) (e : TvEvent) → IsSound e (calls_of addresses events).sessions → concerns peer e ≡ false
      → LifeGoesOn peer events (e ∷ events)
  goes peer e sound other = goes_on peer events e before.staging.staged sound other

  -- what the television knows of the sessions after such an event
  cii_on : (e : TvEvent) → LifeGoesOn cii events (e ∷ events) → HasCiiOf who (e ∷ events) own
  cii_on e on = cii_goes header who events own before (e ∷ events) on

  ts_on : (e : TvEvent) → LifeGoesOn ts events (e ∷ events)
      → HasTsOf header who (e ∷ events) own (exchanged who events own)
  ts_on e on = ts_goes header who events own before (e ∷ events) on

  shows_on : (e : TvEvent) → LifeGoesOn ts events (e ∷ events) → Shows (shown_after (e ∷ events))
      (lived_after ts (e ∷ events))
  shows_on e on = shows_goes header who events own before (e ∷ events) on

  -- an event that is of neither session
  pub event_talked : (e : TvEvent) → ((k : Kind) → concerns (peer_of who k) e ≡ false)
      → IsSound e (calls_of addresses events).sessions → IsStaging who (e ∷ events) own
      → HasTalked header who (e ∷ events) own
  event_talked e other sound staging =
      let one = goes cii e sound (other kind.Cii) in
      let two = goes ts e sound (other kind.Ts) in
      let none = received_not ts e events (other kind.Ts) in
      let x : List (List ℕ) → Exchanged = λ received.
      record { written = written_to ts own; received = received; closed = is_closed own } in
      record {
        staging = staging;
        cii = cii_on e one;
        ts = subst (λ received. HasTsOf header who (e ∷ events) own (x received)) (sym none) (ts_on e two);
        written = before.written;
        shows = shows_on e two;
      }

  -- the session of CSS-CII opens
  cii_opens : AreFew events → was_opened cii own ≡ false → let new = event.Opened cii kind.Cii ∷ events in
      let after = Dialled session.Cii cii ∷ own in IsStaging who new after → HasTalked header who new after
  cii_opens few never staging =
      let e = event.Opened cii kind.Cii in
      let new = e ∷ events in
      let after = Dialled session.Cii cii ∷ own in
      let other = cii-ts who first in
      let opens = opens_as cii kind.Cii events 32 before.staging.staged (omega arith) few in
      let two = goes ts e (before.staging.unknown kind.Cii never).life other in
      let opened : IsCiiOpened (lived_after cii new) true = record {
        first = published_state addresses (shown_after events);
        later = [];
        is = opens.life;
        addressed = (published_addresses (shown_after events), tt);
      } in
      record {
        staging = staging;
        cii = rw (dialled-kind cii session.Cii own) (rw (dialled-open cii session.Cii own) opened);
        ts = ts_as_before new after (dialled-kind_apart ts cii other session.Cii own)
            (dialled-open_apart ts cii other session.Cii own) (ts_on e two);
        written = before.written;
        shows = shows_on e two;
      }
    where
      -- where the other session is as before, so is what is known of it
      ts_as_before : (new : List TvEvent) (after : History) → kind_of ts after ≡ kind_of ts own
          → is_open ts after ≡ is_open ts own → HasTsOf header who new own (exchanged who events own)
          → HasTs setup (kind_of ts after) (is_open ts after) (lived_after ts new) (exchanged who events own)
      ts_as_before new after kind live is = rw kind (rw live is)

  -- it closes
  cii_closes : is_open cii own ≡ true → let new = event.Closed cii ∷ events in
      let after = Closed cii ∷ own in IsStaging who new after → HasTalked header who new after
  cii_closes live staging =
      let e = event.Closed cii in
      let new = e ∷ events in
      let after = Closed cii ∷ own in
      let other = cii-ts who first in
      let two = goes ts e tt other in
      let x : Bool → Exchanged = λ closed.
      record { written = written_to ts own; received = received_from ts events; closed = closed || is_closed own } in
      let apart : HasTs setup (kind_of ts own) (is_open ts own) (lived_after ts new) (x (is_ts (kind_of cii own))) =
      rw (cii_apart header who events own before) (ts_on e two) in
      record {
        staging = staging;
        cii = rw (closed-open cii own) (rw (closes_as cii events) (cii_ends header who events own before live));
        ts = rw (closed-open_apart ts cii other own) apart;
        written = before.written;
        shows = shows_on e two;
      }

  -- the session of CSS-TS opens, and its setup is written
  ts_opens : AreFew events → IsUtf8Setup setup → was_opened ts own ≡ false
      → let new = event.Opened ts kind.Ts ∷ events in
      let after = Wrote ts (setup_text setup) ∷ Dialled session.Ts ts ∷ own in
      IsStaging who new after → HasTalked header who new after
  ts_opens few utf8 never staging =
      let e = event.Opened ts kind.Ts in
      let new = e ∷ events in
      let dialled = Dialled session.Ts ts ∷ own in
      let after = Wrote ts (setup_text setup) ∷ dialled in
      let other = ts-cii who first in
      let opens = opens_as ts kind.Ts events 32 before.staging.staged (omega arith) few in
      let one = goes cii e (before.staging.unknown kind.Ts never).life other in
      let was = ts_never header who events own before never in
      let writes : written_to ts after ≡ setup_text setup ∷ written_to ts own = wrote-one ts (setup_text setup) dialled
      in
      let opened : IsOpened setup (lived_after ts new) true (exchanged who new after) = record {
        life = Unset;
        is = opens.life;
        of = rw was.received refl;
        written = omega (arith, ap length writes);
        closed = λ live. refl;
      } in
      record {
        staging = staging;
        cii = rw (dialled-kind_apart cii ts other session.Ts own) (subst
            (λ b. HasCii (kind_of cii own) b (lived_after cii new)) (sym
            (dialled-open_apart cii ts other session.Ts own)) (cii_on e one));
        ts = rw (dialled-kind ts session.Ts own) (rw (dialled-open ts session.Ts own) opened);
        written = rw writes (rw was.written (setup_reads setup utf8), before.written);
        shows = rw opens.life (λ live. tt);
      }

  -- it closes
  ts_closes : is_open ts own ≡ true → let new = event.Closed ts ∷ events in
      let after = Closed ts ∷ own in IsStaging who new after → HasTalked header who new after
  ts_closes live staging =
      let e = event.Closed ts in
      let new = e ∷ events in
      let after = Closed ts ∷ own in
      let other = ts-cii who first in
      let was = (ts_live header who events own before live).1 in
      let over = closes_as ts events in
      let shut : IsOpened setup (lived_after ts new) false (exchanged who new after) = record {
        life = was.life;
        is = over ∙ ap (option_map ended) (was.is ∙ ap (lived_as was.life) live);
        of = was.of;
        written = was.written;
        closed = λ on. absurd (let no : false ≡ true = on in cc);
      } in
      record {
        staging = staging;
        cii = rw (closed-open_apart cii ts other own) (cii_on e (goes cii e tt other));
        ts = rw (closed-open ts own) (ts_becomes header who events own before false new (exchanged who new after) live
            shut);
        written = before.written;
        shows = rw over (shows_over (shown_after new) (lived_after ts events));
      }

  -- the companion writes a presentation
  ts_writes : (q : Presentation) → is_open ts own ≡ true → IsPresentation q
      → let after = Wrote ts (presentation_text q) ∷ own in IsStaging who events after → HasTalked header who events
      after
  ts_writes q live ranged staging =
      let after = Wrote ts (presentation_text q) ∷ own in
      let was = (ts_live header who events own before live).1 in
      let x = exchanged who events after in
      let writes = wrote-one ts (presentation_text q) own in
      record {
        staging = staging;
        cii = before.cii;
        ts = ts_becomes header who events own before (is_open ts own) events x live (record {
          life = was.life;
          is = was.is;
          of = was.of;
          written = omega (arith, ap length writes);
          closed = was.closed;
        });
        written = rw writes (later_written setup q (length (written_to ts own)) ranged was.written, before.written);
        shows = before.shows;
      }

  -- a text of the companion comes to the television
  text_talked : (bytes : List ℕ) → is_open ts own ≡ true → next_up who events own ≡ Some bytes
      → let new = event.Heard ts bytes ∷ events in IsStaging who new own → HasTalked header who new own
  text_talked bytes live next staging =
      let e = event.Heard ts bytes in
      let new = e ∷ events in
      let was = (ts_live header who events own before live).1 in
      let received = received_from ts events in
      let written = written_at setup (written_to ts own) (length received) bytes before.written next in
      let comes =
      text_comes ts setup received was.life bytes events before.staging.staged (was.is ∙ ap (lived_as was.life) live)
      was.of written before.shows in
      let x : List (List ℕ) → Exchanged = λ texts.
      record { written = written_to ts own; received = texts; closed = is_closed own } in
      record {
        staging = staging;
        cii = cii_on e (goes cii e tt (ts-cii who first));
        ts = rw (received-one ts bytes events)
            (ts_becomes header who events own before (is_open ts own) new (x (bytes ∷ received)) live (record {
              life = comes.life;
              is = comes.is ∙ ap (lived_as comes.life) (sym live);
              of = comes.of;
              written = was.written;
              closed = was.closed;
            }));
        written = before.written;
        shows = comes.shows;
      }

  -- an entry that is of neither session, or of a text that comes, changes nothing
  silent : (after : History) → IsStaging who events after → HasCiiOf who events after
      → HasTsOf header who events after (exchanged who events after) → AreWritten setup (written_to ts after)
      → HasTalked header who events after
  silent after staging cii_after ts_after written =
      record { staging = staging; cii = cii_after; ts = ts_after; written = written; shows = before.shows }

  -- ---- verbs
  -- the same of both sessions: one opens
  opens_talked : (k : Kind) (made : List Message) → AreFew events → IsUtf8Setup setup
      → was_opened (peer_of who k) own ≡ false → IsStaging who (events_with who events own (verb.Opening k))
      (done_by header who made events (verb.Opening k) own)
      → HasTalked header who (events_with who events own (verb.Opening k))
      (done_by header who made events (verb.Opening k) own)
  opens_talked kind.Cii made few utf8 never staging = cii_opens few never staging
  opens_talked kind.Ts made few utf8 never staging = ts_opens few utf8 never staging

  -- one closes
  closes_talked : (k : Kind) (made : List Message) → is_open (peer_of who k) own ≡ true
      → IsStaging who (events_with who events own (verb.Close k)) (done_by header who made events (verb.Close k) own)
      → HasTalked header who (events_with who events own (verb.Close k))
      (done_by header who made events (verb.Close k) own)
  closes_talked kind.Cii made live staging = cii_closes live staging
  closes_talked kind.Ts made live staging = ts_closes live staging

  -- a text comes to the companion, if there is one
  brings_talked : (peer : ℕ) (text : Option (List ℕ)) → IsStaging who events (hearing peer text own)
      → HasTalked header who events (hearing peer text own)
  brings_talked peer None staging = before
  brings_talked peer (Some bytes) staging = silent _ staging before.cii before.ts before.written

  -- and to the television
  sends_talked : (text : Option (List ℕ)) → is_open ts own ≡ true → next_up who events own ≡ text
      → let new = option_to_list (option_map (event.Heard ts) text) ++ events in IsStaging who new own
      → HasTalked header who new own
  sends_talked None live next staging = before
  sends_talked (Some bytes) live next staging = text_talked bytes live next staging

  -- what both ends know stays so by a verb
  talked_by : (v : Verb) (made : List Message) → AreFew events → IsUtf8Setup setup → IsVerb v
      → can_talk who events own v ≡ true
      → IsStaging who (events_with who events own v) (done_by header who made events v own)
      → HasTalked header who (events_with who events own v) (done_by header who made events v own)
  talked_by (verb.Programme content_id) made few utf8 range can staging =
      event_talked (event.Programme content_id) (λ k. refl) range.utf8 staging
  talked_by (verb.Timeline n selector rate base) made few utf8 range can staging =
      event_talked (event.AddTimeline n selector rate base) (λ k. refl) (range.selector.utf8, range.rate) staging
  talked_by (verb.Viewer reading command) made few utf8 range can staging =
      event_talked (event.Viewer command reading) (λ k. refl) range.reading staging
  talked_by (verb.Opening k) made few utf8 range can staging =
      opens_talked k made few utf8 (not-true (was_opened (peer_of who k) own) can) staging
  talked_by (verb.Bring k) made few utf8 range can staging =
      brings_talked (peer_of who k) (next_down who k events own) staging
  talked_by verb.Up made few utf8 range can staging =
      let next = next_up who events own in
      sends_talked next (and_parts (is_open ts own) (is_some next) can).0 refl staging
  talked_by (verb.Present earliest latest) made few utf8 range can staging =
      ts_writes (window earliest latest) can range staging
  talked_by (verb.Close k) made few utf8 range can staging = closes_talked k made can staging
  talked_by _ made few utf8 range can staging = silent _ staging before.cii before.ts before.written

-- no peer above those of 16 companions is known
are_few : (header : Header) (events : List TvEvent) → IsCount (length header.companions)
    → AreBelow (2 * length header.companions) events → AreFew events
are_few header events count below peer above = below peer (omega (arith, above, count.high))

-- What both ends know stays so by each verb of the companion.
pub talked_kept : (header : Header) (who : ℕ) → 1 ≤ who → IsCount (length header.companions)
    → IsUtf8Setup (setup_of who header) → IsKeptBy header who (HasTalked header who)
talked_kept header who first count utf8 made v events own range can below staged staging before =
    talked_by header who first events own before v made (are_few header events count below) utf8 range can staging

-- and by each event of another one
pub talked_apart : (header : Header) (who : ℕ) → 1 ≤ who → IsKeptApart who (HasTalked header who)
talked_apart header who first e events own other sound staged staging before =
    event_talked header who first events own before e other sound staging

-- Nothing is known before all lines.
pub talked_start : (header : Header) (who : ℕ) → HasTalked header who [] []
talked_start header who = record {
  staging = one_staged who;
  cii = (refl, refl);
  ts = record { life = refl; shut = refl; written = refl; received = refl };
  written = tt;
  shows = tt;
}

-- what a companion asks of the television
abbrev wanted : Option CompanionLine → Setup
wanted o =
    unwrap_or (option_map (λ companion. record { stem = companion.stem; selector = companion.selector }) o)
    (record { stem = []; selector = [] })

-- that of each companion is UTF-8
pub setup_utf8 : (header : Header) (who : ℕ) → IsDeclared header → IsUtf8Setup (setup_of who header)
setup_utf8 header who declared = go header.companions (who - 1) declared.tv.companions where
  go : (companions : List CompanionLine) (place : ℕ) → All IsCompanion companions
      → IsUtf8Setup (wanted (slice_get companions place))
  go [] place all = record { stem = IsUtf8-nil; selector = IsUtf8-nil }
  go (companion ∷ more) zero all =
      let is = All-head IsCompanion companion more all in
      record { stem = is.stem; selector = is.selector }
  go (companion ∷ more) (suc place) all = go more place (All-tail IsCompanion companion more all)
