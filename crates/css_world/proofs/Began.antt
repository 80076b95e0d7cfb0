-- Both ends before their first line, and their clocks.
use Rattle.std.proofs.Common.{◌≡◌, ◌-◌, ℕ, zero, suc, arith, refl, ap, sym, subst, ◌∙◌, List, [], length, FitsSigned}
use Rattle.std.proofs.Common.{w8, option_map, Option, Some, None, unwrap_or, slice_get}
use Rattle.css_server.specs.Exchanges as servers
use Rattle.css_num.specs.declared.protocol.Kind.TheVariants as kind
use Rattle.css_tv.specs.Standing as tvs
use Rattle.css_meaning.specs.Verdicts.{local_of}
use Rattle.css_world.specs.declared.lane.Lane.{Lane}
use Rattle.css_world.specs.declared.watch.Watch.{Watch}
use Rattle.css_world.specs.declared.television.Television.{Television}
use Rattle.css_world.specs.Flights.{Session, SessionStands, unopened}
use Rattle.css_world.specs.Lanes.{IsFresh, AreFresh, IsLaneOf, setup_by}
use Rattle.css_world.specs.Standing.{Kept, EndsAre, EndsStand, IsReady, AreStored, AreNew, WatchStands, request_bytes}
use Rattle.css_world.specs.Standing.{owner, open_ticket}
use Rattle.css_world.proofs.Names.{encoded, Local, IsLocal, Server, Setup, IsHeader, IsCount, CompanionLine, Header}
use Rattle.css_world.proofs.Names.{server_of, stored, numbered, addresses, setup_of, peer_of, IsDeclared}
use Rattle.css_world.proofs.Fresh.{Each}
use Rattle.css_world.proofs.Numbers.{stored_within, stored_there}

-- ---- what the header declares
-- a companion's line stands at the place before its number
at_place : (companions : List CompanionLine) (who : ℕ) (declared : CompanionLine)
    → stored companions who ≡ Some declared → slice_get companions (who - 1) ≡ Some declared
at_place companions zero declared at = absurd (cc)
at_place companions (suc place) declared at =
    let same : suc place - 1 ≡ place = omega arith in
    rw same at

local_by : Option CompanionLine → Local
local_by companion = unwrap_or (option_map (λ c. c.local) companion) (record { error = 0; precision = 0 })

-- what it takes its own clock for
local_at : (header : Header) (who : ℕ) (declared : CompanionLine) → stored header.companions who ≡ Some declared
    → local_of who header ≡ declared.local
unfolding local_by
local_at header who declared at = ap local_by (at_place header.companions who declared at)

setup_at_place : Option CompanionLine → Setup
setup_at_place companion = unwrap_or (option_map setup_by companion) (record { stem = []; selector = [] })

-- what it asks of the television
setup_at : (header : Header) (who : ℕ) (declared : CompanionLine) → stored header.companions who ≡ Some declared
    → setup_of who header ≡ setup_by declared
unfolding setup_at_place
setup_at header who declared at = ap setup_at_place (at_place header.companions who declared at)

-- ---- what is made for each companion
-- each item has its line
line_of : {A : Type 0} {Is : CompanionLine → A → Type 0} (companions : List CompanionLine) (items : List A) (who : ℕ)
    (item : A) → length items ≡ length companions → Each Is companions items → stored items who ≡ Some item
    → (declared : CompanionLine) × (stored companions who ≡ Some declared) × Is declared item
line_of companions items who item count each found =
    let within = stored_within items who item found in
    let declared = stored_there companions who within.0 (omega (arith, within.1, count)) in
    (declared.0, declared.1, each who declared.0 item declared.1 found)

-- a new watch is as the header declares
pub new_watch : (header : Header) (own : List Watch) → AreNew header.companions own → (who : ℕ) (watch : Watch)
    → stored own who ≡ Some watch → WatchStands (local_of who header).error (local_of who header).precision [] [] watch
new_watch header own are who watch found =
    let is = line_of header.companions own who watch are.count are.each found in
    subst (λ (l : Local). WatchStands l.error l.precision [] [] watch) (sym (local_at header who is.0 is.1)) is.2

-- and so is a fresh lane
fresh_lane : (header : Header) (who : ℕ) (declared : CompanionLine) (lane : Lane)
    → stored header.companions who ≡ Some declared → IsFresh declared lane → IsLaneOf header who [] lane
fresh_lane header who declared lane at fresh = record {
  own = fresh.own ∙ sym (local_at header who declared at);
  setup = fresh.setup ∙ sym (setup_at header who declared at);
  floor = omega (arith, fresh.floor);
  after_sleep = omega (arith, fresh.after_sleep);
}

-- each companion's numbers are in range
each_local : (companions : List CompanionLine) (lanes : List Lane) (place : ℕ) → AreFresh companions lanes
    → (at : Option CompanionLine) → slice_get companions place ≡ at → IsLocal (local_by at)
unfolding local_by
each_local companions lanes place fresh None is = record { error = omega arith; precision = omega arith }
each_local companions lanes place fresh (Some declared) is =
    let within = stored_within companions (suc place) declared is in
    let lane = stored_there lanes (suc place) within.0 (omega (arith, within.1, fresh.count)) in
    (fresh.each (suc place) declared lane.0 is lane.1).local

-- ---- both ends
-- a television that did nothing yet, as the header declares it
pub record IsFreshTv (header : Header) (tv : Television) : Type 0 where
  pub server : tv.tv.server ≡ server_of header
  pub serves : servers.StandsFor tv.tv.server []
  pub addresses : tv.tv.stage.addresses ≡ addresses
  pub stands : tvs.StandsFor tv.tv.stage []
  pub takes : tv.takes.items ≡ []

-- Ends that did nothing yet.
pub record HasBegun (world : Kept) : Type 0 where
  pub header : IsHeader world.header
  pub count : IsCount (length world.header.companions)
  pub exponent : FitsSigned w8 world.header.tv_precision
  pub tv : IsFreshTv world.header world.tv
  pub lanes : AreFresh world.header.companions world.lanes
  pub requests : world.requests ≡ []
  pub askers : world.askers ≡ []
  pub taken_for : world.taken_for ≡ []
  pub datagrams : world.datagrams ≡ []
  pub made_for : world.made_for ≡ []

-- what their header declares is in range
begun_declared : (world : Kept) → HasBegun world → IsDeclared world.header
unfolding local_by
begun_declared world begun = record {
  tv = begun.header;
  companions = begun.count;
  exponent = begun.exponent;
  local = λ who. each_local world.header.companions world.lanes (who - 1) begun.lanes
      (slice_get world.header.companions (who - 1)) refl;
}

-- what is always so is so at first
begun_are : (world : Kept) → HasBegun world → EndsAre world []
begun_are world begun = record {
  declares = record {
    precision = ap (λ (s : Server). s.precision) begun.tv.server;
    error = ap (λ (s : Server). s.error) begun.tv.server;
    follow = ap (λ (s : Server). s.follow) begun.tv.server;
  };
  addresses = begun.tv.addresses;
  count = begun.lanes.count;
  lanes = λ who lane found.
      let is = line_of world.header.companions world.lanes who lane begun.lanes.count begun.lanes.each found in
      fresh_lane world.header who is.0 lane is.1 is.2;
}

-- a session that was never open stands for nothing
never_open : (peer : ℕ) (session : Session) → session ≡ unopened → SessionStands peer [] [] session
never_open peer session is =
    rw is (record { phase = refl; down = refl; up = refl; heard_of = omega arith; received_of = omega arith })

-- nothing is stored
none_at : {A B : Type 0} (see : ℕ → A → B) (number : ℕ)
    → stored {A = B} [] number ≡ option_map (see number) (numbered {A = A} number [])
none_at see zero = refl
none_at see (suc place) = refl

none_stored : {A B : Type 0} (see : ℕ → A → B) (items : List B) → items ≡ [] → AreStored see items []
none_stored see items is = rw is (record { count = refl; each = none_at see })

-- the ends did nothing yet
begun_ends : (world : Kept) → HasBegun world → EndsStand world []
begun_ends world begun = record {
  lanes = λ who lane found.
      let declared = line_of world.header.companions world.lanes who lane begun.lanes.count begun.lanes.each found in
      record {
        companion = declared.2.stands;
        cii = never_open (peer_of who kind.Cii) lane.cii declared.2.cii;
        ts = never_open (peer_of who kind.Ts) lane.ts declared.2.ts;
      };
  stage = begun.tv.stands;
  server = begun.tv.serves;
  in_range = tt;
  none_ahead = λ take ahead. refl;
  requests = none_stored request_bytes _ begun.requests;
  askers = none_stored owner _ begun.askers;
  takes = none_stored (open_ticket []) _ begun.tv.takes;
  taken_for = none_stored owner _ begun.taken_for;
  datagrams = none_stored (λ number. encoded) _ begun.datagrams;
  made_for = none_stored owner _ begun.made_for;
}

-- so they are ready for a first line
pub begun_ready : (world : Kept) → HasBegun world → IsReady world []
begun_ready world begun = record {
  declared = begun_declared world begun;
  accepted = tt;
  are = begun_are world begun;
  ends = begun_ends world begun;
}
