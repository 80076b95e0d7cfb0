-- What happens at the television is carried out, or at the companion alone: both ends stand for the line too.
use Rattle.std.proofs.Common.{◌≡◌, ◌≢◌, ◌≤◌, ◌-◌, ◌==◌, ℕ, false, List, ◌∷◌, length, refl, ap, sym, subst, ◌∙◌}
use Rattle.std.specs.Prelude.{slice_set, Some}
use Rattle.css_model.specs.declared.Why.TheVariants as why
use Rattle.css_num.specs.declared.protocol.Kind.TheVariants as kind
use Rattle.css_tv.specs.Stages.{Television as Tv}
use Rattle.css_tv.specs.declared.event.TvEvent.TheVariants as event
use Rattle.css_companion.specs.Standing as companions
use Rattle.css_meaning.proofs.Entries.{concerns, received_not}
use Rattle.css_world.specs.declared.lane.Lane.{Lane}
use Rattle.css_world.specs.Lanes.{LaneStands, LanesStand, IsPlayed, AllArePlayed, KeepsAllButTexts}
use Rattle.css_world.specs.Standing.{Kept, EndsStand, IsAtTv}
use Rattle.css_world.proofs.Names.{History, Clock, Slept, Kind, TvEvent, Companion, Verb, Wall, Print, Programme}
use Rattle.css_world.proofs.Names.{Timeline, Viewer, Sleep, peer_of, Numbered, datagrams, done_by, events_of}
use Rattle.css_world.proofs.Names.{history_of, stored, played, cii_of, ts_of, others-peer}
use Rattle.css_world.proofs.Carrying.{own_line, histories, all_lanes, own_lanes, one_lane}
use Rattle.css_world.proofs.Delivered.{kept_in_each}
use Rattle.css_world.proofs.Numbers.{stored_within, stored_same, set_there, set_others}
use Rattle.css_world.proofs.Verbs.{quiet, session-played, aside, turn-aside, WhenPlayed, session_as}

-- ---- an event of the television
-- by an event that isn't of it a lane stands for what happened
other_played : (n : ℕ) (events : List TvEvent) (e : TvEvent) (own : History) (before after : Lane)
    → ((k : Kind) → concerns (peer_of n k) e ≡ false) → LaneStands n events own before
    → IsPlayed n events e before after → after.companion ≡ before.companion → LaneStands n (e ∷ events) own after
other_played n events e own before after apart stands done same =
    let cii = cii_of n in
    let ts = ts_of n in
    record {
      companion = subst (λ (c : Companion). companions.StandsFor c own) (sym same) stands.companion;
      cii = session_as after.cii cii (e ∷ events) own _ _ _ _ _ refl refl refl refl
          (received_not cii e events (apart kind.Cii)) (session-played done.cii stands.cii);
      ts = session_as after.ts ts (e ∷ events) own _ _ _ _ _ refl refl refl refl
          (received_not ts e events (apart kind.Ts)) (session-played done.ts stands.ts);
    }

-- What a lane was before an event.
record WasBefore (n : ℕ) (events : List TvEvent) (e : TvEvent) (between : List Lane) (after : Lane) : Type 0 where
  lane : Lane
  found : stored between n ≡ Some lane
  done : IsPlayed n events e lane after
  companion : after.companion ≡ lane.companion

was_before : (n : ℕ) (events : List TvEvent) (e : TvEvent) (tv : Tv) (between played : List Lane) (after : Lane)
    → AllArePlayed events e tv between played → KeepsAllButTexts between played → stored played n ≡ Some after
    → WasBefore n events e between after
was_before n events e tv between played after all kept found =
    let was = kept_in_each between played n after kept found in
    let is = all.each n was.0 was.1 in
    let same : is.0 ≡ after = stored_same played n is.0 after is.1 found in
    record {
      lane = was.0;
      found = was.1;
      done = subst (λ (x : Lane). IsPlayed n events e was.0 x) same is.2;
      companion = sym was.2;
    }

module _ (old : Kept) (lines : List Numbered) (number t w who l : ℕ) where
  -- what happened at the television and what the companion did before the line, and the lines with it
  abbrev events : List TvEvent
  events = events_of old.header lines

  abbrev own : History
  own = history_of who old.header lines

  abbrev after : Verb → List Numbered
  after verb = own_line number t w who l verb ∷ lines

  -- what the companion did by then where it carries the verb out
  abbrev does : Verb → History
  does verb = done_by old.header who (datagrams old.header lines) events verb own

  abbrev AllStand : Verb → List Lane → Type 0
  AllStand verb lanes = LanesStand (events_of old.header (after verb)) (histories old.header (after verb)) lanes

  -- ---- the television alone
  -- what was played at the television alone is in flight to all
  alone : (e : TvEvent) (tv : Tv) (lanes : List Lane) → ((peer : ℕ) → concerns peer e ≡ false)
      → AllArePlayed events e tv old.lanes lanes → KeepsAllButTexts old.lanes lanes → EndsStand old lines
      → LanesStand (e ∷ events) (histories old.header lines) lanes
  alone e tv lanes apart done kept ends n after found =
      let was = was_before n events e tv old.lanes lanes after done kept found in
      other_played n events e (history_of n old.header lines) was.lane after (λ k. apart (peer_of n k))
      (ends.lanes n was.lane was.found) was.done was.companion

  -- what happens at the television alone
  pub happens : (verb : Verb) (e : TvEvent) (tv : Tv) (lanes : List Lane) → IsAtTv verb e
      → EndsStand old lines → WhenPlayed e old.tv.tv tv old.lanes lanes → tv.server ≡ old.tv.tv.server
      → KeepsAllButTexts old.lanes lanes
      → EndsStand (record old { tv = record old.tv { tv = tv }; lanes = lanes }) (after verb)
  happens (Programme content_id) e tv lanes is ends plays same kept =
      let done = rw is at plays events ends.stage tt in
      quiet old lines number t w who l (Programme content_id) tv lanes tt ends same done.stage
      (all_lanes old.header lines number t w who l (Programme content_id) lanes (λ n. refl)
      (alone (event.Programme content_id) tv lanes (λ peer. refl) done kept ends))
  happens (Timeline programme selector rate base) e tv lanes is ends plays same kept =
      let done = rw is at plays events ends.stage tt in
      quiet old lines number t w who l (Timeline programme selector rate base) tv lanes tt ends same done.stage
      (all_lanes old.header lines number t w who l (Timeline programme selector rate base) lanes (λ n. refl)
      (alone (event.AddTimeline programme selector rate base) tv lanes (λ peer. refl) done kept ends))
  happens (Viewer reading command) e tv lanes is ends plays same kept =
      let done = rw is at plays events ends.stage tt in
      quiet old lines number t w who l (Viewer reading command) tv lanes tt ends same done.stage
      (all_lanes old.header lines number t w who l (Viewer reading command) lanes (λ n. refl)
      (alone (event.Viewer command reading) tv lanes (λ peer. refl) done kept ends))
  happens _ e tv lanes is ends plays same kept = absurd is

  -- ---- the companion's reports
  -- all lanes, where the own one has an entry more that tells it nothing
  turned : (reading : ℕ) (verb : Verb) → EndsStand old lines → events_of old.header (after verb) ≡ events
      → does verb ≡ Clock why.Turn reading ∷ own → AllStand verb old.lanes
  turned reading verb ends none entry =
      own_lanes old.header lines number t w who l verb old.lanes
      (λ n lane found differs. rw none (ends.lanes n lane found))
      (λ lane found.
      let before = ends.lanes who lane found in
      let stands : LaneStands who events (Clock why.Turn reading ∷ own) lane = record {
        companion = aside lane.companion (Clock why.Turn reading) own (turn-aside reading own) before.companion;
        cii = before.cii;
        ts = before.ts;
      } in
      rw none (rw entry stands))

  -- where the span is printed
  pub walls : (reading : ℕ) → EndsStand old lines → EndsStand old (after (Wall reading))
  walls reading ends =
      quiet old lines number t w who l (Wall reading) old.tv.tv old.lanes tt ends refl ends.stage
      (turned reading (Wall reading) ends refl refl)

  -- where the report is
  pub prints : (reading : ℕ) → EndsStand old lines → EndsStand old (after (Print reading))
  prints reading ends =
      quiet old lines number t w who l (Print reading) old.tv.tv old.lanes tt ends refl ends.stage
      (turned reading (Print reading) ends refl refl)

  -- ---- sleeps
  -- the companion slept
  pub sleeps : (lane : Lane) (companion : Companion) → EndsStand old lines → 1 ≤ who → who ≤ length old.lanes
      → stored old.lanes who ≡ Some lane → companions.StandsFor companion (Slept ∷ own)
      → EndsStand (record old { lanes = slice_set old.lanes (who - 1) (record lane { companion = companion }) })
      (after Sleep)
  sleeps lane companion ends first within found stands =
      let before = ends.lanes who lane found in
      let slept : Lane = record lane { companion = companion } in
      quiet old lines number t w who l Sleep old.tv.tv (slice_set old.lanes (who - 1) slept) tt ends refl ends.stage
      (one_lane old.header lines number t w who l Sleep old.lanes slept refl first within ends.lanes
      (record { companion = stands; cii = before.cii; ts = before.ts }))

  -- ---- an event of the companion
  -- The event was played once the own lane was changed, and it concerns a session of this companion alone.
  pub record IsPlayedOnce (verb : Verb) (e : TvEvent) (tv : Tv) (between : Lane) (played : List Lane) : Type 0 where
    pub first : 1 ≤ who
    pub within : who ≤ length old.lanes
    pub is : events_of old.header (after verb) ≡ e ∷ events
    pub k : Kind
    pub own : (peer : ℕ) → concerns peer e ≡ (peer_of who k == peer)
    pub all : AllArePlayed events e tv (slice_set old.lanes (who - 1) between) played
    pub kept : KeepsAllButTexts (slice_set old.lanes (who - 1) between) played

  -- the lanes of the others
  others_played : (verb : Verb) (e : TvEvent) (tv : Tv) (between : Lane) (played : List Lane) → EndsStand old lines
      → IsPlayedOnce verb e tv between played → (n : ℕ) (lane : Lane) → stored played n ≡ Some lane → n ≢ who
      → LaneStands n (events_of old.header (after verb)) (history_of n old.header lines) lane
  others_played verb e tv between played ends done n lane found differs =
      let was = was_before n events e tv (slice_set old.lanes (who - 1) between) played lane done.all done.kept found in
      let there = sym (set_others old.lanes who n between done.first differs) ∙ was.found in
      rw done.is (other_played n events e (history_of n old.header lines) was.lane lane
      (λ j. done.own (peer_of n j) ∙ others-peer n who done.k j (stored_within played n lane found).0 done.first
      (λ same. differs (sym same))) (ends.lanes n was.lane there) was.done was.companion)

  -- and the own one
  own_played : (verb : Verb) (e : TvEvent) (tv : Tv) (between : Lane) (played : List Lane) (lane : Lane)
      → IsPlayedOnce verb e tv between played → stored played who ≡ Some lane
      → IsPlayed who events e between lane × (lane.companion ≡ between.companion)
  own_played verb e tv between played lane done found =
      let was = was_before who events e tv (slice_set old.lanes (who - 1) between) played lane done.all done.kept found
      in
      let same : was.lane ≡ between = stored_same (slice_set old.lanes (who - 1) between) who was.lane between was.found
      (set_there old.lanes who between done.first done.within) in
      (rw same at was.done, was.companion ∙ ap (λ (x : Lane). x.companion) same)

  -- all lanes, where the own one isn't changed after that
  pub event_lanes : (verb : Verb) (e : TvEvent) (tv : Tv) (between : Lane) (played : List Lane) → EndsStand old lines
      → IsPlayedOnce verb e tv between played
      → ((lane : Lane) → IsPlayed who events e between lane → lane.companion ≡ between.companion
      → LaneStands who (e ∷ events) (does verb) lane) → AllStand verb played
  event_lanes verb e tv between played ends done mine =
      own_lanes old.header lines number t w who l verb played (others_played verb e tv between played ends done)
      (λ lane found.
      let now = own_played verb e tv between played lane done found in rw done.is (mine lane now.0 now.1))

  -- and where it is
  pub attended_lanes : (verb : Verb) (e : TvEvent) (tv : Tv) (between mid final : Lane) (played : List Lane)
      → EndsStand old lines → IsPlayedOnce verb e tv between played → stored played who ≡ Some mid
      → (IsPlayed who events e between mid → mid.companion ≡ between.companion
      → LaneStands who (e ∷ events) (does verb) final) → AllStand verb (slice_set played (who - 1) final)
  attended_lanes verb e tv between mid final played ends done found mine =
      let now = own_played verb e tv between played mid done found in
      own_lanes old.header lines number t w who l verb (slice_set played (who - 1) final)
      (λ n lane at differs.
      others_played verb e tv between played ends done n lane
      (sym (set_others played who n final done.first differs) ∙ at) differs)
      (λ lane at.
      let last : final ≡ lane = stored_same (slice_set played (who - 1) final) who final lane
      (set_there played who final done.first (stored_within played who mid found).1) at in
      rw done.is (rw last at (mine now.0 now.1)))
