-- What always holds of a stage is kept by each event.
use Rattle.std.proofs.Common.{◌≡◌, ℕ, zero, suc, ◌-◌, ◌<◌, ◌≤◌, Bool, true, false, cond, eqb, not, List, [], ◌∷◌, ◌++◌}
use Rattle.std.proofs.Common.{length, set, Option, Some, None, Result, Ok, Err, refl, sym, ap, subst, ◌∙◌, arith}
use Rattle.std.proofs.Common.{nat_lt, nat_le}
use Rattle.std.specs.Prelude.{is_some, ℤ, pos, map, filter, codes, option_map, option_and_then, unsigned_abs, slice_get}
use Rattle.std.specs.Prelude.{IsSome, int_lt}
use Rattle.std.proofs.lemmas.List.{length-map}
use Rattle.std.proofs.lemmas.Bool.Decides.{nat_tests}
use Rattle.css_cii.specs.declared.state.State.{State}
use Rattle.css_player.specs.Player.{Track, Programme, Segment, Player, media_limit}
use Rattle.css_player.specs.Segments.{control_of, control_in, control_from, present, numbered, told_of, turned}
use Rattle.css_player.specs.Segments.{changed_to, sped, sped_to, sought, sought_to, media_at, with_segment, commanded}
use Rattle.css_player.specs.Segments.{with_delay, with_programme, with_track, with_timeline}
use Rattle.css_player.specs.Events.{Event as PlayerCall}
use Rattle.css_player.specs.declared.command.Command.{Command}
use Rattle.css_player.specs.declared.command.Command.TheVariants as command
use Rattle.css_player.specs.declared.command.PlayerFault.{PlayerFault}
use Rattle.css_player.specs.declared.command.PlayerFault.TheVariants as fault
use Rattle.css_tsmsg.specs.Setups.{setup_of}
use Rattle.css_tsmsg.specs.Presentations.{presentation_of}
use Rattle.css_tsmsg.specs.declared.bound.Presentation.{Presentation}
use Rattle.css_tsmsg.specs.declared.setup.Setup.{Setup}
use Rattle.css_tsmsg.specs.declared.fault.TsFault.{TsFault}
use Rattle.css_num.specs.declared.protocol.Kind.{Kind}
use Rattle.css_sessions.specs.declared.session.Talk.{Talk}
use Rattle.css_sessions.specs.declared.session.Session.{Session}
use Rattle.css_sessions.specs.Kept.{Opened, SetUp, Closed, with_session, with_talk, begun, talk_of, set_up_in}
use Rattle.css_tv.specs.States.{published_state, status_of}
use Rattle.css_tv.specs.Stages.{Stage, IsStage, IsShown, IsShownOf, max_sessions}
use Rattle.css_tv.specs.Outcomes.{Outcome, by_player, programme_added, timeline_added, viewed, only, hung_up, opened}
use Rattle.css_tv.specs.Outcomes.{by_setup, choice, windows_after, presented, by_presentation, heard, outcome_at}
use Rattle.css_tv.specs.Outcomes.{kept_after, stage_after}
use Rattle.css_tv.specs.declared.state.Addresses.{Addresses}
use Rattle.css_tv.specs.declared.event.TvEvent.{TvEvent}
use Rattle.css_tv.specs.declared.event.TvEvent.TheVariants as event
use Rattle.css_tv.specs.declared.fault.TvFault.{TvFault}

pub ok_same : {A E : Type 0} (x y : A) → ◌≡◌ {A = Result A E} (Ok x) (Ok y) → x ≡ y
ok_same x y h = cc

-- a chain that ends in Ok takes its last branch
guarded : {A E : Type 0} (b : Bool) (e : E) (r : Result A E) (y : A) → cond b (Err e) r ≡ Ok y → r ≡ Ok y
guarded true e r y h = absurd (cc)
guarded false e r y h = h

-- ---- the programme that is shown
state_with : Addresses → Option Programme → State
state_with a o = record {
  protocol_version = Some (codes "1.1");
  mrs_url = None;
  content_id = option_map (λ p. p.content_id) o;
  content_id_status = status_of (option_map (λ p. p.content_id) o);
  presentation_status = Some (codes "okay");
  wc_url = Some a.wc_url;
  ts_url = Some a.ts_url;
  te_url = None;
  timelines = option_map (λ p. map told_of p.tracks) o;
}

is_state_with : (a : Addresses) (p : Player) → published_state a p ≡ state_with a (present p)
unfolding published_state state_with
is_state_with a p = refl

pub same_published : (a : Addresses) (p q : Player) → present q ≡ present p → published_state a q ≡ published_state a p
same_published a p q same = is_state_with a q ∙ ap (state_with a) same ∙ sym (is_state_with a p)

get-append : {X : Type 0} (xs ys : List X) (i : ℕ) → IsSome (slice_get xs i) → slice_get (xs ++ ys) i ≡ slice_get xs i
get-append [] ys i within = absurd (let t : false ≡ true = within in cc)
get-append (x ∷ xs) ys zero within = refl
get-append (x ∷ xs) ys (suc i) within = get-append xs ys i within

numbered-append : {X : Type 0} (xs ys : List X) (n : ℕ) → IsSome (numbered xs n) → numbered (xs ++ ys) n ≡ numbered xs n
numbered-append xs ys n within = go (eqb n 0) within where
  go : (b : Bool) → IsSome (cond b None (slice_get xs (n - 1)))
      → cond b None (slice_get (xs ++ ys) (n - 1)) ≡ cond b None (slice_get xs (n - 1))
  go true within = refl
  go false within = get-append xs ys (n - 1) within

get-set : {X : Type 0} (xs : List X) (k i : ℕ) (x : X) → IsSome (slice_get xs i) → IsSome (slice_get (set xs k x) i)
get-set [] k i x within = absurd (let t : false ≡ true = within in cc)
get-set (y ∷ ys) zero zero x within = refl
get-set (y ∷ ys) zero (suc i) x within = within
get-set (y ∷ ys) (suc k) zero x within = refl
get-set (y ∷ ys) (suc k) (suc i) x within = get-set ys k i x within

numbered-set : {X : Type 0} (xs : List X) (k n : ℕ) (x : X) → IsSome (numbered xs n) → IsSome (numbered (set xs k x) n)
numbered-set xs k n x within = go (eqb n 0) within where
  go : (b : Bool) → IsSome (cond b None (slice_get xs (n - 1))) → IsSome (cond b None (slice_get (set xs k x) (n - 1)))
  go true within = within
  go false within = get-set xs k (n - 1) x within

-- ---- one more programme
programmed : (content_id : List ℕ) (p q : Player) → with_programme content_id p ≡ Ok q
    → record {
      programmes = p.programmes ++ record { content_id = content_id; tracks = [] } ∷ [];
      segment = p.segment;
    } ≡ q
programmed content_id p q is = ok_same _ q (guarded (nat_le 1000 (length p.programmes)) fault.Full _ q is)

present-append : (ps qs : List Programme) (o : Option Segment) → IsShownOf (record { programmes = ps; segment = o }) o
    → option_and_then (λ s. numbered (ps ++ qs) s.programme) o ≡ option_and_then (λ s. numbered ps s.programme) o
present-append ps qs None shown = refl
present-append ps qs (Some s) shown = numbered-append ps qs s.programme shown

shown-append : (ps qs : List Programme) (o : Option Segment) → IsShownOf (record { programmes = ps; segment = o }) o
    → IsShownOf (record { programmes = ps ++ qs; segment = o }) o
shown-append ps qs None shown = tt
shown-append ps qs (Some s) shown = subst (λ o. IsSome o) (sym (numbered-append ps qs s.programme shown)) shown

pub programme_present : (content_id : List ℕ) (p q : Player) → with_programme content_id p ≡ Ok q → IsShown p
    → present q ≡ present p
programme_present content_id p q is shown =
    ap present (sym (programmed content_id p q is)) ∙ present-append p.programmes
    (record { content_id = content_id; tracks = [] } ∷ []) p.segment shown

programme_shown : (content_id : List ℕ) (p q : Player) → with_programme content_id p ≡ Ok q → IsShown p → IsShown q
programme_shown content_id p q is shown =
    subst IsShown (programmed content_id p q is)
    (shown-append p.programmes (record { content_id = content_id; tracks = [] } ∷ []) p.segment shown)

control-append : (stem selector : List ℕ) (ps qs : List Programme) (o : Option Segment)
    → IsShownOf (record { programmes = ps; segment = o }) o
    → control_from stem selector (ps ++ qs) o ≡ control_from stem selector ps o
control-append stem selector ps qs None shown = refl
control-append stem selector ps qs (Some s) shown =
    ap (control_in stem selector s) (numbered-append ps qs s.programme shown)

pub programme_controls : (stem selector content_id : List ℕ) (p q : Player) → with_programme content_id p ≡ Ok q
    → IsShown p → control_of stem selector q ≡ control_of stem selector p
programme_controls stem selector content_id p q is shown =
    ap (control_of stem selector) (sym (programmed content_id p q is)) ∙ control-append stem selector p.programmes
    (record { content_id = content_id; tracks = [] } ∷ []) p.segment shown

-- ---- one more timeline
shown-set : (ps : List Programme) (k : ℕ) (x : Programme) (o : Option Segment)
    → IsShownOf (record { programmes = ps; segment = o }) o
    → IsShownOf (record { programmes = set ps k x; segment = o }) o
shown-set ps k x None shown = tt
shown-set ps k x (Some s) shown = numbered-set ps k s.programme x shown

timeline_shown : (n : ℕ) (t : Track) (p q : Player) (o : Option Programme) → with_track n t p o ≡ Ok q → IsShown p
    → IsShown q
timeline_shown n t p q None is shown = absurd (cc)
timeline_shown n t p q (Some x) is shown =
    subst IsShown
    (ok_same _ q
    (guarded (nat_le 16 (length x.tracks)) fault.Full _ q
    (guarded (nat_lt media_limit (unsigned_abs t.base)) fault.Range _ q is)))
    (shown-set p.programmes (n - 1) (record { content_id = x.content_id; tracks = x.tracks ++ t ∷ [] }) p.segment shown)

-- ---- commands
-- the segment of an accepted command
pub record IsCommanded (p q : Player) : Type 0 where
  pub programmes : q.programmes ≡ p.programmes
  pub shown : IsShown p → IsShown q

changes : (n reading : ℕ) (p q : Player) (o : Option Programme) → numbered p.programmes n ≡ o
    → with_segment p (changed_to n reading o) ≡ Ok q → IsCommanded p q
changes n reading p q None found is = absurd (cc)
changes n reading p q (Some x) found is = record {
  programmes = ap (λ r. r.programmes) (sym (ok_same _ q is));
  shown = λ shown. subst IsShown (ok_same _ q is) (ap (λ o. is_some o) found);
}

speeds : (speed : ℤ) (reading : ℕ) (ps : List Programme) (q : Player) (s : Segment) (b c : Bool) (e f : PlayerFault)
    → with_segment (record { programmes = ps; segment = Some s })
    (cond b (Err e) (cond c (Err f) (Ok (sped speed reading s)))) ≡ Ok q
    → IsCommanded (record { programmes = ps; segment = Some s }) q
speeds speed reading ps q s true c e f is = absurd (cc)
speeds speed reading ps q s false true e f is = absurd (cc)
speeds speed reading ps q s false false e f is = record {
  programmes = ap (λ r. r.programmes) (sym (ok_same _ q is));
  shown = λ shown. subst IsShown (ok_same _ q is) shown;
}

seeks : (media : ℤ) (reading : ℕ) (ps : List Programme) (q : Player) (s : Segment) (c : Bool) (f : PlayerFault)
    → with_segment (record { programmes = ps; segment = Some s }) (cond c (Err f) (Ok (sought media reading s))) ≡ Ok q
    → IsCommanded (record { programmes = ps; segment = Some s }) q
seeks media reading ps q s true f is = absurd (cc)
seeks media reading ps q s false f is = record {
  programmes = ap (λ r. r.programmes) (sym (ok_same _ q is));
  shown = λ shown. subst IsShown (ok_same _ q is) shown;
}

speeds_at : (speed : ℤ) (reading : ℕ) (ps : List Programme) (q : Player) (o : Option Segment)
    → with_segment (record { programmes = ps; segment = o }) (sped_to speed reading o) ≡ Ok q
    → IsCommanded (record { programmes = ps; segment = o }) q
speeds_at speed reading ps q None is = absurd (cc)
speeds_at speed reading ps q (Some s) is =
    speeds speed reading ps q s (nat_lt 64 (unsigned_abs speed))
    (nat_lt media_limit (unsigned_abs (media_at s (pos reading)))) fault.Speed fault.Range is

seeks_at : (media : ℤ) (reading : ℕ) (ps : List Programme) (q : Player) (o : Option Segment)
    → with_segment (record { programmes = ps; segment = o }) (sought_to media reading o) ≡ Ok q
    → IsCommanded (record { programmes = ps; segment = o }) q
seeks_at media reading ps q None is = absurd (cc)
seeks_at media reading ps q (Some s) is =
    seeks media reading ps q s (nat_lt media_limit (unsigned_abs media)) fault.Range is

pub is_commanded : (c : Command) (reading : ℕ) (p q : Player) → commanded c reading p ≡ Ok q → IsCommanded p q
is_commanded (command.Change n) reading p q is = changes n reading p q (numbered p.programmes n) refl is
is_commanded (command.Speed speed) reading p q is = speeds_at speed reading p.programmes q p.segment is
is_commanded (command.Seek media) reading p q is = seeks_at media reading p.programmes q p.segment is

pub put_back : (c : Command) (reading : ℕ) (p q : Player) → commanded c reading p ≡ Ok q
    → record { programmes = q.programmes; segment = p.segment } ≡ p
put_back c reading p q is =
    ap (λ (ps : List Programme). record { programmes = ps; segment = p.segment })
    (is_commanded c reading p q is).programmes

-- ---- a delay
delay_shown : (delay : ℕ) (ps : List Programme) (o : Option Segment)
    → IsShownOf (record { programmes = ps; segment = o }) o
    → IsShown (with_delay delay (record { programmes = ps; segment = o }))
delay_shown delay ps None shown = tt
delay_shown delay ps (Some s) shown = go (int_lt (turned delay s) (pos 0)) where
  go : (b : Bool)
      → IsShownOf (record { programmes = ps; segment = Some s })
      (Some
      (cond b s (record {
        at = turned delay s;
        media = s.media;
        speed = s.speed;
        programme = s.programme;
        delay = delay;
      })))
  go true = shown
  go false = shown

-- ---- how many sessions are open
length-with_session : (s : Session) (ss : List Session) → length (with_session s ss) ≡ suc (length ss)
length-with_session s [] = refl
length-with_session s (x ∷ xs) = go (nat_lt x.peer s.peer) (length-with_session s xs) where
  go : (b : Bool) → length (with_session s xs) ≡ suc (length xs)
      → length (cond b (x ∷ with_session s xs) (s ∷ x ∷ xs)) ≡ suc (length (x ∷ xs))
  go true ih = ap suc ih
  go false ih = refl

length-with_talk : (peer : ℕ) (t : Talk) (ss : List Session) → length (with_talk peer t ss) ≡ length ss
length-with_talk peer t [] = refl
length-with_talk peer t (x ∷ xs) = go (eqb x.peer peer) (length-with_talk peer t xs) where
  go : (b : Bool) → length (with_talk peer t xs) ≡ length xs
      → length (cond b (record { peer = x.peer; talk = t } ∷ xs) (x ∷ with_talk peer t xs)) ≡ suc (length xs)
  go true ih = refl
  go false ih = ap suc ih

length-kept : {X : Type 0} (p : X → Bool) (xs : List X) → length (filter p xs) ≤ length xs
length-kept p [] = omega arith
length-kept p (x ∷ xs) = go (p x) (length-kept p xs) where
  go : (b : Bool) → length (filter p xs) ≤ length xs → length (cond b (x ∷ filter p xs) (filter p xs)) ≤ suc (length xs)
  go true ih = omega (arith, ih)
  go false ih = omega (arith, ih)

fewer : (m n : ℕ) → m ≡ n → n ≤ max_sessions → m ≤ max_sessions
fewer m n same few = subst (λ k. k ≤ max_sessions) (sym same) few

-- ---- outcomes
-- what holds of the addresses stays; the rest is shown of what comes after
kept : (old : Stage) (o : Outcome) → IsStage old
    → (kept_after o.called old.sessions).state ≡ published_state old.addresses o.player
    → length (kept_after o.called old.sessions).list ≤ max_sessions → IsShown o.player → IsStage (stage_after o old)
kept old o is current few shown =
    record { wc_utf8 = is.wc_utf8; ts_utf8 = is.ts_utf8; current = current; few = few; shown = shown }

pub keeps_hung_up : (peer : ℕ) (old : Stage) → IsStage old → IsStage (stage_after (hung_up peer old.player) old)
keeps_hung_up peer old is =
    kept old (hung_up peer old.player) is is.current
    (omega (arith, length-kept (λ s. not (eqb s.peer peer)) old.sessions.list, is.few)) is.shown

keeps_closed : (peer : ℕ) (old : Stage) → IsStage old → IsStage (stage_after (only (Closed peer) old.player) old)
keeps_closed peer old is =
    kept old (only (Closed peer) old.player) is is.current
    (omega (arith, length-kept (λ s. not (eqb s.peer peer)) old.sessions.list, is.few)) is.shown

keeps_opened : (peer : ℕ) (kind : Kind) (old : Stage) (b : Bool) → nat_lt (length old.sessions.list) max_sessions ≡ b
    → IsStage old → IsStage (stage_after (opened (Opened peer kind) peer b old.player) old)
keeps_opened peer kind old false test is = keeps_hung_up peer old is
keeps_opened peer kind old true test is =
    let less : length old.sessions.list < max_sessions = grind (arith, nat_tests) in
    kept old (only (Opened peer kind) old.player) is is.current
    (subst (λ k. k ≤ max_sessions)
    (sym (length-with_session (record { peer = peer; talk = begun kind }) old.sessions.list)) (omega (arith, less)))
    is.shown

keeps_setup : (peer : ℕ) (old : Stage) (r : Result Setup TsFault) → IsStage old
    → IsStage (stage_after (by_setup peer old.player r) old)
keeps_setup peer old (Err e) is = keeps_hung_up peer old is
keeps_setup peer old (Ok u) is =
    kept old (only (SetUp peer u old.player) old.player) is is.current
    (fewer _ _ (length-with_talk peer _ old.sessions.list) is.few) is.shown

keeps_presented : (peer : ℕ) (q : Presentation) (old : Stage) (o : Option ℕ) → IsStage old
    → IsStage (stage_after (presented old.addresses peer q old.player o) old)
keeps_presented peer q old None is =
    kept old (presented old.addresses peer q old.player None) is is.current
    (fewer _ _ (length-map old.sessions.list _) is.few) is.shown
keeps_presented peer q old (Some d) is =
    kept old (presented old.addresses peer q old.player (Some d)) is refl
    (fewer _ _ (length-map _ _ ∙ length-map old.sessions.list _) is.few)
    (delay_shown d old.player.programmes old.player.segment is.shown)

keeps_presentation : (peer : ℕ) (old : Stage) (r : Result Presentation TsFault) → IsStage old
    → IsStage (stage_after (by_presentation old.addresses peer old.player old.sessions r) old)
keeps_presentation peer old (Err e) is = keeps_hung_up peer old is
keeps_presentation peer old (Ok q) is =
    keeps_presented peer q old (choice old.player.segment (windows_after peer q old.player old.sessions)) is

keeps_heard : (peer : ℕ) (bytes : List ℕ) (old : Stage) (o : Option Bool) → IsStage old
    → IsStage (stage_after (heard old.addresses peer bytes old.player old.sessions o) old)
keeps_heard peer bytes old None is = keeps_hung_up peer old is
keeps_heard peer bytes old (Some false) is = keeps_setup peer old (setup_of bytes) is
keeps_heard peer bytes old (Some true) is = keeps_presentation peer old (presentation_of bytes) is

keeps_programme : (content_id : List ℕ) (old : Stage) (r : Result Player PlayerFault) (o : Outcome)
    → with_programme content_id old.player ≡ r → by_player (programme_added content_id) r ≡ Ok o → IsStage old
    → IsStage (stage_after o old)
keeps_programme content_id old (Err e) o found made is = absurd (cc)
keeps_programme content_id old (Ok q) o found made is =
    subst (λ x. IsStage (stage_after x old)) (ok_same (programme_added content_id q) o made)
    (kept old (programme_added content_id q) is
    (is.current ∙ sym
    (same_published old.addresses old.player q (programme_present content_id old.player q found is.shown))) is.few
    (programme_shown content_id old.player q found is.shown))

keeps_timeline : (call : PlayerCall) (n : ℕ) (t : Track) (old : Stage) (r : Result Player PlayerFault) (o : Outcome)
    → with_track n t old.player (numbered old.player.programmes n) ≡ r
    → by_player (timeline_added old.addresses call) r ≡ Ok o → IsStage old → IsStage (stage_after o old)
keeps_timeline call n t old (Err e) o found made is = absurd (cc)
keeps_timeline call n t old (Ok q) o found made is =
    subst (λ x. IsStage (stage_after x old)) (ok_same (timeline_added old.addresses call q) o made)
    (kept old (timeline_added old.addresses call q) is refl (fewer _ _ (length-map old.sessions.list _) is.few)
    (timeline_shown n t old.player q (numbered old.player.programmes n) found is.shown))

keeps_viewed : (call : PlayerCall) (c : Command) (reading : ℕ) (old : Stage) (r : Result Player PlayerFault)
    (o : Outcome) → commanded c reading old.player ≡ r → by_player (viewed old.addresses call) r ≡ Ok o → IsStage old
    → IsStage (stage_after o old)
keeps_viewed call c reading old (Err e) o found made is = absurd (cc)
keeps_viewed call c reading old (Ok q) o found made is =
    subst (λ x. IsStage (stage_after x old)) (ok_same (viewed old.addresses call q) o made)
    (kept old (viewed old.addresses call q) is refl (fewer _ _ (length-map _ _ ∙ length-map old.sessions.list _) is.few)
    ((is_commanded c reading old.player q found).shown is.shown))

same_ok : (x : Outcome) (o : Outcome) (old : Stage) → ◌≡◌ {A = Result Outcome TvFault} (Ok x) (Ok o)
    → IsStage (stage_after x old) → IsStage (stage_after o old)
same_ok x o old same is = subst (λ y. IsStage (stage_after y old)) (ok_same x o same) is

pub keeps : (e : TvEvent) (old : Stage) (o : Outcome) → outcome_at e old ≡ Ok o → IsStage old
    → IsStage (stage_after o old)
keeps (event.Programme content_id) old o made is =
    keeps_programme content_id old (with_programme content_id old.player) o refl made is
keeps (event.AddTimeline n selector rate base) old o made is =
    keeps_timeline _ n (record { selector = selector; rate = rate; base = base }) old
    (with_timeline n selector rate base old.player) o refl made is
keeps (event.Viewer c reading) old o made is =
    keeps_viewed _ c reading old (commanded c reading old.player) o refl made is
keeps (event.Opened peer kind) old o made is =
    same_ok _ o old made (keeps_opened peer kind old (nat_lt (length old.sessions.list) max_sessions) refl is)
keeps (event.Heard peer bytes) old o made is =
    same_ok _ o old made (keeps_heard peer bytes old (set_up_in (talk_of peer old.sessions.list)) is)
keeps (event.Closed peer) old o made is = same_ok _ o old made (keeps_closed peer old is)
