-- The marks of cues, and what they mean over the reports that were heard.
use Rattle.std.proofs.Common.{◌≡◌, ℕ, List, [], ◌∷◌, ◌++◌, Bool, true, false}
use Rattle.std.proofs.Common.{ap, refl, sym, ◌∙◌, map, flat_map, reverse}
use Rattle.std.proofs.Common.{ℤ, arith}
use Rattle.std.proofs.lemmas.Int.{ints}
use Rattle.std.specs.Prelude.{◌||◌, ◌&&◌, int_le, int_lt, if◌then◌else◌}
use Rattle.std.specs.List.{list_any, list_all}
use Rattle.std.proofs.lemmas.List.{map-append, reverse-append}
use Rattle.std.proofs.lemmas.List.Folds.{list_any-append}
use Rattle.css_companion.specs.declared.report.Report.{Report}
use Rattle.css_companion.specs.declared.report.Report.TheVariants as report
use Rattle.css_follow.specs.declared.mark.Mark.{Mark}
use Rattle.css_follow.specs.declared.mark.Mark.TheVariants.{Ahead, Possible, Passed}
use Rattle.css_follow.specs.declared.notes.Note.{Note}
use Rattle.css_follow.specs.declared.sheet.Cue.{Cue}
use Rattle.css_follow.specs.declared.waiting.Waiting.{Waiting}
use Rattle.css_follow.specs.Announcing.{Announcing, plan_of, says_of, ends_of}
use Rattle.css_follow.specs.Following.{told}
use Rattle.css_follow.specs.Marks.{is_passed, is_possible, was_passed, was_possible}
use Rattle.css_follow.specs.Marks.{announced, all_announced, are_passed}
use Rattle.css_follow.specs.Standing.{heard_in, spoken_in, seen_by, mark_at, later, mark_from, mark_after, cues_in}
use Rattle.css_follow.specs.Standing.{waiting_after, AreMarked, marked_by, news, news_at, is_mark_passed, is_done}

-- ---- notes, and what was heard
-- one more note is the newest
pub heard-more : (notes : List Note) (note : Note) → heard_in (notes ++ note ∷ []) ≡ note.report ∷ heard_in notes
heard-more notes note =
    ap reverse (map-append (λ n. n.report) notes (note ∷ []))
    ∙ reverse-append (map (λ n. n.report) notes) (note.report ∷ [])

pub spoken-more : (notes : List Note) (note : Note) → spoken_in (notes ++ note ∷ []) ≡ note.text ∷ spoken_in notes
spoken-more notes note =
    ap reverse (map-append (λ n. n.text) notes (note ∷ []))
    ∙ reverse-append (map (λ n. n.text) notes) (note.text ∷ [])

-- whether one of two does doesn't depend on which comes first
or_comm : (a b : Bool) → (a || b) ≡ (b || a)
or_comm true true = refl
or_comm true false = refl
or_comm false true = refl
or_comm false false = refl

or_false : (a : Bool) → (a || false) ≡ a
or_false true = refl
or_false false = refl

-- nor does whether one of a list does
any-reverse : {A : Type 0} (test : A → Bool) (xs : List A) → list_any test (reverse xs) ≡ list_any test xs
any-reverse test [] = refl
any-reverse test (x ∷ xs) =
    ap (list_any test) (reverse-append (x ∷ []) xs) ∙ list_any-append test (reverse xs) (x ∷ [])
    ∙ ap (λ b. list_any test (reverse xs) || b) (or_false (test x)) ∙ or_comm (list_any test (reverse xs)) (test x)
    ∙ ap (λ b. test x || b) (any-reverse test xs)

-- ---- one report
-- the mark by whether a tick is passed and whether it is possible
abbrev pub mark_by : Bool → Bool → Mark
mark_by true possible = Passed
mark_by false true = Possible
mark_by false false = Ahead

-- a tick that isn't passed is above the lower end
above : (tick lo : ℤ) → int_le tick lo ≡ false → int_lt lo tick ≡ true
above tick lo h = grind (arith, ints)

interval-mark : (tick lo hi : ℤ) (passed : Bool) → int_le tick lo ≡ passed
    → (if passed then Passed else if int_le tick hi then Possible else Ahead)
    ≡ mark_by passed (int_lt lo tick && int_le tick hi)
interval-mark tick lo hi true h = refl
interval-mark tick lo hi false h =
    rw (above tick lo h) (elim (int_le tick hi) as (λ b. (if b then Possible else Ahead) ≡ mark_by false b)
    [ true ↦ refl | false ↦ refl ])

pub mark_at-by : (tick : ℤ) (r : Report) → mark_at tick r ≡ mark_by (is_passed tick r) (is_possible tick r)
mark_at-by tick (report.Ticks lo hi) = interval-mark tick lo hi (int_le tick lo) refl
mark_at-by tick (report.None cause) = refl

-- ---- several reports
later-by : (a b c d : Bool) → later (mark_by a b) (mark_by c d) ≡ mark_by (a || c) (b || d)
later-by true b c d = refl
later-by false true true d = refl
later-by false true false true = refl
later-by false true false false = refl
later-by false false true d = refl
later-by false false false d = refl

or_assoc : (a b c : Bool) → ((a || b) || c) ≡ (a || (b || c))
or_assoc true b c = refl
or_assoc false b c = refl

from-by : (tick : ℤ) (a b : Bool) (notes : List Note) → mark_from (mark_by a b) tick notes
    ≡ mark_by (a || list_any (is_passed tick) (map (λ n. n.report) notes))
    (b || list_any (is_possible tick) (map (λ n. n.report) notes))
from-by tick a b [] = ap (λ x. mark_by x b) (sym (or_false a)) ∙ ap (λ x. mark_by (a || false) x) (sym (or_false b))
from-by tick a b (n ∷ notes) =
    let p = is_passed tick n.report in
    let q = is_possible tick n.report in
    ap (λ m. mark_from (later (mark_by a b) m) tick notes) (mark_at-by tick n.report)
    ∙ ap (λ m. mark_from m tick notes) (later-by a b p q) ∙ from-by tick (a || p) (b || q) notes
    ∙ ap (λ x. mark_by x ((b || q) || list_any (is_possible tick) (map (λ n. n.report) notes)))
    (or_assoc a p (list_any (is_passed tick) (map (λ n. n.report) notes)))
    ∙ ap (λ x. mark_by (a || (p || list_any (is_passed tick) (map (λ n. n.report) notes))) x)
    (or_assoc b q (list_any (is_possible tick) (map (λ n. n.report) notes)))

-- the mark of notes, by what was heard
pub after-by : (tick : ℤ) (notes : List Note)
    → mark_after tick notes ≡ mark_by (was_passed tick (heard_in notes)) (was_possible tick (heard_in notes))
after-by tick notes =
    from-by tick false false notes
    ∙ ap (λ x. mark_by x (list_any (is_possible tick) (map (λ n. n.report) notes)))
    (sym (any-reverse (is_passed tick) (map (λ n. n.report) notes)))
    ∙ ap (λ x. mark_by (was_passed tick (heard_in notes)) x)
    (sym (any-reverse (is_possible tick) (map (λ n. n.report) notes)))

-- one more note
pub mark-more : (mark : Mark) (tick : ℤ) (notes : List Note) (note : Note)
    → mark_from mark tick (notes ++ note ∷ []) ≡ later (mark_from mark tick notes) (mark_at tick note.report)
mark-more mark tick [] note = refl
mark-more mark tick (n ∷ notes) note = mark-more (later mark (mark_at tick n.report)) tick notes note

-- ---- what is said of a cue
news-by : (a b c d : Bool) (cue : Cue) (passed possible : List ℕ)
    → (n : Mark → Mark → List ℕ) → ((m : Mark) → n Passed m ≡ []) → n Ahead Passed ≡ passed → n Possible Passed ≡ passed
    → n Ahead Possible ≡ possible → n Possible Possible ≡ [] → n Possible Ahead ≡ [] → n Ahead Ahead ≡ []
    → n (mark_by a b) (mark_by c d)
    ≡ (if a then [] else if c then passed else if b then [] else if d then possible else [])
news-by true b c d cue p q n e1 e2 e3 e4 e5 e6 e7 = e1 (mark_by c d)
news-by false true true d cue p q n e1 e2 e3 e4 e5 e6 e7 = e3
news-by false false true d cue p q n e1 e2 e3 e4 e5 e6 e7 = e2
news-by false true false true cue p q n e1 e2 e3 e4 e5 e6 e7 = e5
news-by false true false false cue p q n e1 e2 e3 e4 e5 e6 e7 = e6
news-by false false false true cue p q n e1 e2 e3 e4 e5 e6 e7 = e4
news-by false false false false cue p q n e1 e2 e3 e4 e5 e6 e7 = e7

pub news-announced : (notes : List Note) (r : Report) (cue : Cue)
    → news_at r (waiting_after notes cue) ≡ announced (heard_in notes) r cue
news-announced notes r cue =
    ap (λ m. news m (mark_at cue.tick r) cue) (after-by cue.tick notes)
    ∙ ap (λ m. news (mark_by (was_passed cue.tick (heard_in notes)) (was_possible cue.tick (heard_in notes))) m cue)
    (mark_at-by cue.tick r)
    ∙ news-by (was_passed cue.tick (heard_in notes)) (was_possible cue.tick (heard_in notes)) (is_passed cue.tick r)
    (is_possible cue.tick r) cue _ _ (λ a b. news a b cue) (λ m. refl) refl refl refl refl refl refl

-- ---- all cues
pub all-announced : (notes : List Note) (r : Report) (cues : List Cue)
    → flat_map (news_at r) (map (waiting_after notes) cues) ≡ all_announced cues (heard_in notes) r
all-announced notes r [] = refl
all-announced notes r (cue ∷ cues) =
    ap (λ l. l ++ flat_map (news_at r) (map (waiting_after notes) cues)) (news-announced notes r cue)
    ∙ ap (λ l. announced (heard_in notes) r cue ++ l) (all-announced notes r cues)

pub cues-after : (notes : List Note) (cues : List Cue) → cues_in (map (waiting_after notes) cues) ≡ cues
cues-after notes [] = refl
cues-after notes (cue ∷ cues) = ap (λ l. cue ∷ l) (cues-after notes cues)

pub waiting_after-more : (notes : List Note) (note : Note) (cues : List Cue)
    → map (marked_by note.report) (map (waiting_after notes) cues) ≡ map (waiting_after (notes ++ note ∷ [])) cues
waiting_after-more notes note [] = refl
waiting_after-more notes note (cue ∷ cues) =
    ap (λ m. record { cue = cue; mark = m } ∷ map (marked_by note.report) (map (waiting_after notes) cues))
    (sym (mark-more Ahead cue.tick notes note))
    ∙ ap (λ l. waiting_after (notes ++ note ∷ []) cue ∷ l) (waiting_after-more notes note cues)

passed-by : (a b : Bool) → is_mark_passed (mark_by a b) ≡ a
passed-by true b = refl
passed-by false true = refl
passed-by false false = refl

pub all-passed : (notes : List Note) (cues : List Cue)
    → list_all is_done (map (waiting_after notes) cues) ≡ are_passed cues (heard_in notes)
all-passed notes [] = refl
all-passed notes (cue ∷ cues) =
    ap (λ m. is_mark_passed m && list_all is_done (map (waiting_after notes) cues)) (after-by cue.tick notes)
    ∙ ap (λ b. b && list_all is_done (map (waiting_after notes) cues))
    (passed-by (was_passed cue.tick (heard_in notes)) (was_possible cue.tick (heard_in notes)))
    ∙ ap (λ b. was_passed cue.tick (heard_in notes) && b) (all-passed notes cues)

-- ---- a follower of cues
-- the cues of a list are those of the marked one
pub cues-marked : (r : Report) (list : List Waiting) → cues_in (map (marked_by r) list) ≡ cues_in list
cues-marked r [] = refl
cues-marked r (w ∷ ws) = ap (λ l. w.cue ∷ l) (cues-marked r ws)

-- marks that were just made
pub AreMarked-first : (notes : List Note) (cues : List Cue) (list : List Waiting)
    → list ≡ map (waiting_after notes) cues → AreMarked notes list
AreMarked-first notes cues list e = record {
  marks = e ∙ ap (map (waiting_after notes)) (sym (ap cues_in e ∙ cues-after notes cues));
}

module _ (notes next : List Note) (list marked : List Waiting) (r : Report) (text : List ℕ) (m : AreMarked notes list)
    (noted : next ≡ notes ++ record { report = r; text = text } ∷ []) (went : marked ≡ map (marked_by r) list) where
  -- each cue has the mark of one more note
  again : marked ≡ map (waiting_after next) (cues_in list)
  again =
      went ∙ ap (map (marked_by r)) m.marks
      ∙ waiting_after-more notes (record { report = r; text = text }) (cues_in list)
      ∙ ap (λ n. map (waiting_after n) (cues_in list)) (sym noted)

  pub AreMarked-next : AreMarked next marked
  AreMarked-next = record {
    marks = again ∙ ap (map (waiting_after next)) (sym (ap cues_in went ∙ cues-marked r list));
  }

  -- what was said is what is new of the cues
  pub said-cues : text ≡ flat_map (news_at r) list → text ≡ all_announced (cues_in list) (heard_in notes) r
  said-cues e = e ∙ ap (flat_map (news_at r)) m.marks ∙ all-announced notes r (cues_in list)

  -- and it ends where each was passed
  pub ends-cues : list_all is_done marked ≡ are_passed (cues_in list) (r ∷ heard_in notes)
  ends-cues =
      ap (list_all is_done) again ∙ all-passed next (cues_in list)
      ∙ ap (are_passed (cues_in list)) (ap heard_in noted ∙ heard-more notes (record { report = r; text = text }))

-- a report leaves the cues, and so the plan
pub keeps-cues : (self : Announcing) (list marked : List Waiting) (cues : List Cue) (r : Report)
    → self.cues ≡ cues → cues ≡ cues_in list → marked ≡ map (marked_by r) list
    → plan_of (cues_in marked) ≡ plan_of self.cues
keeps-cues self list marked cues r e f went =
    ap plan_of (ap cues_in went ∙ cues-marked r list ∙ sym f ∙ sym e)

-- what a follower says that isn't done
pub says-cues : (self : Announcing) (notes : List Note) (list : List Waiting) (done : Bool) (r : Report) (text : List ℕ)
    → self ≡ record { cues = cues_in list; seen = seen_by notes done } → done ≡ false
    → text ≡ all_announced (cues_in list) (heard_in notes) r → text ≡ says_of self r
says-cues self notes list done r text e f said = rw (e, f) said

-- what it heard, where it isn't done
pub heard-cues : (self : Announcing) (notes next : List Note) (list : List Waiting) (done ends : Bool) (r : Report)
    (text : List ℕ) → self ≡ record { cues = cues_in list; seen = seen_by notes done } → done ≡ false
    → next ≡ notes ++ record { report = r; text = text } ∷ []
    → text ≡ all_announced (cues_in list) (heard_in notes) r → ends ≡ are_passed (cues_in list) (r ∷ heard_in notes)
    → seen_by next ends ≡ told r (says_of self r) (ends_of self r) self.seen
heard-cues self notes next list done ends r text e f noted said ended =
    let heard = ap heard_in noted ∙ heard-more notes (record { report = r; text = text }) in
    let spoken = ap spoken_in noted ∙ spoken-more notes (record { report = r; text = text })
    ∙ ap (λ t. t ∷ spoken_in notes) said in
    rw (e, f, heard, spoken, ended) refl
