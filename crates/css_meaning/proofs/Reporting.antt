-- What an accepted line promises of the sessions and of a report.
use Rattle.std.proofs.Common.{◌≡◌, ℕ, refl, ap, ◌∙◌, arith, cond, le-ltb, List, ◌∷◌, length}
use Rattle.css_model.specs.declared.Why.TheVariants as why
use Rattle.css_model.specs.Explains.{Explains, IsLawful}
use Rattle.css_companion.proofs.Headline.{headline}
use Rattle.css_meaning.specs.Sessions.{setup_of}
use Rattle.css_meaning.specs.Happened.{Numbered, datagrams, done_by, events_of, history_of}
use Rattle.css_meaning.specs.Verdicts.{IsDeclared, local_of}
use Rattle.css_meaning.specs.Worlds.{world_of, moment, moment_number, errors_of}
use Rattle.css_meaning.specs.Accepted.{AreAccepted}
use Rattle.css_meaning.specs.Truth.{IsTrueWall, IsTrueReport, IsPossibleLanding, AreToldInOrder, AreInStepAt}
use Rattle.css_meaning.specs.Truth.{IsTrueLine, AreWorldOf, AreWorld}
use Rattle.css_meaning.proofs.Names.{is_own, Clock, Header}
use Rattle.css_meaning.proofs.Ends.{history_now}
use Rattle.css_meaning.proofs.InOrder.{are_told_in_order}
use Rattle.css_meaning.proofs.InStep.{in_step}

-- ---- the moment of a line
-- what companion `who` does at the newest line happens at its own moment
newest_moment : (header : Header) (who : ℕ) (now : Numbered) (older : List Numbered)
    → moment_number who header (now ∷ older) (length (history_of who header older)) ≡ length older
newest_moment header who now older =
    let entries = length (history_of who header older) in
    ap (λ b. cond b (moment_number who header older entries) (length older)) (le-ltb entries entries (omega arith))

-- at which the wall clock shows what the line says
newest_wall : (now : Numbered) (older : List Numbered) → (world_of (now ∷ older) (length older)).wall ≡ now.line.w
newest_wall now older =
    ap (λ b. (cond b (world_of older (length older)) (moment older now)).wall)
    (le-ltb (length older) (length older) (omega arith))

-- ---- the report
-- The ticks that are printed at an accepted line contain the position that the last control timestamp assigns to its
-- wall clock.
pub true_report : (header : Header) (older : List Numbered) (now : Numbered) → AreAccepted header (now ∷ older)
    → AreWorldOf header (now ∷ older) now.line.who → IsTrueReport header older now
true_report header older now accepted world reading is =
    let who = now.line.who in
    let own = local_of who header in
    let before = history_of who header older in
    let selector = (setup_of who header).selector in
    let moments = moment_number who header (now ∷ older) in
    let history : history_of who header (now ∷ older) ≡ Clock why.Turn reading ∷ before =
    history_now header now older who refl
    ∙ ap (λ v. done_by header who (datagrams header older) (events_of header older) v before) is in
    let read : IsLawful (Clock why.Turn reading ∷ before) = rw history at world.lawful in
    let lawful : IsLawful before = record { rises = read.rises.1; asks = read.asks.1 } in
    let explains : Explains (world_of (now ∷ older)) who header.tv_error own (Clock why.Turn reading ∷ before) moments =
    rw history at world.explains in
    let promised = (headline own selector before reading lawful).contains in
    let contains = promised (errors_of header) (world_of (now ∷ older)) who moments world.keeps explains in
    let wall : (world_of (now ∷ older) (moments (length before))).wall ≡ now.line.w =
    ap (λ i. (world_of (now ∷ older) i).wall) (newest_moment header who now older) ∙ newest_wall now older in
    rw wall at contains

-- ---- the sessions
-- The texts that came by an accepted line tell the first published states, and each companion's state is the last of
-- them.
pub told_in_order : (header : Header) (older : List Numbered) (now : Numbered) → IsDeclared header
    → AreAccepted header (now ∷ older) → AreToldInOrder header (now ∷ older)
told_in_order header older now declared accepted =
    λ who is. are_told_in_order header (now ∷ older) who is.first declared accepted

-- Where all has come to a companion before an accepted line, it assigns the position that the television published.
pub in_step_at : (header : Header) (older : List Numbered) (now : Numbered) → IsDeclared header
    → AreAccepted header (now ∷ older) → AreInStepAt header older now
in_step_at header older now declared accepted =
    λ who is. in_step header older who now.line.w is.first declared accepted.4

-- ---- the line
-- With what its span and its landing promise, all holds that is promised of an accepted line.
pub true_line : (header : Header) (older : List Numbered) (now : Numbered) → IsDeclared header
    → AreAccepted header (now ∷ older) → AreWorld header (now ∷ older) → IsTrueWall header older now
    → IsPossibleLanding header older now → IsTrueLine header older now
true_line header older now declared accepted world wall landing = record {
  wall = wall;
  report = λ reading is.
      true_report header older now accepted (world now.line.who (record {
        first = accepted.1.own (ap is_own is);
        within = accepted.1.who;
      })) reading is;
  landing = landing;
  told = told_in_order header older now declared accepted;
  in_step = in_step_at header older now declared accepted;
}
