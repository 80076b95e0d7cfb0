use Rattle.std.proofs.Common.{◌≡◌, ℕ, ◌+◌, ◌<◌, ◌++◌, [], ◌∷◌, List, length, take, get_or, Option, Some, None, refl}
use Rattle.std.proofs.Common.{sym, ap, ◌∙◌}
use Rattle.std.specs.Prelude.{map}
use Rattle.std.specs.Option.{option_to_list}
use Rattle.std.specs.List.{cons_option}
use Rattle.std.proofs.lemmas.List.{take_more, map-append}
use Rattle.std.proofs.lemmas.List.Elements.{filter_map-append}
use Rattle.css_window.specs.Demand.{Demand}
use Rattle.css_sessions.specs.declared.session.Session.{Session}
use Rattle.css_sessions.specs.Kept.{window_in, windows_in, windowed_at, by_presentation}
use Rattle.css_sessions.proofs.force.windows_after.Goals as goal

one : (o : Option Demand) → option_to_list o ≡ cons_option o []
one None = refl
one (Some w) = refl

more : (f : Session → Session) (ss : List Session) (i : ℕ) (s : Session) (now after : List Demand) → i < length ss
    → s ≡ get_or ss i s
    → now ≡ windows_in (map f (take i ss)) → after ≡ now ++ option_to_list (window_in (f s).talk)
    → after ≡ windows_in (map f (take (i + 1) ss))
more f ss i s now after within is so_far pushed =
    pushed ∙ ap (λ ws. ws ++ option_to_list (window_in (f s).talk)) so_far ∙ ap (λ ws. windows_in (map f (take i ss))
    ++ ws) (one (window_in (f s).talk))
    ∙ sym (filter_map-append (λ s. window_in s.talk) (map f (take i ss)) (f s ∷ [])) ∙ ap windows_in
    (sym (map-append f (take i ss) (s ∷ []))
    ∙ ap (map f) (ap (λ y. take i ss ++ y ∷ []) is ∙ sym (take_more ss i s within)))

pub loop-session-preserved : goal.loop-session-preserved
loop-session-preserved c =
    more (windowed_at c.args.peer (by_presentation c.args.presentation.now c.args.player.now)) c.args.list.now
    c.loop-session.session-index c.session-item.result
    c.loop-session.windows.items _ c.loop-session-test.true c.session-item.is c.loop-session.invariant
    (c.in_ok-push.ensures ∙ ap (λ o. c.loop-session.windows.items ++ option_to_list o) c.window_after-window.ensures)
