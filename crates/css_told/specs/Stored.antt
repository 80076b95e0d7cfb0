-- How the logic stores a history.
use Rattle.std.specs.Prelude.{◌≡◌, ℕ, List, [], ◌∷◌, refl, cond, ◌==◌}
use Rattle.std.specs.Coded.{Coded, code_by, coded×, coded_ℕ, coded_list}
use mathlib.Core.Path.{ap, ◌∙◌}
use Rattle.css_model.specs.declared.Why.{Why}
use Rattle.css_model.specs.declared.Why.TheVariants as why
use Rattle.css_model.specs.declared.Kind.{Kind}
use Rattle.css_model.specs.declared.Kind.TheVariants as kind
use Rattle.css_model.specs.declared.Failure.{Failure}
use Rattle.css_model.specs.declared.Failure.TheVariants as failure
use Rattle.css_model.specs.History as history
use Rattle.css_model.specs.History.{Entry, History}

abbrev why_number : Why → ℕ
why_number why.Turn = 0
why_number why.Ask = 1
why_number why.Land = 2
why_number why.Take = 3
why_number why.Give = 4

abbrev why_at : ℕ → Why
why_at n = cond (n == 0) why.Turn (cond (n == 1) why.Ask (cond (n == 2) why.Land (cond (n == 3) why.Take why.Give)))

pub why_at-why_number : (w : Why) → why_at (why_number w) ≡ w
why_at-why_number why.Turn = refl
why_at-why_number why.Ask = refl
why_at-why_number why.Land = refl
why_at-why_number why.Take = refl
why_at-why_number why.Give = refl

abbrev kind_number : Kind → ℕ
kind_number kind.Wc = 0
kind_number kind.Cii = 1
kind_number kind.Ts = 2

abbrev kind_at : ℕ → Kind
kind_at n = cond (n == 0) kind.Wc (cond (n == 1) kind.Cii kind.Ts)

pub kind_at-kind_number : (k : Kind) → kind_at (kind_number k) ≡ k
kind_at-kind_number kind.Wc = refl
kind_at-kind_number kind.Cii = refl
kind_at-kind_number kind.Ts = refl

abbrev failure_number : Failure → ℕ
failure_number failure.InUse = 0
failure_number failure.NotHere = 1
failure_number failure.NoSuchHost = 2
failure_number failure.Refused = 3
failure_number failure.TimedOut = 4
failure_number failure.NoPermission = 5
failure_number failure.NoRoom = 6
failure_number failure.NoWebSocket = 7
failure_number failure.Other = 8
failure_number (failure.HttpStatus status) = 9

-- the status that an HTTP server answered with
abbrev status_of : Failure → List ℕ
status_of (failure.HttpStatus status) = status ∷ []
status_of _ = []

abbrev failure_at : ℕ → List ℕ → Failure
failure_at n (status ∷ _) = failure.HttpStatus status
failure_at n [] =
    cond (n == 0) failure.InUse (cond (n == 1) failure.NotHere (cond (n == 2) failure.NoSuchHost
    (cond (n == 3) failure.Refused (cond (n == 4) failure.TimedOut (cond (n == 5) failure.NoPermission
    (cond (n == 6) failure.NoRoom (cond (n == 7) failure.NoWebSocket failure.Other)))))))

pub failure_at-failure_number : (f : Failure) → failure_at (failure_number f) (status_of f) ≡ f
failure_at-failure_number failure.InUse = refl
failure_at-failure_number failure.NotHere = refl
failure_at-failure_number failure.NoSuchHost = refl
failure_at-failure_number failure.Refused = refl
failure_at-failure_number failure.TimedOut = refl
failure_at-failure_number failure.NoPermission = refl
failure_at-failure_number failure.NoRoom = refl
failure_at-failure_number failure.NoWebSocket = refl
failure_at-failure_number failure.Other = refl
failure_at-failure_number (failure.HttpStatus status) = refl

-- which entry, a kind or a reason, a number, and two lists
abbrev Parts : Type 0
Parts = ℕ × (ℕ × (ℕ × (List ℕ × List ℕ)))

abbrev to_parts : Entry → Parts
to_parts (history.Listening host port) = (0, (0, (port, (host, []))))
to_parts history.Slept = (1, (0, (0, ([], []))))
to_parts (history.Clock why reading) = (2, (why_number why, (reading, ([], []))))
to_parts (history.Dialling kind to) = (3, (kind_number kind, (to.port, (to.host, to.path))))
to_parts (history.Dialled kind peer) = (4, (kind_number kind, (peer, ([], []))))
to_parts (history.NotDialled kind failure) =
    (5, (kind_number kind, (failure_number failure, (status_of failure, []))))
to_parts (history.Accepted peer kind) = (6, (kind_number kind, (peer, ([], []))))
to_parts history.NoneCame = (7, (0, (0, ([], []))))
to_parts (history.Sent peer bytes) = (8, (0, (peer, (bytes, []))))
to_parts (history.Took peer bytes) = (9, (0, (peer, (bytes, []))))
to_parts history.TookNone = (10, (0, (0, ([], []))))
to_parts (history.Quiet peer) = (11, (0, (peer, ([], []))))
to_parts (history.Heard peer bytes) = (12, (0, (peer, (bytes, []))))
to_parts (history.Closed peer) = (13, (0, (peer, ([], []))))
to_parts (history.Wrote peer bytes) = (14, (0, (peer, (bytes, []))))
to_parts (history.Gone peer) = (15, (0, (peer, ([], []))))
to_parts (history.HungUp peer) = (16, (0, (peer, ([], []))))

-- the entry of a number below 9
abbrev early : Parts → Entry
early p =
    cond (p.0 == 0) (history.Listening p.1.1.1.0 p.1.1.0) (cond (p.0 == 1) history.Slept
    (cond (p.0 == 2) (history.Clock (why_at p.1.0) p.1.1.0)
    (cond (p.0 == 3)
    (history.Dialling (kind_at p.1.0) (record { host = p.1.1.1.0; port = p.1.1.0; path = p.1.1.1.1 }))
    (cond (p.0 == 4) (history.Dialled (kind_at p.1.0) p.1.1.0)
    (cond (p.0 == 5) (history.NotDialled (kind_at p.1.0) (failure_at p.1.1.0 p.1.1.1.0))
    (cond (p.0 == 6) (history.Accepted p.1.1.0 (kind_at p.1.0)) (cond (p.0 == 7) history.NoneCame
    (history.Sent p.1.1.0 p.1.1.1.0))))))))

abbrev from_parts : Parts → Entry
from_parts p =
    cond (p.0 == 9) (history.Took p.1.1.0 p.1.1.1.0) (cond (p.0 == 10) history.TookNone
    (cond (p.0 == 11) (history.Quiet p.1.1.0) (cond (p.0 == 12) (history.Heard p.1.1.0 p.1.1.1.0)
    (cond (p.0 == 13) (history.Closed p.1.1.0) (cond (p.0 == 14) (history.Wrote p.1.1.0 p.1.1.1.0)
    (cond (p.0 == 15) (history.Gone p.1.1.0) (cond (p.0 == 16) (history.HungUp p.1.1.0) (early p))))))))

pub from_parts-to_parts : (e : Entry) → from_parts (to_parts e) ≡ e
from_parts-to_parts (history.Listening host port) = refl
from_parts-to_parts history.Slept = refl
from_parts-to_parts (history.Clock why reading) = ap (λ w. history.Clock w reading) (why_at-why_number why)
from_parts-to_parts (history.Dialling kind to) = ap (λ k. history.Dialling k to) (kind_at-kind_number kind)
from_parts-to_parts (history.Dialled kind peer) = ap (λ k. history.Dialled k peer) (kind_at-kind_number kind)
from_parts-to_parts (history.NotDialled kind failure) =
    ap (λ k. history.NotDialled k (failure_at (failure_number failure) (status_of failure))) (kind_at-kind_number kind)
    ∙ ap (history.NotDialled kind) (failure_at-failure_number failure)
from_parts-to_parts (history.Accepted peer kind) = ap (history.Accepted peer) (kind_at-kind_number kind)
from_parts-to_parts history.NoneCame = refl
from_parts-to_parts (history.Sent peer bytes) = refl
from_parts-to_parts (history.Took peer bytes) = refl
from_parts-to_parts history.TookNone = refl
from_parts-to_parts (history.Quiet peer) = refl
from_parts-to_parts (history.Heard peer bytes) = refl
from_parts-to_parts (history.Closed peer) = refl
from_parts-to_parts (history.Wrote peer bytes) = refl
from_parts-to_parts (history.Gone peer) = refl
from_parts-to_parts (history.HungUp peer) = refl

abbrev pub history_code : Coded History
history_code =
    coded_list (code_by Parts (coded× coded_ℕ (coded× coded_ℕ (coded× coded_ℕ
    (coded× (coded_list coded_ℕ) (coded_list coded_ℕ))))) to_parts from_parts from_parts-to_parts)
