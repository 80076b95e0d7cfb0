-- What a parse of a command gives.
use Rattle.std.proofs.Common.{◌≡◌, ◌⊎◌, ◌∙◌, ◌&&◌, ◌+◌, ◌<◌, ◌++◌, inl, inr, refl, ap, sym, ℕ, Bool, true}
use Rattle.std.proofs.Common.{false, List, []}
use Rattle.std.proofs.Common.{◌∷◌, Result, Ok, Err, Bor, length, map, subst, take, slice_index_or}
use Rattle.std.specs.Result.{IsErrAnd}
use Rattle.std.proofs.lemmas.List.{map-append, take_more}
use Rattle.clap.specs.Words.{App, Row, Text, is_simple, matches_of, with_rule}
use Rattle.clap.specs.Faults.{fault_of, is_simple_and_free, is_free_app}
use Rattle.clap.specs.Kinds.{IsAmong, Kinds}
use Rattle.clap.specs.Simple.{built}
use Rattle.clap.specs.declared.builder.action.ArgAction.{ArgAction}
use Rattle.clap.specs.declared.error.kind.ErrorKind.{ErrorKind}
use Rattle.clap.specs.declared.error.kind.ErrorKind.TheVariants.{OutOfMemory}
use Rattle.css_num.specs.Gives.{GivesBy}
use Rattle.css_words.specs.Faults.{parse_fault}
use Rattle.css_words.specs.Options.{arg_rule, rows_in, unless_refused, with_args}
use Rattle.css_words.specs.declared.fault.WordsFault.{WordsFault}
use Rattle.css_words.specs.declared.fault.WordsFault.TheVariants.{Memory}

first : (a b : Bool) → (a && b) ≡ true → a ≡ true
first true b both = refl
first false b both = both

-- a command that is simple and free is simple
simple : (app : App) → is_simple_and_free app ≡ true → is_simple app ≡ true
simple app both = first (is_simple app) (is_free_app (built app)) both

-- words that aren't refused say what the matches say
pub taken : (app : App) (words : List Text) (rows : List Row) → is_simple_and_free app ≡ true
    → fault_of app words ≡ [] → (is_simple app ≡ true → rows ≡ matches_of app words)
    → rows_in app words ≡ Ok rows
unfolding rows_in
taken app words rows plain none same =
    ap (λ (kinds : Kinds). unless_refused kinds (matches_of app words)) none ∙ ap Ok (sym (same (simple app plain)))

-- a failed parse was refused, or memory ran out
by_kinds : (kinds : Kinds) (rows : List Row) (kind : ErrorKind) → (kind ≡ OutOfMemory) ⊎ IsAmong kind kinds
    → (unless_refused kinds rows ≡ Err (parse_fault kind)) ⊎ (parse_fault kind ≡ Memory)
by_kinds [] rows kind (inl none) = inr (ap parse_fault none)
by_kinds [] rows kind (inr among) = absurd among
by_kinds (other ∷ kinds) rows OutOfMemory among = inr refl
by_kinds (other ∷ kinds) rows kind among = inl refl

pub refused : (app : App) (words : List Text) (kind : ErrorKind)
    → (kind ≡ OutOfMemory) ⊎ IsAmong kind (fault_of app words)
    → (rows_in app words ≡ Err (parse_fault kind)) ⊎ (parse_fault kind ≡ Memory)
unfolding rows_in
refused app words kind among = by_kinds (fault_of app words) (matches_of app words) kind among

-- ---- commands that are built argument by argument
one_at_end : (action : ArgAction) (app : App) (names : List Text) (name : Text)
    → with_args action app (names ++ name ∷ []) ≡ with_rule (with_args action app names) (arg_rule action name)
one_at_end action app [] name = refl
one_at_end action app (other ∷ names) name = one_at_end action (with_rule app (arg_rule action other)) names name

-- one more argument
pub one_more : (action : ArgAction) (app : App) (names : List (Bor Text)) (i : ℕ) (d : Bor Text) (old new : App)
    → i < length names → old ≡ with_args action app (map (λ name. name.now) (take i names))
    → new ≡ with_rule old (arg_rule action (slice_index_or names i d).now)
    → new ≡ with_args action app (map (λ name. name.now) (take (i + 1) names))
one_more action app names i d old new within so_far next =
    let before : List Text = map (λ name. name.now) (take i names) in
    let name : Text = (slice_index_or names i d).now in
    let more : map (λ name. name.now) (take (i + 1) names) ≡ before ++ name ∷ [] =
    ap (map (λ name. name.now)) (take_more names i d within)
    ∙ map-append (λ name. name.now) (take i names) (slice_index_or names i d ∷ []) in
    next ∙ ap (λ (app : App). with_rule app (arg_rule action name)) so_far
    ∙ sym (ap (with_args action app) more ∙ one_at_end action app before name)

-- an answer whose fault is the one that is expected
pub by_fault : (T U : Type 0) (view : T → U) (result : Result T WordsFault) (expected : Result U WordsFault)
    (told : WordsFault) → IsErrAnd result (λ fault. fault ≡ told) → (expected ≡ Err told) ⊎ (told ≡ Memory)
    → GivesBy view Memory result expected
by_fault T U view (Ok value) expected told err given = absurd err
by_fault T U view (Err fault) expected told err given =
    subst (λ (f : WordsFault). (expected ≡ Err f) ⊎ (f ≡ Memory)) (sym err) given
