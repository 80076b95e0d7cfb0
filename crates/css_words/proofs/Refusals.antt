-- Words that are no option of their command.
use Rattle.std.proofs.Common.{◌≡◌, ◌∙◌, ◌||◌, ap, refl, sym, subst, Bool, true, false, ℕ, List, [], ◌∷◌, ◌++◌, map}
use Rattle.std.proofs.Common.{true≢false, Option, Some, None, Ok, Err, codes, append_assoc, append-nil}
use Rattle.std.specs.Prelude.{if◌then◌else◌}
use Rattle.std.specs.List.{list_any}
use Rattle.std.specs.Str.{bytes_eq}
use Rattle.std.proofs.lemmas.Slice.Eq.{bytes_eq-Decides}
use Rattle.clap.specs.Faults.{fault_of}
use Rattle.clap.specs.Kinds.{Kinds}
use Rattle.clap.specs.Lexer.{long_of}
use Rattle.clap.specs.Simple.{built, filled_from, help_rule, new_shape}
use Rattle.clap.specs.Walk.{Rule, arg_by_index, nothing_held, walk_from}
use Rattle.clap.specs.Words.{App, Row, Text, matches_of}
use Rattle.clap.specs.declared.builder.action.ArgAction.{ArgAction}
use Rattle.clap.specs.declared.builder.action.ArgAction.TheVariants.{Set, SetTrue}
use Rattle.css_words.specs.Commands.{Agree, Audit, Companion, Generate, Migrate, Pair, Relay, Replay, Survey, Tv, Watch}
use Rattle.css_words.specs.Commands.{command_in, has_pairs, is_bare_dashes, named, no_options}
use Rattle.css_words.specs.Companion.{companion_flags, companion_in, companion_options, companion_rows}
use Rattle.css_words.specs.Generator.{generator_in, generator_options, generator_rows}
use Rattle.css_words.specs.Laws.{UnknownOptionsAreUsage, options_of_command}
use Rattle.css_words.specs.Options.{◌>>=◌, app_taking, arg_rule, rows_in, unless_refused, with_args}
use Rattle.css_words.specs.Pair.{pair_in, pair_options, pair_rows}
use Rattle.css_words.specs.Relay.{relay_in, relay_options, relay_rows}
use Rattle.css_words.specs.Tv.{tv_flags, tv_in, tv_options, tv_rows}
use Rattle.css_words.specs.Watch.{watch_in, watch_options, watch_rows}
use Rattle.css_words.specs.declared.fault.WordsFault.TheVariants.{Usage}
use Rattle.css_words.proofs.Walks.{HasNoPositional, IsRefusal, IsUnknown, at_once, neither, rules_with, unknown_option}
use Rattle.css_words.proofs.Walks.{walk_refused}

by_refusal : (kinds : Kinds) (rows : List Row) → IsRefusal kinds → unless_refused kinds rows ≡ Err Usage
by_refusal [] rows h = absurd h
by_refusal (kind ∷ kinds) rows h = refl

-- a command whose parse refuses the words
refused_rows : (app : App) (words : List Text) → IsRefusal (fault_of app words) → rows_in app words ≡ Err Usage
unfolding rows_in
refused_rows app words h = by_refusal (fault_of app words) (matches_of app words) h

-- no word is `--`
abbrev has_double : List Text → Bool
has_double = list_any (λ word. bytes_eq word (45 ∷ 45 ∷ []))

no_double : (words : List Text) → list_any is_bare_dashes words ≡ false → has_double words ≡ false
no_double [] h = refl
no_double (word ∷ words) h =
    let parts = neither (is_bare_dashes word) (list_any is_bare_dashes words) h in
    let two = neither (bytes_eq word (codes "-")) (bytes_eq word (codes "--")) parts.0 in
    ap (λ (b : Bool). b || has_double words) two.1 ∙ no_double words parts.1

some_options : (before after : List Text) (word : Text) → no_options (before ++ word ∷ after) ≡ Err Usage
some_options [] after word = refl
some_options (other ∷ before) after word = refl

-- equal values that are there are equal
same_Some : (x y : Text × Option Text) → Some x ≡ Some y → x ≡ y
same_Some x y e = cc

-- ---- a command with any options and flags
-- the command with these rules
abbrev app_with : List Rule → App
app_with rules = record { top = record (new_shape (codes "css")) { rules = rules }; subs = [] }

with_more : (action : ArgAction) (rules : List Rule) (names : List Text)
    → with_args action (app_with rules) names ≡ app_with (rules ++ map (arg_rule action) names)
with_more action rules [] = ap app_with (sym (append-nil rules))
with_more action rules (name ∷ names) =
    with_more action (rules ++ arg_rule action name ∷ []) names
    ∙ ap app_with (append_assoc rules (arg_rule action name ∷ []) (map (arg_rule action) names))

taking : (names flags : List Text)
    → app_taking names flags ≡ app_with (map (arg_rule Set) names ++ map (arg_rule SetTrue) flags)
taking names flags =
    ap (λ (app : App). with_args SetTrue app flags) (with_more Set [] names)
    ∙ with_more SetTrue (map (arg_rule Set) names) flags

-- no option has a place among the words
no_place : (action : ArgAction) (names : List Text) (tail : List Rule) (i : ℕ)
    → arg_by_index (filled_from 1 tail) i ≡ None
    → arg_by_index (filled_from 1 (map (arg_rule action) names ++ tail)) i ≡ None
no_place action [] tail i none = none
no_place action (name ∷ names) tail i none = no_place action names tail i none

no_positional : (names flags : List Text) → HasNoPositional (rules_with names flags)
no_positional names flags i =
    no_place Set names (map (arg_rule SetTrue) flags ++ help_rule ∷ []) i
    (no_place SetTrue flags (help_rule ∷ []) i refl)

module _ (name : Text) (before after : List Text) (word option : Text) (value : Option Text)
    (long : long_of word ≡ Some (option, value)) (clean : has_double (before ++ word ∷ after) ≡ false) where
  refused_words : (names flags : List Text) → list_any (λ known. bytes_eq known option) (names ++ flags) ≡ false
      → rows_in (app_taking names flags) (name ∷ (before ++ word ∷ after)) ≡ Err Usage
  refused_words names flags unknown_name =
      let own : List Rule = map (arg_rule Set) names ++ map (arg_rule SetTrue) flags in
      let grouped = sym (append_assoc (map (arg_rule Set) names) (map (arg_rule SetTrue) flags) (help_rule ∷ [])) in
      let none = subst (λ (rules : List Rule). HasNoPositional (filled_from 1 rules)) grouped
      (no_positional names flags) in
      let unknown = subst (λ (rules : List Rule). IsUnknown (filled_from 1 rules) option) grouped
      (unknown_option names flags option unknown_name) in
      let refusal : IsRefusal (fault_of (app_with own) (name ∷ (before ++ word ∷ after))) =
      at_once _ _
      (walk_refused (built (app_with own)).top none (walk_from nothing_held) before after word clean
      (record { name = option; given = value; spelled = long; unknown = unknown })
      (record { within = refl; whole = refl })) in
      ap (λ (app : App). rows_in app (name ∷ (before ++ word ∷ after))) (taking names flags)
      ∙ refused_rows (app_with own) (name ∷ (before ++ word ∷ after)) refusal

  generator_usage : list_any (λ known. bytes_eq known option) generator_options ≡ false
      → generator_in (name ∷ (before ++ word ∷ after)) ≡ Err Usage
  unfolding generator_in generator_rows
  generator_usage unknown_name = rw (refused_words generator_options [] unknown_name) refl

  companion_usage : list_any (λ known. bytes_eq known option) (companion_options ++ companion_flags) ≡ false
      → companion_in (name ∷ (before ++ word ∷ after)) ≡ Err Usage
  unfolding companion_in companion_rows
  companion_usage unknown_name = rw (refused_words companion_options companion_flags unknown_name) refl

  watch_usage : list_any (λ known. bytes_eq known option) watch_options ≡ false
      → watch_in (name ∷ (before ++ word ∷ after)) ≡ Err Usage
  unfolding watch_in watch_rows
  watch_usage unknown_name = rw (refused_words watch_options [] unknown_name) refl

  relay_usage : list_any (λ known. bytes_eq known option) relay_options ≡ false
      → relay_in (name ∷ (before ++ word ∷ after)) ≡ Err Usage
  unfolding relay_in relay_rows
  relay_usage unknown_name = rw (refused_words relay_options [] unknown_name) refl

  tv_usage : list_any (λ known. bytes_eq known option) (tv_options ++ tv_flags) ≡ false
      → tv_in (name ∷ (before ++ word ∷ after)) ≡ Err Usage
  unfolding tv_in tv_rows
  tv_usage unknown_name = rw (refused_words tv_options tv_flags unknown_name) refl

  pair_usage : list_any (λ known. bytes_eq known option) (pair_options ++ tv_flags) ≡ false
      → pair_in (name ∷ (before ++ word ∷ after)) ≡ Err Usage
  unfolding pair_in pair_rows
  pair_usage unknown_name = rw (refused_words pair_options tv_flags unknown_name) refl

  -- the only word would be the flag
  not_pairs : list_any (λ known. bytes_eq known option) (codes "pairs" ∷ []) ≡ false
      → (if bytes_eq word (codes "--pairs") then Ok true else Err Usage) ≡ Err Usage
  not_pairs unknown_name = by (bytes_eq word (codes "--pairs")) refl
    where
      by : (b : Bool) → bytes_eq word (codes "--pairs") ≡ b → (if b then Ok true else Err Usage) ≡ Err Usage
      by false e = refl
      by true e =
          let same : word ≡ codes "--pairs" = (bytes_eq-Decides word (codes "--pairs")).0 e in
          let both : long_of (codes "--pairs") ≡ Some (option, value) = ap long_of (sym same) ∙ long in
          let name : codes "pairs" ≡ option =
          ap (λ (p : Text × Option Text). p.0) (same_Some (codes "pairs", None) (option, value) both) in
          let known : list_any (λ known. bytes_eq known (codes "pairs")) (codes "pairs" ∷ []) ≡ false =
          ap (λ (o : Text). list_any (λ known. bytes_eq known o) (codes "pairs" ∷ [])) name ∙ unknown_name in
          absurd (true≢false known)

  pairs_usage : list_any (λ known. bytes_eq known option) (codes "pairs" ∷ []) ≡ false
      → has_pairs (before ++ word ∷ after) ≡ Err Usage
  pairs_usage unknown_name = by before after
    where
      by : (front back : List Text) → has_pairs (front ++ word ∷ back) ≡ Err Usage
      by [] [] = not_pairs unknown_name
      by [] (next ∷ back) = refl
      by (first ∷ []) back = refl
      by (first ∷ second ∷ front) back = refl

  abbrev rest : List Text
  rest = before ++ word ∷ after

  abbrev words : List Text
  words = name ∷ rest

  by_tests : (replay agree audit migrate companion tv pair relay watch generate survey : Bool)
      → list_any (λ known. bytes_eq known option) (if agree then codes "pairs" ∷ []
      else if companion then companion_options ++ companion_flags
      else if tv then tv_options ++ tv_flags
      else if pair then pair_options ++ tv_flags
      else if relay then relay_options
      else if watch then watch_options
      else if generate then generator_options
      else if survey then generator_options
      else []) ≡ false
      → (if replay then (no_options rest >>= λ _. Ok Replay)
      else if agree then (has_pairs rest >>= λ pairs. Ok (Agree pairs))
      else if audit then (no_options rest >>= λ _. Ok Audit)
      else if migrate then (no_options rest >>= λ _. Ok Migrate)
      else if companion then (companion_in words >>= λ asked. Ok (Companion asked))
      else if tv then (tv_in words >>= λ asked. Ok (Tv asked))
      else if pair then (pair_in words >>= λ asked. Ok (Pair asked))
      else if relay then (relay_in words >>= λ asked. Ok (Relay asked))
      else if watch then (watch_in words >>= λ asked. Ok (Watch asked))
      else if generate then (generator_in words >>= λ asked. Ok (Generate asked))
      else if survey then (generator_in words >>= λ asked. Ok (Survey asked))
      else Err Usage) ≡ Err Usage
  by_tests true agree audit migrate companion tv pair relay watch generate survey unknown_name =
      rw (some_options before after word) refl
  by_tests false true audit migrate companion tv pair relay watch generate survey unknown_name =
      rw (pairs_usage unknown_name) refl
  by_tests false false true migrate companion tv pair relay watch generate survey unknown_name =
      rw (some_options before after word) refl
  by_tests false false false true companion tv pair relay watch generate survey unknown_name =
      rw (some_options before after word) refl
  by_tests false false false false true tv pair relay watch generate survey unknown_name =
      rw (companion_usage unknown_name) refl
  by_tests false false false false false true pair relay watch generate survey unknown_name =
      rw (tv_usage unknown_name) refl
  by_tests false false false false false false true relay watch generate survey unknown_name =
      rw (pair_usage unknown_name) refl
  by_tests false false false false false false false true watch generate survey unknown_name =
      rw (relay_usage unknown_name) refl
  by_tests false false false false false false false false true generate survey unknown_name =
      rw (watch_usage unknown_name) refl
  by_tests false false false false false false false false false true survey unknown_name =
      rw (generator_usage unknown_name) refl
  by_tests false false false false false false false false false false true unknown_name =
      rw (generator_usage unknown_name) refl
  by_tests false false false false false false false false false false false unknown_name = refl

  named_usage : list_any (λ known. bytes_eq known option) (options_of_command name) ≡ false
      → named name rest words ≡ Err Usage
  unfolding named
  named_usage unknown_name =
      by_tests (bytes_eq name (codes "replay")) (bytes_eq name (codes "agree")) (bytes_eq name (codes "audit"))
      (bytes_eq name (codes "migrate")) (bytes_eq name (codes "companion")) (bytes_eq name (codes "tv"))
      (bytes_eq name (codes "pair")) (bytes_eq name (codes "relay")) (bytes_eq name (codes "watch"))
      (bytes_eq name (codes "generate")) (bytes_eq name (codes "survey")) unknown_name

pub unknown_usage : UnknownOptionsAreUsage
unfolding command_in
unknown_usage name before after word option value long unknown_name =
    go (list_any is_bare_dashes (before ++ word ∷ after)) refl
  where
    go : (b : Bool) → list_any is_bare_dashes (before ++ word ∷ after) ≡ b
        → (if b then Err Usage else named name (before ++ word ∷ after) (name ∷ (before ++ word ∷ after))) ≡ Err Usage
    go true h = refl
    go false h =
        named_usage name before after word option value long (no_double (before ++ word ∷ after) h) unknown_name
