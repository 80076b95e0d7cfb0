-- A relay's options, with its numbers read together.
use Rattle.std.proofs.Common.{◌≡◌, refl, ℕ, List, Result, Ok, Err, codes}
use Rattle.clap.specs.Words.{Row, Text}
use Rattle.css_model.specs.History.{Address}
use Rattle.css_outside.specs.declared.limit.Limit.{Limit}
use Rattle.css_words.specs.Companion.{cii, period, local_error, local_precision}
use Rattle.css_words.specs.Options.{◌>>=◌, text_or}
use Rattle.css_words.specs.Relay.{NumbersAsked, RelayAsked, numbers, port, relay_in, relay_rows}
use Rattle.css_words.specs.Tv.{limit, cii_url, dialled}
use Rattle.css_words.specs.declared.fault.WordsFault.{WordsFault}

abbrev of_five : ℕ → Limit → ℕ → ℕ → ℕ → NumbersAsked
of_five v w x y z = record { port = v; limit = w; ask_every = x; local_error = y; local_precision = z }

-- a port, a limit and three numbers one by one, and together
together : (A : Result Address WordsFault) (a : Result ℕ WordsFault) (b : Result Limit WordsFault)
    (c d e : Result ℕ WordsFault)
    (rest : Address → NumbersAsked → Result RelayAsked WordsFault)
    → (A >>= λ cii. a >>= λ v. b >>= λ w. c >>= λ x. d >>= λ y. e >>= λ z. rest cii (of_five v w x y z))
    ≡ (A >>= λ cii. (a >>= λ v. b >>= λ w. c >>= λ x. d >>= λ y. e >>= λ z. Ok (of_five v w x y z)) >>= rest cii)
together (Err fault) a b c d e rest = refl
together (Ok cii) (Err fault) b c d e rest = refl
together (Ok cii) (Ok v) (Err fault) c d e rest = refl
together (Ok cii) (Ok v) (Ok w) (Err fault) d e rest = refl
together (Ok cii) (Ok v) (Ok w) (Ok x) (Err fault) e rest = refl
together (Ok cii) (Ok v) (Ok w) (Ok x) (Ok y) (Err fault) rest = refl
together (Ok cii) (Ok v) (Ok w) (Ok x) (Ok y) (Ok z) rest = refl

-- the relay, once its numbers are known
abbrev pub asked : List Row → Address → NumbersAsked → Result RelayAsked WordsFault
asked rows cii numbers = do
  checked ← dialled (cii_url (text_or (codes "127.0.0.1") (codes "host") rows) numbers.port)
  Ok (record {
    cii = cii;
    port = numbers.port;
    limit = numbers.limit;
    ask_every = numbers.ask_every;
    local_error = numbers.local_error;
    local_precision = numbers.local_precision;
    host = text_or (codes "127.0.0.1") (codes "host") rows;
  })

pub grouped : (words : List Text) (rows : List Row) → relay_rows words ≡ Ok rows
    → relay_in words ≡ (cii rows >>= λ cii. numbers rows >>= asked rows cii)
unfolding relay_in
grouped words rows is =
    rw is (together (cii rows) (port rows) (limit rows) (period (codes "ask-every") rows) (local_error rows)
    (local_precision rows) (asked rows))
