-- The peers of companions: no two sessions have the same one.
use Rattle.std.proofs.Common.{◌≡◌, ◌≢◌, ℕ, ◌*◌, ◌≤◌, arith, false, ◌==◌, ne_eqb}
use Rattle.css_num.specs.declared.protocol.Kind.TheVariants as kind
use Rattle.css_meaning.specs.Sessions.{peer_of}
use Rattle.css_meaning.proofs.Names.{Kind}

-- the peers of a companion's two sessions
abbrev pub cii_of : ℕ → ℕ
cii_of who = peer_of who kind.Cii

abbrev pub ts_of : ℕ → ℕ
ts_of who = peer_of who kind.Ts

-- they differ
pub cii-ts : (who : ℕ) → 1 ≤ who → (peer_of who kind.Cii == peer_of who kind.Ts) ≡ false
cii-ts who first = ne_eqb (peer_of who kind.Cii) (peer_of who kind.Ts) (λ same. omega (arith, same, first))

pub ts-cii : (who : ℕ) → 1 ≤ who → (peer_of who kind.Ts == peer_of who kind.Cii) ≡ false
ts-cii who first = ne_eqb (peer_of who kind.Ts) (peer_of who kind.Cii) (λ same. omega (arith, same, first))

-- sessions of two companions
pub others-peer : (who other : ℕ) (j k : Kind) → 1 ≤ who → 1 ≤ other → other ≢ who
    → (peer_of other j == peer_of who k) ≡ false
others-peer who other j k first too differs = ne_eqb (peer_of other j) (peer_of who k) (apart j k) where
  apart : (j k : Kind) → peer_of other j ≢ peer_of who k
  apart kind.Cii kind.Cii = λ same. differs (omega (arith, same, first, too))
  apart kind.Cii kind.Ts = λ same. absurd (omega (arith, same, first, too))
  apart kind.Ts kind.Cii = λ same. absurd (omega (arith, same, first, too))
  apart kind.Ts kind.Ts = λ same. differs (omega (arith, same))

-- the peers of the first so many companions
pub peers-few : (who count : ℕ) (k : Kind) → 1 ≤ who → who ≤ count → peer_of who k ≤ 2 * count
peers-few who count kind.Cii first within = omega (arith, first, within)
peers-few who count kind.Ts first within = omega (arith, within)
