-- What a loop of twenty rounds keeps. Assumes nothing.
use Rattle.std.proofs.Common.{◌≡◌, ℕ, ◌+◌, ◌<◌, ◌≤◌, List, ◌∙◌, arith}
use Rattle.signature_sha1_compression.specs.declared.State.{State}
use Rattle.signature_sha1_compression.specs.Compression.{turned, step}
use Rattle.signature_sha1_compression.specs.CompressionLaws.{rounds-more}
use Rattle.signature_sha1_compression.specs.Ring.{TakesWord}
use Rattle.signature_sha1_compression.specs.Rounds.{Advances, Twenty}

-- of the twenty rounds from `from` on those before t are done, and have made w and v of w₀ and s
pub record Reached (from t : ℕ) (w₀ : List ℕ) (s : State) (w : List ℕ) (v : State) : Type 0 where
  pub low : from ≤ t
  pub high : t ≤ from + 20
  pub advances : Advances from t w₀ s w v

pub none : (from : ℕ) (w : List ℕ) (s : State) → Reached from from w s w s
none from w s = record { low = omega arith; high = omega arith; advances = λ m h start. start }

-- one round more, with the value n of its function and the word x that it takes
pub more : {g : ℕ → ℕ → ℕ → ℕ → Type 0} {k from t n x : ℕ} {w₀ w w' : List ℕ} {s v r : State} → Twenty g k from → t < from + 20
    → g v.b v.c v.d n → TakesWord t w w' x → r ≡ turned n k x v → Reached from t w₀ s w v → Reached from (t + 1) w₀ s w' r
unfolding step
more {t = t} {n = n} {v = v} p l e takes turns so =
    let function = p.function t v.b v.c v.d n so.low l e in
    let constant = p.constant t so.low l in
    record {
      low = omega arith;
      high = omega arith;
      advances = λ m h start.
          let b = so.advances m h start in
          record {
            ring = takes.ring m b.ring;
            state = turns ∙ rw (function, takes.word m b.ring, ← constant, b.state, rounds-more);
          };
    }

pub all : {from t : ℕ} {w₀ w : List ℕ} {s v : State} → from + 20 ≤ t → Reached from t w₀ s w v → Advances from (from + 20) w₀ s w v
all {from} {t} l so = let e : t ≡ from + 20 = omega arith in rw e at so.advances
