use Prim.Native.Nat.{ℕ, ◌+◌, ◌*◌}
use mathlib.Core.Path.{◌≡◌, ◌∙◌, sym, refl, ap, ap₂}
use mathlib.Core.Bool.{Bool, true, not, ◌&&◌, ◌||◌}
use mathlib.Core.List.{List}
use native.Mathlib.Omega.{arith}
use lib.Dec.{eqb}
use lib.ListN.{get_or}
use Rattle.base_definitions.specs.Bits.{bit}
use Rattle.access_record.specs.Record.{scope_at, bytes_at}
use Rattle.access_record.proofs.TableLaws.{stops, goes, stops-yes, goes-yes, scope-offset, scope-value}
use Rattle.access_permission.specs.Permission.{grants, fits_at}
use Rattle.access_verdict.specs.VerdictLaws.{grant-test}
use Rattle.access_verdict.proofs.grants.scope_grants.Goals as goal

abbrev held : List ℕ → ℕ → ℕ → Bool
held d a p = bit (get_or d (a + 2) 0 * 256 + get_or d (a + 3) 0) p

abbrev tls : List ℕ → ℕ → Bool → Bool
tls d a protected = not (not (eqb (get_or d (a + 4) 0) 0)) || protected

abbrev fit : List ℕ → ℕ → Bool → List ℕ → Bool
fit d a counts k = not counts || fits_at (bytes_at d (a + 8) (get_or d (a + 1) 0)) (get_or d a 0) k

-- the bit of the permission, read of the two bytes
held-bytes : (d : List ℕ) (a p x y : ℕ) {r : Bool} → r ≡ bit (x * 256 + y) p → x ≡ get_or d (a + 2) 0 → y ≡ get_or d (a + 3) 0 → held d a p ≡ r
held-bytes d a p x y e f g = sym (e ∙ ap₂ (λ (x y : ℕ). bit (x * 256 + y) p) f g)

past-holds : (counts : Bool) (k : List ℕ) (protected : Bool) (p : ℕ) (d : List ℕ) (a : ℕ)
    → held d a p ≡ true → (tls d a protected && fit d a counts k) ≡ grants counts k protected p (scope_at d a)
past-holds counts k protected p d a e = goes (grant-test counts k protected p d a) refl e

past-tls : (counts : Bool) (k : List ℕ) (protected : Bool) (p : ℕ) (d : List ℕ) (a : ℕ)
    → held d a p ≡ true → tls d a protected ≡ true → fit d a counts k ≡ grants counts k protected p (scope_at d a)
past-tls counts k protected p d a e f = goes refl (past-holds counts k protected p d a e) f

pub returns-then-not-holds : goal.returns-then-not-holds
returns-then-not-holds c =
    let s = c.args in
    stops _ (grant-test s.counts s.key.now s.protected s.permission s.device.now s.a) refl
    (held-bytes s.device.now s.a s.permission _ _ c.holds.ensures c.wide.ensures.0 c.wide-2.ensures.0 ∙ c.if-not-holds.true)

pub returns-then-not-allows : goal.returns-then-not-allows
returns-then-not-allows c =
    let s = c.args in
    stops _ refl
    (past-holds s.counts s.key.now s.protected s.permission s.device.now s.a
    (held-bytes s.device.now s.a s.permission _ _ c.holds.ensures c.wide.ensures.0 c.wide-2.ensures.0 ∙ c.if-not-holds.false))
    (sym c.allows.ensures ∙ c.if-not-allows.true)

pub returns-then-not-counts : goal.returns-then-not-counts
returns-then-not-counts c =
    let s = c.args in
    stops-yes _ refl
    (past-tls s.counts s.key.now s.protected s.permission s.device.now s.a
    (held-bytes s.device.now s.a s.permission _ _ c.holds.ensures c.wide.ensures.0 c.wide-2.ensures.0 ∙ c.if-not-holds.false)
    (sym c.allows.ensures ∙ c.if-not-allows.false))
    (ap not c.if-not-counts.true)

pub fits_at-requires : goal.fits_at-requires
fits_at-requires c =
    let n = c.wide-3.ensures.0 in
    let o = c.wide-4.ensures.0 in
    (omega (arith, scope-value _ _ c.requires.2), omega (arith, scope-offset _ _ c.requires.2))

pub returns : goal.returns
returns c =
    let s = c.args in
    c.fits_at.ensures
    ∙ ap₂ (λ (n o : ℕ). fits_at (bytes_at s.device.now (s.a + 8) n) o s.key.now) c.wide-3.ensures.0 c.wide-4.ensures.0
    ∙ goes-yes refl
    (past-tls s.counts s.key.now s.protected s.permission s.device.now s.a
    (held-bytes s.device.now s.a s.permission _ _ c.holds.ensures c.wide.ensures.0 c.wide-2.ensures.0 ∙ c.if-not-holds.false)
    (sym c.allows.ensures ∙ c.if-not-allows.false))
    (ap not c.if-not-counts.false)
