-- The bytes of one scope.
use Prim.Native.Nat.{ℕ, ◌+◌, ◌-◌, ◌≤◌}
use native.Mathlib.Omega.{arith}
use mathlib.Core.Path.{◌≡◌, sym, subst}
use mathlib.Core.List.{List}
use mathlib.Core.Bool.{Bool, false}
use lib.ListN.{length, take, drop}
use Rattle.access_record.specs.Table as access
use Rattle.fields_lookup.specs.Views.{Inside, bytes_at}
use Rattle.fields_lookup.specs.declared.parts.Part.{Part}
use Rattle.fields_lookup.proofs.SliceLaws.{slice_at}
use Rattle.fields_lookup.proofs.Slotted.{length_at}
use Rattle.request_scope.specs.Scope.{scope_view}
use Rattle.request_scope.specs.ScopeLaws.{never}
use Rattle.request_scope.specs.declared.ReadScope.{ReadScope}
use Rattle.request_acl.specs.Taken.{Makes}

pub slice-short : (s : List ℕ) (v : Part) → Inside s v → v.len ≤ 64 → length (take (v.start + v.len - v.start) (drop v.start s)) ≤ 64
slice-short s v i h = subst (λ (l : List ℕ). length l ≤ 64) (sym (slice_at s v)) (omega (arith, length_at s v i))

pub makes-no : (good : Bool) (out bytes : List ℕ) → good ≡ false → Makes good false out bytes
makes-no good out bytes e = record { answer = sym e; made = λ w. never w }

pub sliced : (s : List ℕ) (r : ReadScope) {v : List ℕ} → v ≡ bytes_at s r.value
    → ◌≡◌ {A = access.Scope} (record { offset = r.offset; value = v; permissions = r.mask; tls_required = r.tls }) (scope_view s r)
sliced s r e = λ i. record { offset = r.offset; value = e i; permissions = r.mask; tls_required = r.tls }
