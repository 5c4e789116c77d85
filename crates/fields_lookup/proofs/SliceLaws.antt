-- A part sliced out of the bytes that it points into.
use Rattle.std.specs.Prelude.{ℕ, ◌+◌, ◌-◌, ◌≡◌, List, take, drop}
use Rattle.std.proofs.Math.Nat.{add-sub_cancel_left}
use Rattle.std.proofs.Common.{ap}
use Rattle.fields_lookup.specs.declared.parts.Part.{Part}
use Rattle.fields_lookup.specs.Views.{bytes_at}

pub slice_at : (s : List ℕ) (v : Part) → take (v.start + v.len - v.start) (drop v.start s) ≡ bytes_at s v
unfolding bytes_at
slice_at s v = ap (λ (n : ℕ). take n (drop v.start s)) (add-sub_cancel_left v.start v.len)
