use Prim.Native.Nat.{ℕ, ◌/◌, ◌%◌}
use native.Mathlib.Omega.{arith}
use mathlib.Core.Path.{◌≡◌, ◌∙◌, ap}
use mathlib.Core.List.{List, ◌∷◌}
use lib.ListN.{length, get_or}
use Rattle.base_definitions.specs.Lists.{fill}
use Rattle.access_record.specs.Record.{scope_bytes}
use Rattle.access_record_bytes.specs.WroteLaws.{renamed, ◌then◌}
use Rattle.access_acl_write.proofs.put_scope.Goals as goal

pub returns : goal.returns
unfolding scope_bytes
returns c =
    let s = c.args in
    let v = s.value.now in
    let f = c.ranges.mask.fits in
    let top : s.mask / 256 % 256 ≡ s.mask / 256 = omega arith in
    let high : get_or c.to_be_bytes.result 0 0 ≡ s.mask / 256 = ap (λ (bs : List ℕ). get_or bs 0 0) c.to_be_bytes.ensures ∙ top in
    let low : get_or c.to_be_bytes.result 1 0 ≡ s.mask % 256 = ap (λ (bs : List ℕ). get_or bs 1 0) c.to_be_bytes.ensures in
    renamed (λ i. s.offset ∷ length v ∷ high i ∷ low i ∷ c.flag_of.ensures i ∷ 0 ∷ 0 ∷ 0 ∷ fill 64 v) (c.put_bytes-b.ensures then c.put_filled.ensures)
