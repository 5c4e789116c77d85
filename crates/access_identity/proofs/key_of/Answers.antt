use Prim.Native.Nat.{ℕ, ◌+◌, ◌*◌, ◌-◌, ◌≤◌}
use mathlib.Core.Path.{◌≡◌, ◌∙◌, sym, ap}
use native.Mathlib.Omega.{arith}
use lib.ListN.{length, get_or, take, drop}
use Rattle.access_record.specs.Table.{Acl}
use Rattle.access_record.specs.Record.{acl_at}
use Rattle.access_record.proofs.TableLaws.{below-eight, place-of, bytes-part, acl_of-at}
use Rattle.access_identity.proofs.key_of.Goals as goal

pub overflow_mul-a : goal.overflow_mul-a
overflow_mul-a c = let h = below-eight _ _ c.requires.below c.requires.good in omega arith

pub overflow_add-a : goal.overflow_add-a
overflow_add-a c = let h = below-eight _ _ c.requires.below c.requires.good in omega arith

pub overflow_add-start : goal.overflow_add-start
overflow_add-start c = let h = below-eight _ _ c.requires.below c.requires.good in omega arith

pub overflow_add-a-2 : goal.overflow_add-a-2
overflow_add-a-2 c = let h = below-eight _ _ c.requires.below c.requires.good in omega arith

pub bounds-device-a : goal.bounds-device-a
bounds-device-a c = let h = below-eight _ _ c.requires.below c.requires.good in omega arith

pub overflow_add-end : goal.overflow_add-end
overflow_add-end c =
    let h = below-eight _ _ c.requires.below c.requires.good in
    let n = c.wide.ensures in omega arith

pub slice_bounds-result-end : goal.slice_bounds-result-end
slice_bounds-result-end c =
    let h = below-eight _ _ c.requires.below c.requires.good in
    let q = (place-of _ _ c.requires.below c.requires.good).key_fits in
    let n = c.wide.ensures.0 in omega arith

pub returns : goal.returns
unfolding acl_at
returns c =
    let l = c.args.device.now in
    let a = 16 + c.args.place * 368 in
    let h = below-eight _ _ c.requires.below c.requires.good in
    let q = (place-of _ _ c.requires.below c.requires.good).key_fits in
    let n = c.wide.ensures.0 in
    let e : a + 16 + c.wide.result - (a + 16) ≡ get_or l (a + 8) 0 = omega arith in
    let big : a + 16 + get_or l (a + 8) 0 ≤ length l = omega arith in
    ap (λ (m : ℕ). take m (drop (a + 16) l)) e
    ∙ sym (bytes-part l (a + 16) (get_or l (a + 8) 0) big)
    ∙ sym (ap (λ (x : Acl). x.key) (acl_of-at _ _ c.requires.below))
