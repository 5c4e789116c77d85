use Prim.Native.Nat.{ℕ, ◌+◌, ◌-◌, ◌≤◌}
use native.Mathlib.Omega.{arith}
use mathlib.Core.Path.{◌≡◌, ◌∙◌, ap, sym}
use lib.ListN.{length, take, drop}
use Rattle.std.specs.Prelude.{Ok, Some, None}
use Rattle.store_local_read.specs.Local.{Local, answer_of, local_of, part_of}
use Rattle.store_local_read.proofs.LocalLaws.{part-inside}
use Rattle.store_local_read.proofs.local_read.Goals as goal
use Rattle.store_local_read.proofs.local_read.Goals.{In-Ok-Some, In-Ok-None}

found : (c : In-Ok-Some) → answer_of (Ok (Some c.in-Ok-Some.part)) ≡ local_of c.args.store.now c.args.key.now
found c = sym (ap answer_of (c.in-Ok-Some.is ∙ ap Ok c.in-Ok-Some.field-0-is)) ∙ c.local_find.ensures

missing : (c : In-Ok-None) → answer_of (Ok None) ≡ local_of c.args.store.now c.args.key.now
missing c = sym (ap answer_of (c.in-Ok-None.is ∙ ap Ok c.in-Ok-None.field-0-is)) ∙ c.local_find.ensures

inside : (c : In-Ok-Some) → c.in-Ok-Some.part.start + c.in-Ok-Some.part.len ≤ length c.args.store.now
inside c = part-inside c.args.store.now c.args.key.now _ _ (found c)

pub overflow_add-end : goal.overflow_add-end
overflow_add-end c = let i = inside (goal.at.overflow_add-end c).In-Ok-Some in let g = c.well_formed in omega arith

pub slice_bounds-result-end : goal.slice_bounds-result-end
slice_bounds-result-end c = let i = inside (goal.at.slice_bounds-result-end c).In-Ok-Some in omega arith

pub returns-in-Ok-Some : goal.returns-in-Ok-Some
returns-in-Ok-Some c =
    let l = c.args.store.now in
    let p = c.in-Ok-Some.part in
    let e : p.start + p.len - p.start ≡ p.len = omega arith in
    ap (λ (m : ℕ). take m (drop p.start l)) e ∙ ap (part_of l) (found (goal.at.returns-in-Ok-Some c).In-Ok-Some)

pub returns-in-Ok-None : goal.returns-in-Ok-None
returns-in-Ok-None c = ap (part_of c.args.store.now) (missing (goal.at.returns-in-Ok-None c).In-Ok-None)

pub returns-in-Err : goal.returns-in-Err
returns-in-Err c = let l = c.args.store.now in
    ap (λ (r : Local). part_of l (answer_of r)) (sym c.in-Err.is) ∙ ap (part_of l) c.local_find.ensures
