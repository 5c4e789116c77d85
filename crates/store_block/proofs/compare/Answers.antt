use Prim.Native.Nat.{ℕ, ◌+◌, ◌*◌, ◌≤◌}
use native.Mathlib.Omega.{arith}
use native.Mathlib.Nat.{le_antisymm}
use mathlib.Core.Path.{◌≡◌, ◌∙◌, ap, ap₂, refl, sym}
use lib.ListN.{length, drop}
use Rattle.std.specs.Ordering.{nat_cmp}
use Rattle.store_block.specs.Order.{cmp}
use Rattle.store_block.specs.Word.{Bytes}
use Rattle.store_block.specs.WordLaws.{word_same, word-order}
use Rattle.store_block.proofs.compare.Goals as goal
use Rattle.store_block.proofs.compare.Goals.{After-word-y}

ends-a : (c : After-word-y) → 4 * c.loop-k.k + 4 ≤ length c.args.a.now
ends-a c = omega arith

ends-b : (c : After-word-y) → 4 * c.loop-k.k + 4 ≤ length c.args.b.now
ends-b c = omega arith

bytes-a : (c : After-word-y) → Bytes c.args.a.now
bytes-a c = record { fits = λ j. (c.type_inv.a j).fits }

bytes-b : (c : After-word-y) → Bytes c.args.b.now
bytes-b c = record { fits = λ j. (c.type_inv.b j).fits }

pub loop-k-init : goal.loop-k-init
loop-k-init c = refl

pub returns-then-x-y : goal.returns-then-x-y
returns-then-x-y c = let r = (goal.at.returns-then-x-y c).After-word-y in
    let x = c.word-x.ensures in
    let y = c.word-y.ensures in
    c.cmp.ensures ∙ ap₂ nat_cmp x y
    ∙ word-order c.args.a.now c.args.b.now (bytes-a r) (bytes-b r) 4 (4 * c.loop-k.k) (ends-a r) (ends-b r) (λ e. c.if-x-y.true (x ∙ e ∙ sym y))
    ∙ c.loop-k.invariant

pub loop-k-preserved : goal.loop-k-preserved
loop-k-preserved c = let r = (goal.at.loop-k-preserved c).After-word-y in
    let a = c.args.a.now in
    let b = c.args.b.now in
    let k = c.loop-k.k in
    let next : 4 * (k + 1) ≡ 4 * k + 4 = omega arith in
    let same = sym c.word-x.ensures ∙ c.if-x-y.false ∙ c.word-y.ensures in
    ap (λ (n : ℕ). cmp (drop n a) (drop n b)) next ∙ sym (word_same a b (bytes-a r) (bytes-b r) 4 (4 * k) (ends-a r) (ends-b r) same) ∙ c.loop-k.invariant

pub compare_from-requires : goal.compare_from-requires
compare_from-requires c = (omega arith, omega arith)

pub returns : goal.returns
returns c =
    let n = le_antisymm c.loop-k-test.false c.loop-k.auto.k-end in
    c.compare_from.ensures ∙ ap (λ (k : ℕ). cmp (drop (4 * k) c.args.a.now) (drop (4 * k) c.args.b.now)) n ∙ c.loop-k.invariant
