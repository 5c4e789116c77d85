use Prim.Native.Nat.{ℕ, ◌+◌, ◌*◌, ◌≤◌, ◌<◌}
use native.Mathlib.Omega.{arith}
use mathlib.Core.Path.{◌≡◌}
use mathlib.Core.List.{List}
use lib.ListN.{get_or}
use Rattle.store_block.specs.DecidesLaws.{given_yes, given-no}
use Rattle.store_block.specs.Block.{BlockGood}
use Rattle.store_block.specs.Direct.{Small, Direct}
use Rattle.store_block.specs.DirectLaws.{small_of, direct, direct_good}
use Rattle.store_block_codec.proofs.rules.rules_kept.Goals as goal
use Rattle.store_block_codec.proofs.rules.rules_kept.Goals.{After-wide-2}

-- the place where every length was read
abbrev Base : Type 0
Base = After-wide-2

abbrev L : Base → List ℕ
L c = c.args.b.now

abbrev K : Base → ℕ
K c = c.wide-ke.result

abbrev Ve : Base → ℕ
Ve c = c.wide-ve.result

abbrev T : Base → ℕ
T c = c.wide-te.result

abbrev N : Base → ℕ
N c = c.wide.result * 256 + c.wide-2.result

n-is : (c : Base) → N c ≡ get_or (L c) 4 0 * 256 + get_or (L c) 5 0
n-is c = let x = c.wide.ensures.0 in let y = c.wide-2.ensures.0 in omega arith

small : (c : Base) → Small (L c)
small c = c.limits.ensures.yes c.if-not-limits.false

ends : (c : Base) → (K c ≤ 64) × (Ve c ≤ 16) × (T c ≤ 32) × (N c ≤ 384)
ends c = let s = small c in
    let s2 = s.key in let s3 = s.version in let s4 = s.tag in let s5 = s.value in
    let k = c.wide-ke.ensures.0 in let v = c.wide-ve.ensures.0 in let t = c.wide-te.ensures.0 in let n = n-is c in
    (omega arith, omega arith, omega arith, omega arith)

dir : (c : Base) → BlockGood (L c) → Direct (L c) (K c) (Ve c) (T c) (N c)
dir c g = direct (L c) c.requires _ _ _ _ c.wide-ke.ensures.0 c.wide-ve.ensures.0 c.wide-te.ensures.0 (n-is c) g

fifth : (c : Base) → get_or (L c) 5 0 < 256
fifth c = let w = c.wide-2.ensures in omega arith

pub returns-then-not-limits : goal.returns-then-not-limits
returns-then-not-limits c = given-no (λ g. c.limits.ensures.no c.if-not-limits.true (small_of _ c.requires g))

pub returns-then-b-ne1 : goal.returns-then-b-ne1
returns-then-b-ne1 c = given-no (λ g. c.if-b-ne1.true (dir (goal.at.returns-then-b-ne1 c).After-wide-2 g).first)

pub returns-then-b-ne0 : goal.returns-then-b-ne0
returns-then-b-ne0 c = given-no (λ g. c.if-b-ne0.true (dir (goal.at.returns-then-b-ne0 c).After-wide-2 g).eighth)

pub slice_bounds-zeros-count : goal.slice_bounds-zeros-count
slice_bounds-zeros-count c = let e = ends (goal.at.slice_bounds-zeros-count c).After-wide-2 in omega arith

pub slice_bounds-zeros-start : goal.slice_bounds-zeros-start
slice_bounds-zeros-start c = let e = ends (goal.at.slice_bounds-zeros-start c).After-wide-2 in omega arith

pub slice_bounds-zeros-end : goal.slice_bounds-zeros-end
slice_bounds-zeros-end c = let e = ends (goal.at.slice_bounds-zeros-end c).After-wide-2 in omega arith

pub returns-then-not-zeros : goal.returns-then-not-zeros
returns-then-not-zeros c = given-no (λ g. c.zeros.ensures.no c.if-not-zeros.true (dir (goal.at.returns-then-not-zeros c).After-wide-2 g).key)

pub slice_bounds-zeros-count-2 : goal.slice_bounds-zeros-count-2
slice_bounds-zeros-count-2 c = let e = ends (goal.at.slice_bounds-zeros-count-2 c).After-wide-2 in omega arith

pub slice_bounds-zeros-start-2 : goal.slice_bounds-zeros-start-2
slice_bounds-zeros-start-2 c = let e = ends (goal.at.slice_bounds-zeros-start-2 c).After-wide-2 in omega arith

pub slice_bounds-zeros-end-2 : goal.slice_bounds-zeros-end-2
slice_bounds-zeros-end-2 c = let e = ends (goal.at.slice_bounds-zeros-end-2 c).After-wide-2 in omega arith

pub returns-then-not-zeros-2 : goal.returns-then-not-zeros-2
returns-then-not-zeros-2 c = given-no (λ g. c.zeros-2.ensures.no c.if-not-zeros-2.true (dir (goal.at.returns-then-not-zeros-2 c).After-wide-2 g).version)

pub slice_bounds-zeros-count-3 : goal.slice_bounds-zeros-count-3
slice_bounds-zeros-count-3 c = let e = ends (goal.at.slice_bounds-zeros-count-3 c).After-wide-2 in omega arith

pub slice_bounds-zeros-start-3 : goal.slice_bounds-zeros-start-3
slice_bounds-zeros-start-3 c = let e = ends (goal.at.slice_bounds-zeros-start-3 c).After-wide-2 in omega arith

pub slice_bounds-zeros-end-3 : goal.slice_bounds-zeros-end-3
slice_bounds-zeros-end-3 c = let e = ends (goal.at.slice_bounds-zeros-end-3 c).After-wide-2 in omega arith

pub returns-then-not-zeros-3 : goal.returns-then-not-zeros-3
returns-then-not-zeros-3 c = given-no (λ g. c.zeros-3.ensures.no c.if-not-zeros-3.true (dir (goal.at.returns-then-not-zeros-3 c).After-wide-2 g).tag)

pub slice_bounds-zeros-count-4 : goal.slice_bounds-zeros-count-4
slice_bounds-zeros-count-4 c = let e = ends (goal.at.slice_bounds-zeros-count-4 c).After-wide-2 in omega arith

pub slice_bounds-zeros-start-4 : goal.slice_bounds-zeros-start-4
slice_bounds-zeros-start-4 c = let e = ends (goal.at.slice_bounds-zeros-start-4 c).After-wide-2 in omega arith

pub slice_bounds-zeros-end-4 : goal.slice_bounds-zeros-end-4
slice_bounds-zeros-end-4 c = let e = ends (goal.at.slice_bounds-zeros-end-4 c).After-wide-2 in omega arith

pub returns-then-not-zeros-4 : goal.returns-then-not-zeros-4
returns-then-not-zeros-4 c = given-no (λ g. c.zeros-4.ensures.no c.if-not-zeros-4.true (dir (goal.at.returns-then-not-zeros-4 c).After-wide-2 g).value)

pub returns : goal.returns
returns c = let d = (goal.at.returns c).After-wide-2 in
    given_yes (λ q. direct_good (L d) d.requires _ _ _ _ d.wide-ke.ensures.0 d.wide-ve.ensures.0 d.wide-te.ensures.0 (n-is d) (small d) (fifth d) q
    (record {
      first = c.if-b-ne1.false;
      eighth = c.if-b-ne0.false;
      key = c.zeros.ensures.yes c.if-not-zeros.false;
      version = c.zeros-2.ensures.yes c.if-not-zeros-2.false;
      tag = c.zeros-3.ensures.yes c.if-not-zeros-3.false;
      value = c.zeros-4.ensures.yes c.if-not-zeros-4.false;
    }))
