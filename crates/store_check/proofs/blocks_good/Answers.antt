use Prim.Native.Nat.{ℕ, ◌+◌, ◌-◌, ◌*◌}
use native.Mathlib.Omega.{arith}
use mathlib.Core.Path.{◌≡◌, ◌∙◌, refl, sym, subst}
use mathlib.Core.List.{List, []}
use lib.ListN.{get_or, take, drop, length-drop}
use Rattle.store_block.specs.DecidesLaws.{says-yes, says-no, decides-by}
use Rattle.store_layout.specs.Store.{blocks_in}
use Rattle.store_layout.specs.Check.{GoodFrom, Turn}
use Rattle.store_layout.proofs.CheckLaws.{turn_in, turn-out, blank-decides, end-out, less-not-equal, less_not_greater}
use Rattle.store_check.proofs.blocks_good.Goals as goal
use Rattle.store_check.proofs.blocks_good.Goals.{After-compare}

abbrev L : After-compare → List ℕ
L c = c.args.store.now

-- what good blocks say at a turn, and the other way round
turn : (c : After-compare) → GoodFrom [] (L c) (blocks_in (L c)) → Turn c.loop-i.last.now (L c) (blocks_in (L c)) c.loop-i.i (c.loop-i.i * 512) c.wide.result
turn c g =
    turn_in c.loop-i.last.now (L c) (blocks_in (L c)) c.loop-i.i (c.loop-i.i * 512) c.wide.result
    c.loop-i-test.true c.wide.ensures.0 c.if-store-a-eq0.false (c.loop-i.invariant.0 g)

back : (c : After-compare) → Turn c.loop-i.last.now (L c) (blocks_in (L c)) c.loop-i.i (c.loop-i.i * 512) c.wide.result → GoodFrom [] (L c) (blocks_in (L c))
back c t =
    c.loop-i.invariant.1
    (turn-out c.loop-i.last.now (L c) (blocks_in (L c)) c.loop-i.i (c.loop-i.i * 512) c.wide.result
    c.loop-i-test.true c.wide.ensures.0 t)

pub loop-i-init : goal.loop-i-init
loop-i-init c = let l = c.args.store.now in
    let z : blocks_in l - 0 ≡ blocks_in l = omega arith in (
      (λ g. subst (λ (n : ℕ). GoodFrom [] l n) (sym z) g),
      (λ g. subst (λ (n : ℕ). GoodFrom [] l n) z g),
    )

pub returns-then-store-a-eq0 : goal.returns-then-store-a-eq0
returns-then-store-a-eq0 c = let l = c.args.store.now in
    let i = c.loop-i in
    decides-by i.invariant.1 i.invariant.0
    (blank-decides _ i.last.now l (blocks_in l) i.i (i.i * 512) c.loop-i-test.true refl c.requires c.if-store-a-eq0.true c.zeros.ensures)

pub returns-then-not-good : goal.returns-then-not-good
returns-then-not-good c = let l = c.args.store.now in
    let i = c.loop-i in
    says-no (λ g. c.good.ensures.no c.if-not-good.true
    (turn_in i.last.now l (blocks_in l) i.i (i.i * 512) (get_or l (i.i * 512 + 1) 0) c.loop-i-test.true refl c.if-store-a-eq0.false (i.invariant.0 g)).block_good)

pub returns-in-Equal : goal.returns-in-Equal
returns-in-Equal c = let d = (goal.at.returns-in-Equal c).After-compare in
    says-no (λ g. less-not-equal _ (d.compare.ensures ∙ (turn d g).below) c.in-Equal.is)

pub returns-in-Greater : goal.returns-in-Greater
returns-in-Greater c = let d = (goal.at.returns-in-Greater c).After-compare in
    says-no (λ g. less_not_greater _ (d.compare.ensures ∙ (turn d g).below) c.in-Greater.is)

pub loop-i-preserved : goal.loop-i-preserved
loop-i-preserved c =
    let d = (goal.at.loop-i-preserved c).After-compare in
    let l = c.args.store.now in
    let k = take (d.loop-i.i * 512 + 8 + d.wide.result - (d.loop-i.i * 512 + 8)) (drop (d.loop-i.i * 512 + 8) l) in
    let next : d.loop-i.i * 512 + 512 ≡ (d.loop-i.i + 1) * 512 = omega arith in
    let Rest : ℕ → Type 0 = λ (a : ℕ). GoodFrom k (drop a l) (blocks_in l - (d.loop-i.i + 1)) in (
      (λ g. subst Rest next (turn d g).rest),
      (λ r. back d (record { block_good = c.good.ensures.yes c.if-not-good.false; below = sym d.compare.ensures ∙ c.in-Less.is; rest = subst Rest (sym next) r })),
    )

pub returns : goal.returns
returns c = let l = c.args.store.now in
    let i = c.loop-i in
    let z : blocks_in l - i.i ≡ 0 = omega arith in
    says-yes (i.invariant.1 (subst (λ (n : ℕ). GoodFrom i.last.now (drop (i.i * 512) l) n) (sym z) (end-out i.last.now (drop (i.i * 512) l) (let x = length-drop (i.i * 512) l in omega arith))))
