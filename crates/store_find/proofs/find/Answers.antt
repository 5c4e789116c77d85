use Rattle.std.specs.Prelude.{Ok, Err}
use Prim.Native.Nat.{ℕ, ◌+◌, ◌-◌, ◌*◌}
use native.Mathlib.Omega.{arith}
use native.Mathlib.Nat.{le_antisymm}
use mathlib.Core.Path.{◌≡◌, ◌∙◌, ap, sym}
use lib.ListN.{take, drop, get_or}
use Rattle.std.specs.declared.cmp.Ordering.{Ordering}
use Rattle.store_block.specs.Order.{cmp}
use Rattle.store_layout.specs.Store.{blocks_in, entries_from, entries_of}
use Rattle.store_layout.specs.Entries.{by_order, find_from, find_in, past_of}
use Rattle.store_layout.proofs.EntriesLaws.{by_less, by_equal, by-greater}
use Rattle.store_layout.proofs.WalkLaws.{find-blank, find-used, find-end}
use Rattle.store_find.proofs.find.Goals as goal
use Rattle.store_find.proofs.find.Goals.{After-compare}

abbrev Turn : Type 0
Turn = After-compare

-- what the turn's comparison says of the whole search
turn : (c : Turn) → by_order c.compare.result (Err c.loop-i.i) (Ok c.loop-i.i)
    (find_from (c.loop-i.i + 1) c.args.key.now (entries_from (blocks_in c.args.store.now - (c.loop-i.i + 1)) (drop ((c.loop-i.i + 1) * 512) c.args.store.now)))
    ≡ find_in c.args.key.now (entries_of c.args.store.now)
turn c =
    let l = c.args.store.now in
    let key = c.args.key.now in
    let i = c.loop-i.i in
    let a : ℕ = i * 512 in
    let n = blocks_in l in
    let next : (i + 1) * 512 ≡ a + 512 = omega arith in
    let count : a + 8 + c.wide.result - (a + 8) ≡ get_or l (a + 1) 0 = let w = c.wide.ensures.0 in omega arith in
    ap (λ (m : ℕ). by_order c.compare.result (Err i) (Ok i) (find_from (i + 1) key (entries_from (n - (i + 1)) (drop m l)))) next
    ∙ ap (λ (o : Ordering). by_order o (Err i) (Ok i) (find_from (i + 1) key (entries_from (n - (i + 1)) (drop (a + 512) l))))
    (c.compare.ensures ∙ ap (λ (m : ℕ). cmp key (take m (drop (a + 8) l))) count)
    ∙ sym (find-used l n i a key c.loop-i-test.true c.if-store-a-eq0.false)
    ∙ c.loop-i.invariant.1

pub loop-i-init : goal.loop-i-init
unfolding entries_of find_in
loop-i-init c = let s = c.args in
    let l = s.store.now in
    let z : blocks_in l - 0 ≡ blocks_in l = omega arith in
    (omega arith, ap (λ (k : ℕ). find_from 0 s.key.now (entries_from k l)) z)

pub returns-then-store-a-eq0 : goal.returns-then-store-a-eq0
unfolding past_of
returns-then-store-a-eq0 c = let s = c.args in
    record { within = omega arith; same = λ g. sym (find-blank s.store.now _ _ (c.loop-i.i * 512) s.key.now c.if-store-a-eq0.true) ∙ c.loop-i.invariant.1 }

pub returns-in-Less : goal.returns-in-Less
unfolding past_of
returns-in-Less c = record { within = omega arith; same = λ g. by_less _ _ _ _ _ c.in-Less.is (turn (goal.at.returns-in-Less c).After-compare) }

pub returns-in-Equal : goal.returns-in-Equal
unfolding past_of
returns-in-Equal c = record { within = omega arith; same = λ g. by_equal _ _ _ _ _ c.in-Equal.is (turn (goal.at.returns-in-Equal c).After-compare) }

pub loop-i-preserved : goal.loop-i-preserved
loop-i-preserved c = (omega arith, by-greater _ _ _ _ _ c.in-Greater.is (turn (goal.at.loop-i-preserved c).After-compare))

pub returns : goal.returns
unfolding past_of
returns c = let s = c.args in
    let n = le_antisymm c.loop-i.auto.i-end c.loop-i-test.false in
    record {
      within = omega arith;
      same = λ g. ap Err (sym n) ∙ sym (find-end s.store.now _ _ (c.loop-i.i * 512) s.key.now c.loop-i-test.false) ∙ c.loop-i.invariant.1;
    }
