use Prim.Native.Nat.{ℕ, ◌+◌, ◌-◌, ◌*◌}
use native.Mathlib.Omega.{arith}
use mathlib.Core.Path.{◌≡◌, ◌∙◌, sym, ap, subst}
use mathlib.Core.List.{List}
use lib.ListN.{take, drop}
use Rattle.store_block.specs.Entry.{Entry}
use Rattle.store_block.specs.Block.{decode}
use Rattle.store_layout.proofs.CheckLaws.{key-at}
use Rattle.store_layout.specs.Entries.{find_in}
use Rattle.store_layout.specs.Store.{Sorted}
use Rattle.store_order_table.specs.Table.{block_at, entries_at, Names}
use Rattle.store_rescue.specs.Listed.{Judged}
use Rattle.store_rescue.proofs.ListedLaws.{decode-at, in-store, gap-low, key_twice, key-new}
use Rattle.store_rescue.proofs.rule.keep.Goals as goal
use Rattle.store_rescue.proofs.rule.keep.Goals.{After-find}

abbrev L : After-find → List ℕ
L c = c.args.store.now

abbrev O : After-find → List ℕ
O c = c.args.order.now

-- the block's key, as it is read
abbrev K : After-find → List ℕ
K c = let a = c.args.i * 512 in take (a + 8 + c.wide.result - (a + 8)) (drop (a + 8) (L c))

key-is : (c : After-find) → K c ≡ (decode (block_at (L c) c.args.i)).key
key-is c =
    sym (key-at (L c) (c.args.i * 512) c.wide.result c.wide.ensures.0)
    ∙ ap (λ (e : Entry). e.key) (decode-at (L c) c.args.i c.requires.1.1)

whole : (n : ℕ) → n - 0 ≡ n
whole n = omega arith

found : (c : After-find) → c.find.result ≡ find_in (K c) (entries_at (L c) (take c.args.kept (O c)))
found c = c.find.ensures ∙ ap (λ (n : ℕ). find_in (K c) (entries_at (L c) (take n (O c)))) (whole c.args.kept)

pub find-requires : goal.find-requires
find-requires c =
    let l = c.args.store.now in
    let o = c.args.order.now in
    subst (λ (n : ℕ). Names l (take n o) × Sorted (entries_at l (take n o))) (sym (whole c.args.kept))
    (in-store l c.args.i c.args.kept o c.requires.0 c.requires.1.0, c.requires.0.sorted)

pub insert-requires : goal.insert-requires
insert-requires c = let f = (goal.at.insert-requires c).After-find in
    let s = c.args in
    let a = c.requires.0 in
    let x = a.few in
    let y = a.room in
    let z = c.requires.1.0.small in
    let w = gap-low (L f) s.i s.kept (O f) a (K f) c.in-Err.p (sym c.in-Err.is ∙ found f) in
    (omega arith, omega arith)

pub returns-in-Ok : goal.returns-in-Ok
returns-in-Ok c = let f = (goal.at.returns-in-Ok c).After-find in
    let s = c.args in
    key_twice (L f) s.i s.kept (O f) c.requires.0 c.requires.1.1 (K f) (key-is f) _ (sym c.in-Ok.is ∙ found f)

pub returns-in-Err : goal.returns-in-Err
returns-in-Err c = let f = (goal.at.returns-in-Err c).After-find in
    let s = c.args in
    subst (λ (o : List ℕ). Judged (L f) s.i s.kept (O f) 1 (s.kept + 1) o) (sym c.insert.ensures)
    (key-new (L f) s.i s.kept (O f) c.requires.0 c.requires.1.1 (K f) (key-is f) c.in-Err.p c.requires.1.0 (sym c.in-Err.is ∙ found f))
