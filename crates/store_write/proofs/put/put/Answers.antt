use Rattle.std.specs.Prelude.{Ok, Err}
use Prim.Native.Nat.{ℕ, ◌+◌, ◌*◌, ◌≤◌}
use native.Mathlib.Omega.{arith}
use mathlib.Core.Path.{◌≡◌, ◌∙◌, ap, sym, subst}
use mathlib.Core.List.{List}
use lib.ListN.{length}
use Rattle.store_block.specs.Entry.{Entry, entry, Fit}
use Rattle.store_block.specs.Block.{block, decode, BlockGood}
use Rattle.store_block.specs.BlockLaws.{length-block, fit-good, good-fit, decode-own}
use Rattle.store_block.specs.Over.{over}
use Rattle.store_layout.specs.Store.{entries_of}
use Rattle.store_layout.proofs.StoreLaws.{good_length, room}
use Rattle.store_layout.specs.Entries.{find_in}
use Rattle.store_write.specs.Change.{insert_store}
use Rattle.store_write.specs.ChangeLaws.{unfit, at_low, gap-low, replaced, put_in}
use Rattle.store_write.proofs.put.put.Goals as goal
use Rattle.store_write.proofs.put.put.Goals.{After-find, In-Ok, In-Err}

abbrev E : List ℕ → List ℕ → List ℕ → List ℕ → ℕ → Entry
E k v t n a = entry k v t n a

-- the working block met the rules, so the entry fits
good : (c : After-find) → BlockGood (block (E c.args.key.now c.args.version.now c.args.tag.now c.args.value.now c.args.algorithm))
good c = subst (λ (x : List ℕ). BlockGood x) c.make-b.ensures (c.good.ensures.yes c.if-not-good.false)

fit : (c : After-find) → Fit (E c.args.key.now c.args.version.now c.args.tag.now c.args.value.now c.args.algorithm)
fit c = good-fit _ c.requires.1 (good c)

found : (c : In-Ok) → Ok c.in-Ok.i ≡ find_in c.args.key.now (entries_of c.args.store.now)
found c = sym c.in-Ok.is ∙ c.find.ensures.same c.requires.0

gap : (c : In-Err) → Err c.in-Err.i ≡ find_in c.args.key.now (entries_of c.args.store.now)
gap c = sym c.in-Err.is ∙ c.find.ensures.same c.requires.0

low : (c : In-Ok) → c.in-Ok.i * 512 + 512 ≤ length c.args.store.now
low c = let l = c.args.store.now in
    let a = c.args in
    let h = at_low l c.requires.0 (E a.key.now a.version.now a.tag.now a.value.now a.algorithm) _ (found c) in
    let w = good_length l c.requires.0 in
    let r = room l in
    omega arith

pub returns-then-not-good : goal.returns-then-not-good
returns-then-not-good c = let a = c.args in
    let e = E a.key.now a.version.now a.tag.now a.value.now a.algorithm in
    let t = unfit a.store.now c.requires.0 e
    (λ f. c.good.ensures.no c.if-not-good.true (subst (λ (x : List ℕ). BlockGood x) (sym c.make-b.ensures) (fit-good e f))) in
    record { value = t.0; store_after = t.1 }

pub overflow_mul-a : goal.overflow_mul-a
overflow_mul-a c = let g = c.well_formed in let l = low (goal.at.overflow_mul-a c).In-Ok in omega arith

pub copy-requires : goal.copy-requires
copy-requires c = let a = c.args in
    let q = ap length c.make-b.ensures ∙ length-block (E a.key.now a.version.now a.tag.now a.value.now a.algorithm) c.requires.1 in
    let l = low (goal.at.copy-requires c).In-Ok in
    omega arith

pub insert-requires : goal.insert-requires
insert-requires c = let a = c.args in
    (c.requires.0, (subst (λ (x : List ℕ). BlockGood x) (sym c.make-b.ensures) (good (goal.at.insert-requires c).After-find), gap-low a.store.now c.requires.0 (E a.key.now a.version.now a.tag.now a.value.now a.algorithm) _ (gap (goal.at.insert-requires c).In-Err)))

pub returns-in-Ok : goal.returns-in-Ok
returns-in-Ok c = let a = c.args in
    let l = a.store.now in
    let t = replaced l c.requires.0 (E a.key.now a.version.now a.tag.now a.value.now a.algorithm) (fit (goal.at.returns-in-Ok c).After-find) _ (found (goal.at.returns-in-Ok c).In-Ok) in
    record { value = t.0; store_after = c.copy.ensures ∙ ap (λ (x : List ℕ). over l (c.in-Ok.i * 512) x) c.make-b.ensures ∙ t.1 }

pub returns-in-Err : goal.returns-in-Err
returns-in-Err c = let a = c.args in
    let l = a.store.now in
    let e = E a.key.now a.version.now a.tag.now a.value.now a.algorithm in
    let t = put_in l c.requires.0 e (fit (goal.at.returns-in-Err c).After-find) _ (gap (goal.at.returns-in-Err c).In-Err) in
    let r = c.insert.ensures in
    record {
      value = r.value ∙ t.0;
      store_after = r.store_after ∙ ap (λ (x : List ℕ). insert_store l c.in-Err.i (decode x)) c.make-b.ensures
          ∙ ap (insert_store l c.in-Err.i) (decode-own e c.requires.1) ∙ t.1;
    }
