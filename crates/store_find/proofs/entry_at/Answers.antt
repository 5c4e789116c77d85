use Prim.Native.Nat.{◌+◌, ◌*◌}
use native.Mathlib.Omega.{arith}
use mathlib.Core.Path.{◌≡◌, ◌∙◌, sym, subst}
use lib.ListN.{get_or}
use Rattle.store_layout.specs.declared.Parts.{Parts}
use Rattle.store_layout.specs.Entries.{EntryAt}
use Rattle.store_find.specs.EntryAtLaws.{entry_place, no_place, value-long, parts-here, nowhere}
use Rattle.store_find.proofs.entry_at.Goals as goal
use Rattle.store_find.proofs.entry_at.Goals.{After-wide-2}

-- the length of the value
value : (c : After-wide-2) → c.wide.result * 256 + c.wide-2.result ≡ get_or c.args.store.now (c.args.i * 512 + 4) 0 * 256 + get_or c.args.store.now (c.args.i * 512 + 5) 0
value c = let x = c.wide.ensures.0 in let y = c.wide-2.ensures.0 in omega arith

pub returns-then-store-i : goal.returns-then-store-i
returns-then-store-i c = let s = c.args in
    subst (λ (p : Parts). EntryAt s.store.now s.i p) (sym c.no_parts.ensures) (nowhere s.store.now s.i (λ g. no_place s.store.now g s.i c.if-store-i.true))

pub returns-then-n-gt384 : goal.returns-then-n-gt384
returns-then-n-gt384 c = let s = c.args in
    subst (λ (p : Parts). EntryAt s.store.now s.i p) (sym c.no_parts-then-n-gt384.ensures)
    (nowhere s.store.now s.i (λ g. let v = value (goal.at.returns-then-n-gt384 c).After-wide-2 in let w = value-long s.store.now g s.i c.if-store-i.false in let h = c.if-n-gt384.true in absurd (omega arith)))

pub returns : goal.returns
returns c = let s = c.args in
    let h = c.if-store-i.false in
    let n = c.if-n-gt384.false in
    let k = c.wide-k.ensures in
    let v = c.wide-v.ensures in
    let t = c.wide-t.ensures in
    record {
      key_inside = omega arith;
      version_inside = omega arith;
      tag_inside = omega arith;
      value_inside = omega arith;
      same = λ g. parts-here s.store.now (s.i * 512) _ _ _ _ k.0 v.0 t.0 (value (goal.at.returns c).After-wide-2) ∙ entry_place s.store.now g s.i h;
    }
