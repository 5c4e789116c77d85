use Prim.Native.Nat.{ℕ, ◌+◌, ◌*◌}
use mathlib.Core.Path.{◌∙◌, sym, ap₂}
use borrow.Author.Tests.{lt-leb, le-leb}
use Rattle.access_record.specs.Table.{mask_good}
use Rattle.access_record.proofs.TableLaws.{scope-test}
use Rattle.access_check.proofs.scope_good.Goals as goal

pub returns-then-device-a-gt64 : goal.returns-then-device-a-gt64
returns-then-device-a-gt64 c = sym (scope-test _ _ ∙ simp (lt-leb _ _ c.if-device-a-gt64.true))

pub returns-then-device-a-gt64-2 : goal.returns-then-device-a-gt64-2
returns-then-device-a-gt64-2 c = sym (scope-test _ _ ∙ simp (le-leb _ _ c.if-device-a-gt64.false, lt-leb _ _ c.if-device-a-gt64-2.true))

pub returns : goal.returns
returns c =
    let e1 = c.wide.ensures.0 in
    let e2 = c.wide-2.ensures.0 in
    c.mask_good.ensures
    ∙ ap₂ (λ (x y : ℕ). mask_good (x * 256 + y)) e1 e2
    ∙ sym (scope-test _ _ ∙ simp (le-leb _ _ c.if-device-a-gt64.false, le-leb _ _ c.if-device-a-gt64-2.false))
