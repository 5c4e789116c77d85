use Rattle.std.specs.Prelude.{◌≤◌, ◌<◌, ◌⊎◌, length}
use Rattle.std.proofs.Common.{arith, rules, inl, inr, ◌∙◌, sym}
use Rattle.protocol.proofs.FormatLaws.{store-bad, key-empty, key-long, made}
use Rattle.device_format.proofs.format.Goals as goal

pub returns-then-not-size_good : goal.returns-then-not-size_good
returns-then-not-size_good c = store-bad _ _ _ (sym c.size_good.ensures ∙ c.if-not-size_good.true)

pub returns-then-not-contains : goal.returns-then-not-contains
returns-then-not-contains c =
    let sized = sym c.size_good.ensures ∙ c.if-not-size_good.false in
    let outside : (length c.args.key.now < 1) ⊎ (64 < length c.args.key.now) = search rules in
    elim outside [
      | inl h ↦ key-empty _ _ _ sized (omega arith)
      | inr h ↦ key-long _ _ _ sized h
    ]

pub returns : goal.returns
returns c =
    let a = c.args in
    let some : 1 ≤ length a.key.now = search rules in
    let few : length a.key.now ≤ 64 = search rules in
    rw (c.blank.ensures, c.format_record.ensures) (made a.store.now a.device.now a.key.now (sym c.size_good.ensures ∙ c.if-not-size_good.false) some few)
