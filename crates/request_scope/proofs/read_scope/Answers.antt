use Prim.Native.Nat.{ℕ, ◌≤◌}
use native.Mathlib.Omega.{arith}
use mathlib.Core.Path.{◌≡◌, refl, sym, ap, subst, ◌∙◌}
use mathlib.Core.Bool.{true}
use lib.Dec.{T}
use lib.IntN.{ℤ, pos, nat_abs}
use lib.Signed.{non_neg}
use mir.Syntax.{w8, w64}
use mir.Val.{Fits}
use mir.Facts.{to_z_pos}
use borrow.Author.Tests.{leb-true}
use Rattle.std.proofs.Common.{rules}
use Rattle.base_integers.specs.Signed.{signed_of, word_of}
use Rattle.base_integers.specs.SignedLaws.{word_kept}
use Rattle.access_record.specs.Table.{offset_good}
use Rattle.access_record.proofs.OffsetLaws.{offset-good}
use Rattle.fields_schema.specs.declared.Kind.TheVariants as kind
use Rattle.fields_lookup.specs.Views.{Level, bytes_at}
use Rattle.fields_lookup.proofs.Slotted.{level-sized, part-ready}
use Rattle.std.specs.Prelude.{Some, None}
use Rattle.std.specs.Prelude as std
use Rattle.request_scope.specs.Stands.{scope_in}
use Rattle.request_scope.specs.Scope.{PermissionsAre, ScopeIs}
use Rattle.request_scope.specs.ScopeLaws.{level-at}
use Rattle.request_scope.proofs.Facts.{Facts, facts-of, scope-unnamed, scope-far, scope-long, scope-read}
use Rattle.request_scope.proofs.read_scope.Goals as goal
use Rattle.request_scope.proofs.read_scope.Goals.{After-offset_good, After-open_at-t, After-permissions_of}

level : (c : After-open_at-t) → Level kind.Scope (bytes_at c.args.s.now c.args.p) c.open_at-t.result
level c = level-at c.open_at-t.result c.requires c.open_at-t.ensures

facts : (c : After-permissions_of) (held : std.Option ℕ) → PermissionsAre (scope_in c.args.s.now c.args.p) held
    → Facts c.args.s.now c.args.p c.part_of-value.result (word_of c.signed_or-offset.result) c.flag_of-tls.result held
facts c held h =
    let t = c.open_at-t in
    let v = c.part_of-value in
    facts-of c.args.s.now c.args.p t.result c.requires t.ensures v.result v.ensures c.signed_of.result (word_of c.signed_or-offset.result) c.signed_of.ensures c.signed_or-offset.ensures
    c.num_of.result c.flag_of-tls.result c.num_of.ensures c.flag_of-tls.ensures held h

-- the offset's word is judged
judged : (c : After-offset_good) → offset_good (word_of c.signed_or-offset.result) ≡ c.offset_good.result
judged c = sym (c.offset_good.ensures ∙ ap offset_good (word_kept c.signed_or-offset.result (search rules)))

-- a small word stands for itself
word_small : {v : ℕ} → v ≤ 64 → signed_of v ≡ pos v
word_small h = to_z_pos w64 (omega (arith, h))

pub open_at-t-requires : goal.open_at-t-requires
open_at-t-requires c = c.requires.inside

pub part_of-value-requires : goal.part_of-value-requires
part_of-value-requires c =
    part-ready kind.Scope c.args.s.now c.args.p c.open_at-t.result (level (goal.at.part_of-value-requires c).After-open_at-t) c.requires.inside 2 (omega arith) refl

pub signed_of-requires : goal.signed_of-requires
signed_of-requires c = (omega arith, level-sized _ _ _ (level (goal.at.signed_of-requires c).After-open_at-t))

pub num_of-requires : goal.num_of-requires
num_of-requires c = (omega arith, level-sized _ _ _ (level (goal.at.num_of-requires c).After-open_at-t))

pub permissions_of-requires : goal.permissions_of-requires
permissions_of-requires c = c.requires

pub returns-in_err-mask : goal.returns-in_err-mask
returns-in_err-mask c =
    let o = (goal.at.returns-in_err-mask c).After-permissions_of in
    subst (ScopeIs c.args.s.now (scope_in c.args.s.now c.args.p)) (sym c.from_residual.ensures) (scope-unnamed (facts o None c.in_err-mask.ensures) refl)

pub returns-then-not-offset_good : goal.returns-then-not-offset_good
returns-then-not-offset_good c =
    let o = goal.at.returns-then-not-offset_good c in
    scope-far (facts o.After-permissions_of (Some c.in_ok-mask.mask) c.in_ok-mask.ensures) (judged o.After-offset_good ∙ c.if-not-offset_good.true)

pub returns-then-value-gt64 : goal.returns-then-value-gt64
returns-then-value-gt64 c =
    scope-long (facts (goal.at.returns-then-value-gt64 c).After-permissions_of (Some c.in_ok-mask.mask) c.in_ok-mask.ensures) c.if-value-gt64.true

small : {w : ℕ} → offset_good w ≡ true → w ≤ 64
small {w} h = leb-true w 64 (sym (offset-good w) ∙ h)

pub overflow_cast-result : goal.overflow_cast-result
overflow_cast-result c =
    let h = small (judged (goal.at.overflow_cast-result c).After-offset_good ∙ c.if-not-offset_good.false) in
    subst (λ (y : ℤ). T (non_neg y) × Fits w8 (nat_abs y)) (sym (word_small h)) (tt, record { fits = omega arith })

pub returns : goal.returns
returns c =
    let o = goal.at.returns c in
    let near = judged o.After-offset_good ∙ c.if-not-offset_good.false in
    scope-read (facts o.After-permissions_of (Some c.in_ok-mask.mask) c.in_ok-mask.ensures) near c.if-value-gt64.false _ (ap nat_abs (word_small (small near)))
