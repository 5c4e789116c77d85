use native.Mathlib.Omega.{arith}
use mathlib.Core.Path.{◌≡◌, refl, sym, ap, subst, ◌∙◌}
use mathlib.Core.Option.{none, some}
use mathlib.Core.Bool.{true, false}
use lib.IntN.{ℤ}
use Rattle.std.proofs.Common.{rules}
use Rattle.std.specs.Prelude.{Some, None, IfSome}
use Rattle.base_integers.specs.Signed.{word_of}
use Rattle.base_integers.specs.SignedLaws.{word_kept}
use Rattle.fields_schema.specs.declared.Kind.TheVariants as k
use Rattle.fields_lookup.specs.Views.{Level, bytes_at}
use Rattle.fields_lookup.proofs.Levels.{level-at, only_at, part_at, sized-at}
use Rattle.protocol.specs.Reading.{envelope, read_message}
use Rattle.request_message.specs.Messages.{SealedLies, sealed_view}
use Rattle.request_message.proofs.Sealing.{sealed-refused, sealed-nameless, sealed-read}
use Rattle.request_message.proofs.read_sealed.Goals as goal
use Rattle.request_message.proofs.read_sealed.Goals.{After-all_of}

pub num_of-auth_type-requires : goal.num_of-auth_type-requires
num_of-auth_type-requires c = let o = c.open_at-t in (omega arith, sized-at k.Message c.args.s.now c.args.p o.result o.ensures c.requires)

pub part_of-a-requires : goal.part_of-a-requires
part_of-a-requires c = let o = c.open_at-t in part_at k.Message c.args.s.now c.args.p o.result o.ensures c.requires 5 (omega arith) refl

pub part_of-command-requires : goal.part_of-command-requires
part_of-command-requires c = let o = c.open_at-t in part_at k.Message c.args.s.now c.args.p o.result o.ensures c.requires 7 (omega arith) refl

pub auth_in-auth-requires : goal.auth_in-auth-requires
auth_in-auth-requires c =
    let o = c.open_at-t in
    let x = c.part_of-a in
    let w = c.sent_twice in
    (c.requires.0, c.requires.1, only_at k.Message c.args.s.now c.args.p o.result o.ensures c.requires 5 k.HmacAuth refl (λ e. e) x.result x.ensures w.result w.ensures)

at-level : (c : After-all_of) → Level k.Message (bytes_at c.args.s.now c.args.p) c.open_at-t.result
at-level c = level-at k.Message c.args.s.now c.args.p c.open_at-t.result c.open_at-t.ensures c.requires

refused : (c : After-all_of) → c.all_of.result ≡ false → none ≡ read_message (bytes_at c.args.s.now c.args.p)
refused c =
    sealed-refused c.args.s.now c.args.p c.num_of-auth_type.result c.part_of-a.result c.part_of-command.result c.auth_in-auth.result c.is_one.result c.all_of.result c.requires.1
    (c.num_of-auth_type.ensures k.Message (bytes_at c.args.s.now c.args.p) (at-level c) refl) (c.part_of-a.ensures.here k.Message k.HmacAuth (at-level c) refl)
    (c.part_of-command.ensures.bytes k.Message (at-level c) refl) c.auth_in-auth.ensures c.is_one.ensures c.all_of.ensures

nameless : (c : After-all_of) → c.all_of.result ≡ true → c.auth_in-auth.result.identity ≡ None → none ≡ read_message (bytes_at c.args.s.now c.args.p)
nameless c =
    sealed-nameless c.args.s.now c.args.p c.num_of-auth_type.result c.part_of-a.result c.part_of-command.result c.auth_in-auth.result c.is_one.result c.all_of.result c.requires.1
    (c.num_of-auth_type.ensures k.Message (bytes_at c.args.s.now c.args.p) (at-level c) refl) (c.part_of-a.ensures.here k.Message k.HmacAuth (at-level c) refl)
    (c.part_of-command.ensures.bytes k.Message (at-level c) refl) c.auth_in-auth.ensures c.is_one.ensures c.all_of.ensures

sealing : (c : After-all_of) → c.all_of.result ≡ true → {j : ℤ} → c.auth_in-auth.result.identity ≡ Some j
    → some (envelope (word_of j) (bytes_at c.args.s.now c.auth_in-auth.result.hmac) (bytes_at c.args.s.now c.part_of-command.result)) ≡ read_message (bytes_at c.args.s.now c.args.p)
sealing c =
    sealed-read c.args.s.now c.args.p c.num_of-auth_type.result c.part_of-a.result c.part_of-command.result c.auth_in-auth.result c.is_one.result c.all_of.result c.requires.1
    (c.num_of-auth_type.ensures k.Message (bytes_at c.args.s.now c.args.p) (at-level c) refl) (c.part_of-a.ensures.here k.Message k.HmacAuth (at-level c) refl)
    (c.part_of-command.ensures.bytes k.Message (at-level c) refl) c.auth_in-auth.ensures c.is_one.ensures c.all_of.ensures

pub returns-then-not-all_of : goal.returns-then-not-all_of
returns-then-not-all_of c = (refused (goal.at.returns-then-not-all_of c).After-all_of c.if-not-all_of.true, tt)

pub returns-in_err-identity : goal.returns-in_err-identity
returns-in_err-identity c =
    let s = c.args.s.now in
    let o = (goal.at.returns-in_err-identity c).After-all_of in
    subst (λ r. (sealed_view s r ≡ read_message (bytes_at s c.args.p)) × IfSome r (SealedLies s)) (sym c.from_residual.ensures) (nameless o c.if-not-all_of.false c.in_err-identity.was, tt)

pub returns : goal.returns
returns c =
    let s = c.args.s.now in
    let x = c.auth_in-auth.result in
    let d = c.part_of-command in
    let o = (goal.at.returns c).After-all_of in (
      ap (λ w. some (envelope w (bytes_at s x.hmac) (bytes_at s d.result))) (word_kept c.in_ok-identity.identity (search rules)) ∙ sealing o c.if-not-all_of.false c.in_ok-identity.was,
      record { hmac = c.auth_in-auth.ensures.lies; command = d.ensures.lies },
    )
