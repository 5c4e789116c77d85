use native.Mathlib.Omega.{arith}
use mathlib.Core.Path.{ap}
use mathlib.Core.Option.{Option}
use Prim.Native.Nat.{ℕ}
use Rattle.fields_schema.specs.Tree.{done}
use Rattle.base_integers.specs.Signed.{word_of}
use Rattle.base_integers.specs.SignedLaws.{word_kept}
use Rattle.fields_encoding.specs.Encode.{encode, int_field, int_o}
use Rattle.fields_write_bytes.proofs.PushedLaws.{again}
use Rattle.reply_command.proofs.PartsLaws.{header-law}
use Rattle.reply_command.specs.Repeated.{ack_of}
use mir.Syntax.{w64}
use mir.Val.{SFits}
use borrow.Author.Rules.{rules}
use Rattle.reply_command.proofs.push_header.Goals as goal

pub returns : goal.returns
returns c =
    let head = c.push_head.ensures in
    let connection = c.push_signed-c.ensures in
    let told : SFits w64 c.args.reply_to.connection = search rules in
    let ack = c.push_maybe-b.ensures in
    let type = c.push_int-a.ensures in
    let to = c.args.reply_to in (
      header-law (word_of to.connection) (ack_of to) to.kind head.0 (again (ap (int_field 3) (word_kept to.connection told.sfits)) connection.0) (again (ap (λ (o : Option ℕ). encode (int_o 6 o done)) c.ack.ensures) ack.0) type.0,
      omega (arith, head.1, connection.1, ack.1, type.1),
    )
