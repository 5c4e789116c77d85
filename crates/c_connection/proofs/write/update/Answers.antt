use Rattle.c_connection.specs.Layout.{hears}
use Prim.Native.Nat.{ℕ}
use mathlib.Core.Path.{ap, ◌∙◌}
use Rattle.base_integers.specs.SignedLaws.{word_kept}
use Rattle.fields_schema.specs.Tree.{guard}
use Rattle.protocol_connection.specs.ConnectionOf.{connection_of}
use Rattle.c_connection.proofs.Steps.{both-written}
use mir.Syntax.{w64}
use mir.Val.{SFits}
use borrow.Author.Rules.{rules}
use Rattle.c_connection.proofs.write.update.Goals as goal

pub returns : goal.returns
returns c =
    let z = c.args in
    let told : SFits w64 z.c.last = search rules in
    let k = word_kept z.c.last told.sfits in
    both-written z.bytes.now (connection_of z.c) (c.hear.ensures ∙ ap (λ (w : ℕ). hears z.bytes.now (guard z.c.seen w)) k) c.close.ensures
