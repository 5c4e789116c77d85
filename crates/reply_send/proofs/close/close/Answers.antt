use mathlib.Core.Path.{sym, ap}
use mathlib.Core.List.{List}
use Prim.Native.Nat.{ℕ}
use Rattle.base_integers.specs.SignedLaws.{word_kept}
use Rattle.fields_write_bytes.proofs.PushedLaws.{starts-again}
use Rattle.protocol.specs.State.{lent}
use Rattle.protocol.specs.Reply.{closing_reply}
use mir.Syntax.{w64}
use mir.Val.{SFits}
use borrow.Author.Rules.{rules}
use Rattle.reply_send.proofs.close.close.Goals as goal

pub returns : goal.returns
returns c =
    let told : SFits w64 c.args.connection.number = search rules in
    λ (store device readings : List ℕ). record { told = starts-again (ap (λ (n : ℕ). closing_reply n c.args.code) (word_kept c.args.connection.number told.sfits)) c.put_closing.ensures; left = ap (lent store device readings) (sym c.close.ensures) }
