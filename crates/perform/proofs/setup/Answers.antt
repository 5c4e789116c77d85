use Prim.Native.Nat.{ℕ}
use mathlib.Core.Path.{◌≡◌, refl, sym, ap, ap₂, ◌∙◌}
use mathlib.Core.Option.{Option}
use lib.IntN.{ℤ, pos}
use mir.Syntax.{w64}
use mir.Val.{SFits}
use borrow.Author.Rules.{rules}
use Rattle.std.specs.Prelude.{Some, None, unwrap_or}
use Rattle.std.specs.Prelude as std
use Rattle.std.specs.Option.{is_some}
use Rattle.base_integers.specs.Signed.{word_of}
use Rattle.base_integers.specs.SignedLaws.{word_kept}
use Rattle.fields_schema.specs.Tree.{guard}
use Rattle.fields_lookup.specs.Views.{signed_view}
use Rattle.protocol.specs.State.{State, with_device}
use Rattle.protocol.specs.Judge.{set_up}
use Rattle.reply_send.specs.SentLaws.{sent-as}
use Rattle.perform.proofs.setup.Goals as goal

viewed : (n : std.Option ℤ) → guard (is_some n) (word_of (unwrap_or n (pos 0))) ≡ signed_view n
viewed None = refl
viewed (Some v) = refl

pub returns : goal.returns
returns c =
    let e = c.setup in
    let v = c.unwrap_or.result in
    let fits : SFits w64 c.unwrap_or.result = search rules in
    let given : guard c.is_some.result (word_of v) ≡ signed_view c.args.version = ap₂ guard c.is_some.ensures (ap word_of c.unwrap_or.ensures) ∙ viewed c.args.version in
    λ (t : State) (q : t.device ≡ c.args.device.now).
    sent-as c.args.reply_to c.args.signing_key.now (sym (e.ensures.whole t q) ∙ ap (λ (o : Option ℕ). set_up t o) (ap (guard c.is_some.result) (word_kept v fits.sfits) ∙ given)) (c.status.ensures (with_device t _))
