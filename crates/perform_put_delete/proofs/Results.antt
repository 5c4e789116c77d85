-- Replies of PUT and DELETE, by the results that they say.
use mathlib.Core.Path.{◌≡◌, sym, ap, ◌∙◌, subst}
use mathlib.Core.Bool.{Bool, false, cond}
use mathlib.Core.List.{List}
use Prim.Native.Nat.{ℕ}
use lib.Dec.{eqb}
use borrow.Author.Tests.{eq-eqb, ne_eqb}
use Rattle.protocol.specs.State.{State, with_store}
use Rattle.protocol.specs.Judge.{Result, changed, fails}
use Rattle.operation_put.specs.PutCode.{Changed}
use Rattle.reply_command.specs.declared.ReplyTo.{ReplyTo}
use Rattle.reply_send.specs.Sent.{Sent, replied}
use Rattle.reply_send.specs.SentLaws.{sent-as}

module _ (a : ReplyTo) (by : List ℕ) {n : ℕ} {out out' : List ℕ} where
  -- a code that is not 1 leaves the store

  module _ (code : ℕ) (s : State) (l : List ℕ) where
    pub not_done : (code ≡ 1 → ⊥) → (eqb code 1 ≡ false → l ≡ s.store) → Sent (replied a by (fails s code)) n out out' s
        → Sent (replied a by (cond (eqb code 1) (changed s l) (fails s code))) n out out' (with_store s l)
    not_done e k h =
        let z = ne_eqb code 1 e in
        sent-as a by (sym (ap (λ (t : Bool). cond t (changed s l) (fails s code)) z))
        (subst (λ (m : List ℕ). Sent (replied a by (fails s code)) n out out' (with_store s m)) (sym (k z)) h)

    pub is-done : code ≡ 1 → Sent (replied a by (changed s l)) n out out' (with_store s l)
        → Sent (replied a by (cond (eqb code 1) (changed s l) (fails s code))) n out out' (with_store s l)
    is-done e h = sent-as a by (sym (ap (λ (t : Bool). cond t (changed s l) (fails s code)) (eq-eqb code 1 e))) h

  pub has-changed : {f : State → Result} {code : ℕ} {l l' : List ℕ} → Changed f code l l'
      → ((s : State) (m : List ℕ) → (eqb code 1 ≡ false → m ≡ s.store) → Sent (replied a by (cond (eqb code 1) (changed s m) (fails s code))) n out out' (with_store s m))
      → (t : State) → t.store ≡ l → Sent (replied a by (f t)) n out out' (with_store t l')
  has-changed {l' = l'} c h t q = sent-as a by (sym (c.whole t q)) (h t l' (λ z. c.kept z ∙ sym q))
