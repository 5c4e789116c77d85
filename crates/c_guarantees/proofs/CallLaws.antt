-- From the contract of `ridgeladle_answer` to what a host in C finds, and to the customer's laws.
use Rattle.std.specs.Prelude.{ℕ, ◌^◌, ◌<◌, ◌≡◌, refl, List, length, take}
use Rattle.std.proofs.Common.{arith, sym, ap, ◌∙◌, subst}
use Rattle.fields_schema.specs.Tree.{Tree}
use Rattle.protocol.specs.State.{State}
use Rattle.protocol.specs.Frame.{frame_of, whole}
use Rattle.protocol.specs.Reading.{read}
use Rattle.protocol.specs.Answer.{Outcome, refused, answered, reading}
use Rattle.protocol.specs.Box.{box, answers}
use Rattle.c_connection.specs.Layout.{connection_at}
use Rattle.c_abi.specs.Calls.{Left, left, leaves, answer_call}
use Rattle.c_abi.specs.LentState.{lent_state, state_after}
use Rattle.c_abi.proofs.CallsLaws.{next-from}
use Rattle.protocol_guarantees.specs.Answered.{Answered}
use Rattle.protocol_guarantees.proofs.CasesLaws.{refusal-number}
use Rattle.device_guarantees.specs.HostCall.{HostAnswered}
use Rattle.device_guarantees.proofs.HostCallLaws.{host-answered, host-request}
use Rattle.c_guarantees.specs.CallAnswered.{CallAnswered}

module _ (store device connection readings input out counts : List ℕ) (n : ℕ) (store' device' connection' out' counts' : List ℕ)
    (call : (left n store' device' connection' out' counts' ≡ answer_call store device connection readings input out counts) × ((connection_at connection).number < 2 ^ 64)) where
  abbrev state : State
  state = lent_state store device readings connection

  abbrev outcome : Outcome State
  outcome = answers state (length out) input

  as-left : left n store' device' connection' out' counts' ≡ leaves store device connection out counts outcome
  unfolding answer_call
  as-left = call.0

  -- A REFUSAL CHANGES NOTHING: a number that is not 0, and no lent byte is another
  pub c-refused : (n ≡ 0 → ⊥) → (outcome ≡ refused n) × (left n store' device' connection' out' counts' ≡ left n store device connection out counts)
  c-refused z = go outcome refl as-left
    where
      go : (o : Outcome State) → outcome ≡ o → left n store' device' connection' out' counts' ≡ leaves store device connection out counts o
          → (outcome ≡ refused n) × (left n store' device' connection' out' counts' ≡ left n store device connection out counts)
      go (refused k) q e =
          let m : n ≡ k = ap (λ (l : Left). l.number) e in
          (q ∙ ap refused (sym m), e ∙ ap (λ k. left k store device connection out counts) (sym m))
      go (answered b s k) q e = absurd (z (ap (λ (l : Left). l.number) e))

  -- AN ANSWER: the counts are what was taken and what was written, which fits 4,096 bytes; and the lent bytes hold the state of the next call
  pub c-answered : n ≡ 0 → length connection ≡ 32 → CallAnswered state input out out' counts' (lent_state store' device' readings connection')
  c-answered z long = go outcome refl as-left
    where
      next : lent_state store' device' readings connection' ≡ state_after state outcome
      next = ap (λ (l : Left). lent_state l.store l.device readings l.connection) call.0 ∙ next-from store device connection readings input out counts long

      go : (o : Outcome State) → outcome ≡ o → left n store' device' connection' out' counts' ≡ leaves store device connection out counts o
          → CallAnswered state input out out' counts' (lent_state store' device' readings connection')
      go (refused k) q e = absurd (omega (arith, z, ap (λ (l : Left). l.number) e, refusal-number state (length out) input k q))
      go (answered b s k) q e =
          record {
            taken = k;
            written = length b;
            counted = ap (λ (l : Left). l.counts) e;
            host =
                subst (HostAnswered state input out (length b) k out') (sym (next ∙ ap (state_after state) q))
                (host-answered state input out b s k out' call.1 q (ap (λ (l : Left). l.out) e));
          }

  -- and so the customer's laws hold of the call
  pub c-answers-request : (z : n ≡ 0) (long : length connection ≡ 32) (m v rest : List ℕ) (i : ℕ) (key : List ℕ) (c : Tree) → frame_of input ≡ whole m v rest
      → reading box state m ≡ read i key c → Answered state c v (take (c-answered z long).written out') (lent_state store' device' readings connection')
  c-answers-request z long =
      let h = c-answered z long in
      host-request state input out h.written h.taken out' (lent_state store' device' readings connection') call.1 h.host
