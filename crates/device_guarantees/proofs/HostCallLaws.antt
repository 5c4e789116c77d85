-- From the contract of the answering call to what its host finds, and to the customer's laws.
use Rattle.std.specs.Prelude.{ℕ, ◌^◌, ◌<◌, ◌≡◌, refl, List, ◌++◌, length, take, drop, Ok, Err}
use Rattle.std.proofs.Common.{arith, sym, ap, ◌∙◌, subst}
use Rattle.std.proofs.Math.Seq.{take-append_seam, drop-append_seam}
use Rattle.fields_schema.specs.Tree.{Tree}
use Rattle.protocol.specs.State as state
use Rattle.protocol.specs.State.{State}
use Rattle.protocol.specs.Frame.{frame_of, whole}
use Rattle.protocol.specs.Reading.{read}
use Rattle.protocol.specs.Answer.{Outcome, refused, answered, reading}
use Rattle.protocol.specs.Box.{box, answers}
use Rattle.protocol.proofs.ReplySizeLaws.{reply-size}
use Rattle.reply_send.specs.Answers.{LentBytes}
use Rattle.device_response.specs.Called.{Called, Response, called, afterwards, AnsweringCall}
use Rattle.protocol_guarantees.specs.Answered.{Answered}
use Rattle.protocol_guarantees.proofs.CasesLaws.{refusal-number}
use Rattle.protocol_guarantees.proofs.GoodLaws.{answer-leaves-good}
use Rattle.device_guarantees.specs.HostCall.{HostRefused, HostAnswered}

-- an answer whose reply stands first in the buffer
pub host-answered : (s : State) (input out b : List ℕ) (s' : State) (k : ℕ) (out' : List ℕ) → s.connection.number < 2 ^ 64 → answers s (length out) input ≡ answered b s' k
    → out' ≡ b ++ drop (length b) out → HostAnswered s input out (length b) k out' s'
host-answered s input out b s' k out' word q bytes =
    let front : take (length b) out' ≡ b = ap (take (length b)) bytes ∙ take-append_seam b (drop (length b) out) in
    let good = answer-leaves-good s (length out) input b s' k q in
    record {
      is = q ∙ ap (λ r. answered r s' k) (sym front);
      rest_stays = ap (drop (length b)) bytes ∙ drop-append_seam b (drop (length b) out);
      short = reply-size s (length out) input b s' k word q;
      good_store = good.0;
      good_record = good.1;
    }

-- to a message that passes steps 1 to 3
pub host-request : (s : State) (input out : List ℕ) (written taken : ℕ) (out' : List ℕ) (s' : State) → s.connection.number < 2 ^ 64
    → HostAnswered s input out written taken out' s' → (m v rest : List ℕ) (i : ℕ) (key : List ℕ) (c : Tree) → frame_of input ≡ whole m v rest
    → reading box s m ≡ read i key c → Answered s c v (take written out') s'
host-request s input out written taken out' s' word h m v rest i key c d e =
    record {
      room = length out;
      input = input;
      message = m;
      rest = rest;
      taken = taken;
      identity = i;
      key = key;
      word = word;
      framed = d;
      reads = e;
      answer = h.is;
    }

-- every response shows the reply buffer as it is
buffer : (c : state.Connection) (readings : List ℕ) (r : Response) (store device out : List ℕ) → (called c readings r store device out).out ≡ out
buffer c readings (Err refusal) store device out = refl
buffer c readings (Ok a) store device out = refl

module _ (input : List ℕ) (s : State) (out : LentBytes) (r : Response) (t : State) (call : AnsweringCall input s out r t) where
  -- what the call gave and left
  abbrev done : Called
  done = called t.connection t.readings r t.store t.device out.exit.now

  abbrev outcome : Outcome State
  outcome = answers s (length out.entry.now) input

  same-buffer : out.exit.now ≡ done.out
  same-buffer = sym (buffer t.connection t.readings r t.store t.device out.exit.now)

  -- A REFUSAL CHANGES NOTHING
  pub call-refused : (done.refusal ≡ 0 → ⊥) → HostRefused s input out.entry.now done.refusal out.exit.now done.state
  call-refused n = go outcome refl call.0
    where
      go : (o : Outcome State) → outcome ≡ o → done ≡ afterwards s out.entry.now o → HostRefused s input out.entry.now done.refusal out.exit.now done.state
      go (refused k) q e =
          record {
            is = q ∙ ap refused (sym (ap (λ (c : Called). c.refusal) e));
            same_state = ap (λ (c : Called). c.state) e;
            same_out = same-buffer ∙ ap (λ (c : Called). c.out) e;
          }
      go (answered b s' k) q e = absurd (n (ap (λ (c : Called). c.refusal) e))

  -- AN ANSWER: every reply fits 4,096 bytes, and what is lent afterwards is the state of the next call
  pub call-answered : done.refusal ≡ 0 → HostAnswered s input out.entry.now done.written done.taken out.exit.now done.state
  call-answered z = go outcome refl call.0
    where
      go : (o : Outcome State) → outcome ≡ o → done ≡ afterwards s out.entry.now o
          → HostAnswered s input out.entry.now done.written done.taken out.exit.now done.state
      go (refused k) q e = absurd (omega (arith, z, ap (λ (c : Called). c.refusal) e, refusal-number s (length out.entry.now) input k q))
      go (answered b s' k) q e =
          subst (λ (c : Called). HostAnswered s input out.entry.now c.written c.taken out.exit.now c.state) (sym e)
          (host-answered s input out.entry.now b s' k out.exit.now call.1 q (same-buffer ∙ ap (λ (c : Called). c.out) e))

  -- and so the customer's laws hold of the call
  pub call-answers-request : done.refusal ≡ 0 → (m v rest : List ℕ) (i : ℕ) (key : List ℕ) (c : Tree) → frame_of input ≡ whole m v rest → reading box s m ≡ read i key c
      → Answered s c v (take done.written out.exit.now) done.state
  call-answers-request z = host-request s input out.entry.now done.written done.taken out.exit.now done.state call.1 (call-answered z)
