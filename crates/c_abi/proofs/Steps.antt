-- The ways through the answering call.
use mathlib.Core.Path.{◌≡◌, ap, ◌∙◌}
use mathlib.Core.List.{List, [], ◌∷◌}
use Prim.Native.Nat.{ℕ, ◌<◌}
use native.Mathlib.Omega.{arith}
use lib.ListN.{length}
use Rattle.protocol.specs.State as state
use Rattle.protocol.specs.State.{State, lent}
use Rattle.protocol.specs.Answer.{Outcome, refused, answered}
use Rattle.protocol.specs.Box.{answers}
use Rattle.protocol_connection.specs.ConnectionOf.{connection_of}
use Rattle.c_connection.specs.Layout.{connection_at, becomes}
use Rattle.c_connection.specs.FollowsLaws.{answers-leave}
use Rattle.c_connection.specs.Follows.{Leaves}
use Rattle.std.specs.Prelude.{Ok, Err}
use Rattle.device_response.specs.declared.Refusal.{Refusal}
use Rattle.device_response.specs.declared.Refusal.TheVariants.{OutShort, StoreBad, DeviceBad, Closed, More, ReadingsBad}
use Rattle.device_response.specs.Called.{Called, refusing, answering, number_of, Response, called, afterwards}
use Rattle.c_abi.specs.Calls.{Left, left, leaves, answer_call}
use Rattle.c_calls.specs.Notes.{Noted, notes}

some-number : (r : Refusal) → 0 < number_of r
some-number OutShort = omega arith
some-number StoreBad = omega arith
some-number DeviceBad = omega arith
some-number Closed = omega arith
some-number More = omega arith
some-number ReadingsBad = omega arith

module _ (store device connection readings input out counts : List ℕ) {c : state.Connection} (held : c ≡ connection_at connection) where
  abbrev outcome : Outcome State
  outcome = answers (lent store device readings c) (length out) input

  as_called : leaves store device connection out counts outcome ≡ answer_call store device connection readings input out counts
  unfolding answer_call
  as_called = ap (λ d. leaves store device connection out counts (answers (lent store device readings d) (length out) input)) held

  module _ (store' device' out' : List ℕ) where
    abbrev Same : Called → Type 0
    Same k = k ≡ afterwards (lent store device readings c) out outcome

    refusal : (n : ℕ) → 0 < n → Same (refusing n (lent store' device' readings c) out') → left n store' device' connection out' counts ≡ leaves store device connection out counts outcome
    refusal n some = go outcome
      where
        go : (o : Outcome State) → refusing n (lent store' device' readings c) out' ≡ afterwards (lent store device readings c) out o
            → left n store' device' connection out' counts ≡ leaves store device connection out counts o
        go (refused m) p = λ i. left (p i).refusal (p i).state.store (p i).state.device connection (p i).out counts
        go (answered bytes s taken) p = let z : n ≡ 0 = ap (λ (k : Called). k.refusal) p in absurd (omega arith)

    reply : (written taken : ℕ) (d : state.Connection) → Same (answering written taken (lent store' device' readings d) out')
        → left 0 store' device' (becomes connection d) out' (taken ∷ written ∷ []) ≡ leaves store device connection out counts outcome
    reply written taken d = go outcome (answers-leave (lent store device readings c) (length out) input)
      where
        go : (o : Outcome State) → Leaves (lent store device readings c) o → answering written taken (lent store' device' readings d) out' ≡ afterwards (lent store device readings c) out o
            → left 0 store' device' (becomes connection d) out' (taken ∷ written ∷ []) ≡ leaves store device connection out counts o
        go (refused m) h p = let z : 0 ≡ m = ap (λ (k : Called). k.refusal) p in absurd (omega arith)
        go (answered bytes s n) h p =
            λ i. left 0 (p i).state.store (p i).state.device (becomes connection (p i).state.connection) (p i).out ((p i).taken ∷ (p i).written ∷ [])

    abbrev whole : Noted → Left
    whole n = left n.number store' device' n.connection out' n.counts

    by-case : (r : Response) → Same (called c readings r store' device' out') → whole (notes connection counts r) ≡ leaves store device connection out counts outcome
    by-case (Err r) = refusal (number_of r) (some-number r)
    by-case (Ok a) = reply a.written a.taken (connection_of a.connection)

    pub answering-call : {n : Noted} (r : Response) → Same (called c readings r store' device' out') → n ≡ notes connection counts r
        → whole n ≡ answer_call store device connection readings input out counts
    answering-call r told e = ap whole e ∙ by-case r told ∙ as_called
