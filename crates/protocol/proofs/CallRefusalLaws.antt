-- "Call refusals": "Checked in this order." And document 02, CR 1: "a new call refusal 7, after the rest".
use Rattle.std.specs.Prelude.{◌≡◌, refl, Bool, true, false, List, ℕ, ltb, length}
use Rattle.std.proofs.Math.Path.{ap}
use Rattle.std.proofs.Common.{◌∙◌}
use Rattle.protocol.specs.Frame.{Framing, more, closes, whole, frame_of}
use Rattle.protocol.specs.Answer.{Device, Outcome, refused, unless_refused, serve, answer}

module _ (D : Device) (s : D.State) (out : ℕ) (xs : List ℕ) where
  abbrev by : Bool → Bool → Bool → Bool → Outcome D.State
  by a b c d = unless_refused a b c d (serve D s (length xs) (frame_of xs))

  pub out-short : ltb out 4096 ≡ true → answer D s out xs ≡ refused 1
  unfolding answer
  out-short a = ap (λ (a : Bool). by a (D.store_good s) (D.record_good s) (D.closed s)) a

  module _ (a : ltb out 4096 ≡ false) where
    pub store-bad : D.store_good s ≡ false → answer D s out xs ≡ refused 2
    unfolding answer
    store-bad b = λ i. by (a i) (b i) (D.record_good s) (D.closed s)

    module _ (b : D.store_good s ≡ true) where
      pub device-bad : D.record_good s ≡ false → answer D s out xs ≡ refused 3
      unfolding answer
      device-bad c = λ i. by (a i) (b i) (c i) (D.closed s)

      module _ (c : D.record_good s ≡ true) where
        pub closed-before : D.closed s ≡ true → answer D s out xs ≡ refused 4
        unfolding answer
        closed-before d = λ i. by (a i) (b i) (c i) (d i)

        pub not-refused : D.closed s ≡ false → answer D s out xs ≡ serve D s (length xs) (frame_of xs)
        unfolding answer
        not-refused d = λ i. by (a i) (b i) (c i) (d i)

        -- MORE before the readings, whatever these are
        pub more-due : D.closed s ≡ false → frame_of xs ≡ more → answer D s out xs ≡ refused 5
        more-due d e = not-refused d ∙ ap (serve D s (length xs)) e

        pub readings-bad : D.closed s ≡ false → (frame_of xs ≡ more → ⊥) → D.readings_good s ≡ false → answer D s out xs ≡ refused 7
        readings-bad d n g = not-refused d ∙ go (frame_of xs) n
          where
            go : (f : Framing) → (f ≡ more → ⊥) → serve D s (length xs) f ≡ refused 7
            go more n = absurd (n refl)
            go closes n = rw g
            go (whole m v rest) n = rw g
