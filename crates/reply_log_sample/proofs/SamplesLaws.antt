-- The readings of a run of places as messages, and the steps of writing them from the last to the first.
use Rattle.std.specs.Prelude.{ℕ, ◌+◌, ◌-◌, ◌≤◌, ◌≡◌, Bool, true, false, length, Some, None}
use Rattle.std.proofs.Common.{sym, ap₂, ◌∙◌}
use Rattle.std.proofs.Math.Path.{ap}
use mathlib.Core.List.{List, [], ◌∷◌}
use Rattle.std.proofs.Math.Option.{Option}
use native.Mathlib.Omega.{arith}
use Rattle.fields_schema.specs.Tree.{map_o, done, raw}
use Rattle.fields_encoding.specs.Encode.{head, len_field, float_bytes, fix_field, encode, fix_o, each_sub}
use Rattle.fields_write_bytes.specs.Pushed.{Pushed}
use Rattle.fields_write_bytes.proofs.PushedLaws.{again, pushed_none, pushed-sub}
use Rattle.fields_write_bytes.proofs.TreePartsLaws.{raw-pushed, each_sub-more, float-none, float-some}
use Rattle.std.specs.Prelude as code
use Rattle.log_binary32.specs.Celsius.{sent_bits}
use Rattle.log_readings.specs.Lent.{Lent, Sample, place_at, places_from, temperature_sample, utilization_sample, sample_of}
use Rattle.log_readings.specs.LentLaws.{places-none, places-step}
use Rattle.base_definitions.specs.Lists.{map_l}
use Rattle.protocol.specs.Reply.{sample_tree}
use Rattle.reply_log_sample.specs.Samples.{sample_trees}

-- a value that is sent, and one that is not
pub sent-omitted : (v : code.Option ℕ) → v ≡ None → [] ≡ encode (fix_o 2 (map_o float_bytes (sent_bits v)) done)
unfolding sent_bits
sent-omitted v e = float-none 2 (map_o float_bytes (sent_bits v)) (ap (λ (v : code.Option ℕ). map_o float_bytes (sent_bits v)) e)

pub sent-bits : (b : ℕ) (v : code.Option ℕ) → v ≡ Some b → fix_field 2 (float_bytes b) ≡ encode (fix_o 2 (map_o float_bytes (sent_bits v)) done)
unfolding sent_bits
sent-bits b v e = float-some 2 (float_bytes b) (map_o float_bytes (sent_bits v)) (ap (λ (v : code.Option ℕ). map_o float_bytes (sent_bits v)) e)

-- a reading keeps its name
pub name-said : (t : Bool) (r : Lent) {name : List ℕ} → name ≡ r.name → name ≡ (sample_of t r).name
unfolding temperature_sample utilization_sample
name-said true r e = e
name-said false r e = e

-- one reading
pub sample-law : {r b a at : ℕ} {l m1 m2 o : List ℕ} (n : ℕ) (s : Sample) (name : List ℕ) (value : Option ℕ) → name ≡ s.name → value ≡ s.value
    → Pushed r b (head n (at - b)) m2 o → Pushed b a (len_field 1 name) m1 m2 → Pushed a at (encode (fix_o 2 (map_o float_bytes value) done)) l m1
    → Pushed r at (len_field n (encode (sample_tree s))) l o
sample-law n s name value e f p q w =
    again (ap₂ (λ x v. len_field n (encode (raw 1 x (fix_o 2 (map_o float_bytes v) done)))) e f)
    (pushed-sub n p (raw-pushed 1 name (fix_o 2 (map_o float_bytes value) done) q w))

-- a run of them
module _ {at : ℕ} {l : List ℕ} (k : ℕ) (t : Bool) (rs : List ℕ) (first n : ℕ) where
  pub samples-none : at ≤ length l → Pushed at at (encode (each_sub k (sample_trees t rs (first + n) (n - n)) done)) l l
  unfolding encode each_sub map_l
  samples-none h =
      again (ap (λ (xs : List Lent). encode (each_sub k (map_l sample_tree (map_l (sample_of t) xs)) done)) (sym (places-none rs first n))) (pushed_none at l h)

  pub samples-more : {r p : ℕ} {m o : List ℕ} (i : ℕ) → 1 ≤ i → i ≤ n → Pushed r p (len_field k (encode (sample_tree (sample_of t (place_at rs (first + (i - 1))))))) m o
      → Pushed p at (encode (each_sub k (sample_trees t rs (first + i) (n - i)) done)) l m
      → Pushed r at (encode (each_sub k (sample_trees t rs (first + (i - 1)) (n - (i - 1))) done)) l o
  unfolding map_l
  samples-more i h j q p =
      let e : i - 1 + 1 ≡ i = omega arith in
      let d : places_from rs (first + (i - 1)) (n - (i - 1)) ≡ place_at rs (first + (i - 1)) ∷ places_from rs (first + i) (n - i)
      = places-step rs first (i - 1) n (omega arith) ∙ ap (λ j. place_at rs (first + (i - 1)) ∷ places_from rs (first + j) (n - j)) e in
      again (ap (λ (xs : List Lent). encode (each_sub k (map_l sample_tree (map_l (sample_of t) xs)) done)) (sym d))
      (each_sub-more k (sample_tree (sample_of t (place_at rs (first + (i - 1))))) (sample_trees t rs (first + i) (n - i)) done q p)

  pub samples-all : {r i : ℕ} {m : List ℕ} → i ≡ 0 → Pushed r at (encode (each_sub k (sample_trees t rs (first + i) (n - i)) done)) l m
      → Pushed r at (encode (each_sub k (sample_trees t rs first n) done)) l m
  samples-all {i = i} e p =
      let f : first + i ≡ first = omega arith in
      let g : n - i ≡ n = omega arith in
      again (ap₂ (λ x y. encode (each_sub k (sample_trees t rs x y) done)) f g) p
