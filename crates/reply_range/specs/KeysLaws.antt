-- What the writing of keys uses.
use Rattle.std.specs.Prelude.{◌≡◌, refl, ℕ, zero, suc, ◌-◌, ◌≤◌, ◌<◌, length, take, get_or}
use Rattle.std.proofs.Common.{sym, ◌∙◌, arith}
use Rattle.std.proofs.Math.Path.{ap}
use mathlib.Core.List.{List, [], ◌∷◌}
use Rattle.std.proofs.Math.ListN.{drop}
use Rattle.std.proofs.Math.Seq.{drop-length}
use Rattle.base_definitions.specs.Lists.{map_l}
use Rattle.fields_schema.specs.Tree.{done}
use Rattle.fields_encoding.specs.Encode.{head, len_field, encode, each}
use Rattle.fields_write_bytes.specs.Pushed.{Pushed}
use Rattle.fields_write_bytes.proofs.PushedLaws.{again, pushed_none, pushed-sub}
use Rattle.fields_write_bytes.proofs.TreePartsLaws.{sub-last, each_pushed}
use Rattle.store_block.specs.Entry.{Entry}
use Rattle.protocol.specs.Judge.{range}
use Rattle.reply_command.specs.Parts.{body_bytes}
use Rattle.operation_range.specs.Keys.{key_at, keys_at}

keys_length : (es : List Entry) (places : List ℕ) (n : ℕ) → n ≤ length places → length (keys_at es (take n places)) ≡ n
unfolding map_l
keys_length es places zero h = refl
keys_length es [] (suc n) h = absurd (omega arith)
keys_length es (p ∷ ps) (suc n) h = ap suc (keys_length es ps n (omega arith))

keys-at : (es : List Entry) (places : List ℕ) (n i : ℕ) → n ≤ length places → i < n → get_or (keys_at es (take n places)) i [] ≡ key_at es (get_or places i 0)
unfolding map_l
keys-at es places zero i h k = absurd (omega arith)
keys-at es [] (suc n) i h k = absurd (omega arith)
keys-at es (p ∷ ps) (suc n) zero h k = refl
keys-at es (p ∷ ps) (suc n) (suc i) h k = keys-at es ps n i (omega arith) (omega arith)

-- the steps of writing keys from the last to the first
module _ {at : ℕ} {l : List ℕ} (es : List Entry) (places : List ℕ) (n : ℕ) (room : n ≤ length places) where
  pub keys_none : at ≤ length l → Pushed at at (encode (each 8 (drop n (keys_at es (take n places))) done)) l l
  unfolding encode each
  keys_none h =
      let d : drop n (keys_at es (take n places)) ≡ [] = ap (λ k. drop k (keys_at es (take n places))) (sym (keys_length es places n room)) ∙ drop-length (keys_at es (take n places)) in
      again (ap (λ ks. encode (each 8 ks done)) (sym d)) (pushed_none at l h)

  pub keys-more : {r p : ℕ} {m o : List ℕ} (i : ℕ) → 1 ≤ i → i ≤ n → Pushed r p (len_field 8 (key_at es (get_or places (i - 1) 0))) m o
      → Pushed p at (encode (each 8 (drop i (keys_at es (take n places))) done)) l m → Pushed r at (encode (each 8 (drop (i - 1) (keys_at es (take n places))) done)) l o
  keys-more i h k q p =
      each_pushed 8 (keys_at es (take n places)) i done h (let z = keys_length es places n room in omega arith)
      (again (ap (len_field 8) (sym (keys-at es places n (i - 1) room (omega arith)))) q) p

  pub keys-all : {r i : ℕ} {m : List ℕ} → i ≡ 0 → Pushed r at (encode (each 8 (drop i (keys_at es (take n places))) done)) l m
      → Pushed r at (encode (each 8 (keys_at es (take n places)) done)) l m
  keys-all e p = again (ap (λ k. encode (each 8 (drop k (keys_at es (take n places))) done)) e) p

pub range-law : {r b a at : ℕ} {l m1 m2 n : List ℕ} (ks : List (List ℕ)) → Pushed r b (head 2 (at - b)) m2 n → Pushed b a (head 2 (at - a)) m1 m2
    → Pushed a at (encode (each 8 ks done)) l m1 → Pushed r at (body_bytes (range ks)) l n
range-law ks p q w = pushed-sub 2 p (sub-last 2 (each 8 ks done) q w)
