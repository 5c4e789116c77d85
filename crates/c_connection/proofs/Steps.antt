-- A word stored, and the ways through each function.
use mathlib.Core.Path.{◌≡◌, sym, ap, ap₂, ◌∙◌}
use mathlib.Core.Bool.{Bool, true, false, not, cond}
use mathlib.Core.List.{List, append_assoc}
use Prim.Native.Nat.{ℕ, ◌+◌}
use native.Mathlib.Omega.{arith}
use lib.Dec.{eqb}
use lib.ListN.{length, take, drop, get_or, set, replicate}
use lib.Seq.{sets, sets-eq}
use borrow.Author.Tests.{eq-eqb, ne_eqb}
use Rattle.fields_schema.specs.Tree.{guard}
use Rattle.base_definitions.specs.BigEndian.{be32}
use Rattle.access_record.specs.Record.{word_at, word_bytes, flag}
use Rattle.access_record_bytes.specs.Wrote.{Wrote, put}
use Rattle.protocol.specs.State.{Connection}
use Rattle.c_connection.specs.Layout.{connection_at, connected_bytes, is_last, heard_bytes, hears, closes, becomes}

pub word-stored : {a b : ℕ} {l m : List ℕ} (w : ℕ) → Wrote a b (word_bytes w) l m → m ≡ sets l a (word_bytes w)
unfolding put
word-stored {a} {b} {l} w r =
    let n = r.next in
    let k = r.room in
    r.same ∙ sym (sets-eq (word_bytes w) l a (omega arith) ∙ append_assoc (take a l) (word_bytes w) (drop (a + length (word_bytes w)) l))

pub new-stored : {l : List ℕ} {f : ℕ} (n : ℕ) (p : Bool) → l ≡ sets (replicate 32 0) 0 (word_bytes n) → f ≡ flag p → set l 8 f ≡ connected_bytes n p
unfolding connected_bytes word_bytes be32
new-stored n p e g = ap₂ (λ (k : List ℕ) (x : ℕ). set k 8 x) e g

module _ (l : List ℕ) where
  -- the last sequence
  pub unseen : (q : ℕ) → get_or l 10 0 ≡ 0 → false ≡ is_last (connection_at l).last q
  unseen q z = sym (ap (λ (b : Bool). is_last (guard (not b) (word_at l 16)) q) (eq-eqb (get_or l 10 0) 0 z))

  pub seen : {w : ℕ} (q : ℕ) → (get_or l 10 0 ≡ 0 → ⊥) → w ≡ word_at l 16 → eqb w q ≡ is_last (connection_at l).last q
  seen q z e = ap (λ (w : ℕ). eqb w q) e ∙ sym (ap (λ (b : Bool). is_last (guard (not b) (word_at l 16)) q) (ne_eqb (get_or l 10 0) 0 z))

  module _ (s : Bool) (q : ℕ) where
    pub none-heard : s ≡ false → l ≡ hears l (guard s q)
    none-heard e = sym (ap (λ (b : Bool). hears l (guard b q)) e)

    pub heard-before : s ≡ true → is_last (connection_at l).last q ≡ true → l ≡ hears l (guard s q)
    heard-before e f = sym (ap (λ (b : Bool). hears l (guard b q)) e ∙ ap (λ (b : Bool). cond b l (heard_bytes l q)) f)

    pub heard-now : {m : List ℕ} → s ≡ true → is_last (connection_at l).last q ≡ false → m ≡ heard_bytes l q → m ≡ hears l (guard s q)
    heard-now e f g = g ∙ sym (ap (λ (b : Bool). hears l (guard b q)) e ∙ ap (λ (b : Bool). cond b l (heard_bytes l q)) f)

  -- closing
  module _ (s : Bool) where
    pub stays_open : s ≡ false → l ≡ closes l s
    stays_open e = sym (ap (closes l) e)

    pub closed-before : s ≡ true → (get_or l 9 0 ≡ 0 → ⊥) → l ≡ closes l s
    closed-before e n = sym (ap (closes l) e ∙ ap (λ (b : Bool). cond (not b) l (set l 9 1)) (ne_eqb (get_or l 9 0) 0 n))

    pub closed-now : s ≡ true → get_or l 9 0 ≡ 0 → set l 9 1 ≡ closes l s
    closed-now e z = sym (ap (closes l) e ∙ ap (λ (b : Bool). cond (not b) l (set l 9 1)) (eq-eqb (get_or l 9 0) 0 z))

  pub both-written : {m n : List ℕ} (c : Connection) → m ≡ hears l c.last → n ≡ closes m c.closed → n ≡ becomes l c
  unfolding becomes
  both-written c p q = q ∙ ap (λ (k : List ℕ). closes k c.closed) p
