-- Two blocks exchanged, and the numbers of a table that are still to come given anew.
use Rattle.std.specs.Prelude.{◌≡◌, refl, ◌⊎◌, Bool, true, false, cond, eqb, drop, set, get_or}
use Rattle.std.proofs.Common.{sym, ap₂, ◌∙◌, ⊎_elim, arith, length-set, length-take, length-drop, take_at, drop_at, length-take-le, get_or-take, get_or-drop, get_or-set_same, get_or-set_other, ext_get_or, below_more, eqb-true, eq-eqb, ne_eqb}
use Rattle.std.proofs.Math.Path.{ap}
use Rattle.std.proofs.Math.Logic.{inl, inr}
use mathlib.Core.List.{List, ◌++◌}
use Prim.Native.Nat.{ℕ, ◌+◌, ◌-◌, ◌*◌, ◌≤◌, ◌<◌, min}
use Rattle.std.proofs.Math.Decide.{dec_lt}
use Rattle.std.proofs.Math.ListN.{length, take}
use Rattle.std.proofs.lemmas.Bool.{eqb-false}
use Rattle.store_block.specs.Over.{over}
use Rattle.store_block.specs.OverLaws.{over-low, over-high, length_over}
use Rattle.store_order_table.specs.Table.{block_at}
use Rattle.store_arrange.specs.Brought.{exchanged, renamed, crossed, Renamed, Brought, Renaming}

pub part : (l : List ℕ) (c : ℕ) → c + 512 ≤ length l → length (take 512 (drop c l)) ≡ 512
part l c q = length-take-le 512 (drop c l) (let d = length-drop c l in omega arith)

pub renaming-start : (j s : ℕ) (o : List ℕ) → Renaming j s o 0 o
renaming-start j s o = record { long = refl; new = λ m h. absurd (omega arith); old = λ m h. refl }

pub renaming-more : (j s : ℕ) (o o' : List ℕ) (k v : ℕ) → k < length o → v ≡ renamed j s (get_or o' k 0) → Renaming j s o k o' → Renaming j s o (k + 1) (set o' k v)
renaming-more j s o o' k v h e r =
    let n = r.long in
    record {
      long = length-set o' k v ∙ n;
      new = below_more (λ (m : ℕ). get_or (set o' k v) m 0 ≡ renamed j s (get_or o m 0)) k
          (λ m g. get_or-set_other o' k m v 0 (λ q. omega arith) ∙ r.new m g)
          (get_or-set_same o' k v 0 (omega arith) ∙ e ∙ ap (renamed j s) (r.old k (omega arith)));
      old = λ m g. get_or-set_other o' k m v 0 (λ q. omega arith) ∙ r.old m (omega arith);
    }

pub renaming-all : (j s : ℕ) (o o' : List ℕ) (k : ℕ) → length o' ≤ k → Renaming j s o k o' → Renamed j s o o'
renaming-all j s o o' k h r = let n = r.long in record { long = n; each = λ m g. r.new m (omega arith) }

-- ---- the blocks of an exchange
same_block : (l xs : List ℕ) (a c : ℕ) → a + length xs ≤ length l → (c + 512 ≤ a) ⊎ (a + length xs ≤ c) → take 512 (drop c (over l a xs)) ≡ take 512 (drop c l)
same_block l xs a c h w =
    let n = length_over l a xs h in
    ext_get_or 0 _ _ (simp (length-take, length-drop) (ap (λ (m : ℕ). min 512 (m - c)) n))
    (λ i g.
    let k : i < 512 = let q = length-take 512 (drop c (over l a xs)) in omega arith in
    get_or-take 512 (drop c (over l a xs)) i 0 k ∙ get_or-drop c (over l a xs) i 0
    ∙ ⊎_elim (λ p. over-low l a (c + i) xs (omega arith) (omega arith)) (λ p. over-high l a (c + i) xs (omega arith) (omega arith)) w
    ∙ sym (get_or-take 512 (drop c l) i 0 k ∙ get_or-drop c l i 0))

own_block : (l xs : List ℕ) (a : ℕ) → a ≤ length l → length xs ≡ 512 → take 512 (drop a (over l a xs)) ≡ xs
unfolding over
own_block l xs a h n =
    ap (take 512) (drop_at (take a l) (xs ++ drop (a + length xs) l) a (length-take-le a l h)) ∙ take_at xs (drop (a + length xs) l) 512 n

pub is-renamed : (j s x : ℕ) → x ≡ j → s ≡ renamed j s x
unfolding renamed
is-renamed j s x e = sym (ap (λ (b : Bool). cond b s x) (eq-eqb x j e))

pub not-renamed : (j s x : ℕ) → (x ≡ j → ⊥) → x ≡ renamed j s x
unfolding renamed
not-renamed j s x n = sym (ap (λ (b : Bool). cond b s x) (ne_eqb x j n))

pub renamed_by {ℓ} : {X : Type ℓ} (j s x : ℕ) → (x ≡ j → s ≡ renamed j s x → X) → ((x ≡ j → ⊥) → x ≡ renamed j s x → X) → X
renamed_by {X = X} j s x f g = go (eqb x j) refl
  where
    go : (b : Bool) → eqb x j ≡ b → X
    go true e = f (eqb-true x j e) (is-renamed j s x (eqb-true x j e))
    go false e = g (eqb-false x j e) (not-renamed j s x (eqb-false x j e))

-- what stands at j, at s, and elsewhere
pub crossed-by {ℓ} : {X : Type ℓ} (j s k : ℕ) → (k ≡ j → crossed j s k ≡ s → X) → ((k ≡ j → ⊥) → k ≡ s → crossed j s k ≡ j → X)
    → ((k ≡ j → ⊥) → (k ≡ s → ⊥) → crossed j s k ≡ k → X) → X
unfolding crossed
crossed-by {X = X} j s k f g h = go (eqb k j) refl (eqb k s) refl
  where
    go : (x : Bool) → eqb k j ≡ x → (y : Bool) → eqb k s ≡ y → X
    go true e y e' = f (eqb-true k j e) (ap (λ (z : Bool). cond z s (cond (eqb k s) j k)) e)
    go false e true e' = g (eqb-false k j e) (eqb-true k s e') (ap₂ (λ (z w : Bool). cond z s (cond w j k)) e e')
    go false e false e' = h (eqb-false k j e) (eqb-false k s e') (ap₂ (λ (z w : Bool). cond z s (cond w j k)) e e')

module _ (l : List ℕ) (j s : ℕ) (r : s * 512 + 512 ≤ length l) where
  exchanged-block : j < s → (k : ℕ) → k * 512 + 512 ≤ length l → block_at (exchanged l (j * 512) (s * 512)) k ≡ block_at l (crossed j s k)
  unfolding block_at exchanged
  exchanged-block h k q =
      let a : ℕ = j * 512 in
      let b : ℕ = s * 512 in
      let xs : List ℕ = take 512 (drop b l) in
      let ys : List ℕ = take 512 (drop a l) in
      let lx = part l b r in
      let ly = part l a (omega arith) in
      let lw = length_over l a xs (omega arith) in
      crossed-by j s k
      (λ e c. ap (λ (n : ℕ). take 512 (drop (n * 512) (over (over l a xs) b ys))) e ∙ same_block (over l a xs) ys b a (omega arith) (inl (omega arith))
      ∙ own_block l xs a (omega arith) lx ∙ ap (λ (n : ℕ). take 512 (drop (n * 512) l)) (sym c))
      (λ n e c. ap (λ (n : ℕ). take 512 (drop (n * 512) (over (over l a xs) b ys))) e ∙ own_block (over l a xs) ys b (omega arith) ly
      ∙ ap (λ (n : ℕ). take 512 (drop (n * 512) l)) (sym c))
      (λ n m c. same_block (over l a xs) ys b (k * 512) (omega arith) (apart k s m ly) ∙ same_block l xs a (k * 512) (omega arith) (apart k j n lx)
      ∙ ap (λ (n : ℕ). take 512 (drop (n * 512) l)) (sym c))
    where
      apart : (k s : ℕ) → (k ≡ s → ⊥) → {n : ℕ} → n ≡ 512 → (k * 512 + 512 ≤ s * 512) ⊎ (s * 512 + n ≤ k * 512)
      apart k s n e = elim (dec_lt k s) [ yes p ↦ inl (omega arith) | no p ↦ elim (dec_lt s k) [ yes p' ↦ inr (omega arith) | no p' ↦ absurd (n (omega arith)) ] ]

  -- what bring has done: two blocks exchanged, or nothing where they are one
  pub brought : {o o' l' : List ℕ} → j < s → l' ≡ exchanged l (j * 512) (s * 512) → Renamed j s o o' → Brought j s l l' o o'
  unfolding exchanged
  brought h e n =
      let lx = part l (s * 512) r in
      let ly = part l (j * 512) (omega arith) in
      let w = length_over l (j * 512) (take 512 (drop (s * 512) l)) (omega arith) in
      record {
        long = ap length e ∙ length_over (over l (j * 512) (take 512 (drop (s * 512) l))) (s * 512) (take 512 (drop (j * 512) l)) (omega arith) ∙ w;
        blocks = λ k q. ap (λ (z : List ℕ). block_at z k) e ∙ exchanged-block h k q;
        names = n;
      }

pub there-already : (j s : ℕ) (l o : List ℕ) → s ≡ j → Brought j s l l o o
there-already j s l o e =
    record {
      long = refl;
      blocks = λ k q. crossed-by j s k (λ a c. ap (block_at l) (let z : k ≡ crossed j s k = omega arith in z)) (λ n a c. absurd (n (omega arith))) (λ n m c. ap (block_at l) (sym c));
      names = record {
        long = refl;
        each = λ k h. renamed_by j s (get_or o k 0) (λ p r. omega arith) (λ n r. r);
      };
    }
