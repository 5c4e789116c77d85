-- A working block: zeros, in which parts are written at ascending places.
use Rattle.std.specs.Prelude.{◌≡◌, refl, ℕ, suc, ◌+◌, ◌-◌, ◌/◌, ◌%◌, ◌≤◌, take, drop, set, get_or}
use Rattle.std.proofs.Common.{sym, ◌∙◌, length-append, take-append-drop, take_at, drop_at, drop-drop, length-take-le}
use Rattle.std.proofs.Math.Path.{ap, ap₂}
use mathlib.Core.List.{List, [], ◌∷◌, ◌++◌, append_assoc}
use native.Mathlib.Omega.{arith}
use Rattle.std.proofs.Math.ListN.{length, replicate}
use Rattle.std.proofs.lemmas.List.{length-replicate, replicate-append-replicate}
use Rattle.store_block.specs.Over.{over}
use Rattle.store_block.specs.Entry.{Entry, Sized}
use Rattle.base_definitions.specs.BigEndian.{be32}
use Rattle.base_definitions.specs.Lists.{fill}
use Rattle.store_block.specs.Block.{sum_from, head, body, block}
use Rattle.store_block.specs.BlockLaws.{length-body}
use Rattle.store_block.specs.DirectLaws.{last-four}
use Rattle.store_block_codec.specs.Built.{Built, written}

-- the head's seven bytes set in zeros
pub built-head : (e : Entry) → Built 8 (head e)
    (set (set (set (set (set (set (set (replicate 512 0) 0 1) 1 (length e.key)) 2 (length e.version)) 3 (length e.tag))
    4 (length e.value / 256)) 5 (length e.value % 256)) 6 e.algorithm)
unfolding head
built-head e = record { size = refl; within = omega arith; same = refl }

pub built-length : {b : ℕ} {bs m : List ℕ} → Built b bs m → length m ≡ 512
built-length {b} {bs} {m} p =
    let s = p.size in
    let w = p.within in
    let z = length-replicate {A = ℕ} (512 - b) 0 in
    ap length p.same ∙ simp length-append (omega arith)

-- zeros cut in two
zeros-split : (n a : ℕ) → a ≤ n → replicate {A = ℕ} n 0 ≡ replicate a 0 ++ replicate (n - a) 0
zeros-split n a h =
    let e : a + (n - a) ≡ n = omega arith in
    sym (replicate-append-replicate a (n - a) 0 ∙ ap (λ (k : ℕ). replicate k 0) e)

-- a part written past what was built
over_zeros : (bs xs : List ℕ) (b a : ℕ) → length bs ≡ b → b ≤ a → a + length xs ≤ 512
    → over (bs ++ replicate (512 - b) 0) a xs ≡ (bs ++ (replicate (a - b) 0 ++ xs)) ++ replicate (512 - (a + length xs)) 0
unfolding over
over_zeros bs xs b a s h k =
    let gap : List ℕ = replicate (a - b) 0 in
    let over : List ℕ = replicate (length xs) 0 in
    let rest : List ℕ = replicate (512 - (a + length xs)) 0 in
    let n1 : 512 - b - (a - b) ≡ 512 - a = omega arith in
    let n2 : 512 - a - length xs ≡ 512 - (a + length xs) = omega arith in
    let cut : replicate (512 - b) 0 ≡ gap ++ (over ++ rest) =
    zeros-split (512 - b) (a - b) (omega arith)
    ∙ ap (λ (z : List ℕ). gap ++ z) (ap (λ (n : ℕ). replicate n 0) n1 ∙ zeros-split (512 - a) (length xs) (omega arith)
    ∙ ap (λ (n : ℕ). over ++ replicate n 0) n2) in
    let front : length (bs ++ gap) ≡ a = let r = length-replicate {A = ℕ} (a - b) 0 in simp length-append (omega arith) in
    let whole : bs ++ replicate (512 - b) 0 ≡ (bs ++ gap) ++ (over ++ rest) =
    ap (λ (z : List ℕ). bs ++ z) cut ∙ sym (append_assoc bs gap (over ++ rest)) in
    ap₂ (λ (x y : List ℕ). x ++ (xs ++ y))
    (ap (take a) whole ∙ take_at (bs ++ gap) (over ++ rest) a front)
    (ap (drop (a + length xs)) whole ∙ sym (drop-drop (length xs) a ((bs ++ gap) ++ (over ++ rest)))
    ∙ ap (drop (length xs)) (drop_at (bs ++ gap) (over ++ rest) a front) ∙ drop_at over rest (length xs) (length-replicate (length xs) 0))
    ∙ sym (append_assoc (bs ++ gap) xs rest) ∙ ap (λ (z : List ℕ). z ++ rest) (append_assoc bs gap xs)

pub built-more : {b : ℕ} {bs m n : List ℕ} (a : ℕ) (xs : List ℕ) → Built b bs m → n ≡ over m a xs → b ≤ a → a + length xs ≤ 512
    → Built (a + length xs) (bs ++ (replicate (a - b) 0 ++ xs)) n
built-more {b} {bs} {m} {n} a xs p w h k =
    let s = p.size in
    record {
      size = let z = length-replicate {A = ℕ} (a - b) 0 in simp length-append (omega arith);
      within = k;
      same = w ∙ ap (λ (l : List ℕ). over l a xs) p.same ∙ over_zeros bs xs b a s h k;
    }

-- the parts of the body, as they are written
module _ (e : Entry) (fit : Sized e) where
  pub body-written : (written e) ++ replicate (508 - (120 + length e.value)) 0 ≡ body e
  unfolding body fill
  body-written =
      let f = fit.value_fits in
      let n1 : 72 - (8 + length e.key) ≡ 64 - length e.key = omega arith in
      let n2 : 88 - (72 + length e.version) ≡ 16 - length e.version = omega arith in
      let n3 : 120 - (88 + length e.tag) ≡ 32 - length e.tag = omega arith in
      let n4 : 508 - (120 + length e.value) ≡ (384 - length e.value) + 4 = omega arith in
      flat (head e) e.key (replicate (72 - (8 + length e.key)) 0) e.version (replicate (88 - (72 + length e.version)) 0) e.tag
      (replicate (120 - (88 + length e.tag)) 0) e.value (replicate (508 - (120 + length e.value)) 0)
      ∙ ap₂ (λ (a b : ℕ). head e ++ (e.key ++ (replicate a 0 ++ (e.version ++ (replicate b 0 ++ (e.tag ++ (replicate (120 - (88 + length e.tag)) 0 ++ (e.value ++ replicate (508 - (120 + length e.value)) 0)))))))) n1 n2
      ∙ ap₂ (λ (a b : ℕ). head e ++ (e.key ++ (replicate (64 - length e.key) 0 ++ (e.version ++ (replicate (16 - length e.version) 0 ++ (e.tag ++ (replicate a 0 ++ (e.value ++ replicate b 0)))))))) n3 n4
      ∙ ap (λ (z : List ℕ). head e ++ (e.key ++ (replicate (64 - length e.key) 0 ++ (e.version ++ (replicate (16 - length e.version) 0 ++ (e.tag ++ (replicate (32 - length e.tag) 0 ++ (e.value ++ z))))))))
      (sym (replicate-append-replicate (384 - length e.value) 4 0))
      ∙ fold (head e) e.key (replicate (64 - length e.key) 0) e.version (replicate (16 - length e.version) 0) e.tag
      (replicate (32 - length e.tag) 0) e.value (replicate (384 - length e.value) 0) (replicate 4 0)
    where
      flat : (a b z1 c z2 d z3 f z4 : List ℕ) → ((((a ++ b) ++ (z1 ++ c)) ++ (z2 ++ d)) ++ (z3 ++ f)) ++ z4 ≡ a ++ (b ++ (z1 ++ (c ++ (z2 ++ (d ++ (z3 ++ (f ++ z4)))))))
      flat a b z1 c z2 d z3 f z4 = simp append_assoc

      fold : (a b z1 c z2 d z3 f z4 z5 : List ℕ) → a ++ (b ++ (z1 ++ (c ++ (z2 ++ (d ++ (z3 ++ (f ++ (z4 ++ z5)))))))) ≡ a ++ ((b ++ z1) ++ ((c ++ z2) ++ ((d ++ z3) ++ ((f ++ z4) ++ z5))))
      fold a b z1 c z2 d z3 f z4 z5 = simp append_assoc

  pub take-body : {m : List ℕ} → Built (120 + length e.value) (written e) m → take 508 m ≡ body e
  take-body {m} p =
      let f = fit.value_fits in
      let n1 : 512 - (120 + length e.value) ≡ (508 - (120 + length e.value)) + 4 = omega arith in
      let whole : m ≡ body e ++ replicate 4 0 =
      p.same ∙ ap (λ (n : ℕ). (written e) ++ replicate n 0) n1
      ∙ ap (λ (z : List ℕ). (written e) ++ z) (sym (replicate-append-replicate (508 - (120 + length e.value)) 4 0))
      ∙ sym (append_assoc (written e) (replicate (508 - (120 + length e.value)) 0) (replicate 4 0))
      ∙ ap (λ (z : List ℕ). z ++ replicate 4 0) body-written in
      ap (take 508) whole ∙ take_at (body e) (replicate 4 0) 508 (length-body e fit)

  pub sealed : {m n : List ℕ} → Built (120 + length e.value) (written e) m → n ≡ take 508 m ++ be32 (sum_from 0 (take 508 m)) → n ≡ block e
  unfolding block
  sealed p q = q ∙ ap (λ (x : List ℕ). x ++ be32 (sum_from 0 x)) (take-body p)

-- ---- the four check bytes set
set_past : (p q : List ℕ) (n i v : ℕ) → length p ≡ n → set (p ++ q) (n + i) v ≡ p ++ set q i v
set_past p q n i v h = rw (sym h) (go p)
  where
    go : (p : List ℕ) → set (p ++ q) (length p + i) v ≡ p ++ set q i v
    go [] = let z : 0 + i ≡ i = omega arith in ap (λ (k : ℕ). set q k v) z
    go (x ∷ xs) =
        let z : suc (length xs) + i ≡ suc (length xs + i) = omega arith in
        ap (λ (k : ℕ). set (x ∷ (xs ++ q)) k v) z ∙ ap (λ (l : List ℕ). x ∷ l) (go xs)

pub last_set : (l : List ℕ) (x y z w : ℕ) → length l ≡ 512
    → set (set (set (set l 508 x) 509 y) 510 z) 511 w ≡ take 508 l ++ (x ∷ y ∷ z ∷ w ∷ [])
last_set l x y z w h =
    let p : List ℕ = take 508 l in
    let n : length p ≡ 508 = length-take-le 508 l (omega arith) in
    let q : List ℕ = get_or l 508 0 ∷ get_or l 509 0 ∷ get_or l 510 0 ∷ get_or l 511 0 ∷ [] in
    let whole : l ≡ p ++ q = sym (take-append-drop 508 l) ∙ ap (λ (r : List ℕ). p ++ r) (last-four l h) in
    ap (λ (m : List ℕ). set (set (set (set m 508 x) 509 y) 510 z) 511 w) whole
    ∙ ap (λ (m : List ℕ). set (set (set m 509 y) 510 z) 511 w) (set_past p q 508 0 x n)
    ∙ ap (λ (m : List ℕ). set (set m 510 z) 511 w) (set_past p (set q 0 x) 508 1 y n)
    ∙ ap (λ (m : List ℕ). set m 511 w) (set_past p (set (set q 0 x) 1 y) 508 2 z n)
    ∙ set_past p (set (set (set q 0 x) 1 y) 2 z) 508 3 w n
