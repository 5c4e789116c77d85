-- A block judged where it stands: the head's bytes, zeros in the gaps, the sum.
use Rattle.std.specs.Prelude.{◌≡◌, eqb}
use Rattle.std.proofs.Math.Path.{refl, sym, ap}
use Rattle.std.proofs.Common.{ap₂, ◌∙◌, subst, length-take, drop-drop, take-suc, take_all}
use mathlib.Core.List.{List, [], ◌∷◌, ◌++◌, append_assoc}
use Prim.Native.Nat.{ℕ, zero, suc, ◌+◌, ◌-◌, ◌*◌, ◌/◌, ◌%◌, ◌≤◌, ◌<◌, min}
use native.Mathlib.Omega.{arith}
use Rattle.std.specs.Int.Bits.{bit_or, or_add_and}
use Rattle.std.proofs.lemmas.Nat.{and_le_l, and_le_r}
use Rattle.std.proofs.Math.ListN.{length, take, drop, get_or, replicate, length-drop, take-append-drop}
use Rattle.std.proofs.lemmas.List.{replicate-append-replicate}
use Rattle.std.proofs.Math.Seq.{take_at, drop_at, get_or-drop, take-append-add, length-take-le}
use Rattle.store_block.specs.Entry.{Entry, Fit}
use Rattle.base_definitions.specs.BigEndian.{be32}
use Rattle.base_definitions.specs.Lists.{fill}
use Rattle.store_block.specs.Block.{sum_from, head, body, block, SumRight, decode, BlockGood}
use Rattle.store_block.specs.BlockLaws.{sized, length-fill, length-body}
use Rattle.store_block.specs.Decides.{Decides}
use Rattle.store_block.specs.DecidesLaws.{decides-by, eqb-decides}
use Rattle.store_block.specs.Direct.{Small, number_at, Held, Zero, Direct, ored}

module _ (b : List ℕ) (h : length b ≡ 512) where
  lengths : (n m : ℕ) → length (take n (drop m b)) ≡ min n (512 - m)
  lengths n m = length-take n (drop m b) ∙ ap (λ (x : ℕ). min n x) (length-drop m b ∙ ap (λ (x : ℕ). x - m) h)

  pub small_of : BlockGood b → Small b
  unfolding decode
  small_of g =
      let f = g.fit in
      let f1 = f.key_some in let f2 = f.key_fits in let f3 = f.version_fits in let f4 = f.tag_fits in let f5 = f.value_fits in
      let l1 = lengths (get_or b 1 0) 8 in
      let l2 = lengths (get_or b 2 0) 72 in
      let l3 = lengths (get_or b 3 0) 88 in
      let l4 = lengths (get_or b 4 0 * 256 + get_or b 5 0) 120 in
      record { some = omega arith; key = omega arith; version = omega arith; tag = omega arith; value = omega arith; algorithm = f.algorithm_fits }

  pub fit_of : Small b → Fit (decode b)
  unfolding decode
  fit_of s =
      let s1 = s.some in let s2 = s.key in let s3 = s.version in let s4 = s.tag in let s5 = s.value in
      let l1 = lengths (get_or b 1 0) 8 in
      let l2 = lengths (get_or b 2 0) 72 in
      let l3 = lengths (get_or b 3 0) 88 in
      let l4 = lengths (get_or b 4 0 * 256 + get_or b 5 0) 120 in
      record { key_some = omega arith; key_fits = omega arith; version_fits = omega arith; tag_fits = omega arith; value_fits = omega arith; algorithm_fits = s.algorithm }

-- ---- a gap
module _ (b : List ℕ) (a m e k : ℕ) (q : e ≡ a + m) (h : k ≤ m) (l : e ≤ length b) where
  front : length (take k (drop a b)) ≡ k
  front = length-take-le k (drop a b) (let x = length-drop a b in omega arith)

  over : m - length (take k (drop a b)) ≡ length (take (e - (a + k)) (drop (a + k) b))
  over = let f = front in let x = length-drop (a + k) b in let y = length-take-le (e - (a + k)) (drop (a + k) b) (omega arith) in omega arith

  two : take m (drop a b) ≡ take k (drop a b) ++ take (e - (a + k)) (drop (a + k) b)
  two =
      let f = front in
      let n1 : m ≡ length (take k (drop a b)) + (m - k) = omega arith in
      let n2 : m - k ≡ e - (a + k) = omega arith in
      ap₂ take n1 (sym (take-append-drop k (drop a b)))
      ∙ take-append-add (take k (drop a b)) (drop k (drop a b)) (m - k)
      ∙ ap₂ (λ (n : ℕ) (x : List ℕ). take k (drop a b) ++ take n x) n2 (drop-drop k a b)

  pub filled : Zero (take (e - (a + k)) (drop (a + k) b)) → fill m (take k (drop a b)) ≡ take m (drop a b)
  unfolding fill
  filled z =
      ap (λ (n : ℕ). take k (drop a b) ++ replicate n 0) over
      ∙ ap (λ (x : List ℕ). take k (drop a b) ++ x) (sym z) ∙ sym two

  pub unfilled : fill m (take k (drop a b)) ≡ take m (drop a b) → Zero (take (e - (a + k)) (drop (a + k) b))
  unfolding fill
  unfilled w =
      sym (drop_at (take k (drop a b)) (take (e - (a + k)) (drop (a + k) b)) k front)
      ∙ ap (drop k) (sym two ∙ sym w)
      ∙ drop_at (take k (drop a b)) (replicate (m - length (take k (drop a b))) 0) k front
      ∙ ap (λ (n : ℕ). replicate n 0) over

-- ---- lists by their places
unfoldable places : List ℕ → ℕ → List ℕ
places b zero = []
places b (suc n) = places b n ++ (get_or b n 0 ∷ [])

take_places : (b : List ℕ) (n : ℕ) → n ≤ length b → take n b ≡ places b n
unfolding places
take_places b zero h = refl
take_places b (suc n) h = take-suc b n 0 h ∙ ap (λ (x : List ℕ). x ++ (get_or b n 0 ∷ [])) (take_places b n (omega arith))

cut : (b : List ℕ) (a m e : ℕ) → a + m ≡ e → take m (drop a b) ++ drop e b ≡ drop a b
cut b a m e q = ap (λ (x : List ℕ). take m (drop a b) ++ x) (ap (λ (n : ℕ). drop n b) (sym q) ∙ sym (drop-drop m a b)) ∙ take-append-drop m (drop a b)

fill-four : (xs : List ℕ) → length xs ≤ 384 → fill 384 xs ++ replicate 4 0 ≡ fill 388 xs
unfolding fill
fill-four xs h =
    let n : 384 - length xs + 4 ≡ 388 - length xs = omega arith in
    append_assoc xs (replicate (384 - length xs) 0) (replicate 4 0)
    ∙ ap (λ (x : List ℕ). xs ++ x) (replicate-append-replicate (384 - length xs) 4 0 ∙ ap (λ (k : ℕ). replicate k 0) n)

flat-body : (e : Entry) (r : List ℕ) → length e.value ≤ 384
    → body e ++ r ≡ head e ++ (fill 64 e.key ++ (fill 16 e.version ++ (fill 32 e.tag ++ (fill 388 e.value ++ r))))
unfolding body
flat-body e r h =
    flat (head e) (fill 64 e.key) (fill 16 e.version) (fill 32 e.tag) (fill 384 e.value) (replicate 4 0) r
    ∙ ap (λ (x : List ℕ). head e ++ (fill 64 e.key ++ (fill 16 e.version ++ (fill 32 e.tag ++ (x ++ r))))) (fill-four e.value h)
  where
    flat : (a b c d f g r : List ℕ) → (a ++ (b ++ (c ++ (d ++ (f ++ g))))) ++ r ≡ a ++ (b ++ (c ++ (d ++ ((f ++ g) ++ r))))
    flat a b c d f g r = simp append_assoc

-- a number is known by its four bytes
be-same : (m n : ℕ) → be32 m ≡ be32 n → m ≡ n
unfolding be32
be-same m n e = back m ∙ ap number e ∙ sym (back n)
  where
    number : List ℕ → ℕ
    number l = get_or l 0 0 * 16777216 + get_or l 1 0 * 65536 + get_or l 2 0 * 256 + get_or l 3 0

    back : (w : ℕ) → w ≡ w / 16777216 * 16777216 + w / 65536 % 256 * 65536 + w / 256 % 256 * 256 + w % 256
    back w = omega arith

pub good-sum : (b : List ℕ) → BlockGood b → SumRight b
unfolding block
good-sum b g =
    let e : Entry = decode b in
    let l = length-body e (sized g.fit) in
    let c : List ℕ = be32 (sum_from 0 (body e)) in
    ap (drop 508) (sym g.same) ∙ drop_at (body e) c 508 l
    ∙ ap (λ (x : List ℕ). be32 (sum_from 0 x)) (sym (take_at (body e) c 508 l) ∙ ap (take 508) g.same)

module _ (b : List ℕ) (h : length b ≡ 512) where
  pub last-four : drop 508 b ≡ get_or b 508 0 ∷ get_or b 509 0 ∷ get_or b 510 0 ∷ get_or b 511 0 ∷ []
  unfolding places
  last-four =
      let l : length (drop 508 b) ≡ 4 = length-drop 508 b ∙ (let z : length b - 508 ≡ 4 = omega arith in z) in
      let p0 = get_or-drop 508 b 0 0 in
      let p1 = get_or-drop 508 b 1 0 in
      let p2 = get_or-drop 508 b 2 0 in
      let p3 = get_or-drop 508 b 3 0 in
      sym (take_all 4 (drop 508 b) (omega arith)) ∙ take_places (drop 508 b) 4 (omega arith)
      ∙ (λ i. p0 i ∷ p1 i ∷ p2 i ∷ p3 i ∷ [])

  -- the head that the bytes read from it give
  head-same : Small b → get_or b 5 0 < 256 → get_or b 0 0 ≡ 1 → get_or b 7 0 ≡ 0 → head (decode b) ≡ take 8 b
  unfolding places head decode
  head-same s b5 f g =
      let s2 = s.key in let s3 = s.version in let s4 = s.tag in let s5 = s.value in
      let l1 : length (take (get_or b 1 0) (drop 8 b)) ≡ get_or b 1 0 = length-take-le _ (drop 8 b) (let x = length-drop 8 b in omega arith) in
      let l2 : length (take (get_or b 2 0) (drop 72 b)) ≡ get_or b 2 0 = length-take-le _ (drop 72 b) (let x = length-drop 72 b in omega arith) in
      let l3 : length (take (get_or b 3 0) (drop 88 b)) ≡ get_or b 3 0 = length-take-le _ (drop 88 b) (let x = length-drop 88 b in omega arith) in
      let l4 : length (take (get_or b 4 0 * 256 + get_or b 5 0) (drop 120 b)) ≡ get_or b 4 0 * 256 + get_or b 5 0 = length-take-le _ (drop 120 b) (let x = length-drop 120 b in omega arith) in
      let q4 : length (take (get_or b 4 0 * 256 + get_or b 5 0) (drop 120 b)) / 256 ≡ get_or b 4 0 = omega arith in
      let q5 : length (take (get_or b 4 0 * 256 + get_or b 5 0) (drop 120 b)) % 256 ≡ get_or b 5 0 = omega arith in
      let f' = sym f in
      let g' = sym g in
      (λ i. f' i ∷ l1 i ∷ l2 i ∷ l3 i ∷ q4 i ∷ q5 i ∷ get_or b 6 0 ∷ g' i ∷ [])
      ∙ sym (take_places b 8 (omega arith))

  -- the last four bytes are those of the number that they hold
  held_bytes : {u : ℕ} → Held b u → drop 508 b ≡ be32 u
  unfolding be32 number_at
  held_bytes {u} d =
      let q = d.same in let b1 = d.byte1 in let b2 = d.byte2 in let b3 = d.byte3 in
      let e0 : get_or b 508 0 ≡ u / 16777216 = omega arith in
      let e1 : get_or b 509 0 ≡ u / 65536 % 256 = omega arith in
      let e2 : get_or b 510 0 ≡ u / 256 % 256 = omega arith in
      let e3 : get_or b 511 0 ≡ u % 256 = omega arith in
      last-four ∙ (λ i. e0 i ∷ e1 i ∷ e2 i ∷ e3 i ∷ [])

  pub held-decides : {s u : ℕ} → s ≡ sum_from 0 (take 508 b) → Held b u → Decides (eqb s u) (SumRight b)
  held-decides {s} {u} p d =
      decides-by (λ e. held_bytes d ∙ ap be32 (sym e ∙ p)) (λ q. p ∙ be-same _ _ (sym q ∙ held_bytes d)) (eqb-decides s u)

  value-short : Small b → length (decode b).value ≤ 384
  value-short s = (fit_of b h s).value_fits

  whole : Small b → get_or b 5 0 < 256 → Direct b (get_or b 1 0) (get_or b 2 0) (get_or b 3 0) (get_or b 4 0 * 256 + get_or b 5 0) → body (decode b) ++ drop 508 b ≡ b
  unfolding decode
  whole s b5 d =
      let s2 = s.key in let s3 = s.version in let s4 = s.tag in let s5 = s.value in
      let p0 = head-same s b5 d.first d.eighth in
      let p1 = filled b 8 64 72 (get_or b 1 0) refl s2 (omega arith) d.key in
      let p2 = filled b 72 16 88 (get_or b 2 0) refl s3 (omega arith) d.version in
      let p3 = filled b 88 32 120 (get_or b 3 0) refl s4 (omega arith) d.tag in
      let p4 = filled b 120 388 508 (get_or b 4 0 * 256 + get_or b 5 0) refl (omega arith) (omega arith) d.value in
      flat-body (decode b) (drop 508 b) (value-short s)
      ∙ (λ i. p0 i ++ (p1 i ++ (p2 i ++ (p3 i ++ (p4 i ++ drop 508 b)))))
      ∙ ap (λ (x : List ℕ). take 8 b ++ (take 64 (drop 8 b) ++ (take 16 (drop 72 b) ++ (take 32 (drop 88 b) ++ x)))) (cut b 120 388 508 refl)
      ∙ ap (λ (x : List ℕ). take 8 b ++ (take 64 (drop 8 b) ++ (take 16 (drop 72 b) ++ x))) (cut b 88 32 120 refl)
      ∙ ap (λ (x : List ℕ). take 8 b ++ (take 64 (drop 8 b) ++ x)) (cut b 72 16 88 refl)
      ∙ ap (λ (x : List ℕ). take 8 b ++ x) (cut b 8 64 72 refl)
      ∙ take-append-drop 8 b

  good-here : Small b → get_or b 5 0 < 256 → SumRight b → Direct b (get_or b 1 0) (get_or b 2 0) (get_or b 3 0) (get_or b 4 0 * 256 + get_or b 5 0) → BlockGood b
  unfolding block
  good-here s b5 q d =
      let f : Fit (decode b) = fit_of b h s in
      let w = whole s b5 d in
      let t : body (decode b) ≡ take 508 b = sym (take_at (body (decode b)) (drop 508 b) 508 (length-body (decode b) (sized f))) ∙ ap (take 508) w in
      record {
        fit = f;
        same = ap (λ (x : List ℕ). body (decode b) ++ x) (ap (λ (x : List ℕ). be32 (sum_from 0 x)) t ∙ sym q) ∙ w;
      }

  direct-here : BlockGood b → Direct b (get_or b 1 0) (get_or b 2 0) (get_or b 3 0) (get_or b 4 0 * 256 + get_or b 5 0)
  unfolding block decode head
  direct-here g =
      let f = g.fit in
      let s = small_of b h g in
      let s2 = s.key in let s3 = s.version in let s4 = s.tag in let s5 = s.value in
      let e : Entry = decode b in
      let w : ℕ = sum_from 0 (body e) in
      let r4 : List ℕ = fill 388 e.value ++ be32 w in
      let r3 : List ℕ = fill 32 e.tag ++ r4 in
      let r2 : List ℕ = fill 16 e.version ++ r3 in
      let r1 : List ℕ = fill 64 e.key ++ r2 in
      let w0 : b ≡ head e ++ r1 = sym g.same ∙ flat-body e (be32 w) f.value_fits in
      let d1 : drop 8 b ≡ r1 = ap (drop 8) w0 ∙ drop_at (head e) r1 8 refl in
      let k1 = length-fill 64 e.key f.key_fits in
      let k2 = length-fill 16 e.version f.version_fits in
      let k3 = length-fill 32 e.tag f.tag_fits in
      let vf = f.value_fits in
      let k4 = length-fill 388 e.value (omega arith) in
      let d2 : drop 72 b ≡ r2 = sym (drop-drop 64 8 b) ∙ ap (drop 64) d1 ∙ drop_at (fill 64 e.key) r2 64 k1 in
      let d3 : drop 88 b ≡ r3 = sym (drop-drop 16 72 b) ∙ ap (drop 16) d2 ∙ drop_at (fill 16 e.version) r3 16 k2 in
      let d4 : drop 120 b ≡ r4 = sym (drop-drop 32 88 b) ∙ ap (drop 32) d3 ∙ drop_at (fill 32 e.tag) r4 32 k3 in
      let t1 : take 64 (drop 8 b) ≡ fill 64 e.key = ap (take 64) d1 ∙ take_at (fill 64 e.key) r2 64 k1 in
      let t2 : take 16 (drop 72 b) ≡ fill 16 e.version = ap (take 16) d2 ∙ take_at (fill 16 e.version) r3 16 k2 in
      let t3 : take 32 (drop 88 b) ≡ fill 32 e.tag = ap (take 32) d3 ∙ take_at (fill 32 e.tag) r4 32 k3 in
      let t4 : take 388 (drop 120 b) ≡ fill 388 e.value = ap (take 388) d4 ∙ take_at (fill 388 e.value) (be32 w) 388 k4 in
      record {
        first = ap (λ (x : List ℕ). get_or x 0 0) w0;
        eighth = ap (λ (x : List ℕ). get_or x 7 0) w0;
        key = unfilled b 8 64 72 (get_or b 1 0) refl s2 (omega arith) (sym t1);
        version = unfilled b 72 16 88 (get_or b 2 0) refl s3 (omega arith) (sym t2);
        tag = unfilled b 88 32 120 (get_or b 3 0) refl s4 (omega arith) (sym t3);
        value = unfilled b 120 388 508 (get_or b 4 0 * 256 + get_or b 5 0) refl (omega arith) (omega arith) (sym t4);
      }

-- the lengths under other names
renamed : (b : List ℕ) {k k' v v' t t' n n' : ℕ} → k ≡ k' → v ≡ v' → t ≡ t' → n ≡ n' → Direct b k v t n → Direct b k' v' t' n'
renamed b {k} {k'} {v} {v'} {t} {t'} {n} {n'} p q r s d =
    subst (λ (x : ℕ). Direct b k' v' t' x) s (subst (λ (x : ℕ). Direct b k' v' x n) r (subst (λ (x : ℕ). Direct b k' x t n) q (subst (λ (x : ℕ). Direct b x v t n) p d)))

module _ (b : List ℕ) (h : length b ≡ 512) (k v t n : ℕ) (p : k ≡ get_or b 1 0) (q : v ≡ get_or b 2 0) (r : t ≡ get_or b 3 0) (s : n ≡ get_or b 4 0 * 256 + get_or b 5 0) where
  pub direct : BlockGood b → Direct b k v t n
  direct g = renamed b (sym p) (sym q) (sym r) (sym s) (direct-here b h g)

  pub direct_good : Small b → get_or b 5 0 < 256 → SumRight b → Direct b k v t n → BlockGood b
  direct_good m b5 u d = good-here b h m b5 u (renamed b p q r s d)

-- ---- zeros by or
or_left : (x y : ℕ) → bit_or x y ≡ 0 → x ≡ 0
or_left x y e = let s = or_add_and x y in let a = and_le_r x y in omega arith

or_right : (x y : ℕ) → bit_or x y ≡ 0 → y ≡ 0
or_right x y e = let s = or_add_and x y in let a = and_le_l x y in omega arith

or-none : (x y : ℕ) → x ≡ 0 → y ≡ 0 → bit_or x y ≡ 0
or-none x y e f = let s = or_add_and x y in omega arith

ored-zeros : (o : ℕ) (s : List ℕ) → ored o s ≡ 0 → (o ≡ 0) × (s ≡ replicate (length s) 0)
ored-zeros o [] e = (e, refl)
ored-zeros o (b ∷ s) e =
    let r = ored-zeros (bit_or o b) s e in
    (or_left o b r.0, ap₂ (λ (z : ℕ) (zs : List ℕ). z ∷ zs) (or_right o b r.0) r.1)

zeros-ored : (o n : ℕ) → o ≡ 0 → ored o (replicate n 0) ≡ 0
zeros-ored o zero e = e
zeros-ored o (suc n) e = zeros-ored (bit_or o 0) n (or-none o 0 e refl)

pub ored-decides : (s : List ℕ) → Decides (eqb (ored 0 s) 0) (s ≡ replicate (length s) 0)
ored-decides s =
    decides-by (λ e. (ored-zeros 0 s e).1) (λ z. ap (ored 0) z ∙ zeros-ored 0 (length s) refl) (eqb-decides (ored 0 s) 0)
