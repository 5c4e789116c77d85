-- What is known of the places of good readings, and how their list is walked. Assumes nothing.
use Rattle.std.specs.Prelude.{◌≡◌, refl, ℕ, zero, suc, ◌+◌, ◌-◌, ◌*◌, ◌≤◌, ◌<◌, min, Bool, true, false, not, cond, ◌&&◌, List, [], ◌∷◌, leb, eqb, length, get_or, take, drop}
use Rattle.std.proofs.Common.{sym, ap, ap₂, ◌∙◌, subst, lt_of_not-le, not-le_of_lt, arith, length-take, length-drop}
use Rattle.std.proofs.lemmas.Bool.{false≢true}
use Rattle.std.proofs.Math.Option.{none, some}
use borrow.Author.Tests.{lt-leb, le-leb, leb-true, leb-false, eqb-true}
use Rattle.log_binary32.specs.Binary32.{finite}
use Rattle.log_binary32.specs.Celsius.{celsius_of, finite_of, sent_of, sent_bits}
use Rattle.log_binary32.proofs.CelsiusLaws.{celsius-word, sent-finite}
use Rattle.log_readings.specs.Lent.{bits_at, lent_at, place_at, places_from, temperatures, utilizations, name_good, all_named, readings_good, temperature_sample, utilization_sample, sample_of}
use Rattle.log_readings.specs.Places.{Placed, Places, name_length, fits}

-- ---- two tests in one
first_holds : (x y : Bool) → (x && y) ≡ true → x ≡ true
first_holds true y e = refl
first_holds false y e = e

second_holds : (x y : Bool) → (x && y) ≡ true → y ≡ true
second_holds true y e = e
second_holds false y e = absurd (false≢true e)

pub name-bounds : (name : List ℕ) → name_good name ≡ true → (1 ≤ length name) × (length name ≤ 16)
name-bounds name e = (leb-true 1 (length name) (first_holds _ _ e), leb-true (length name) 16 (second_holds (leb 1 (length name)) _ e))

-- ---- good readings: the places of each kind
all_named_lem : (l : List ℕ) (i n : ℕ) → all_named (places_from l i n) ≡ true → (j : ℕ) → j < n → name_good (place_at l (i + j)).name ≡ true
unfolding all_named places_from
all_named_lem l i zero e j h = absurd (omega arith)
all_named_lem l i (suc n) e zero h =
    let s : i ≡ i + 0 = omega arith in
    subst (λ (k : ℕ). name_good (place_at l k).name ≡ true) s (first_holds (name_good (place_at l i).name) (all_named (places_from l (i + 1) n)) e)
all_named_lem l i (suc n) e (suc j) h =
    let s : i + 1 + j ≡ i + suc j = omega arith in
    subst (λ (k : ℕ). name_good (place_at l k).name ≡ true) s (all_named_lem l (i + 1) n (second_holds (name_good (place_at l i).name) _ e) j (omega arith))

module _ (l : List ℕ) (g : readings_good l ≡ true) where
  pub good-long : length l ≡ 134
  unfolding readings_good
  good-long = eqb-true (length l) 134 (first_holds _ _ g)

  counts : (leb (get_or l 0 0) 4 && (leb (get_or l 1 0) 2 && (all_named (temperatures l) && all_named (utilizations l)))) ≡ true
  unfolding readings_good
  counts = second_holds (eqb (length l) 134) _ g

  pub good-temperatures : get_or l 0 0 ≤ 4
  good-temperatures = leb-true (get_or l 0 0) 4 (first_holds _ _ counts)

  names : (leb (get_or l 1 0) 2 && (all_named (temperatures l) && all_named (utilizations l))) ≡ true
  names = second_holds (leb (get_or l 0 0) 4) _ counts

  pub good-utilizations : get_or l 1 0 ≤ 2
  good-utilizations = leb-true (get_or l 1 0) 2 (first_holds _ _ names)

  both-named : (all_named (temperatures l) && all_named (utilizations l)) ≡ true
  both-named = second_holds (leb (get_or l 1 0) 2) _ names

  pub temperatures-placed : Places l 0 (get_or l 0 0)
  temperatures-placed = record {
    few = good-temperatures;
    each = λ (i : ℕ) (h : i < get_or l 0 0). record {
      long = good-long;
      place = let c = good-temperatures in omega arith;
      named = all_named_lem l 0 (get_or l 0 0) (first_holds _ _ both-named) i h;
    };
  }

  pub utilizations-placed : Places l 4 (get_or l 1 0)
  utilizations-placed = record {
    few = let c = good-utilizations in omega arith;
    each = λ (i : ℕ) (h : i < get_or l 1 0). record {
      long = good-long;
      place = let c = good-utilizations in omega arith;
      named = all_named_lem l 4 (get_or l 1 0) (second_holds (all_named (temperatures l)) _ both-named) i h;
    };
  }

-- ---- a walk from the last place to the first
pub places-length : (l : List ℕ) (i n : ℕ) → length (places_from l i n) ≡ n
unfolding places_from
places-length l i zero = refl
places-length l i (suc n) = ap suc (places-length l (i + 1) n)

pub places-none : (l : List ℕ) (first n : ℕ) → places_from l (first + n) (n - n) ≡ []
unfolding places_from
places-none l first n =
    let z : n - n ≡ 0 = omega arith in
    ap (places_from l (first + n)) z

pub places-step : (l : List ℕ) (first i n : ℕ) → i < n → places_from l (first + i) (n - i) ≡ place_at l (first + i) ∷ places_from l (first + (i + 1)) (n - (i + 1))
unfolding places_from
places-step l first i n h =
    let s : n - i ≡ suc (n - (i + 1)) = omega arith in
    let t : first + i + 1 ≡ first + (i + 1) = omega arith in
    ap (places_from l (first + i)) s ∙ ap (λ k. place_at l (first + i) ∷ places_from l k (n - (i + 1))) t

leb-same : (a b c d : ℕ) → (a ≤ b → c ≤ d) → (c ≤ d → a ≤ b) → leb a b ≡ leb c d
leb-same a b c d f g = go (leb c d) refl
  where
    go : (t : Bool) → leb c d ≡ t → leb a b ≡ t
    go true e = le-leb a b (g (leb-true c d e))
    go false e = lt-leb a b (lt_of_not-le (λ (h : a ≤ b). not-le_of_lt (leb-false c d e) (f h)))

fits-same : (n m : ℕ) → 20 ≤ m → fits (min n m) ≡ fits n
fits-same n m h = ap₂ ◌&&◌ (leb-same 1 (min n m) 1 n (λ (k : 1 ≤ min n m). omega arith) (λ (k : 1 ≤ n). omega arith)) (leb-same (min n m) 16 n 16 (λ (k : min n m ≤ 16). omega arith) (λ (k : n ≤ 16). omega arith))

pub name-is : (l : List ℕ) (i : ℕ) → (place_at l i).name ≡ take (name_length l i) (drop (4 + i * 22) l)
unfolding lent_at
name-is l i =
    let s : 2 + i * 22 + 1 ≡ 3 + i * 22 = omega arith in
    let t : 2 + i * 22 + 2 ≡ 4 + i * 22 = omega arith in
    ap₂ (λ k a. take (get_or l k 0) (drop a l)) s t

pub name-test : (l : List ℕ) (i : ℕ) → length l ≡ 134 → i < 6 → name_good (place_at l i).name ≡ fits (name_length l i)
name-test l i e h =
    let n = name_length l i in
    let m : length (place_at l i).name ≡ min n (length l - (4 + i * 22)) = ap length (name-is l i) ∙ length-take n (drop (4 + i * 22) l) ∙ ap (min n) (length-drop (4 + i * 22) l) in
    ap fits m ∙ fits-same n (length l - (4 + i * 22)) (room (length l) i e h)
  where
    room : (a j : ℕ) → a ≡ 134 → j < 6 → 20 ≤ a - (4 + j * 22)
    room a j x y = omega arith

pub names-step : (l : List ℕ) (i n : ℕ) → length l ≡ 134 → i < 6 → 0 < n → all_named (places_from l i n) ≡ (fits (name_length l i) && all_named (places_from l (i + 1) (n - 1)))
unfolding places_from all_named
names-step l i zero e h p = absurd (omega arith)
names-step l i (suc n) e h p =
    let s : n ≡ suc n - 1 = omega arith in
    ap₂ (λ t k. t && all_named (places_from l (i + 1) k)) (name-test l i e h) s

pub names-end : (l : List ℕ) (i n : ℕ) → n ≤ 0 → all_named (places_from l i n) ≡ true
unfolding places_from all_named
names-end l i zero h = refl
names-end l i (suc n) h = absurd (omega arith)

-- ---- of bytes, what is sent is a number of 32 bits
pub bits-word : (l : List ℕ) (a : ℕ) → ((k : ℕ) → get_or l k 0 < 256) → bits_at l a < 4294967296
unfolding bits_at
bits-word l a b = word (get_or l a 0) (get_or l (a + 1) 0) (get_or l (a + 2) 0) (get_or l (a + 3) 0) (b a) (b (a + 1)) (b (a + 2)) (b (a + 3))
  where
    word : (w x y z : ℕ) → w < 256 → x < 256 → y < 256 → z < 256 → w * 16777216 + x * 65536 + y * 256 + z < 4294967296
    word w x y z p q r s = omega arith

finite-word : (b v : ℕ) → b < 4294967296 → finite_of b ≡ some v → v < 4294967296
unfolding finite_of
finite-word b v h = go (finite b)
  where
    go : (t : Bool) → cond t (some b) none ≡ some v → v < 4294967296
    go true e = let s : b ≡ v = cc in omega arith
    go false e = let z : ◌≡◌ {A = ℕ} 0 1 = cc in absurd (omega arith)

pub sample-word : (t : Bool) (l : List ℕ) (i v : ℕ) → ((k : ℕ) → get_or l k 0 < 256) → (sample_of t (place_at l i)).value ≡ some v → v < 4294967296
unfolding temperature_sample utilization_sample lent_at
sample-word true l i v b e = finite-word (celsius_of (place_at l i).fahrenheit (place_at l i).bits) v (celsius-word (place_at l i).fahrenheit (place_at l i).bits (bits-word l (2 + i * 22 + 18) b)) e
sample-word false l i v b e = finite-word (place_at l i).bits v (bits-word l (2 + i * 22 + 18) b) e

-- ---- the steps of the code
-- a walk that decides: it stops where a test fails, and goes on where it holds
pub stops : {x : Bool} (y : Bool) {g h : Bool} → g ≡ (x && y) → g ≡ h → x ≡ false → false ≡ h
stops {x} y t i e = sym (ap (λ (b : Bool). b && y) e) ∙ sym t ∙ i

pub goes : {x y g h : Bool} → g ≡ (x && y) → g ≡ h → x ≡ true → y ≡ h
goes {x} {y} t i e = sym (ap (λ (b : Bool). b && y) e) ∙ sym t ∙ i

pub temperature-value : (l : List ℕ) (i : ℕ) → sent_bits (sent_of (celsius_of (not (eqb (get_or l (2 + i * 22) 0) 0)) (bits_at l (2 + i * 22 + 18)))) ≡ (sample_of true (place_at l i)).value
unfolding temperature_sample lent_at
temperature-value l i = sent-finite (celsius_of (not (eqb (get_or l (2 + i * 22) 0) 0)) (bits_at l (2 + i * 22 + 18)))

pub utilization-value : (l : List ℕ) (i : ℕ) → sent_bits (sent_of (bits_at l (2 + i * 22 + 18))) ≡ (sample_of false (place_at l i)).value
unfolding utilization_sample lent_at
utilization-value l i = sent-finite (bits_at l (2 + i * 22 + 18))

-- the name's part of the bytes, by its length's byte
pub name-byte : {l : List ℕ} {i : ℕ} → Placed l i → name_length l i ≤ 16
name-byte {l} {i} p = leb-true (name_length l i) 16 (second_holds (leb 1 (name_length l i)) (leb (name_length l i) 16) (sym (name-test l i p.long p.place) ∙ p.named))
