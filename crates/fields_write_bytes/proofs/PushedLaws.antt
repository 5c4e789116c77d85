-- Writings compose: one in front of another, a message inside, the parts of a tree.
use Rattle.std.specs.Prelude.{ℕ, ◌+◌, ◌-◌, ◌≤◌, ◌<◌, ◌≡◌, refl, List, [], ◌∷◌, ◌++◌, length, take, drop, set, get_or}
use Rattle.std.proofs.Common.{arith, add-one, sym, ap, ap₂, ◌∙◌, append-nil, append_assoc, length-append, length-set, take-append-drop, drop_at, length-take-le, take-take, take_all}
use Rattle.std.proofs.lemmas.List.{set_split, take-append-le}
use Rattle.std.proofs.Math.Seq.{drop-length, paste, paste-zero, paste-suc}
use Rattle.fields_encoding.specs.Encode.{head, len_field}
use Rattle.fields_write_bytes.specs.Pushed.{Pushed, Starts}
use Rattle.fields_write_bytes.specs.Copying.{Copying}

-- from r on: the bytes, and what stood behind them
pub pushed-tail : {r at : ℕ} {bs l m : List ℕ} → Pushed r at bs l m → drop r m ≡ bs ++ drop at l
pushed-tail {r} {at} {bs} {l} w =
    let f = w.from in
    let g = w.fits in
    ap (drop r) w.same ∙ drop_at (take r l) (bs ++ drop at l) r (length-take-le r l (omega arith))

-- before r: nothing changed
pub pushed_front : {r at : ℕ} {bs l m : List ℕ} (i : ℕ) → i ≤ r → Pushed r at bs l m → take i m ≡ take i l
pushed_front {r} {at} {bs} {l} i h w =
    let f = w.from in
    let g = w.fits in
    ap (take i) w.same ∙ take-append-le i (take r l) (bs ++ drop at l) (omega (arith, length-take-le r l (omega arith))) ∙ take-take i r l h

-- one writing in front of another
infixl 40 ◌onto◌
pub ◌onto◌ : {r a at : ℕ} {xs ys l m n : List ℕ} → Pushed r a xs m n → Pushed a at ys l m → Pushed r at (xs ++ ys) l n
◌onto◌ {r} {a} {at} {xs} {ys} {l} {m} {n} p q =
    let pf = p.from in
    let qf = q.from in
    let pl = p.long in
    let ql = q.long in
    record {
      from = omega (arith, length-append xs ys);
      fits = q.fits;
      long = omega arith;
      same = p.same ∙ ap₂ (λ s t. s ++ (xs ++ t)) (pushed_front r (omega arith) q) (pushed-tail q) ∙ ap (λ t. take r l ++ t) (sym (append_assoc xs ys (drop at l)));
    }

-- the same bytes in other words
pub again : {r at : ℕ} {xs ys l m : List ℕ} → xs ≡ ys → Pushed r at xs l m → Pushed r at ys l m
again e w = rw e at w

pub pushed_none : (at : ℕ) (l : List ℕ) → at ≤ length l → Pushed at at [] l l
pushed_none at l h = record { from = omega arith; fits = h; long = refl; same = sym (take-append-drop at l) }

-- one store
pub pushed-set : (l : List ℕ) (r at b : ℕ) → r + 1 ≡ at → at ≤ length l → Pushed r at (b ∷ []) l (set l r b)
pushed-set l r at b e h = record {
  from = omega arith;
  fits = h;
  long = simp length-set;
  same = set_split l r b (omega arith) ∙ ap (λ k. take r l ++ (b ∷ drop k l)) (sym (add-one r) ∙ e);
}

-- the length and tag of a message in front of its bytes
pub pushed-sub : {r a at : ℕ} {bs l m n : List ℕ} (k : ℕ) → Pushed r a (head k (at - a)) m n → Pushed a at bs l m → Pushed r at (len_field k bs) l n
pushed-sub {r} {a} {at} {bs} k p q =
    let qf = q.from in
    let e : at - a ≡ length bs = omega arith in
    (rw e at p) onto q

-- all that stands from r on, where nothing stood behind
pub pushed_whole : {r : ℕ} {bs l m : List ℕ} → Pushed r (length l) bs l m → drop r m ≡ bs
pushed_whole {bs = bs} {l = l} p = pushed-tail p ∙ ap (λ t. bs ++ t) (drop-length l) ∙ append-nil bs

-- bytes written in front of their own end
pub pushed-starts : {r n : ℕ} {bs l m : List ℕ} → n ≡ length bs → Pushed r n bs l m → Starts n bs l m
pushed-starts {r} {n} {bs} {l} h p =
    let f = p.from in
    let z : r ≡ 0 = omega arith in
    record { next = h; same = p.same ∙ ap (λ k. take k l ++ (bs ++ drop n l)) z }

pub starts-again : {r : ℕ} {xs ys l m : List ℕ} → xs ≡ ys → Starts r xs l m → Starts r ys l m
starts-again e w = rw e at w

pub copying-none : {p at : ℕ} {src l : List ℕ} → p + length src ≡ at → at ≤ length l → Copying at src l p 0 l
copying-none {p} {at} {src} {l} h k = record { from = h; fits = k; within = omega arith; long = refl; same = paste-zero l p src }

pub copying-next : {p i at : ℕ} {src l m : List ℕ} → Copying at src l p i m → i < length src → Copying at src l p (i + 1) (set m (p + i) (get_or src i 0))
copying-next {p} {i} {at} {src} {l} {m} w h =
    let f = w.from in
    let g = w.fits in
    record {
      from = f;
      fits = g;
      within = omega arith;
      long = simp length-set w.long;
      same = ap (λ n. set n (p + i) (get_or src i 0)) w.same ∙ paste-suc l p src i 0 (omega arith) h ∙ ap (paste l p src) (sym (add-one i));
    }

pub copying-all : {p i at : ℕ} {src l m : List ℕ} → Copying at src l p i m → length src ≤ i → Pushed p at src l m
copying-all {p} {i} {at} {src} {l} {m} w h =
    let k = w.within in
    let e : i ≡ length src = omega arith in
    record {
      from = w.from;
      fits = w.fits;
      long = w.long;
      same = w.same ∙ append_assoc (take p l) (take i src) (drop (p + i) l)
          ∙ ap₂ (λ s j. take p l ++ (s ++ drop j l)) (take_all i src h) (ap (λ j. p + j) e ∙ w.from);
    }
