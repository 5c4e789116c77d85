-- Laws of one turn of a loop.
use Rattle.std.specs.Prelude.{◌≡◌, refl, List, [], ◌∷◌, ◌++◌, ℕ, ◌+◌, ◌≤◌, ◌<◌, length, take, drop, set, get_or, replicate}
use Rattle.std.proofs.Common.{sym, ap, ◌∙◌, arith, add-one, length-append, length-take, length-drop, take-append-drop, take-suc}
use Rattle.std.proofs.lemmas.List.{replicate-append-replicate, set_split}
use Rattle.access_record_bytes.specs.Wrote.{put, Wrote}
use Rattle.access_record_bytes.specs.WroteLaws.{renamed, ◌then◌}

length-put : (l : List ℕ) (a : ℕ) (bs : List ℕ) → a + length bs ≤ length l → length (put l a bs) ≡ length l
unfolding put
length-put l a bs h = simp (length-append, length-take, length-drop) (omega arith)

wrote : (a b : ℕ) (bs before after : List ℕ) → b ≡ a + length bs → b ≤ length before → after ≡ put before a bs → Wrote a b bs before after
wrote a b bs before after n r s =
    record { next = n; room = r; long = ap length s ∙ length-put before a bs (omega arith); same = s }

wrote_none : (a : ℕ) (l : List ℕ) → a ≤ length l → Wrote a a [] l l
unfolding put
wrote_none a l h =
    let z : a + 0 ≡ a = omega arith in
    record { next = omega arith; room = h; long = refl; same = sym (ap (λ (k : ℕ). take a l ++ drop k l) z ∙ take-append-drop a l) }

-- one store
wrote-set : (l : List ℕ) (a b : ℕ) → a < length l → Wrote a (a + 1) (b ∷ []) l (set l a b)
unfolding put
wrote-set l a b h =
    wrote a (a + 1) (b ∷ []) l (set l a b) refl (omega arith)
    (set_split l a b h ∙ ap (λ (k : ℕ). take a l ++ (b ∷ drop k l)) (sym (add-one a)))

-- one more byte of a list that is being copied
pub wrote-more : {l m : List ℕ} (a i : ℕ) (src : List ℕ) → i < length src → a + length src ≤ length l
    → Wrote a (a + i) (take i src) l m → Wrote a (a + (i + 1)) (take (i + 1) src) l (set m (a + i) (get_or src i 0))
wrote-more {l} {m} a i src h k w =
    let long = w.long in
    let whole : take i src ++ (get_or src i 0 ∷ []) ≡ take (i + 1) src = sym (rw add-one (take-suc src i 0 h)) in
    let end : a + i + 1 ≡ a + (i + 1) = omega arith in
    rw end at (renamed whole (w then wrote-set m (a + i) (get_or src i 0) (omega arith)))

pub wrote-start : (a : ℕ) (l : List ℕ) → a ≤ length l → Wrote a (a + 0) [] l l
wrote-start a l h = let e : a + 0 ≡ a = omega arith in rw e (wrote_none a l h)

-- one more zero
pub wrote-zero : {l m : List ℕ} (a i : ℕ) → a + i < length l
    → Wrote a (a + i) (replicate i 0) l m → Wrote a (a + (i + 1)) (replicate (i + 1) 0) l (set m (a + i) 0)
wrote-zero {l} {m} a i h w =
    let long = w.long in
    let zeros : List ℕ = replicate i 0 in
    let whole : zeros ++ (0 ∷ []) ≡ replicate (i + 1) 0 = replicate-append-replicate i 1 0 in
    let end : a + i + 1 ≡ a + (i + 1) = omega arith in
    rw end at (renamed whole (w then wrote-set m (a + i) 0 (omega arith)))
