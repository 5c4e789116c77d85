-- Laws of one turn of a loop.
use Rattle.std.specs.Prelude.{ℕ, suc, ◌+◌, ◌/◌, ◌%◌, ◌≤◌, ◌<◌, ◌≡◌, List, [], ◌∷◌, Bool, true, false, cond, ltb, length, drop, set, get_or}
use Rattle.std.proofs.Common.{arith, add-one, sym, ap, ◌∙◌, subst, length-drop, drop-cons}
use Rattle.fields_wire.specs.Varint.{varint_up, varint_bytes}
use Rattle.fields_wire.specs.VarintLaws.{varint-one, varint-more}
use Rattle.fields_write_bytes.specs.Pushed.{Pushed}
use Rattle.fields_write_bytes.proofs.PushedLaws.{copying-next, copying-all}
use Rattle.fields_write_bytes.specs.Copying.{Copying}
use Rattle.fields_write_varint.specs.Groups.{Grouping}

pub one-room : (v at : ℕ) → length (varint_bytes v) ≤ at → 1 ≤ at
unfolding varint_up
one-room v at l = go (ltb v 128) l
  where
    go : (t : Bool) → length (cond t (v ∷ []) ((v % 128 + 128) ∷ varint_up 8 (v / 128))) ≤ at → 1 ≤ at
    go true l = omega arith
    go false l = omega arith

-- the next byte of a list
next-byte : (l : List ℕ) (i b : ℕ) (r : List ℕ) → drop i l ≡ b ∷ r → (i < length l) × (get_or l i 0 ≡ b) × (drop (i + 1) l ≡ r)
next-byte l i b r e =
    let h : i < length l = omega (arith, length-drop i l, ap length e) in
    let d : get_or l i 0 ∷ drop (suc i) l ≡ b ∷ r = sym (drop-cons l i 0 h) ∙ e in
    let x : get_or l i 0 ≡ b = cc in
    let y : drop (suc i) l ≡ r = cc in
    (h, x, ap (λ j. drop j l) (add-one i) ∙ y)

pub group-next : {p i at v rest : ℕ} {l m : List ℕ} → Grouping at v l p i rest m → 128 ≤ rest
    → Grouping at v l p (i + 1) (rest / 128) (set m (p + i) (rest % 128 + 128))
group-next {p} {i} {at} {v} {rest} {l} {m} w h =
    let n = next-byte (varint_bytes v) i (rest % 128 + 128) (varint_bytes (rest / 128)) (w.left ∙ varint-more rest h w.range) in
    let r = w.range in
    record {
      copying = subst (λ b. Copying at (varint_bytes v) l p (i + 1) (set m (p + i) b)) n.1 (copying-next w.copying n.0);
      left = n.2;
      range = omega arith;
    }

pub group-last : {p i at v rest : ℕ} {l m : List ℕ} → Grouping at v l p i rest m → rest < 128 → Pushed p at (varint_bytes v) l (set m (p + i) rest)
group-last {p} {i} {at} {v} {rest} {l} {m} w h =
    let n = next-byte (varint_bytes v) i rest [] (w.left ∙ varint-one rest h) in
    let c = subst (λ b. Copying at (varint_bytes v) l p (i + 1) (set m (p + i) b)) n.1 (copying-next w.copying n.0) in
    copying-all c (omega (arith, length-drop (i + 1) (varint_bytes v), ap length n.2))

pub group-room : {p i at v rest : ℕ} {l m : List ℕ} → Grouping at v l p i rest m → p + i < length m
group-room {p} {i} {at} {v} {rest} {l} {m} w =
    let c = w.copying in
    let f = c.from in
    let g = c.fits in
    let long = c.long in
    omega (arith, one-room rest (length (varint_bytes rest)) (omega arith), ap length w.left, length-drop i (varint_bytes v))
