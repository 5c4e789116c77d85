-- What follows of `Frame`: the two lengths of a frame are read back, and so is the frame.
use Rattle.std.specs.Prelude.{ℕ, ◌+◌, ◌*◌, ◌/◌, ◌%◌, ◌≡◌, refl, List, ◌++◌, length, take, drop}
use Rattle.std.proofs.Common.{arith, sym, ap, ◌∙◌, append_assoc, length-append, take_at, drop_at, drop-drop, le-leb}
use Rattle.base_definitions.specs.BigEndian.{be32}
use Rattle.protocol.specs.Frame.{frame, whole, cut_at, frame_of, Fits}

pub num-be32 : (n : ℕ) → n / 16777216 * 16777216 + n / 65536 % 256 * 65536 + n / 256 % 256 * 256 + n % 256 ≡ n
num-be32 n = omega arith

cut-read : (s m v rest : List ℕ) → drop 9 s ≡ m ++ (v ++ rest) → length s ≡ 9 + length (m ++ (v ++ rest)) → cut_at s (length m) (length v) ≡ whole m v rest
cut-read s m v rest e l =
    let n : length (m ++ (v ++ rest)) ≡ length m + (length v + length rest) = length-append m (v ++ rest) ∙ ap (λ n. length m + n) (length-append v rest) in
    let a : take (length m) (drop 9 s) ≡ m = ap (take (length m)) e ∙ take_at m (v ++ rest) (length m) refl in
    let b : drop (9 + length m) s ≡ v ++ rest = sym (drop-drop (length m) 9 s) ∙ ap (drop (length m)) e ∙ drop_at m (v ++ rest) (length m) refl in
    let c : take (length v) (drop (9 + length m) s) ≡ v = ap (take (length v)) b ∙ take_at v rest (length v) refl in
    let d : drop (9 + length m + length v) s ≡ rest = sym (drop-drop (length v) (9 + length m) s) ∙ ap (drop (length v)) b ∙ drop_at v rest (length v) refl in
    rw (le-leb (9 + length m + length v) (length s) (omega arith)) (rw (a, c, d))

pub frame-read : {m v : List ℕ} (rest : List ℕ) → Fits m v → frame_of (frame m v ++ rest) ≡ whole m v rest
unfolding frame_of frame be32
frame-read {m} {v} rest h =
    rw (num-be32 (length m), num-be32 (length v), le-leb (length m) 8192 h.message, le-leb (length v) 1024 h.value)
    (cut-read (frame m v ++ rest) m v rest (append_assoc m v rest) (omega (arith, ap length (append_assoc m v rest))))
