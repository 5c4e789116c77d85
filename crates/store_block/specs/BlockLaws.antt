-- Laws of blocks: their length, and that a block holds its entry.
use Rattle.std.specs.Prelude.{◌≡◌, refl, List, [], ◌++◌, ℕ, ◌+◌, ◌-◌, ◌*◌, ◌/◌, ◌%◌, ◌≤◌, length, take, drop, replicate}
use Rattle.std.proofs.Common.{sym, ap, ap₂, ◌∙◌, subst, append_assoc, append-nil, arith, length-append, take_at, drop_at, drop-drop}
use Rattle.std.proofs.lemmas.List.{length-replicate}
use Rattle.store_block.specs.Entry.{Entry, Fit, Sized}
use Rattle.base_definitions.specs.BigEndian.{be32}
use Rattle.base_definitions.specs.Lists.{fill}
use Rattle.store_block.specs.Block.{sum_from, head, body, block, decode, BlockGood}

pub length-fill : (n : ℕ) (xs : List ℕ) → length xs ≤ n → length (fill n xs) ≡ n
unfolding fill
length-fill n xs h = simp (length-append, length-replicate) (omega arith)

pub take-fill : (n : ℕ) (xs rest : List ℕ) → take (length xs) (fill n xs ++ rest) ≡ xs
unfolding fill
take-fill n xs rest = ap (take (length xs)) (append_assoc xs (replicate (n - length xs) 0) rest) ∙ take_at xs _ (length xs) refl

pub sized : {e : Entry} → Fit e → Sized e
sized f = record { key_fits = f.key_fits; version_fits = f.version_fits; tag_fits = f.tag_fits; value_fits = f.value_fits }

module _ (e : Entry) (fit : Sized e) where
  pub length-body : length (body e) ≡ 508
  unfolding body head
  length-body =
      let a = length-fill 64 e.key fit.key_fits in
      let b = length-fill 16 e.version fit.version_fits in
      let c = length-fill 32 e.tag fit.tag_fits in
      let d = length-fill 384 e.value fit.value_fits in
      simp (length-append, length-replicate) (omega arith)

pub length-block : (e : Entry) → Sized e → length (block e) ≡ 512
unfolding block be32
length-block e fit = simp length-append (omega (arith, length-body e fit))

-- the parts of a block, one after the other
abbrev after_head : Entry → List ℕ → List ℕ
after_head e rest =
    fill 64 e.key ++ (fill 16 e.version ++ (fill 32 e.tag ++ (fill 384 e.value ++ (replicate 4 0 ++ (be32 (sum_from 0 (body e)) ++ rest)))))

shape : (e : Entry) (rest : List ℕ) → block e ++ rest ≡ head e ++ after_head e rest
unfolding block body
shape e rest = flat (head e) (fill 64 e.key) (fill 16 e.version) (fill 32 e.tag) (fill 384 e.value) (replicate 4 0) (be32 (sum_from 0 (body e))) rest
  where
    flat : (a b c d f g h r : List ℕ) → ((a ++ (b ++ (c ++ (d ++ (f ++ g))))) ++ h) ++ r ≡ a ++ (b ++ (c ++ (d ++ (f ++ (g ++ (h ++ r))))))
    flat a b c d f g h r = simp append_assoc

-- a list past a part of known length, and past one more
past : (a r : List ℕ) (n m : ℕ) → length a ≡ n → drop (n + m) (a ++ r) ≡ drop m r
past a r n m h = sym (drop-drop m n (a ++ r)) ∙ ap (drop m) (drop_at a r n h)

pub decode-block : (e : Entry) (rest : List ℕ) → Sized e → decode (block e ++ rest) ≡ e
unfolding decode head
decode-block e rest fit =
    let t1 : List ℕ = fill 384 e.value ++ (replicate 4 0 ++ (be32 (sum_from 0 (body e)) ++ rest)) in
    let t2 : List ℕ = fill 32 e.tag ++ t1 in
    let t3 : List ℕ = fill 16 e.version ++ t2 in
    let a = length-fill 64 e.key fit.key_fits in
    let b = length-fill 16 e.version fit.version_fits in
    let c = length-fill 32 e.tag fit.tag_fits in
    let pv : drop 64 (fill 64 e.key ++ t3) ≡ t3 = drop_at (fill 64 e.key) t3 64 a in
    let pt : drop 80 (fill 64 e.key ++ t3) ≡ t2 = past (fill 64 e.key) t3 64 16 a ∙ drop_at (fill 16 e.version) t2 16 b in
    let pw : drop 112 (fill 64 e.key ++ t3) ≡ t1 =
    past (fill 64 e.key) t3 64 48 a ∙ past (fill 16 e.version) t2 16 32 b ∙ drop_at (fill 32 e.tag) t1 32 c in
    let len : length e.value / 256 * 256 + length e.value % 256 ≡ length e.value = omega arith in
    let k1 : take (length e.key) (fill 64 e.key ++ t3) ≡ e.key = take-fill 64 e.key t3 in
    let k2 : take (length e.version) (drop 64 (fill 64 e.key ++ t3)) ≡ e.version =
    ap (take (length e.version)) pv ∙ take-fill 16 e.version t2 in
    let k3 : take (length e.tag) (drop 80 (fill 64 e.key ++ t3)) ≡ e.tag = ap (take (length e.tag)) pt ∙ take-fill 32 e.tag t1 in
    let k4 : take (length e.value / 256 * 256 + length e.value % 256) (drop 112 (fill 64 e.key ++ t3)) ≡ e.value =
    ap₂ take len pw ∙ take-fill 384 e.value (replicate 4 0 ++ (be32 (sum_from 0 (body e)) ++ rest)) in
    ap decode (shape e rest)
    ∙ (λ i. record { key = k1 i; version = k2 i; tag = k3 i; value = k4 i; algorithm = e.algorithm })

-- the block of an entry whose parts fit their places is good exactly when the entry fits
pub decode-own : (e : Entry) → Sized e → decode (block e) ≡ e
decode-own e s = ap decode (sym (append-nil (block e))) ∙ decode-block e [] s

pub fit-good : (e : Entry) → Fit e → BlockGood (block e)
fit-good e f = let d = decode-own e (sized f) in record { fit = subst (λ (x : Entry). Fit x) (sym d) f; same = ap block d }

pub good-fit : (e : Entry) → Sized e → BlockGood (block e) → Fit e
good-fit e s g = subst (λ (x : Entry). Fit x) (decode-own e s) g.fit

pub good-size : (b : List ℕ) → BlockGood b → length b ≡ 512
good-size b g = ap length (sym g.same) ∙ length-block (decode b) (sized g.fit)
