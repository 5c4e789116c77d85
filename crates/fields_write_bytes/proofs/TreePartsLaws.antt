-- The bytes of a tree in parts, and a writing of each part in front of the rest.
use Rattle.std.specs.Prelude.{ℕ, zero, suc, ◌-◌, ◌≤◌, ◌≡◌, refl, List, [], ◌∷◌, ◌++◌, length, drop, get_or, Some, None}
use Rattle.std.proofs.Common.{arith, sym, ap, ◌∙◌, append-nil, append_assoc, drop-cons}
use Rattle.std.proofs.Math.Option.{Option, none, some}
use Rattle.fields_schema.specs.Tree.{Tree, done, int, raw, fix, sub}
use Rattle.fields_encoding.specs.Encode.{int_field, head, len_field, fix_field, encode, int_o, int_if, raw_if, fix_o, each, sub_o, each_sub}
use Rattle.fields_write_bytes.specs.Pushed.{Pushed, maybe}
use Rattle.fields_write_bytes.proofs.PushedLaws.{◌onto◌, again, pushed-sub}
use Rattle.std.specs.Prelude as code

pub int-done : (n v : ℕ) → encode (int n v done) ≡ int_field n v
unfolding encode
int-done n v = append-nil (int_field n v)

pub raw-done : (n : ℕ) (b : List ℕ) → encode (raw n b done) ≡ len_field n b
unfolding encode
raw-done n b = append-nil (len_field n b)

pub fix-done : (n : ℕ) (b : List ℕ) → encode (fix n b done) ≡ fix_field n b
unfolding encode
fix-done n b = append-nil (fix_field n b)

pub sub-done : (n : ℕ) (s : Tree) → encode (sub n s done) ≡ len_field n (encode s)
unfolding encode
sub-done n s = append-nil (len_field n (encode s))

int_o-parts : (n : ℕ) (a : Option ℕ) (t : Tree) → encode (int_o n a done) ++ encode t ≡ encode (int_o n a t)
unfolding encode int_o
int_o-parts n none t = refl
int_o-parts n (some v) t = rw (append-nil (int_field n v))

int_if-parts : (n a : ℕ) (t : Tree) → encode (int_if n a done) ++ encode t ≡ encode (int_if n a t)
unfolding encode int_if
int_if-parts n zero t = refl
int_if-parts n (suc v) t = rw (append-nil (int_field n (suc v)))

raw_if-parts : (n : ℕ) (b : List ℕ) (t : Tree) → encode (raw_if n b done) ++ encode t ≡ encode (raw_if n b t)
unfolding encode raw_if
raw_if-parts n [] t = refl
raw_if-parts n (b ∷ bs) t = rw (append-nil (len_field n (b ∷ bs)))

sub_o-parts : (n : ℕ) (a : Option Tree) (t : Tree) → encode (sub_o n a done) ++ encode t ≡ encode (sub_o n a t)
unfolding encode sub_o
sub_o-parts n none t = refl
sub_o-parts n (some s) t = rw (append-nil (len_field n (encode s)))

pub each-parts : (n : ℕ) (bs : List (List ℕ)) (t : Tree) → encode (each n bs done) ++ encode t ≡ encode (each n bs t)
unfolding encode each
each-parts n [] t = refl
each-parts n (b ∷ bs) t = append_assoc (len_field n b) (encode (each n bs done)) (encode t) ∙ ap (λ r. len_field n b ++ r) (each-parts n bs t)

each_sub-parts : (n : ℕ) (ss : List Tree) (t : Tree) → encode (each_sub n ss done) ++ encode t ≡ encode (each_sub n ss t)
unfolding encode each_sub
each_sub-parts n [] t = refl
each_sub-parts n (s ∷ ss) t =
    append_assoc (len_field n (encode s)) (encode (each_sub n ss done)) (encode t) ∙ ap (λ r. len_field n (encode s) ++ r) (each_sub-parts n ss t)

-- a part in front of the rest of a tree ---------------------------------------------------

pub int-pushed : {r a at : ℕ} {l m o : List ℕ} (n v : ℕ) (t : Tree) → Pushed r a (int_field n v) m o → Pushed a at (encode t) l m
    → Pushed r at (encode (int n v t)) l o
unfolding encode
int-pushed n v t p q = p onto q

pub raw-pushed : {r a at : ℕ} {l m o : List ℕ} (n : ℕ) (b : List ℕ) (t : Tree) → Pushed r a (len_field n b) m o → Pushed a at (encode t) l m
    → Pushed r at (encode (raw n b t)) l o
unfolding encode
raw-pushed n b t p q = p onto q

pub int_o-pushed : {r a at : ℕ} {l m o : List ℕ} (n : ℕ) (v : Option ℕ) (t : Tree) → Pushed r a (encode (int_o n v done)) m o → Pushed a at (encode t) l m
    → Pushed r at (encode (int_o n v t)) l o
int_o-pushed n v t p q = again (int_o-parts n v t) (p onto q)

pub int_if-pushed : {r a at : ℕ} {l m o : List ℕ} (n v : ℕ) (t : Tree) → Pushed r a (encode (int_if n v done)) m o → Pushed a at (encode t) l m
    → Pushed r at (encode (int_if n v t)) l o
int_if-pushed n v t p q = again (int_if-parts n v t) (p onto q)

pub raw_if-pushed : {r a at : ℕ} {l m o : List ℕ} (n : ℕ) (b : List ℕ) (t : Tree) → Pushed r a (encode (raw_if n b done)) m o → Pushed a at (encode t) l m
    → Pushed r at (encode (raw_if n b t)) l o
raw_if-pushed n b t p q = again (raw_if-parts n b t) (p onto q)

pub sub_o-pushed : {r a at : ℕ} {l m o : List ℕ} (n : ℕ) (s : Option Tree) (t : Tree) → Pushed r a (encode (sub_o n s done)) m o → Pushed a at (encode t) l m
    → Pushed r at (encode (sub_o n s t)) l o
sub_o-pushed n s t p q = again (sub_o-parts n s t) (p onto q)

-- one more message in front of those of a repeated field, and they in front of the rest
pub each_sub-more : {r a at : ℕ} {l m o : List ℕ} (n : ℕ) (s : Tree) (ss : List Tree) (t : Tree) → Pushed r a (len_field n (encode s)) m o
    → Pushed a at (encode (each_sub n ss t)) l m → Pushed r at (encode (each_sub n (s ∷ ss) t)) l o
unfolding encode each_sub
each_sub-more n s ss t p q = p onto q

pub each_sub-pushed : {r a at : ℕ} {l m o : List ℕ} (n : ℕ) (ss : List Tree) (t : Tree) → Pushed r a (encode (each_sub n ss done)) m o → Pushed a at (encode t) l m
    → Pushed r at (encode (each_sub n ss t)) l o
each_sub-pushed n ss t p q = again (each_sub-parts n ss t) (p onto q)

-- a message inside: its head, its bytes, and the rest
pub sub-pushed : {r b a at : ℕ} {l m n o : List ℕ} (k : ℕ) (s t : Tree) → Pushed r b (head k (a - b)) n o → Pushed b a (encode s) m n
    → Pushed a at (encode t) l m → Pushed r at (encode (sub k s t)) l o
unfolding encode
sub-pushed k s t p q w = pushed-sub k p q onto w

-- the last part of a tree
pub int-last : {r at : ℕ} {l m : List ℕ} (n v : ℕ) → Pushed r at (int_field n v) l m → Pushed r at (encode (int n v done)) l m
int-last n v p = again (sym (int-done n v)) p

pub raw-last : {r at : ℕ} {l m : List ℕ} (n : ℕ) (b : List ℕ) → Pushed r at (len_field n b) l m → Pushed r at (encode (raw n b done)) l m
raw-last n b p = again (sym (raw-done n b)) p

pub fix-last : {r at : ℕ} {l m : List ℕ} (n : ℕ) (b : List ℕ) → Pushed r at (fix_field n b) l m → Pushed r at (encode (fix n b done)) l m
fix-last n b p = again (sym (fix-done n b)) p

pub sub-last : {r a at : ℕ} {l m o : List ℕ} (k : ℕ) (s : Tree) → Pushed r a (head k (at - a)) m o → Pushed a at (encode s) l m
    → Pushed r at (encode (sub k s done)) l o
sub-last k s p q = again (sym (sub-done k s)) (pushed-sub k p q)

-- a repeated field written from its last string to its first: one more in front
pub each_pushed : {r p at : ℕ} {l m o : List ℕ} (n : ℕ) (bs : List (List ℕ)) (i : ℕ) (t : Tree) → 1 ≤ i → i ≤ length bs
    → Pushed r p (len_field n (get_or bs (i - 1) [])) m o → Pushed p at (encode (each n (drop i bs) t)) l m → Pushed r at (encode (each n (drop (i - 1) bs) t)) l o
unfolding encode each
each_pushed n bs i t h k p q =
    let e : suc (i - 1) ≡ i = omega arith in
    let d : drop (i - 1) bs ≡ get_or bs (i - 1) [] ∷ drop i bs = drop-cons bs (i - 1) [] (omega arith) ∙ ap (λ j. get_or bs (i - 1) [] ∷ drop j bs) e in
    again (ap (λ l. encode (each n l t)) (sym d)) (p onto q)

-- fields left out --------------------------------------------------------------------------

pub maybe-nothing : (n : ℕ) (m : code.Option ℕ) → None ≡ m → [] ≡ encode (int_o n (maybe m) done)
unfolding encode int_o
maybe-nothing n m e = ap (λ (m : code.Option ℕ). encode (int_o n (maybe m) done)) e

pub maybe-number : (n v : ℕ) (m : code.Option ℕ) → Some v ≡ m → int_field n v ≡ encode (int_o n (maybe m) done)
unfolding int_o
maybe-number n v m e = sym (int-done n v) ∙ ap (λ (m : code.Option ℕ). encode (int_o n (maybe m) done)) e

pub zero-none : (n v : ℕ) → v ≡ 0 → [] ≡ encode (int_if n v done)
unfolding encode int_if
zero-none n v e = ap (λ v. encode (int_if n v done)) (sym e)

pub nonzero-some : (n v : ℕ) → (v ≡ 0 → ⊥) → int_field n v ≡ encode (int_if n v done)
unfolding int_if
nonzero-some n zero h = absurd (h refl)
nonzero-some n (suc v) h = sym (int-done n (suc v))

pub float-none : (n : ℕ) (o : Option (List ℕ)) → o ≡ none → [] ≡ encode (fix_o n o done)
unfolding encode fix_o
float-none n o e = ap (λ (o : Option (List ℕ)). encode (fix_o n o done)) (sym e)

pub float-some : (n : ℕ) (b : List ℕ) (o : Option (List ℕ)) → o ≡ some b → fix_field n b ≡ encode (fix_o n o done)
unfolding fix_o
float-some n b o e = sym (fix-done n b) ∙ ap (λ (o : Option (List ℕ)). encode (fix_o n o done)) (sym e)

pub empty-none : (n : ℕ) (b : List ℕ) → length b ≡ 0 → [] ≡ encode (raw_if n b done)
unfolding encode raw_if
empty-none n [] h = refl
empty-none n (b ∷ bs) h = absurd (omega arith)

pub nonempty-some : (n : ℕ) (b : List ℕ) → (length b ≡ 0 → ⊥) → len_field n b ≡ encode (raw_if n b done)
unfolding raw_if
nonempty-some n [] h = absurd (h refl)
nonempty-some n (b ∷ bs) h = sym (raw-done n (b ∷ bs))

-- a message that is left out, or not
pub sub-none : (n : ℕ) (o : Option Tree) → o ≡ none → [] ≡ encode (sub_o n o done)
unfolding encode sub_o
sub-none n o e = ap (λ (o : Option Tree). encode (sub_o n o done)) (sym e)

pub sub-some : (n : ℕ) (s : Tree) (o : Option Tree) → o ≡ some s → len_field n (encode s) ≡ encode (sub_o n o done)
unfolding sub_o
sub-some n s o e = sym (sub-done n s) ∙ ap (λ (o : Option Tree). encode (sub_o n o done)) (sym e)
