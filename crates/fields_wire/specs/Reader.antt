-- Readers: a reader takes a value off the front of a list of bytes and gives what is left, or gives nothing.
use Rattle.std.specs.Prelude.{ℕ, List, Bool, cond, length, take, drop, leb}

-- what is read and what is left, or nothing
pub data Got (A : Type 0) : Type 0 where
  nothing : Got A
  got : A → List ℕ → Got A

abbrev pub then : {A B : Type 0} → Got A → (A → List ℕ → Got B) → Got B
then nothing f = nothing
then (got a r) f = f a r

abbrev pub Reader : Type 0 → Type 0
Reader A = List ℕ → Got A

-- first f, then g of what f read
abbrev pub and_then : {A B : Type 0} → Reader A → (A → Reader B) → Reader B
and_then f g = λ xs. then (f xs) g

abbrev pub give : {A : Type 0} → A → Reader A
give a = λ xs. got a xs

abbrev pub fail : {A : Type 0} → Reader A
fail = λ xs. nothing

abbrev pub only : {A : Type 0} → Bool → Reader A → Reader A
only t f = λ xs. cond t (f xs) nothing

-- the first n bytes
abbrev pub part : ℕ → Reader (List ℕ)
part n = λ xs. cond (leb n (length xs)) (got (take n xs) (drop n xs)) nothing
