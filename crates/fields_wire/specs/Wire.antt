-- Document 01, "Frame and fields": varints, fields, and the framing of a byte string into fields.
use Rattle.std.specs.Prelude.{ℕ, zero, suc, ◌+◌, ◌*◌, ◌/◌, ◌%◌, ◌^◌, ◌≡◌, List, [], ◌∷◌, cond, length, ltb, eqb}
use Rattle.std.proofs.Math.Option.{Option, none, some}
use Rattle.fields_wire.specs.Reader.{Got, nothing, got, Reader, and_then, give, only, part}

-- a byte that ends a varint is below this, where k more bytes could follow: the tenth byte is 0 or 1
abbrev pub end_below : ℕ → ℕ
end_below zero = 2
end_below (suc k) = 128

-- a byte of 128 or more: its low seven bits are the lowest of the value
abbrev pub on_top : ℕ → Got ℕ → Got ℕ
on_top b nothing = nothing
on_top b (got v r) = got (b % 128 + 128 * v) r

-- a varint of at most n bytes
unfoldable pub varint_in : ℕ → Reader ℕ
varint_in zero xs = nothing
varint_in (suc k) [] = nothing
varint_in (suc k) (b ∷ xs) = cond (ltb b 128) (cond (ltb b (end_below k)) (got b xs) nothing) (on_top b (varint_in k xs))

abbrev pub varint : Reader ℕ
varint = varint_in 10

pub data Value : Type 0 where
  vint : ℕ → Value
  v64 : List ℕ → Value
  vlen : List ℕ → Value
  v32 : List ℕ → Value

pub data Field : Type 0 where
  field : ℕ → Value → Field

-- the value of a field, by its wire type
unfoldable pub value_of : ℕ → ℕ → Reader Field
value_of n w =
    λ xs. cond (eqb w 0) (and_then varint (λ v. give (field n (vint v))) xs)
    (cond (eqb w 1) (and_then (part 8) (λ b. give (field n (v64 b))) xs)
    (cond (eqb w 2) (and_then varint (λ l. and_then (part l) (λ b. give (field n (vlen b)))) xs)
    (cond (eqb w 5) (and_then (part 4) (λ b. give (field n (v32 b))) xs) nothing)))

-- one field: a tag of at most 32 bits whose number is not 0, and the value
unfoldable pub read_field : Reader Field
read_field = and_then varint (λ t. only (ltb t (2 ^ 32)) (only (ltb 7 t) (value_of (t / 8) (t % 8))))

-- the framing: every field from the front to the very end, or nothing. n bounds how many
abbrev pub cons_o : Field → Option (List Field) → Option (List Field)
cons_o f none = none
cons_o f (some fs) = some (f ∷ fs)

abbrev pub then_fields : Got Field → (List ℕ → Option (List Field)) → Option (List Field)
then_fields nothing k = none
then_fields (got f r) k = cons_o f (k r)

unfoldable pub fields_in : ℕ → List ℕ → Option (List Field)
fields_in zero [] = some []
fields_in zero (b ∷ xs) = none
fields_in (suc n) [] = some []
fields_in (suc n) (b ∷ xs) = then_fields (read_field (b ∷ xs)) (λ r. fields_in n r)

unfoldable pub fields_of : List ℕ → Option (List Field)
fields_of xs = fields_in (length xs) xs

-- x is the bytes of the one field f
pub record Framed (f : Field) (x : List ℕ) : Type 0 where
  pub whole : read_field x ≡ got f []
