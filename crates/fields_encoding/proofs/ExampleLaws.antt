-- Worked bytes: those of the public Protocol Buffers encoding page, and document 01's -1.
use Rattle.std.specs.Prelude.{◌-◌, ◌^◌, ◌≡◌, refl, [], ◌∷◌}
use Rattle.fields_wire.specs.Varint.{varint_up, varint_bytes}
use Rattle.fields_schema.specs.Tree.{done, int, raw, sub}
use Rattle.fields_encoding.specs.Encode.{encode}

-- A Simple Message: field 1 is 150
one-fifty : encode (int 1 150 done) ≡ 0x08 ∷ 0x96 ∷ 0x01 ∷ []
unfolding encode varint_up
one-fifty = refl

-- Length-Delimited Records: field 2 is testing
testing : encode (raw 2 (0x74 ∷ 0x65 ∷ 0x73 ∷ 0x74 ∷ 0x69 ∷ 0x6e ∷ 0x67 ∷ []) done) ≡ 0x12 ∷ 0x07 ∷ 0x74 ∷ 0x65 ∷ 0x73 ∷ 0x74 ∷ 0x69 ∷ 0x6e ∷ 0x67 ∷ []
unfolding encode varint_up
testing = refl

-- Submessages: field 3 is the first message
embedded : encode (sub 3 (int 1 150 done) done) ≡ 0x1a ∷ 0x03 ∷ 0x08 ∷ 0x96 ∷ 0x01 ∷ []
unfolding encode varint_up
embedded = refl

-- Signed Integers: -2
minus-two : varint_bytes (2 ^ 64 - 2) ≡ 0xfe ∷ 0xff ∷ 0xff ∷ 0xff ∷ 0xff ∷ 0xff ∷ 0xff ∷ 0xff ∷ 0xff ∷ 0x01 ∷ []
unfolding varint_up
minus-two = refl

-- document 01, "Frame and fields": "-1 is FF nine times, then 01"
minus_one : varint_bytes (2 ^ 64 - 1) ≡ 0xff ∷ 0xff ∷ 0xff ∷ 0xff ∷ 0xff ∷ 0xff ∷ 0xff ∷ 0xff ∷ 0xff ∷ 0x01 ∷ []
unfolding varint_up
minus_one = refl
