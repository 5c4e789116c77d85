-- Document 02, CR 5, "Fields sent twice", worked: "the last scalar or bytes value counts, embedded messages are merged".
use Rattle.std.specs.Prelude.{◌≡◌, refl, [], ◌∷◌, false}
use Rattle.std.proofs.Math.Option.{some}
use Rattle.fields_wire.specs.Wire.{varint_in, value_of, read_field, fields_in, fields_of}
use Rattle.fields_schema.specs.Tree.{map_o, done, sub, items, level, open_all, listed_in, listed}
use Rattle.protocol.specs.Command.{command_of}
use Rattle.protocol.specs.Judge.{key_value_in}
use Rattle.protocol.specs.Reading.{security_once, decodes, read_message, envelope}

-- connectionID 1 and sequence 2 in one header, sequence 9 and messageType 30 in another, an unlisted field between
header-twice : map_o (λ t. (command_of t).header) (decodes (0x0a ∷ 0x04 ∷ 0x18 ∷ 0x01 ∷ 0x20 ∷ 0x02 ∷ 0x48 ∷ 0x03 ∷ 0x0a ∷ 0x04 ∷ 0x20 ∷ 0x09 ∷ 0x38 ∷ 0x1e ∷ []))
    ≡ some (some (record { cluster_version = 0; connection_id = some 1; sequence = some 9; message_type = some 30 }))
unfolding security_once listed listed_in level open_all items fields_of fields_in read_field value_of varint_in
header-twice = refl

-- the key A and the tag C in the keyValue of one body, an empty key in that of another: the empty key counts, and the tag
key-value-twice : map_o (λ t. key_value_in (command_of t).body) (decodes (0x12 ∷ 0x08 ∷ 0x0a ∷ 0x06 ∷ 0x1a ∷ 0x01 ∷ 0x41 ∷ 0x2a ∷ 0x01 ∷ 0x43 ∷ 0x12 ∷ 0x04 ∷ 0x0a ∷ 0x02 ∷ 0x1a ∷ 0x00 ∷ []))
    ≡ some (record { new_version = []; key = []; db_version = []; tag = 0x43 ∷ []; algorithm = 0; metadata_only = false; force = false })
unfolding security_once listed listed_in level open_all items fields_of fields_in read_field value_of varint_in
key-value-twice = refl

-- the types of two getLogs follow one another
types-follow : map_o (λ t. (command_of t).body.get_log) (decodes (0x12 ∷ 0x04 ∷ 0x32 ∷ 0x02 ∷ 0x08 ∷ 0x01 ∷ 0x12 ∷ 0x04 ∷ 0x32 ∷ 0x02 ∷ 0x08 ∷ 0x00 ∷ [])) ≡ some (some (1 ∷ 0 ∷ []))
unfolding security_once listed listed_in level open_all items fields_of fields_in read_field value_of varint_in
types-follow = refl

-- a Security in one of two bodies is sent once
security-once : decodes (0x12 ∷ 0x02 ∷ 0x3a ∷ 0x00 ∷ 0x12 ∷ 0x00 ∷ []) ≡ some (sub 2 (sub 7 done done) (sub 2 done done))
unfolding security_once listed listed_in level open_all items fields_of fields_in read_field value_of varint_in
security-once = refl

-- identity 5 and the hmac in one HMACauth, identity 1 in another; commandBytes twice: the last count
message-twice : read_message (0x20 ∷ 0x01 ∷ 0x2a ∷ 0x05 ∷ 0x08 ∷ 0x05 ∷ 0x12 ∷ 0x01 ∷ 0x01 ∷ 0x3a ∷ 0x01 ∷ 0xff ∷ 0x2a ∷ 0x02 ∷ 0x08 ∷ 0x01 ∷ 0x3a ∷ 0x02 ∷ 0x01 ∷ 0x02 ∷ [])
    ≡ some (envelope 1 (1 ∷ []) (1 ∷ 2 ∷ []))
unfolding read_message listed listed_in level open_all items fields_of fields_in read_field value_of varint_in
message-twice = refl
