-- The numbers of documents 01, 02 and 003, of FIPS 180-4 and of RFC 2104, written out as they give them, and that the definitions behave so.
-- No named number of another file stands here: one that is wrong in a definition, and in the code with it, is refused by `documented`.
use Rattle.std.specs.Prelude.{◌≡◌, Bool, true, false, cond, List, [], ◌∷◌, ◌++◌, ℕ, zero, suc, ◌+◌, ◌-◌, ◌*◌, ◌/◌, ◌%◌, ◌≤◌, ◌<◌, eqb, length, take, drop, get_or, replicate, None, Some}
use Rattle.std.proofs.Math.Option.{Option, none, some}
use Rattle.base_definitions.specs.Lists.{map_l, same_bytes}
use Rattle.signature_sha1_compression.specs.declared.State as words
use Rattle.signature_sha1_compression.specs.Compression.{Ch, Parity, Maj, f, K, rounds, add_all, compress}
use Rattle.signature_sha1.specs.Sha1.{be, pad, H0, sha1, sha1_answer}
use Rattle.signature_hmac.specs.Hmac.{keyed_words, hmac_words, hmac, hmac_answer}
use Rattle.fields_wire.specs.Reader.{nothing, got}
use Rattle.fields_wire.specs.Wire.{varint, vint, v64, vlen, v32, field, read_field}
use Rattle.fields_schema.specs.declared.Names.TheVariants.{Priority, Algorithm, Synchronization, LogType}
use Rattle.fields_schema.specs.Rules.{names_of}
use Rattle.fields_schema.specs.Tree.{among, is_some, is_int32, map_o, Tree, done, int_at}
use Rattle.fields_encoding.specs.Encode.{encode}
use Rattle.store_block.specs.Entry.{Entry, entry}
use Rattle.store_block.specs.Block.{decode, fit_test, block_test, sum_test}
use Rattle.store_layout.specs.Store.{size_good, store_good}
use Rattle.store_layout.specs.Entries.{put_answer, next_of, previous_of}
use Rattle.std.specs.Prelude.{Ok, Err}
use Rattle.store_layout.specs.declared.PutError.TheVariants.{Full}
use Rattle.access_record.specs.Table as access
use Rattle.access_record.specs.Table.{table_good, host_table}
use Rattle.log_binary32.specs.Celsius.{celsius_of}
use Rattle.log_readings.specs.Lent.{utilizations, temperatures, utilization_sample, temperature_sample, readings_good}
use Rattle.store_rescue.specs.State.{blank_test}
use Rattle.store_rescue.specs.Rescue as rescue
use Rattle.store_rescue.specs.Rescue.{has_key, report_byte, rescue_of}
use Rattle.protocol.specs.declared.Operation.{Operation}
use Rattle.protocol.specs.declared.Operation.TheVariants.{Noop, Get, GetVersion, GetNext, GetPrevious, GetKeyRange, Put, Delete, FlushAllData, Setup, GetLog, Security}
use Rattle.protocol.specs.declared.Permission.{Permission}
use Rattle.protocol.specs.declared.Choice.{Choice}
use Rattle.protocol.specs.State.{State, table, accepted}
use Rattle.protocol.specs.Command.{Header, Scope, Acl, Body, Command, no_body, header_of, range_of, scope_of, acl_of, command_of}
use Rattle.protocol.specs.Operation.{Asked, asked_by, reply_type}
use Rattle.protocol.specs.Frame.{more, closes, whole, frame_of}
use Rattle.protocol.specs.Reading.{envelope, envelope_of, read_message, decodes}
use Rattle.protocol.specs.Judge.{bare, key_value, range, log, fails, above_last, fault, key_value_in, permitted, entry_of, version_right, new_entry, capacity_of, log_of, visible_in, step10, judge}
use Rattle.protocol.specs.Reply.{signed_by, closing_with, command_tree, limits_tree, body_tree}
use Rattle.protocol.specs.Answer.{refused}
use Rattle.protocol.specs.Box as the
use Rattle.protocol.specs.Box.{answers, reply_to}
use Rattle.protocol.specs.Format.{format_refusal}
use Rattle.protocol.specs.Passes.{Passes}

-- ---- "What the box does": SHA-1 and HMAC

-- FIPS 180-4, §4.1.1 and §4.2.1: functions and constants of rounds 0 to 19, 20 to 39, 40 to 59, 60 to 79
pub record RoundNumbers (t x y z : ℕ) : Type 0 where
  pub first : t < 20 → (f t x y z ≡ Ch x y z) × (K t ≡ 0x5a827999)
  pub second : 20 ≤ t → t < 40 → (f t x y z ≡ Parity x y z) × (K t ≡ 0x6ed9eba1)
  pub third : 40 ≤ t → t < 60 → (f t x y z ≡ Maj x y z) × (K t ≡ 0x8f1bbcdc)
  pub fourth : 60 ≤ t → t < 80 → (f t x y z ≡ Parity x y z) × (K t ≡ 0xca62c1d6)

pub record DigestNumbers (key text : List ℕ) : Type 0 where
  -- §6.1.2: eighty rounds over blocks of 64 bytes
  pub eighty : (h : words.State) (m : List ℕ) → compress h m ≡ add_all h (rounds m h 80)
  -- §5.3.1
  pub start : H0 ≡ record { a = 0x67452301; b = 0xefcdab89; c = 0x98badcfe; d = 0x10325476; e = 0xc3d2e1f0 }
  -- §5.1.1: 80 hex, zeros, and the size in bits in eight bytes, up to whole blocks of 64
  pub padded : (n : ℕ) → (get_or (pad n) 0 0 ≡ 0x80) × ((n + length (pad n)) % 64 ≡ 0) × (length (pad n) ≤ 72) × (drop (length (pad n) - 8) (pad n) ≡ be 8 (8 * n))
  -- the standard's example of one block, the text abc: every number of SHA-1 takes part
  pub example : sha1 (0x61 ∷ 0x62 ∷ 0x63 ∷ [])
      ≡ 0xa9 ∷ 0x99 ∷ 0x3e ∷ 0x36 ∷ 0x47 ∷ 0x06 ∷ 0x81 ∷ 0x6a ∷ 0xba ∷ 0x3e ∷ 0x25 ∷ 0x71 ∷ 0x78 ∷ 0x50 ∷ 0xc2 ∷ 0x6c ∷ 0x9c ∷ 0xd0 ∷ 0xd8 ∷ 0x9d ∷ []
  -- §1: fewer than 2^64 bits
  pub text_most : length text ≤ 2305843009213693951 → (sha1_answer text).number ≡ 0
  pub text_over : 2305843009213693952 ≤ length text → (sha1_answer text).number ≡ 1
  -- RFC 2104, §2: ipad and opad
  pub pads : hmac [] text ≡ sha1 (replicate 64 0x5c ++ sha1 (replicate 64 0x36 ++ text))
  -- "HMAC takes keys up to 128 bytes, those over 64 hashed first, and up to 1,048,576 of text"
  pub key_kept : length key ≤ 64 → hmac_words key text ≡ keyed_words key text
  pub key_hashed : 64 < length key → hmac_words key text ≡ keyed_words (sha1 key) text
  pub hmac_most : length key ≤ 128 → length text ≤ 1048576 → (hmac_answer key text).number ≡ 0
  pub key_over : 128 < length key → (hmac_answer key text).number ≡ 1
  pub hmac_over : length key ≤ 128 → 1048576 < length text → (hmac_answer key text).number ≡ 2

-- ---- "Call refusals"

-- the answering call in the state s, with a reply buffer of `out` bytes and the input xs
pub record AnswerRefusals (s : State) (out : ℕ) (xs : List ℕ) : Type 0 where
  -- 1 OUT_SHORT: "reply buffer under 4,096 bytes"
  pub out_short : out < 4096 → answers s out xs ≡ refused 1
  -- 2 STORE_BAD
  pub store_bad : 4096 ≤ out → store_good s.store ≡ false → answers s out xs ≡ refused 2
  -- 3 DEVICE_BAD
  pub device_bad : 4096 ≤ out → store_good s.store ≡ true → table_good (table s) ≡ false → answers s out xs ≡ refused 3
  -- 4 CLOSED
  pub closed : 4096 ≤ out → store_good s.store ≡ true → table_good (table s) ≡ true → s.connection.closed ≡ true → answers s out xs ≡ refused 4
  -- 5 MORE
  pub more_due : 4096 ≤ out → store_good s.store ≡ true → table_good (table s) ≡ true → s.connection.closed ≡ false → frame_of xs ≡ more → answers s out xs ≡ refused 5
  -- "a new call refusal 7, after the rest"
  pub readings_bad : 4096 ≤ out → store_good s.store ≡ true → table_good (table s) ≡ true → s.connection.closed ≡ false → (frame_of xs ≡ more → ⊥)
      → readings_good s.readings ≡ false → answers s out xs ≡ refused 7

-- Format, and the length of a store
pub record FormatNumbers (store : List ℕ) : Type 0 where
  -- "store not 1 to 128 blocks of 512"
  pub blocks_most : (n : ℕ) → length store ≡ 512 * n → 1 ≤ n → n ≤ 128 → size_good store ≡ true
  pub blocks_over : (n : ℕ) → length store ≡ 512 * n → 128 < n → (size_good store ≡ false) × (store_good store ≡ false)
  -- "Format gives 2 only for the store's length, then 6"; 6 KEY_BAD: "host key not 1 to 64 bytes"
  pub store_bad : (key : List ℕ) → size_good store ≡ false → format_refusal store key ≡ 2
  pub key_good : (key : List ℕ) → size_good store ≡ true → 1 ≤ length key → length key ≤ 64 → format_refusal store key ≡ 0
  pub key_empty : (key : List ℕ) → size_good store ≡ true → length key < 1 → format_refusal store key ≡ 6
  pub key_over : (key : List ℕ) → size_good store ≡ true → 64 < length key → format_refusal store key ≡ 6

-- ---- "Blocks"

-- an entry with so many bytes of key, version, tag and value
abbrev pub sized : ℕ → ℕ → ℕ → ℕ → ℕ → Entry
sized k v t w a = entry (replicate k 0) (replicate v 0) (replicate t 0) (replicate w 0) a

pub record BlockNumbers : Type 0 where
  -- "lengths of key (1 to 64), version (0 to 16), tag (0 to 32)", "value length, 0 to 384", "algorithm 1 to 6, or 0 for none"
  pub lengths : map_l fit_test
      (sized 1 0 0 0 0 ∷ sized 64 16 32 384 6 ∷ sized 0 16 32 384 6 ∷ sized 65 16 32 384 6 ∷ sized 64 17 32 384 6 ∷ sized 64 16 33 384 6 ∷ sized 64 16 32 385 6
      ∷ sized 64 16 32 384 7 ∷ [])
      ≡ true ∷ true ∷ false ∷ false ∷ false ∷ false ∷ false ∷ false ∷ []
  -- "8-71, 72-87, 88-119, 120-503 | key, version, tag, value"
  pub places : (b : List ℕ) → decode b
      ≡ entry (take (get_or b 1 0) (drop 8 b)) (take (get_or b 2 0) (drop 72 b)) (take (get_or b 3 0) (drop 88 b)) (take (get_or b 4 0 * 256 + get_or b 5 0) (drop 120 b)) (get_or b 6 0)
  -- "A blank block is 512 zero bytes."
  pub blank_bytes : map_l (λ n. blank_test (replicate n 0)) (511 ∷ 512 ∷ 513 ∷ []) ≡ false ∷ true ∷ false ∷ []

-- ---- "Frame and fields": the frame

pub record FrameNumbers : Type 0 where
  -- "Byte 0 is 46 hex; bytes 1-4 message length, 5-8 value length; then message, then value."
  pub cut : frame_of (0x46 ∷ 0 ∷ 0 ∷ 0 ∷ 2 ∷ 0 ∷ 0 ∷ 0 ∷ 1 ∷ 7 ∷ 8 ∷ 9 ∷ 10 ∷ []) ≡ whole (7 ∷ 8 ∷ []) (9 ∷ []) (10 ∷ [])
  -- "A wrong first byte, message over 8,192 or value over 1,024 … closes": 2000 hex and 400 hex
  pub first : (b : ℕ) (rest : List ℕ) → eqb b 0x46 ≡ false → frame_of (b ∷ rest) ≡ closes
  pub message_most : frame_of (0x46 ∷ 0x00 ∷ 0x00 ∷ 0x20 ∷ 0x00 ∷ []) ≡ more
  pub message_over : (rest : List ℕ) → frame_of (0x46 ∷ 0x00 ∷ 0x00 ∷ 0x20 ∷ 0x01 ∷ rest) ≡ closes
  pub value_most : frame_of (0x46 ∷ 0x00 ∷ 0x00 ∷ 0x00 ∷ 0x00 ∷ 0x00 ∷ 0x00 ∷ 0x04 ∷ 0x00 ∷ []) ≡ more
  pub value_over : (rest : List ℕ) → frame_of (0x46 ∷ 0x00 ∷ 0x00 ∷ 0x00 ∷ 0x00 ∷ 0x00 ∷ 0x00 ∷ 0x04 ∷ 0x01 ∷ rest) ≡ closes

-- ---- "Frame and fields": varints and fields

pub record WireNumbers : Type 0 where
  -- "Varints: one to ten bytes, a tenth byte is 0 or 1, longer than needed is allowed."
  pub varints : map_l varint ((replicate 9 0xFF ++ (0x01 ∷ [])) ∷ (replicate 9 0xFF ++ (0x02 ∷ [])) ∷ (replicate 10 0x80 ++ (0x01 ∷ [])) ∷ (0x81 ∷ 0x00 ∷ []) ∷ [])
      ≡ got 18446744073709551615 [] ∷ nothing ∷ nothing ∷ got 1 [] ∷ []
  -- "Field numbers 1 to 2^29-1, tags at most 32 bits"
  pub numbers : map_l read_field ((0x00 ∷ 7 ∷ []) ∷ (0x08 ∷ 7 ∷ []) ∷ (0xF8 ∷ 0xFF ∷ 0xFF ∷ 0xFF ∷ 0x0F ∷ 7 ∷ []) ∷ (0x80 ∷ 0x80 ∷ 0x80 ∷ 0x80 ∷ 0x10 ∷ 7 ∷ []) ∷ [])
      ≡ nothing ∷ got (field 1 (vint 7)) [] ∷ got (field 536870911 (vint 7)) [] ∷ nothing ∷ []
  -- "wire types 0, 1, 2, 5"
  pub wire_types : map_l (λ w. read_field (w ∷ 2 ∷ 3 ∷ 4 ∷ 5 ∷ 6 ∷ 7 ∷ 8 ∷ 9 ∷ [])) (0x08 ∷ 0x09 ∷ 0x0A ∷ 0x0B ∷ 0x0C ∷ 0x0D ∷ 0x0E ∷ 0x0F ∷ [])
      ≡ got (field 1 (vint 2)) (3 ∷ 4 ∷ 5 ∷ 6 ∷ 7 ∷ 8 ∷ 9 ∷ []) ∷ got (field 1 (v64 (2 ∷ 3 ∷ 4 ∷ 5 ∷ 6 ∷ 7 ∷ 8 ∷ 9 ∷ []))) []
      ∷ got (field 1 (vlen (3 ∷ 4 ∷ []))) (5 ∷ 6 ∷ 7 ∷ 8 ∷ 9 ∷ []) ∷ nothing ∷ nothing ∷ got (field 1 (v32 (2 ∷ 3 ∷ 4 ∷ 5 ∷ []))) (6 ∷ 7 ∷ 8 ∷ 9 ∷ []) ∷ nothing ∷ nothing ∷ []
  -- "An int32 or enum outside -2^31 to 2^31-1 is refused"
  pub int32 : map_l is_int32 (2147483647 ∷ 2147483648 ∷ 18446744071562067967 ∷ 18446744071562067968 ∷ []) ≡ true ∷ false ∷ false ∷ true ∷ []

-- ---- "Frame and fields": the listed numbers of a request, as bytes and what they say

abbrev pub read : List ℕ → Option Command
read bytes = map_o command_of (decodes bytes)

pub record FieldNumbers : Type 0 where
  -- "Message: 4 e authType, 5 m HMACauth, 6 bytes not looked into, 7 b commandBytes. HMACauth: 1 s identity, 2 b hmac."
  pub message : read_message (0x20 ∷ 1 ∷ 0x2A ∷ 5 ∷ 0x08 ∷ 5 ∷ 0x12 ∷ 1 ∷ 6 ∷ 0x3A ∷ 1 ∷ 7 ∷ []) ≡ some (envelope 5 (6 ∷ []) (7 ∷ []))
  -- "Command: 1 m header, 2 m body"; "Header: 1 s clusterVersion, 3 s connectionID, 4 s sequence, …, 7 e messageType"
  pub header : read (0x0A ∷ 8 ∷ 0x08 ∷ 5 ∷ 0x18 ∷ 6 ∷ 0x20 ∷ 7 ∷ 0x38 ∷ 4 ∷ [])
      ≡ some (record { header = some (record { cluster_version = 5; connection_id = some 6; sequence = some 7; message_type = some 4 }); body = no_body })
  -- "Body: 1 m keyValue"; "KeyValue: 2 b newVersion, 3 b key, 4 b dbVersion, 5 b tag, 6 e algorithm (1 to 6), 7 f metadataOnly, 8 f force"
  pub key_value : map_o (λ c. key_value_in c.body)
      (read (0x12 ∷ 18 ∷ 0x0A ∷ 16 ∷ 0x12 ∷ 1 ∷ 1 ∷ 0x1A ∷ 1 ∷ 2 ∷ 0x22 ∷ 1 ∷ 3 ∷ 0x2A ∷ 1 ∷ 4 ∷ 0x30 ∷ 5 ∷ 0x38 ∷ 1 ∷ []))
      ≡ some (record { new_version = 1 ∷ []; key = 2 ∷ []; db_version = 3 ∷ []; tag = 4 ∷ []; algorithm = 5; metadata_only = true; force = false })
  pub force : map_o (λ c. key_value_in c.body) (read (0x12 ∷ 4 ∷ 0x0A ∷ 2 ∷ 0x40 ∷ 1 ∷ []))
      ≡ some (record { new_version = []; key = []; db_version = []; tag = []; algorithm = 0; metadata_only = false; force = true })
  -- "2 m range"; "Range: 1 b startKey, 2 b endKey, 3 f and 4 f inclusive flags, 5 s maxReturned (int32), 6 f reverse"
  pub start_inclusive : map_o (λ c. c.body.range) (read (0x12 ∷ 12 ∷ 0x12 ∷ 10 ∷ 0x0A ∷ 1 ∷ 1 ∷ 0x12 ∷ 1 ∷ 2 ∷ 0x18 ∷ 1 ∷ 0x28 ∷ 3 ∷ []))
      ≡ some (some (record { start_key = some (1 ∷ []); end_key = some (2 ∷ []); start_inclusive = true; end_inclusive = false; max_returned = 3; reverse = false }))
  pub reversed : map_o (λ c. c.body.range) (read (0x12 ∷ 4 ∷ 0x12 ∷ 2 ∷ 0x30 ∷ 1 ∷ []))
      ≡ some (some (record { start_key = none; end_key = none; start_inclusive = false; end_inclusive = false; max_returned = 32; reverse = true }))
  -- "3 m setup"; "Setup: 1 s newClusterVersion"; document 02, CR 1: "Body field 6 is listed; a request's GetLog lists field 1 only"
  pub setup : map_o (λ c. c.body.setup) (read (0x12 ∷ 4 ∷ 0x1A ∷ 2 ∷ 0x08 ∷ 12 ∷ [])) ≡ some (some (some 12))
  pub get_log : map_o (λ c. c.body.get_log) (read (0x12 ∷ 4 ∷ 0x32 ∷ 2 ∷ 0x08 ∷ 6 ∷ [])) ≡ some (some (6 ∷ []))
  -- "7 m security"; "Security: 2 m acl. ACL: 1 s identity, 2 b key, 3 e hmacAlgorithm, 4 m scope. Scope: 1 s offset, 2 b value, 3 e permission, 4 f TlsRequired."
  pub security : map_o (λ c. c.body.security)
      (read (0x12 ∷ 24 ∷ 0x3A ∷ 22 ∷ 0x12 ∷ 20 ∷ 0x08 ∷ 9 ∷ 0x12 ∷ 1 ∷ 10 ∷ 0x18 ∷ 2 ∷ 0x22 ∷ 11
      ∷ 0x08 ∷ 13 ∷ 0x12 ∷ 1 ∷ 11 ∷ 0x18 ∷ 3 ∷ 0x18 ∷ 1 ∷ 0x20 ∷ 1 ∷ []))
      ≡ some (some (record {
        identity = some 9;
        key = 10 ∷ [];
        hmac_algorithm = 2;
        scopes = record { offset = 13; value = 11 ∷ []; permissions = 3 ∷ 1 ∷ []; tls_required = true } ∷ [];
      } ∷ []))
  -- "r = refused if present": "14 r" of a header; 4, 8, 9, 10 of a body; "8 r" of a range; "5 r" of a setup
  pub refused_present : map_l (λ bytes. is_some (decodes bytes))
      ((0x0A ∷ 2 ∷ 0x70 ∷ 1 ∷ []) ∷ (0x12 ∷ 2 ∷ 0x22 ∷ 0 ∷ []) ∷ (0x12 ∷ 2 ∷ 0x42 ∷ 0 ∷ []) ∷ (0x12 ∷ 2 ∷ 0x4A ∷ 0 ∷ []) ∷ (0x12 ∷ 2 ∷ 0x52 ∷ 0 ∷ [])
      ∷ (0x12 ∷ 4 ∷ 0x12 ∷ 2 ∷ 0x42 ∷ 0 ∷ []) ∷ (0x12 ∷ 4 ∷ 0x1A ∷ 2 ∷ 0x28 ∷ 0 ∷ []) ∷ [])
      ≡ false ∷ false ∷ false ∷ false ∷ false ∷ false ∷ false ∷ []
  -- "Absent bytes are empty, flags false, clusterVersion and offset 0."
  pub absent : (t : Tree) → int_at 1 t ≡ none → ((header_of t).cluster_version ≡ 0) × ((scope_of t).offset ≡ 0)
  -- "priority (1, 3, 5, 7, 9)", "algorithm (1 to 6)", "synchronization (1 to 3, no effect)"; document 003, GetLog.Type
  pub priorities : names_of Priority ≡ 1 ∷ 3 ∷ 5 ∷ 7 ∷ 9 ∷ []
  pub algorithms : names_of Algorithm ≡ 1 ∷ 2 ∷ 3 ∷ 4 ∷ 5 ∷ 6 ∷ []
  pub synchronizations : names_of Synchronization ≡ 1 ∷ 2 ∷ 3 ∷ []
  pub log_types : names_of LogType ≡ 0 ∷ 1 ∷ 2 ∷ 3 ∷ 4 ∷ 5 ∷ 6 ∷ 7 ∷ []

-- ---- "The order of judgement": the codes of steps 1 to 9

-- the reply to a frame with the message m, in the state s
pub record ReadCodes (s : State) (m v rest : List ℕ) : Type 0 where
  -- step 1: "Frame; Message decodes; authType must be 1 …. Otherwise CONNECTION_TERMINATED (20) and close."
  pub no_frame : reply_to s closes ≡ some (closing_with s.connection.number 20)
  pub no_message : read_message m ≡ none → reply_to s (whole m v rest) ≡ some (closing_with s.connection.number 20)
  pub auth_type : (t : Tree) (n : ℕ) → int_at 4 t ≡ some n → eqb n 1 ≡ false → envelope_of t ≡ none
  -- step 2: "Otherwise HMAC_FAILURE (2) and close, the same for an unknown identity."
  pub unknown : (i : ℕ) (sent c : List ℕ) → read_message m ≡ some (envelope i sent c) → the.acl_of s i ≡ none
      → reply_to s (whole m v rest) ≡ some (closing_with s.connection.number 2)
  pub unverified : (i : ℕ) (sent c : List ℕ) (a : access.Acl) → read_message m ≡ some (envelope i sent c) → the.acl_of s i ≡ some a
      → same_bytes sent (hmac a.key c) ≡ false → reply_to s (whole m v rest) ≡ some (closing_with s.connection.number 2)
  -- step 3: "Command decodes: else INVALID_REQUEST (16)."
  pub undecodable : (i : ℕ) (sent c : List ℕ) (a : access.Acl) → read_message m ≡ some (envelope i sent c) → the.acl_of s i ≡ some a
      → same_bytes sent (hmac a.key c) ≡ true → decodes c ≡ none
      → reply_to s (whole m v rest) ≡ some (signed_by i a.key (command_tree s.connection.number none 18446744073709551615 bare 16) [])

-- what is judged of a command c with a value part v, sent by an identity with the ACL a
pub record JudgedCodes (s : State) (a : access.Acl) (c : Command) (v : List ℕ) : Type 0 where
  -- step 4: "Header, connectionID and sequence present: else HEADER_REQUIRED (6)."
  pub no_header : c.header ≡ none → judge s a c v ≡ fails s 6
  pub no_connection : (h : Header) → c.header ≡ some h → h.connection_id ≡ none → judge s a c v ≡ fails s 6
  pub no_sequence : (h : Header) (n : ℕ) → c.header ≡ some h → h.connection_id ≡ some n → h.sequence ≡ none → judge s a c v ≡ fails s 6
  -- step 5: "clusterVersion equals the device's: else VERSION_FAILURE (4)."
  pub other_version : (h : Header) (n q : ℕ) → c.header ≡ some h → h.connection_id ≡ some n → h.sequence ≡ some q
      → eqb h.cluster_version (table s).cluster_version ≡ false → judge s a c v ≡ fails s 4
  -- step 6: "connectionID equals the connection's, and sequence is above the last accepted: else 16."
  pub other_connection : (h : Header) (n q : ℕ) → c.header ≡ some h → h.connection_id ≡ some n → h.sequence ≡ some q
      → eqb h.cluster_version (table s).cluster_version ≡ true → eqb n s.connection.number ≡ false → judge s a c v ≡ fails s 16
  pub old_sequence : (h : Header) (n q : ℕ) → c.header ≡ some h → h.connection_id ≡ some n → h.sequence ≡ some q
      → eqb h.cluster_version (table s).cluster_version ≡ true → eqb n s.connection.number ≡ true → above_last q s.connection.last ≡ false
      → judge s a c v ≡ fails s 16
  -- step 7: "messageType is a request built here: else 16."
  pub not_built : (q : ℕ) (p : Passes s c q) → asked_by p.header.message_type ≡ None → judge s a c v ≡ fails (accepted s q) 16
  -- step 8: a code of the tables below
  pub ill_formed : (q : ℕ) (p : Passes s c q) (x : Choice) → asked_by p.header.message_type ≡ Some x
      → eqb (fault x.operation c.body v) 0 ≡ false → judge s a c v ≡ fails (accepted s q) (fault x.operation c.body v)
  -- step 9: "Permission: else NOT_AUTHORIZED (3)."
  pub not_permitted : (q : ℕ) (p : Passes s c q) (x : Choice) → asked_by p.header.message_type ≡ Some x
      → eqb (fault x.operation c.body v) 0 ≡ true → permitted a s.connection.protected x.permission c.body ≡ false → judge s a c v ≡ fails (accepted s q) 3
  -- step 10: "The operation."
  pub performed : (q : ℕ) (p : Passes s c q) (x : Choice) → asked_by p.header.message_type ≡ Some x
      → eqb (fault x.operation c.body v) 0 ≡ true → permitted a s.connection.protected x.permission c.body ≡ true
      → judge s a c v ≡ step10 (accepted s q) a x.operation c.body v

-- step 8, lengths and counts: a body with a keyValue, a range, a getLog, a security part
abbrev pub entering : List ℕ → List ℕ → List ℕ → List ℕ → Body
entering k w d t =
    record {
      key_value = some (record { new_version = w; key = k; db_version = d; tag = t; algorithm = 0; metadata_only = false; force = false });
      range = none;
      setup = none;
      get_log = none;
      security = none;
    }

abbrev pub ranging : List ℕ → List ℕ → ℕ → Body
ranging a z n =
    record {
      key_value = none;
      range = some (record { start_key = some a; end_key = some z; start_inclusive = false; end_inclusive = false; max_returned = n; reverse = false });
      setup = none;
      get_log = none;
      security = none;
    }

abbrev pub logging : List ℕ → Body
logging types = record { key_value = none; range = none; setup = none; get_log = some types; security = none }

abbrev pub securing : List Acl → Body
securing acls = record { key_value = none; range = none; setup = none; get_log = none; security = some acls }

-- from `least` to `most` bytes pass step 8; fewer and more give INVALID_REQUEST (16)
pub record Limit (least most : ℕ) (code : List ℕ → ℕ) : Type 0 where
  pub passes : (bytes : List ℕ) → least ≤ length bytes → length bytes ≤ most → code bytes ≡ 0
  pub fewer : (bytes : List ℕ) → length bytes < least → code bytes ≡ 16
  pub more : (bytes : List ℕ) → most < length bytes → code bytes ≡ 16

-- an ACL with so many bytes of key and these scopes; a scope with these permissions, this offset and so many bytes of value
abbrev pub acl : ℕ → ℕ → ℕ → List Scope → Acl
acl i k h ss = record { identity = some i; key = replicate k 0; hmac_algorithm = h; scopes = ss }

abbrev pub scope : List ℕ → ℕ → ℕ → Scope
scope ps o n = record { offset = o; value = replicate n 0; permissions = ps; tls_required = false }

-- n ACLs of different identities
unfoldable pub acls : ℕ → List Acl
acls zero = []
acls (suc n) = acl n 1 1 (scope (0 ∷ []) 0 0 ∷ []) ∷ acls n

unfoldable pub scopes : ℕ → List Scope
scopes zero = []
scopes (suc n) = scope (0 ∷ []) 0 0 ∷ scopes n

-- the codes of SECURITY with each of some ACLs alone
abbrev pub codes : List Acl → List ℕ
codes each = map_l (λ a. fault Security (securing (a ∷ [])) []) each

pub record Step8 : Type 0 where
  -- "Key 1 to 64, versions at most 16, tag at most 32"
  pub key : Limit 1 64 (λ k. fault Get (entering k [] [] []) [])
  pub new_version : Limit 0 16 (λ w. fault Get (entering (0 ∷ []) w [] []) [])
  pub db_version : Limit 0 16 (λ d. fault Get (entering (0 ∷ []) [] d []) [])
  pub tag : Limit 0 32 (λ t. fault Get (entering (0 ∷ []) [] [] t) [])
  -- "value part at most 384 on PUT and empty elsewhere"
  pub value_put : Limit 0 384 (λ v. fault Put (entering (0 ∷ []) [] [] []) v)
  pub value_get : Limit 0 0 (λ v. fault Get (entering (0 ∷ []) [] [] []) v)
  -- "Range keys present, 0 to 64; maxReturned 0 to 32, absent means 32"
  pub start_key : Limit 0 64 (λ k. fault GetKeyRange (ranging k [] 0) [])
  pub end_key : Limit 0 64 (λ k. fault GetKeyRange (ranging [] k 0) [])
  pub max_returned : ((n : ℕ) → n ≤ 32 → fault GetKeyRange (ranging [] [] n) [] ≡ 0) × ((n : ℕ) → 32 < n → fault GetKeyRange (ranging [] [] n) [] ≡ 16)
  pub absent_max_returned : (t : Tree) → int_at 5 t ≡ none → (range_of t).max_returned ≡ 32
  -- "1 to 8 ACLs"
  pub acl_count : map_l (λ n. fault Security (securing (acls n)) []) (0 ∷ 1 ∷ 8 ∷ 9 ∷ []) ≡ 16 ∷ 0 ∷ 0 ∷ 16 ∷ []
  -- "key 1 to 64"
  pub acl_key : codes (map_l (λ n. acl 0 n 1 (scopes 1)) (0 ∷ 1 ∷ 64 ∷ 65 ∷ [])) ≡ 16 ∷ 0 ∷ 0 ∷ 16 ∷ []
  -- "1 to 4 scopes"
  pub scope_count : codes (map_l (λ n. acl 0 1 1 (scopes n)) (0 ∷ 1 ∷ 4 ∷ 5 ∷ [])) ≡ 16 ∷ 0 ∷ 0 ∷ 16 ∷ []
  -- "each with 1 to 9 permissions among 0-5, 7, 8, 9"
  pub permission_count : codes (map_l (λ n. acl 0 1 1 (scope (replicate n 0) 0 0 ∷ [])) (0 ∷ 1 ∷ 9 ∷ 10 ∷ [])) ≡ 16 ∷ 0 ∷ 0 ∷ 16 ∷ []
  pub permission_named : codes (map_l (λ p. acl 0 1 1 (scope (p ∷ []) 0 0 ∷ [])) (0 ∷ 1 ∷ 2 ∷ 3 ∷ 4 ∷ 5 ∷ 6 ∷ 7 ∷ 8 ∷ 9 ∷ 10 ∷ []))
      ≡ 0 ∷ 0 ∷ 0 ∷ 0 ∷ 0 ∷ 0 ∷ 16 ∷ 0 ∷ 0 ∷ 0 ∷ 16 ∷ []
  -- "offset 0 to 64, value at most 64. Negative offsets are refused."
  pub offset : codes (map_l (λ o. acl 0 1 1 (scope (0 ∷ []) o 0 ∷ [])) (0 ∷ 64 ∷ 65 ∷ 18446744073709551615 ∷ [])) ≡ 0 ∷ 0 ∷ 16 ∷ 16 ∷ []
  pub scope_value : codes (map_l (λ n. acl 0 1 1 (scope (0 ∷ []) 0 n ∷ [])) (0 ∷ 64 ∷ 65 ∷ [])) ≡ 0 ∷ 0 ∷ 16 ∷ []
  -- "Then an hmacAlgorithm that is present and not 1 gives NO_SUCH_HMAC_ALGORITHM (15); an absent one is 1"
  pub hmac_algorithm : codes (map_l (λ h. acl 0 1 h (scopes 1)) (0 ∷ 1 ∷ 2 ∷ [])) ≡ 15 ∷ 0 ∷ 15 ∷ []
  pub absent_hmac_algorithm : (t : Tree) → int_at 3 t ≡ none → (acl_of t).hmac_algorithm ≡ 1
  -- document 02, CR 1: "no type, or a 3, 4 or 5, is INVALID_REQUEST at step 8"
  pub log_types : fault GetLog (logging []) [] ∷ map_l (λ t. fault GetLog (logging (t ∷ [])) []) (0 ∷ 1 ∷ 2 ∷ 3 ∷ 4 ∷ 5 ∷ 6 ∷ 7 ∷ [])
      ≡ 16 ∷ 0 ∷ 0 ∷ 0 ∷ 16 ∷ 16 ∷ 16 ∷ 0 ∷ 0 ∷ []

-- ---- "Who may", with document 003's MessageType and Permission

pub record OperationRow : Type 0 where
  pub operation : Operation
  pub request : ℕ
  pub response : ℕ
  pub permission : Option ℕ

abbrev pub row : Operation → ℕ → ℕ → Option ℕ → OperationRow
row o q r p = record { operation = o; request = q; response = r; permission = p }

-- "READ 0: GET, GETVERSION, GETNEXT, GETPREVIOUS. WRITE 1: PUT. DELETE 2: DELETE. RANGE 3: GETKEYRANGE. SETUP 4, SECURITY 8 likewise.
-- NOOP and FLUSHALLDATA need none"; document 02, CR 1: "GETLOG (24, permission GETLOG 7, any key)"
abbrev pub operations : List OperationRow
operations =
    row Get 2 1 (some 0) ∷ row Put 4 3 (some 1) ∷ row Delete 6 5 (some 2) ∷ row GetNext 8 7 (some 0) ∷ row GetPrevious 10 9 (some 0)
    ∷ row GetKeyRange 12 11 (some 3) ∷ row GetVersion 16 15 (some 0) ∷ row Setup 22 21 (some 4) ∷ row GetLog 24 23 (some 7)
    ∷ row Security 26 25 (some 8) ∷ row Noop 30 29 none ∷ row FlushAllData 32 31 none ∷ []

-- "permissions among 0-5, 7, 8, 9"
abbrev pub permissions : List ℕ
permissions = 0 ∷ 1 ∷ 2 ∷ 3 ∷ 4 ∷ 5 ∷ 7 ∷ 8 ∷ 9 ∷ []

-- the row of a number, if there is one
unfoldable pub row_of : ℕ → List OperationRow → Option OperationRow
row_of n [] = none
row_of n (r ∷ rs) = cond (eqb n r.request) (some r) (row_of n rs)

unfoldable pub without : ℕ → List ℕ → List ℕ
without p [] = []
without p (q ∷ qs) = cond (eqb p q) qs (q ∷ without p qs)

-- an identity with one scope, which fits every key and has these permissions
abbrev pub holding : List ℕ → access.Acl
holding ps = record { identity = 1; key = []; scopes = access.scope_of 0 [] ps false ∷ [] }

-- the permission alone is enough, and all the others are not
abbrev pub Needs : Option ℕ → Permission → Type 0
Needs none x = (protected : Bool) (b : Body) → permitted (holding []) protected x b ≡ true
Needs (some p) x = (protected : Bool) (b : Body) → (permitted (holding (p ∷ [])) protected x b ≡ true) × (permitted (holding (without p permissions)) protected x b ≡ false)

-- what a number asks for is what its row says, "everything else refused"; "Type is the request's minus one"
pub data Chooses : Asked → Option OperationRow → Type 0 where
  by_row : (x : Choice) (r : OperationRow) → x.operation ≡ r.operation → reply_type (Some x) ≡ r.response → Needs r.permission x.permission → Chooses (Some x) (some r)
  else_none : Chooses None none

pub record OperationTable : Type 0 where
  -- "Match on messageType numbers chooses operation, permission and reply type", for every number
  pub asks : (n : ℕ) → Chooses (asked_by (some n)) (row_of n operations)
  -- an absent one chooses none; "-1 where no built request is read", as a 64-bit word
  pub asks_none : asked_by none ≡ None
  pub replies_none : reply_type None ≡ 18446744073709551615
  -- Format: "The one ACL is identity 1, a key from the host, one scope with every permission, cluster version 0."
  pub host : (key : List ℕ) → host_table key
      ≡ record { cluster_version = 0; acls = record { identity = 1; key = key; scopes = access.scope_of 0 [] permissions false ∷ [] } ∷ [] }

-- ---- "What each does"

pub record OperationCodes (s : State) (a : access.Acl) (b : Body) (v : List ℕ) : Type 0 where
  -- "SUCCESS (1)"
  pub noop : (step10 s a Noop b v).code ≡ 1
  pub flushed : (step10 s a FlushAllData b v).code ≡ 1
  pub listed : (step10 s a GetKeyRange b v).code ≡ 1
  pub secured : (step10 s a Security b v).code ≡ 1
  pub set_up : (step10 s a Setup b v).code ≡ 1
  -- "GET, GETVERSION: 7 if missing. GETNEXT, GETPREVIOUS: …; 7 if none."
  pub get_missing : entry_of s (key_value_in b).key ≡ none → step10 s a Get b v ≡ fails s 7
  pub get_found : (e : Entry) → entry_of s (key_value_in b).key ≡ some e → (step10 s a Get b v).code ≡ 1
  pub version_missing : entry_of s (key_value_in b).key ≡ none → step10 s a GetVersion b v ≡ fails s 7
  pub version_found : (e : Entry) → entry_of s (key_value_in b).key ≡ some e → (step10 s a GetVersion b v).code ≡ 1
  pub next_none : next_of (key_value_in b).key (visible_in s a 0) ≡ none → step10 s a GetNext b v ≡ fails s 7
  pub previous_none : previous_of (key_value_in b).key (visible_in s a 0) ≡ none → step10 s a GetPrevious b v ≡ fails s 7
  -- PUT: "else VERSION_MISMATCH (8). A new key that passes this, with no blank block: NO_SPACE (14), and only then."
  pub put_mismatch : version_right (key_value_in b) (entry_of s (key_value_in b).key) ≡ false → step10 s a Put b v ≡ fails s 8
  pub put_no_space : version_right (key_value_in b) (entry_of s (key_value_in b).key) ≡ true → put_answer s.store (new_entry (key_value_in b) v) ≡ Err Full
      → step10 s a Put b v ≡ fails s 14
  pub put_stored : version_right (key_value_in b) (entry_of s (key_value_in b).key) ≡ true → put_answer s.store (new_entry (key_value_in b) v) ≡ Ok tt
      → (step10 s a Put b v).code ≡ 1
  -- DELETE: "missing key is NOT_FOUND (7), or SUCCESS with force; version as for PUT."
  pub delete_missing : entry_of s (key_value_in b).key ≡ none → (key_value_in b).force ≡ false → step10 s a Delete b v ≡ fails s 7
  pub delete_forced : entry_of s (key_value_in b).key ≡ none → (key_value_in b).force ≡ true → (step10 s a Delete b v).code ≡ 1
  pub delete_mismatch : (e : Entry) → entry_of s (key_value_in b).key ≡ some e → version_right (key_value_in b) (some e) ≡ false → step10 s a Delete b v ≡ fails s 8
  pub deleted : (e : Entry) → entry_of s (key_value_in b).key ≡ some e → version_right (key_value_in b) (some e) ≡ true → (step10 s a Delete b v).code ≡ 1
  -- document 02, CR 1: "else a 7 is NOT_FOUND at step 10"
  pub log_device : (types : List ℕ) → among 7 types ≡ true → step10 s a GetLog (logging types) v ≡ fails s 7
  pub logged : (types : List ℕ) → among 7 types ≡ false → (step10 s a GetLog (logging types) v).code ≡ 1

-- ---- "Replies": the bodies, as bytes; W1 and W2 have the rest

-- 1.0
abbrev pub one : ℕ
one = 0x3F800000

pub record ReplyNumbers : Type 0 where
  -- "keyValue 3, 4, 5, 6"
  pub key_value : encode (body_tree (key_value (1 ∷ []) (2 ∷ []) (3 ∷ []) 4) done)
      ≡ 0x12 ∷ 13 ∷ 0x0A ∷ 11 ∷ 0x1A ∷ 1 ∷ 1 ∷ 0x22 ∷ 1 ∷ 2 ∷ 0x2A ∷ 1 ∷ 3 ∷ 0x30 ∷ 4 ∷ []
  -- "range with 8 for each key"
  pub keys : encode (body_tree (range ((1 ∷ []) ∷ (2 ∷ []) ∷ [])) done) ≡ 0x12 ∷ 8 ∷ 0x12 ∷ 6 ∷ 0x42 ∷ 1 ∷ 1 ∷ 0x42 ∷ 1 ∷ 2 ∷ []
  -- document 003, GetLog: utilizations 2 (name 1, value 2), temperatures 3 (name 1, current 2), capacity 4 (nominalCapacityInBytes 4, portionFull 5), limits 8.
  pub logs : encode (body_tree (log (record {
    utilizations = record { name = 0x75 ∷ []; value = some one } ∷ [];
    temperatures = record { name = 0x74 ∷ []; value = some one } ∷ [];
    capacity = some (record { nominal = 512; portion = one });
    limits = true;
  })) done)
      ≡ 0x12 ∷ 50 ∷ 0x32 ∷ 48
      ∷ 0x12 ∷ 8 ∷ 0x0A ∷ 1 ∷ 0x75 ∷ 0x15 ∷ 0x00 ∷ 0x00 ∷ 0x80 ∷ 0x3F
      ∷ 0x1A ∷ 8 ∷ 0x0A ∷ 1 ∷ 0x74 ∷ 0x15 ∷ 0x00 ∷ 0x00 ∷ 0x80 ∷ 0x3F
      ∷ 0x22 ∷ 8 ∷ 0x20 ∷ 0x80 ∷ 0x04 ∷ 0x2D ∷ 0x00 ∷ 0x00 ∷ 0x80 ∷ 0x3F
      ∷ 0x42 ∷ 16 ∷ 0x08 ∷ 64 ∷ 0x10 ∷ 0x80 ∷ 0x03 ∷ 0x18 ∷ 16 ∷ 0x20 ∷ 32 ∷ 0x40 ∷ 0x80 ∷ 0x40 ∷ 0x48 ∷ 32 ∷ 0x50 ∷ 8 ∷ []

-- ---- document 02, CR 1: the log

-- readings with t temperatures, u utilisations and names of n bytes
abbrev pub place : ℕ → List ℕ
place n = 0 ∷ n ∷ replicate 20 0

abbrev pub readings : ℕ → ℕ → ℕ → List ℕ
readings t u n = t ∷ u ∷ (place n ++ (place n ++ (place n ++ (place n ++ (place n ++ place n)))))

pub record LogNumbers : Type 0 where
  -- the types of document 003: UTILIZATIONS 0, TEMPERATURES 1, CAPACITIES 2, LIMITS 6
  pub type_0 : (s : State) → log_of s (0 ∷ [])
      ≡ record { utilizations = map_l utilization_sample (utilizations s.readings); temperatures = []; capacity = none; limits = false }
  pub type_1 : (s : State) → log_of s (1 ∷ [])
      ≡ record { utilizations = []; temperatures = map_l temperature_sample (temperatures s.readings); capacity = none; limits = false }
  pub type_2 : (s : State) → log_of s (2 ∷ []) ≡ record { utilizations = []; temperatures = []; capacity = some (capacity_of s.store); limits = false }
  pub type_6 : (s : State) → log_of s (6 ∷ []) ≡ record { utilizations = []; temperatures = []; capacity = none; limits = true }
  -- "The capacity is 512 bytes a block."
  pub capacity : (store : List ℕ) (n : ℕ) → length store ≡ 512 * n → (capacity_of store).nominal ≡ 512 * n
  -- "Limits show key 64, value 384, version 16, tag 32, message 8,192, range count 32, identities 8; others are omitted": document 003's numbers 1 to 13
  pub limits : map_l (λ n. int_at n limits_tree) (1 ∷ 2 ∷ 3 ∷ 4 ∷ 5 ∷ 6 ∷ 7 ∷ 8 ∷ 9 ∷ 10 ∷ 11 ∷ 12 ∷ 13 ∷ [])
      ≡ some 64 ∷ some 384 ∷ some 16 ∷ some 32 ∷ none ∷ none ∷ none ∷ some 8192 ∷ some 32 ∷ some 8 ∷ none ∷ none ∷ none ∷ []
  -- "subtract 32, times 5, over 9": 32 is 0, 212 is 100 and -40 is -40, as binary32
  pub celsius : map_l (celsius_of true) (0x42000000 ∷ 0x43540000 ∷ 0xC2200000 ∷ []) ≡ 0x00000000 ∷ 0x42C80000 ∷ 0xC2200000 ∷ []
  -- "up to four temperatures and two utilisations, names 1 to 16 bytes"
  pub temperature_count : map_l (λ t. readings_good (readings t 2 1)) (0 ∷ 4 ∷ 5 ∷ []) ≡ true ∷ true ∷ false ∷ []
  pub utilization_count : map_l (λ u. readings_good (readings 4 u 1)) (0 ∷ 2 ∷ 3 ∷ []) ≡ true ∷ true ∷ false ∷ []
  pub name_length : map_l (λ n. readings_good (readings 4 2 n)) (0 ∷ 1 ∷ 16 ∷ 17 ∷ []) ≡ false ∷ true ∷ true ∷ false ∷ []

-- ---- document 02, CR 6: the rescue

pub record RescueNumbers (store report : List ℕ) : Type 0 where
  -- "A wrong store length is refusal 2, then a wrong report length a new refusal 8."
  pub store_bad : size_good store ≡ false → rescue_of store report ≡ rescue.outcome 2 store report
  pub report_bad : size_good store ≡ true → eqb (length report) (length store / 512) ≡ false → rescue_of store report ≡ rescue.outcome 8 store report
  pub rescued : size_good store ≡ true → eqb (length report) (length store / 512) ≡ true → (rescue_of store report).number ≡ 0

-- "Report bytes, by old place, the first that applies: 0 blank, 2 check wrong, 3 other rule broken, 4 key of an earlier kept block, 1 kept."
-- The byte of a block b when es are the entries kept before it
pub record ReportBytes (es : List Entry) (b : List ℕ) : Type 0 where
  pub blank : blank_test b ≡ true → report_byte es b ≡ 0
  pub check_wrong : blank_test b ≡ false → sum_test b ≡ false → report_byte es b ≡ 2
  pub rule_broken : blank_test b ≡ false → sum_test b ≡ true → block_test b ≡ false → report_byte es b ≡ 3
  pub earlier : blank_test b ≡ false → sum_test b ≡ true → block_test b ≡ true → has_key (decode b).key es ≡ true → report_byte es b ≡ 4
  pub kept : blank_test b ≡ false → sum_test b ≡ true → block_test b ≡ true → has_key (decode b).key es ≡ false → report_byte es b ≡ 1

-- ---- all of them

pub record Documented : Type 0 where
  pub round : (t x y z : ℕ) → RoundNumbers t x y z
  pub digest : (key text : List ℕ) → DigestNumbers key text
  pub answer : (s : State) (out : ℕ) (xs : List ℕ) → AnswerRefusals s out xs
  pub format : (store : List ℕ) → FormatNumbers store
  pub block : BlockNumbers
  pub frame : FrameNumbers
  pub wire : WireNumbers
  pub listed : FieldNumbers
  pub steps_1_to_3 : (s : State) (m v rest : List ℕ) → ReadCodes s m v rest
  pub steps_4_to_9 : (s : State) (a : access.Acl) (c : Command) (v : List ℕ) → JudgedCodes s a c v
  pub step_8 : Step8
  pub operation : OperationTable
  pub step_10 : (s : State) (a : access.Acl) (b : Body) (v : List ℕ) → OperationCodes s a b v
  pub reply : ReplyNumbers
  pub log : LogNumbers
  pub rescues : (store report : List ℕ) → RescueNumbers store report
  pub report : (es : List Entry) (b : List ℕ) → ReportBytes es b
