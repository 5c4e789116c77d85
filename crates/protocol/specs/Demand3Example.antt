-- Demand 3 put to use: a message with the box's own hmac under any key, and fields put in at every depth. None of the conditions is empty.
use Rattle.std.specs.Prelude.{ℕ, ◌+◌, ◌*◌, List, [], ◌∷◌, ◌++◌, length}
use Rattle.fields_schema.specs.FieldNumbers.{Message-auth_type, Message-hmac_auth, Message-pin_auth, Message-command_bytes, HMACauth-identity, HMACauth-hmac, Command-header}
use Rattle.fields_schema.specs.FieldNumbers.{Command-body, Header-connection_id, Header-sequence, Header-message_type, Body-key_value, Body-security, KeyValue-key}
use Rattle.fields_schema.specs.FieldNumbers.{KeyValue-force, Security-acl, ACL-identity, ACL-scope, Scope-permission}
use Rattle.fields_schema.specs.Tree.{Tree, done, int, raw, sub}
use Rattle.fields_encoding.specs.Encode.{int_field, len_field, encode}
use Rattle.signature_hmac.specs.Hmac.{hmac}
use Rattle.protocol.specs.AuthType.{HMACAUTH}
use Rattle.protocol.specs.Reply.{signed_tree}

-- the field 15 with the number 1, which no kind lists
abbrev pub added : List ℕ
added = 0x78 ∷ 0x01 ∷ []

-- an HMACauth of identity 1; the message with it and the commandBytes b
abbrev pub auth : List ℕ → List ℕ → List ℕ
auth key b = encode (int HMACauth-identity 1 (raw HMACauth-hmac (hmac key b) done))

abbrev pub message : List ℕ → List ℕ → List ℕ
message key b = encode (signed_tree 1 key b)

-- the same with a field put into the Message and one into the HMACauth
abbrev pub fuller : List ℕ → List ℕ → List ℕ
fuller key b =
    added ++ (int_field Message-auth_type HMACAUTH ++ (len_field Message-hmac_auth (added ++ auth key b) ++ (len_field Message-command_bytes b ++ [])))

-- tag, length and bytes, where one byte is enough for each
abbrev pub hold : ℕ → List ℕ → List ℕ
hold n b = (n * 8 + 2) ∷ length b ∷ b

-- connectionID 1, sequence 2, a messageType
abbrev pub header : ℕ → List ℕ
header y = 0x18 ∷ 0x01 ∷ 0x20 ∷ 0x02 ∷ 0x38 ∷ y ∷ []

abbrev pub key_a : List ℕ
key_a = 0x1a ∷ 0x01 ∷ 0x41 ∷ []

abbrev pub plain : List ℕ
plain = hold Command-header (header 4) ++ hold Command-body (hold Body-key_value key_a)

abbrev pub newer : List ℕ
newer = added ++ (hold Command-header (added ++ header 4) ++ (hold Command-body (added ++ hold Body-key_value (added ++ key_a))))

abbrev pub tree : Tree
tree =
    sub Command-header (int Header-connection_id 1 (int Header-sequence 2 (int Header-message_type 4 done)))
    (sub Command-body (sub Body-key_value (raw KeyValue-key (0x41 ∷ []) done) done) done)

-- connectionID 1, sequence 1; then sequence 2, which counts, and the messageType
abbrev pub earlier : List ℕ
earlier = 0x18 ∷ 0x01 ∷ 0x20 ∷ 0x01 ∷ []

abbrev pub later : List ℕ
later = 0x20 ∷ 0x02 ∷ 0x38 ∷ 0x04 ∷ []

-- force, in the keyValue of a second body
abbrev pub force : List ℕ
force = 0x40 ∷ 0x01 ∷ []

abbrev pub plain_twice : List ℕ
plain_twice =
    hold Command-header earlier ++ (hold Command-header later
    ++ (hold Command-body (hold Body-key_value key_a) ++ hold Command-body (hold Body-key_value force)))

-- a field between the two headers and between the two bodies, and one in each header, body and keyValue
abbrev pub newer_twice : List ℕ
newer_twice =
    hold Command-header (added ++ earlier) ++ (added ++ (hold Command-header (added ++ later)
    ++ (hold Command-body (added ++ hold Body-key_value (added ++ key_a)) ++ (added ++ hold Command-body (added ++ hold Body-key_value (added ++ force))))))

abbrev pub tree_twice : Tree
tree_twice =
    sub Command-header (int Header-connection_id 1 (int Header-sequence 1 done)) (sub Command-header (int Header-sequence 2 (int Header-message_type 4 done))
    (sub Command-body (sub Body-key_value (raw KeyValue-key (0x41 ∷ []) done) done) (sub Command-body (sub Body-key_value (int KeyValue-force 1 done) done) done)))

abbrev pub twice_tree : List ℕ → List ℕ → List ℕ → Tree
twice_tree key a b =
    int Message-auth_type HMACAUTH (sub Message-hmac_auth (int HMACauth-identity 1 done) (sub Message-hmac_auth (raw HMACauth-hmac (hmac key b) done)
    (raw Message-command_bytes a (raw Message-command_bytes b done))))

abbrev pub message_twice : List ℕ → List ℕ → List ℕ → List ℕ
message_twice key a b = encode (twice_tree key a b)

-- the identity, the hmac
abbrev pub first_auth : List ℕ
first_auth = encode (int HMACauth-identity 1 done)

abbrev pub second_auth : List ℕ → List ℕ → List ℕ
second_auth key b = encode (raw HMACauth-hmac (hmac key b) done)

-- a field between the two HMACauths and between the commandBytes, and one in each HMACauth
abbrev pub fuller_twice : List ℕ → List ℕ → List ℕ → List ℕ
fuller_twice key a b =
    int_field Message-auth_type HMACAUTH ++ (len_field Message-hmac_auth (added ++ first_auth) ++ (added ++ (len_field Message-hmac_auth (added ++ second_auth key b)
    ++ (len_field Message-command_bytes a ++ (added ++ (len_field Message-command_bytes b ++ []))))))

-- a message whose field 6 has the contents a
abbrev pub six_tree : List ℕ → List ℕ → Tree
six_tree key b =
    int Message-auth_type HMACAUTH (sub Message-hmac_auth (int HMACauth-identity 1 (raw HMACauth-hmac (hmac key b) done))
    (raw Message-pin_auth [] (raw Message-command_bytes b done)))

abbrev pub message_six : List ℕ → List ℕ → List ℕ → List ℕ
message_six key a b =
    int_field Message-auth_type HMACAUTH ++ (len_field Message-hmac_auth (auth key b) ++ (len_field Message-pin_auth a ++ (len_field Message-command_bytes b ++ [])))

abbrev pub acls : List ℕ
acls = hold Security-acl (0x08 ∷ 0x01 ∷ hold ACL-scope (0x18 ∷ 0x00 ∷ []))

abbrev pub securing : List ℕ
securing = hold Command-header (header 26) ++ hold Command-body (hold Body-security acls)

abbrev pub stranger : List ℕ
stranger = hold Command-header (header 26) ++ hold Command-body (hold Body-security (added ++ acls))

abbrev pub security_tree : Tree
security_tree =
    sub Command-header (int Header-connection_id 1 (int Header-sequence 2 (int Header-message_type 26 done)))
    (sub Command-body (sub Body-security (sub Security-acl (int ACL-identity 1 (sub ACL-scope (int Scope-permission 0 done) done)) done) done) done)
