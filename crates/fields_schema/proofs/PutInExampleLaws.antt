-- Worked examples: each way of `PutIn` by itself, and the field 15 with the number 1 (78 01), which no kind lists, put in at every depth.
use Rattle.std.specs.Prelude.{ℕ, ◌+◌, ◌*◌, ◌≤◌, ◌<◌, ◌≡◌, refl, List, [], ◌∷◌, ◌++◌, length}
use Rattle.std.proofs.Common.{arith, sym, ap, ◌∙◌, subst₂, append-nil}
use Rattle.std.proofs.Math.Option.{none, some}
use Rattle.fields_wire.specs.Reader.{got}
use Rattle.fields_wire.specs.Wire.{varint_in, varint, vint, field, value_of, read_field, fields_in, fields_of, Framed}
use Rattle.fields_wire.specs.VarintLaws.{varint-one, varint-whole}
use Rattle.fields_schema.specs.Rules.{rule_of}
use Rattle.fields_schema.specs.Tree.{items, level, done, int, raw, sub, open_all, listed_in, listed}
use Rattle.fields_schema.specs.PutIn.{Has, Holds, Replaces, Nothing, PutIn}
use Rattle.fields_schema.proofs.FrontLaws.{framed-bytes}
use Rattle.fields_schema.proofs.PutInLaws.{put-in-same}
use Rattle.fields_schema.proofs.StrictLaws.{put-in-refused}
use Rattle.fields_schema.specs.Boundaries.{PutAt}
use Rattle.fields_schema.proofs.BoundariesLaws.{put-in-anywhere}
use Rattle.fields_schema.specs.declared.Kind.{Kind}
use Rattle.fields_schema.specs.declared.Kind.TheVariants.{Message, HmacAuth, Command, Header, Body, KeyValue, Security, Acl, Scope}
use Rattle.fields_schema.specs.declared.Form.TheVariants.{Nested}

abbrev added : List ℕ
added = 0x78 ∷ 0x01 ∷ []

y : Framed (field 15 (vint 1)) added
unfolding read_field value_of varint_in
y = record { whole = refl }

-- tag, length and bytes, where one byte is enough for each
abbrev hold : ℕ → List ℕ → List ℕ
hold n b = (n * 8 + 2) ∷ length b ∷ b

up : {j k : Kind} (n : ℕ) (k' : Kind) (b b' : List ℕ) → Holds n b (hold n b) → Holds n b' (hold n b') → Has (Nested k') (rule_of k n)
    → PutAt added j k' b b' → PutAt added j k (hold n b) (hold n b')
unfolding fields_of fields_in
up {j} {k} n k' b b' h h' g p =
    subst₂ (PutAt added j k) (append-nil (hold n b)) (append-nil (hold n b')) (PutAt.inside [] [] refl n k' b b' h h' g p)

-- each way by itself ------------------------------------------------------------------------------------------------------

one_byte : (v : ℕ) → v < 128 → varint (v ∷ []) ≡ got v []
one_byte v h = ap varint (sym (varint-one v h)) ∙ varint-whole v (omega arith)

held : (n : ℕ) (b : List ℕ) → 1 ≤ n → n ≤ 15 → length b < 128 → Holds n b (hold n b)
held n b p q h = framed-bytes n ((n * 8 + 2) ∷ []) (length b ∷ []) b (one_byte (n * 8 + 2) (omega arith)) p (omega arith) (one_byte (length b) h)

-- same: nothing is put in
as-it-stands : (m : List ℕ) → PutIn Nothing Security 0 m m
as-it-stands m = PutIn.same Security m

-- put: outside the security part it does not count, inside it does, each of them
two-put : (m : List ℕ) → PutIn Nothing Header 0 m (added ++ (added ++ m))
two-put m = PutIn.put 15 (vint 1) y refl (PutIn.put 15 (vint 1) y refl (PutIn.same Header m))

two-counted : (m : List ℕ) → PutIn Nothing Scope 2 m (added ++ (added ++ m))
two-counted m = PutIn.put 15 (vint 1) y refl (PutIn.put 15 (vint 1) y refl (PutIn.same Scope m))

-- keep: connectionID 1, its tag in one byte and in two
tag-longer : (m m' : List ℕ) {c : ℕ} → PutIn Nothing Header c m m' → PutIn Nothing Header c ((0x18 ∷ 0x01 ∷ []) ++ m) ((0x98 ∷ 0x00 ∷ 0x01 ∷ []) ++ m')
unfolding read_field value_of varint_in
tag-longer m m' p = PutIn.keep {x = 0x18 ∷ 0x01 ∷ []} {x' = 0x98 ∷ 0x00 ∷ 0x01 ∷ []} (field 3 (vint 1)) (record { whole = refl }) (record { whole = refl }) p

-- inside: a Scope in an ACL; what is put into it counts, and what is put in after it
in_both : (b b' m m' : List ℕ) {c d : ℕ} → length b < 128 → length b' < 128 → PutIn Nothing Scope c b b' → PutIn Nothing Acl d m m'
    → PutIn Nothing Acl (c + d) (hold 4 b ++ m) (hold 4 b' ++ m')
in_both b b' m m' h h' p q = PutIn.inside 4 Scope b b' (held 4 b (omega arith) (omega arith) h) (held 4 b' (omega arith) (omega arith) h') refl p q

-- hidden: "the contents of Message 6", and of a status: any others
other-six : (b b' m m' : List ℕ) {c : ℕ} → length b < 128 → length b' < 128 → PutIn Nothing Message c m m' → PutIn Nothing Message c (hold 6 b ++ m) (hold 6 b' ++ m')
other-six b b' m m' h h' p = PutIn.hidden 6 b b' (held 6 b (omega arith) (omega arith) h) (held 6 b' (omega arith) (omega arith) h') refl p

other-status : (b b' m m' : List ℕ) {c : ℕ} → length b < 128 → length b' < 128 → PutIn Nothing Command c m m' → PutIn Nothing Command c (hold 3 b ++ m) (hold 3 b' ++ m')
other-status b b' m m' h h' p = PutIn.hidden 3 b b' (held 3 b (omega arith) (omega arith) h) (held 3 b' (omega arith) (omega arith) h') refl p

-- skipped: the contents "of unlisted fields of wire type 2": any others
other-unlisted : (b b' m m' : List ℕ) {c : ℕ} → length b < 128 → length b' < 128 → PutIn Nothing Body c m m' → PutIn Nothing Body c (hold 15 b ++ m) (hold 15 b' ++ m')
other-unlisted b b' m m' h h' p = PutIn.skipped 15 b b' (held 15 b (omega arith) (omega arith) h) (held 15 b' (omega arith) (omega arith) h') refl p

-- replaced: an hmac, by one that R allows
other-hmac : (R : Replaces) (b b' m m' : List ℕ) {c : ℕ} → length b < 128 → length b' < 128 → R HmacAuth 2 b b' → PutIn R HmacAuth c m m' → PutIn R HmacAuth c (hold 2 b ++ m) (hold 2 b' ++ m')
other-hmac R b b' m m' h h' w p = PutIn.replaced 2 b b' (held 2 b (omega arith) (omega arith) h) (held 2 b' (omega arith) (omega arith) h') refl w p

-- outside the security part -----------------------------------------------------------------------------------------------

abbrev identity : List ℕ
identity = 0x08 ∷ 0x01 ∷ []

in-auth : PutIn Nothing Message 0 (hold 5 identity) (hold 5 (added ++ identity))
unfolding fields_of fields_in read_field value_of varint_in
in-auth =
    put-in-anywhere Nothing 15 (vint 1) y refl
    (up 5 HmacAuth identity (added ++ identity) (record { whole = refl }) (record { whole = refl }) refl (PutAt.here [] identity refl))

abbrev key : List ℕ
key = 0x1a ∷ 0x01 ∷ 0x41 ∷ []

in-keyvalue : PutIn Nothing Command 0 (hold 2 (hold 1 key)) (hold 2 (hold 1 (key ++ added)))
unfolding fields_of fields_in read_field value_of varint_in
in-keyvalue =
    put-in-anywhere Nothing 15 (vint 1) y refl
    (up 2 Body (hold 1 key) (hold 1 (key ++ added)) (record { whole = refl }) (record { whole = refl }) refl
    (up 1 KeyValue key (key ++ added) (record { whole = refl }) (record { whole = refl }) refl (PutAt.here key [] refl)))

-- several at once: at the end of the header, whose length then takes two bytes, and of the command, and another status
abbrev connection : List ℕ
connection = 0x18 ∷ 0x01 ∷ []

several : PutIn Nothing Command 0 (hold 1 connection ++ hold 3 (0x08 ∷ 0x01 ∷ []))
    ((0x0a ∷ 0x84 ∷ 0x00 ∷ (connection ++ added)) ++ (hold 3 (0xff ∷ []) ++ added))
unfolding fields_of fields_in read_field value_of varint_in
several =
    PutIn.inside {x = hold 1 connection} {x' = 0x0a ∷ 0x84 ∷ 0x00 ∷ (connection ++ added)} 1 Header connection (connection ++ added) (record { whole = refl }) (record { whole = refl }) refl
    (put-in-anywhere Nothing 15 (vint 1) y refl (PutAt.here connection [] refl))
    (PutIn.hidden {x = hold 3 (0x08 ∷ 0x01 ∷ [])} {x' = hold 3 (0xff ∷ [])} 3 (0x08 ∷ 0x01 ∷ []) (0xff ∷ []) (record { whole = refl }) (record { whole = refl }) refl
    (PutIn.put 15 (vint 1) y refl (PutIn.same Command [])))

several-says : listed Command ((0x0a ∷ 0x84 ∷ 0x00 ∷ (connection ++ added)) ++ (hold 3 (0xff ∷ []) ++ added)) ≡ some (sub 1 (int 3 1 done) (raw 3 [] done))
unfolding listed listed_in level open_all items fields_of fields_in read_field value_of varint_in
several-says = put-in-same several ∙ refl

-- inside the security part ------------------------------------------------------------------------------------------------

-- a scope with permission 0, an ACL with it, a Security with that, a body, a command
abbrev scope : List ℕ
scope = 0x18 ∷ 0x00 ∷ []

abbrev acl : List ℕ → List ℕ
acl s = hold 4 s

abbrev security : List ℕ → List ℕ
security a = hold 2 a

abbrev body : List ℕ → List ℕ
body s = hold 7 s

abbrev command : List ℕ → List ℕ
command b = hold 2 b

before : listed Command (command (body (security (acl scope)))) ≡ some (sub 2 (sub 7 (sub 2 (sub 4 (int 3 0 done) done) done) done) done)
unfolding listed listed_in level open_all items fields_of fields_in read_field value_of varint_in
before = refl

in-security : PutIn Nothing Command 1 (command (body (security (acl scope)))) (command (body (security (acl scope) ++ added)))
unfolding fields_of fields_in read_field value_of varint_in
in-security =
    put-in-anywhere Nothing 15 (vint 1) y refl
    (up 2 Body (body (security (acl scope))) (body (security (acl scope) ++ added)) (record { whole = refl }) (record { whole = refl }) refl
    (up 7 Security (security (acl scope)) (security (acl scope) ++ added) (record { whole = refl }) (record { whole = refl }) refl
    (PutAt.here (security (acl scope)) [] refl)))

in-security-refused : listed Command (command (body (security (acl scope) ++ added))) ≡ none
in-security-refused = put-in-refused Nothing in-security

in-acl : PutIn Nothing Command 1 (command (body (security (acl scope)))) (command (body (security (acl scope ++ added))))
unfolding fields_of fields_in read_field value_of varint_in
in-acl =
    put-in-anywhere Nothing 15 (vint 1) y refl
    (up 2 Body (body (security (acl scope))) (body (security (acl scope ++ added))) (record { whole = refl }) (record { whole = refl }) refl
    (up 7 Security (security (acl scope)) (security (acl scope ++ added)) (record { whole = refl }) (record { whole = refl }) refl
    (up 2 Acl (acl scope) (acl scope ++ added) (record { whole = refl }) (record { whole = refl }) refl
    (PutAt.here (acl scope) [] refl))))

in-acl-refused : listed Command (command (body (security (acl scope ++ added)))) ≡ none
in-acl-refused = put-in-refused Nothing in-acl

in_scope : PutIn Nothing Command 1 (command (body (security (acl scope)))) (command (body (security (acl (scope ++ added)))))
unfolding fields_of fields_in read_field value_of varint_in
in_scope =
    put-in-anywhere Nothing 15 (vint 1) y refl
    (up 2 Body (body (security (acl scope))) (body (security (acl (scope ++ added)))) (record { whole = refl }) (record { whole = refl }) refl
    (up 7 Security (security (acl scope)) (security (acl (scope ++ added))) (record { whole = refl }) (record { whole = refl }) refl
    (up 2 Acl (acl scope) (acl (scope ++ added)) (record { whole = refl }) (record { whole = refl }) refl
    (up 4 Scope scope (scope ++ added) (record { whole = refl }) (record { whole = refl }) refl
    (PutAt.here scope [] refl)))))

in-scope-refused : listed Command (command (body (security (acl (scope ++ added))))) ≡ none
in-scope-refused = put-in-refused Nothing in_scope
