-- Demand 3 put to use: a message with the box's own hmac under any key, and fields put in at every depth. None of the conditions is empty.
use Rattle.std.specs.Prelude.{ℕ, ◌≤◌, ◌≡◌, length}
use Rattle.std.proofs.Common.{arith, ◌∙◌, length-append}
use Rattle.std.proofs.Math.Path.{refl, ap}
use mathlib.Core.List.{List, [], ◌++◌}
use Rattle.std.proofs.Math.Option.{some}
use Rattle.fields_wire.specs.Wire.{varint_in, vint, vlen, field, value_of, read_field, fields_in, fields_of, Framed}
use Rattle.fields_schema.specs.Tree.{map_o, then_o, done, int, raw, items, level, open_all, listed_in, listed}
use Rattle.fields_schema.specs.Rules.{rule_of}
use Rattle.fields_schema.specs.PutIn.{Has, Holds, Replaces, Nothing, PutIn}
use Rattle.fields_schema.proofs.PutInLaws.{put-in-same}
use Rattle.fields_schema.specs.Boundaries.{Boundary}
use Rattle.fields_schema.specs.declared.Kind.{Kind}
use Rattle.fields_schema.specs.declared.Kind.TheVariants.{Message, HmacAuth, Command, Header, Body, KeyValue, Security}
use Rattle.fields_schema.specs.declared.Form.TheVariants.{Bytes}
use Rattle.fields_encoding.specs.Encode.{int_field, len_field, encode, FieldNumber, Fits, ends}
use Rattle.fields_encoding.proofs.CostLaws.{encode-cost, int-length, len-length}
use Rattle.fields_encoding.proofs.FitsLaws.{number, fit_int, fit-raw, fit-sub}
use Rattle.fields_encoding.proofs.BackLaws.{int-framed, len-framed, read_back}
use Rattle.signature_hmac.specs.Hmac.{hmac}
use Rattle.access_record.specs.Table.{find_from, place_of, acl_of, host_table}
use Rattle.access_record.specs.Record.{table_of, table_bytes}
use Rattle.access_record.proofs.ReadbackLaws.{table-back, host-good}
use Rattle.protocol.specs.Frame as framing
use Rattle.protocol.specs.Frame.{frame}
use Rattle.protocol.specs.State.{State}
use Rattle.protocol.specs.Reading.{security_once, decodes, envelope, envelope_of, read_message, read, undecodable, decoded}
use Rattle.protocol.specs.Answer.{answered, reading}
use Rattle.protocol.specs.Demand.{Free, Edited, SameBut, RefusedOr, Signed, Place, EditedAt}
use Rattle.protocol.proofs.FirstStepsLaws.{reads}
use Rattle.protocol.proofs.EditedLaws.{edited-by, signed_by, edited-anywhere}
use Rattle.protocol.specs.Reply.{signed_tree, signed_reply}
use Rattle.protocol.specs.Box as the
use Rattle.protocol.specs.Box.{box, answers}
use Rattle.protocol.proofs.DigestLaws.{hmac-length}
use Rattle.protocol.proofs.Demand3Laws.{same, refused-inside-security-reply}
use Rattle.protocol.specs.InvalidTree.{invalid_tree}
use Rattle.protocol.specs.Demand3Example.{added, auth, message, fuller, hold, header, key_a, plain, newer, tree, earlier, later, force, plain_twice, newer_twice, tree_twice, twice_tree, message_twice, first_auth, second_auth, fuller_twice, six_tree, message_six, acls, securing, stranger, security_tree}

added-framed : Framed (field 15 (vint 1)) added
unfolding read_field value_of varint_in
added-framed = record { whole = refl }

-- ---- a message that is read as the commandBytes b of identity 1 with the box's own hmac

-- a device record as Format makes it knows the identity
known : (key b m : List ℕ) → read_message m ≡ some (envelope 1 (hmac key b) b) → (s : State) → 1 ≤ length key → length key ≤ 64 → s.device ≡ table_bytes (host_table key)
    → reading box s m ≡ decoded 1 key (decodes b)
unfolding place_of find_from acl_of
known key b m is_read s least most e =
    reads box s m is_read
    (ap (λ t. map_o (λ a. a.key) (the.acl_at s (place_of t 1))) (ap table_of e ∙ table-back (host_table key) (host-good key least most))
    ∙ ap (λ t. some (acl_of t 0).key) (ap table_of e ∙ table-back (host_table key) (host-good key least most))) refl

-- ---- the message

module _ (key b : List ℕ) (short : length b ≤ 1024) where
  auth-fits : Fits HmacAuth (int 1 1 (raw 2 (hmac key b) done))
  auth-fits = fit_int (number refl) (omega arith) refl (fit-raw (number refl) (omega (arith, hmac-length key b)) refl ends)

  auth-length : length (auth key b) ≤ 50
  auth-length = omega (arith, encode-cost auth-fits, hmac-length key b)

  message-fits : Fits Message (signed_tree 1 key b)
  message-fits =
      fit_int (number refl) (omega arith) refl
      (fit-sub HmacAuth (number refl) (omega (arith, hmac-length key b)) refl auth-fits (fit-raw (number refl) (omega arith) refl ends))

  message-length : length (message key b) ≤ 1124
  message-length = omega (arith, encode-cost message-fits, hmac-length key b)

  fuller-length : length (fuller key b) ≤ 1124
  fuller-length =
      let a = length-append (int_field 4 1) (len_field 5 (added ++ auth key b) ++ (len_field 7 b ++ [])) in
      let c = length-append (len_field 5 (added ++ auth key b)) (len_field 7 b ++ []) in
      let d = length-append (len_field 7 b) [] in
      omega (arith, auth-length, int-length 4 1 (omega arith) (omega arith), len-length 5 (added ++ auth key b) (omega arith) (omega (arith, auth-length)), len-length 7 b (omega arith) (omega arith))

  -- what it is read as
  message-read : read_message (message key b) ≡ some (envelope 1 (hmac key b) b)
  unfolding read_message
  message-read = ap (λ o. then_o o (λ t. envelope_of t)) (read_back message-fits)

  auth-framed : Framed (field 5 (vlen (added ++ auth key b))) (len_field 5 (added ++ auth key b))
  auth-framed = len-framed 5 (added ++ auth key b) (number refl) (omega (arith, auth-length))

  fuller-put : PutIn Nothing Message 0 (message key b) (fuller key b)
  unfolding encode
  fuller-put =
      PutIn.put 15 (vint 1) added-framed refl
      (PutIn.keep (field 4 (vint 1)) (int-framed 4 1 (number refl) (omega arith)) (int-framed 4 1 (number refl) (omega arith))
      (PutIn.inside 5 HmacAuth (auth key b) (added ++ auth key b) (len-framed 5 (auth key b) (number refl) (omega (arith, auth-length))) auth-framed refl
      (PutIn.put 15 (vint 1) added-framed refl (PutIn.same HmacAuth (auth key b))) (PutIn.same Message (len_field 7 b ++ []))))

  fuller-read : read_message (fuller key b) ≡ some (envelope 1 (hmac key b) b)
  unfolding read_message
  fuller-read = ap (λ o. then_o o (λ t. envelope_of t)) (put-in-same fuller-put ∙ read_back message-fits)

  -- the hmac that counts is right for the commandBytes that count
  pub signed : Signed box key (fuller key b)
  signed = signed_by key b (fuller key b) fuller-read

-- fields put into the command, the HMACauth and the Message, and signed again
pub edited : (key b b' : List ℕ) {c : ℕ} → length b ≤ 1024 → length b' ≤ 1024 → PutIn Nothing Command c b b' → Edited c (message key b) (fuller key b')
unfolding encode
edited key b b' h h' p =
    edited-by (message key b) (fuller key b') (message-read key b h) (fuller-read key b' h')
    (PutIn.put 15 (vint 1) added-framed refl
    (PutIn.keep (field 4 (vint 1)) (int-framed 4 1 (number refl) (omega arith)) (int-framed 4 1 (number refl) (omega arith))
    (PutIn.inside 5 HmacAuth (auth key b) (added ++ auth key b') (len-framed 5 (auth key b) (number refl) (omega (arith, auth-length key b h))) (auth-framed key b' h') refl
    (PutIn.put 15 (vint 1) added-framed refl
    (PutIn.keep (field 1 (vint 1)) (int-framed 1 1 (number refl) (omega arith)) (int-framed 1 1 (number refl) (omega arith))
    (PutIn.replaced 2 (hmac key b) (hmac key b') (len-framed 2 (hmac key b) (number refl) (omega (arith, hmac-length key b))) (len-framed 2 (hmac key b') (number refl) (omega (arith, hmac-length key b'))) refl
    (Free.hmac (hmac key b) (hmac key b')) (PutIn.same HmacAuth []))))
    (PutIn.replaced 7 b b' (len-framed 7 b (number refl) (omega arith)) (len-framed 7 b' (number refl) (omega arith)) refl (Free.command b b') (PutIn.same Message [])))))
    p

-- ---- a PUT of the key A, with a field put into the Command, the Header, the Body and the KeyValue too

says_plain : decodes plain ≡ some tree
unfolding security_once listed listed_in level open_all items fields_of fields_in read_field value_of varint_in
says_plain = refl

pub put-newer : PutIn Nothing Command 0 plain newer
unfolding read_field value_of varint_in
put-newer =
    PutIn.put 15 (vint 1) added-framed refl
    (PutIn.inside {x = hold 1 (header 4)} {x' = hold 1 (added ++ header 4)} 1 Header (header 4) (added ++ header 4) (record { whole = refl }) (record { whole = refl }) refl
    (PutIn.put 15 (vint 1) added-framed refl (PutIn.same Header (header 4)))
    (PutIn.inside {m = []} {m' = []} {x = hold 2 (hold 1 key_a)} {x' = hold 2 (added ++ hold 1 (added ++ key_a))} 2 Body (hold 1 key_a) (added ++ hold 1 (added ++ key_a)) (record { whole = refl }) (record { whole = refl }) refl
    (PutIn.put 15 (vint 1) added-framed refl
    (PutIn.inside {m = []} {m' = []} {x = hold 1 key_a} {x' = hold 1 (added ++ key_a)} 1 KeyValue key_a (added ++ key_a) (record { whole = refl }) (record { whole = refl }) refl
    (PutIn.put 15 (vint 1) added-framed refl (PutIn.same KeyValue key_a)) (PutIn.same Body [])))
    (PutIn.same Command [])))

-- ---- document 02, CR 5: "Demand 3 stays, also for a field put between the two occurrences": a PUT whose header and body are sent twice

says-twice : decodes plain_twice ≡ some tree_twice
unfolding security_once listed listed_in level open_all items fields_of fields_in read_field value_of varint_in
says-twice = refl

-- a field put into a header; into a body and its keyValue
header-put : (b : List ℕ) → PutIn Nothing Header 0 b (added ++ b)
header-put b = PutIn.put 15 (vint 1) added-framed refl (PutIn.same Header b)

body-put : (b : List ℕ) → Holds 1 b (hold 1 b) → Holds 1 (added ++ b) (hold 1 (added ++ b)) → PutIn Nothing Body 0 (hold 1 b ++ []) (added ++ (hold 1 (added ++ b) ++ []))
body-put b h h' =
    PutIn.put 15 (vint 1) added-framed refl
    (PutIn.inside 1 KeyValue b (added ++ b) h h' refl (PutIn.put 15 (vint 1) added-framed refl (PutIn.same KeyValue b)) (PutIn.same Body []))

pub put-twice : PutIn Nothing Command 0 plain_twice newer_twice
unfolding read_field value_of varint_in
put-twice =
    PutIn.inside {x = hold 1 earlier} {x' = hold 1 (added ++ earlier)} 1 Header earlier (added ++ earlier) (record { whole = refl }) (record { whole = refl }) refl (header-put earlier)
    (PutIn.put 15 (vint 1) added-framed refl
    (PutIn.inside {x = hold 1 later} {x' = hold 1 (added ++ later)} 1 Header later (added ++ later) (record { whole = refl }) (record { whole = refl }) refl (header-put later)
    (PutIn.inside {x = hold 2 (hold 1 key_a)} {x' = hold 2 (added ++ hold 1 (added ++ key_a))} 2 Body (hold 1 key_a) (added ++ hold 1 (added ++ key_a)) (record { whole = refl }) (record { whole = refl }) refl
    (body-put key_a (record { whole = refl }) (record { whole = refl }))
    (PutIn.put 15 (vint 1) added-framed refl
    (PutIn.inside {m = []} {m' = []} {x = hold 2 (hold 1 force)} {x' = hold 2 (added ++ hold 1 (added ++ force))} 2 Body (hold 1 force) (added ++ hold 1 (added ++ force)) (record { whole = refl }) (record { whole = refl }) refl
    (body-put force (record { whole = refl }) (record { whole = refl })) (PutIn.same Command []))))))

-- ---- and a message whose HMACauth and commandBytes are sent twice: the identity in one and the hmac in the other; the bytes a, which do not count, and b

first_fits : Fits HmacAuth (int 1 1 done)
first_fits = fit_int (number refl) (omega arith) refl ends

first-length : length first_auth ≤ 15
first-length = omega (arith, encode-cost first_fits)

second_fits : (key b : List ℕ) → Fits HmacAuth (raw 2 (hmac key b) done)
second_fits key b = fit-raw (number refl) (omega (arith, hmac-length key b)) refl ends

second-length : (key b : List ℕ) → length (second_auth key b) ≤ 35
second-length key b = omega (arith, encode-cost (second_fits key b), hmac-length key b)

module _ (key a b : List ℕ) (limit : length a ≤ 1024) (short : length b ≤ 1024) where
  twice-fits : Fits Message (twice_tree key a b)
  twice-fits =
      fit_int (number refl) (omega arith) refl
      (fit-sub HmacAuth (number refl) (omega arith) refl first_fits
      (fit-sub HmacAuth (number refl) (omega (arith, hmac-length key b)) refl (second_fits key b)
      (fit-raw (number refl) (omega arith) refl (fit-raw (number refl) (omega arith) refl ends))))

  twice-length : length (message_twice key a b) ≤ 2200
  twice-length = omega (arith, encode-cost twice-fits, hmac-length key b)

  twice-read : read_message (message_twice key a b) ≡ some (envelope 1 (hmac key b) b)
  unfolding read_message
  twice-read = ap (λ o. then_o o (λ t. envelope_of t)) (read_back twice-fits)

-- a field of the number n stays with its bytes, or has b' for b
abbrev Passes : Replaces → Kind → ℕ → List ℕ → List ℕ → Type 0
Passes R k n b b' = (m m' : List ℕ) → PutIn R k 0 m m' → PutIn R k 0 (len_field n b ++ m) (len_field n b' ++ m')

stays : (R : Replaces) (k : Kind) (n : ℕ) (b : List ℕ) → FieldNumber n → length b ≤ 1024 → Passes R k n b b
stays R k n b i l m m' p = PutIn.keep (field n (vlen b)) (len-framed n b i (omega arith)) (len-framed n b i (omega arith)) p

gives : (R : Replaces) (k : Kind) (n : ℕ) (b b' : List ℕ) → FieldNumber n → length b ≤ 1024 → length b' ≤ 1024 → Has Bytes (rule_of k n) → R k n b b' → Passes R k n b b'
gives R k n b b' i l l' g w m m' p = PutIn.replaced n b b' (len-framed n b i (omega arith)) (len-framed n b' i (omega arith)) g w p

twice-around : (R : Replaces) (key a a' b b' : List ℕ) → Passes R HmacAuth 2 (hmac key b) (hmac key b') → Passes R Message 7 a a' → Passes R Message 7 b b'
    → PutIn R Message 0 (message_twice key a b) (fuller_twice key a' b')
unfolding encode
twice-around R key a a' b b' h p q =
    PutIn.keep (field 4 (vint 1)) (int-framed 4 1 (number refl) (omega arith)) (int-framed 4 1 (number refl) (omega arith))
    (PutIn.inside 5 HmacAuth first_auth (added ++ first_auth) (len-framed 5 first_auth (number refl) (omega (arith, first-length))) (len-framed 5 (added ++ first_auth) (number refl) (omega (arith, first-length))) refl
    (PutIn.put 15 (vint 1) added-framed refl (PutIn.same HmacAuth first_auth))
    (PutIn.put 15 (vint 1) added-framed refl
    (PutIn.inside 5 HmacAuth (second_auth key b) (added ++ second_auth key b') (len-framed 5 (second_auth key b) (number refl) (omega (arith, second-length key b))) (len-framed 5 (added ++ second_auth key b') (number refl) (omega (arith, second-length key b'))) refl
    (PutIn.put 15 (vint 1) added-framed refl (h [] [] (PutIn.same HmacAuth [])))
    (p (len_field 7 b ++ []) (added ++ (len_field 7 b' ++ [])) (PutIn.put 15 (vint 1) added-framed refl (q [] [] (PutIn.same Message [])))))))

module _ (key a b : List ℕ) (limit : length a ≤ 1024) (short : length b ≤ 1024) where
  fuller-twice-read : read_message (fuller_twice key a b) ≡ some (envelope 1 (hmac key b) b)
  unfolding read_message
  fuller-twice-read =
      ap (λ o. then_o o (λ t. envelope_of t))
      (put-in-same (twice-around Nothing key a a b b (stays Nothing HmacAuth 2 (hmac key b) (number refl) (omega (arith, hmac-length key b))) (stays Nothing Message 7 a (number refl) limit) (stays Nothing Message 7 b (number refl) short))
      ∙ read_back (twice-fits key a b limit short))

  fuller-twice-length : length (fuller_twice key a b) ≤ 2200
  fuller-twice-length =
      let i = length-append (len_field 5 (added ++ second_auth key b)) (len_field 7 a ++ (added ++ (len_field 7 b ++ []))) in
      let j = length-append (len_field 7 a) (added ++ (len_field 7 b ++ [])) in
      let l = length-append (len_field 7 b) [] in
      let rest = added ++ (len_field 5 (added ++ second_auth key b) ++ (len_field 7 a ++ (added ++ (len_field 7 b ++ [])))) in
      let m = length-append (int_field 4 1) (len_field 5 (added ++ first_auth) ++ rest) in
      let n = length-append (len_field 5 (added ++ first_auth)) rest in
      omega (arith, i, j, l, m, n, first-length, second-length key b, int-length 4 1 (omega arith) (omega arith), len-length 5 (added ++ first_auth) (omega arith) (omega (arith, first-length)), len-length 5 (added ++ second_auth key b) (omega arith) (omega (arith, second-length key b)), len-length 7 a (omega arith) (omega arith), len-length 7 b (omega arith) (omega arith))

-- any other commandBytes where they do not count, and fields put in where they do
pub edited-twice : (key a a' b b' : List ℕ) {c : ℕ} → length a ≤ 1024 → length a' ≤ 1024 → length b ≤ 1024 → length b' ≤ 1024 → PutIn Nothing Command c b b'
    → Edited c (message_twice key a b) (fuller_twice key a' b')
edited-twice key a a' b b' h h' g g' p =
    edited-by (message_twice key a b) (fuller_twice key a' b') (twice-read key a b h g) (fuller-twice-read key a' b' h' g')
    (twice-around Free key a a' b b'
    (gives Free HmacAuth 2 (hmac key b) (hmac key b') (number refl) (omega (arith, hmac-length key b)) (omega (arith, hmac-length key b')) refl (Free.hmac (hmac key b) (hmac key b')))
    (gives Free Message 7 a a' (number refl) h h' refl (Free.command a a')) (gives Free Message 7 b b' (number refl) g g' refl (Free.command b b')))
    p

-- ---- "the contents of Message 6": the bytes a, which are not looked into, and any others

module _ (key b : List ℕ) (short : length b ≤ 1024) where
  six-fits : Fits Message (six_tree key b)
  six-fits =
      fit_int (number refl) (omega arith) refl
      (fit-sub HmacAuth (number refl) (omega (arith, hmac-length key b)) refl (auth-fits key b short)
      (fit-raw (number refl) (omega arith) refl (fit-raw (number refl) (omega arith) refl ends)))

six-around : (R : Replaces) (key a a' b b' : List ℕ) → length a ≤ 1024 → length a' ≤ 1024 → length b ≤ 1024 → length b' ≤ 1024
    → Passes R HmacAuth 2 (hmac key b) (hmac key b') → Passes R Message 7 b b' → PutIn R Message 0 (message_six key a b) (message_six key a' b')
unfolding encode
six-around R key a a' b b' l l' g g' h q =
    PutIn.keep (field 4 (vint 1)) (int-framed 4 1 (number refl) (omega arith)) (int-framed 4 1 (number refl) (omega arith))
    (PutIn.inside 5 HmacAuth (auth key b) (auth key b') (len-framed 5 (auth key b) (number refl) (omega (arith, auth-length key b g))) (len-framed 5 (auth key b') (number refl) (omega (arith, auth-length key b' g'))) refl
    (PutIn.keep (field 1 (vint 1)) (int-framed 1 1 (number refl) (omega arith)) (int-framed 1 1 (number refl) (omega arith)) (h [] [] (PutIn.same HmacAuth [])))
    (PutIn.hidden 6 a a' (len-framed 6 a (number refl) (omega arith)) (len-framed 6 a' (number refl) (omega arith)) refl (q [] [] (PutIn.same Message []))))

module _ (key a b : List ℕ) (limit : length a ≤ 1024) (short : length b ≤ 1024) where
  six-read : read_message (message_six key a b) ≡ some (envelope 1 (hmac key b) b)
  unfolding read_message encode
  six-read =
      ap (λ o. then_o o (λ t. envelope_of t))
      (put-in-same (six-around Nothing key [] a b b (omega arith) limit short short (stays Nothing HmacAuth 2 (hmac key b) (number refl) (omega (arith, hmac-length key b))) (stays Nothing Message 7 b (number refl) short))
      ∙ read_back (six-fits key b short))

  six-length : length (message_six key a b) ≤ 2200
  six-length =
      let i = length-append (int_field 4 1) (len_field 5 (auth key b) ++ (len_field 6 a ++ (len_field 7 b ++ []))) in
      let j = length-append (len_field 5 (auth key b)) (len_field 6 a ++ (len_field 7 b ++ [])) in
      let k = length-append (len_field 6 a) (len_field 7 b ++ []) in
      let l = length-append (len_field 7 b) [] in
      omega (arith, i, j, k, l, auth-length key b short, int-length 4 1 (omega arith) (omega arith), len-length 5 (auth key b) (omega arith) (omega (arith, auth-length key b short)), len-length 6 a (omega arith) (omega arith), len-length 7 b (omega arith) (omega arith))

pub edited-six : (key a a' b b' : List ℕ) {c : ℕ} → length a ≤ 1024 → length a' ≤ 1024 → length b ≤ 1024 → length b' ≤ 1024 → PutIn Nothing Command c b b'
    → Edited c (message_six key a b) (message_six key a' b')
edited-six key a a' b b' h h' g g' p =
    edited-by (message_six key a b) (message_six key a' b') (six-read key a b h g) (six-read key a' b' h' g')
    (six-around Free key a a' b b' h h' g g'
    (gives Free HmacAuth 2 (hmac key b) (hmac key b') (number refl) (omega (arith, hmac-length key b)) (omega (arith, hmac-length key b')) refl (Free.hmac (hmac key b) (hmac key b')))
    (gives Free Message 7 b b' (number refl) g g' refl (Free.command b b')))
    p

-- ---- a SECURITY, with a field put into the Security

says-securing : decodes securing ≡ some security_tree
unfolding security_once listed listed_in level open_all items fields_of fields_in read_field value_of varint_in
says-securing = refl

pub put-stranger : PutIn Nothing Command 1 securing stranger
unfolding read_field value_of varint_in
put-stranger =
    PutIn.inside {x = hold 1 (header 26)} {x' = hold 1 (header 26)} 1 Header (header 26) (header 26) (record { whole = refl }) (record { whole = refl }) refl (PutIn.same Header (header 26))
    (PutIn.inside {m = []} {m' = []} {x = hold 2 (hold 7 acls)} {x' = hold 2 (hold 7 (added ++ acls))} 2 Body (hold 7 acls) (hold 7 (added ++ acls)) (record { whole = refl }) (record { whole = refl }) refl
    (PutIn.inside {m = []} {m' = []} {x = hold 7 acls} {x' = hold 7 (added ++ acls)} 7 Security acls (added ++ acls) (record { whole = refl }) (record { whole = refl }) refl
    (PutIn.put 15 (vint 1) added-framed refl (PutIn.same Security acls)) (PutIn.same Body []))
    (PutIn.same Command []))

-- a place: before the fields of that Security
unfoldable in_security : Boundary Security Command securing
unfolding fields_of fields_in read_field value_of varint_in
in_security =
    Boundary.inside {x = hold 2 (hold 7 acls)} (hold 1 (header 26)) [] refl 2 Body (hold 7 acls) (record { whole = refl }) refl
    (Boundary.inside {x = hold 7 acls} [] [] refl 7 Security acls (record { whole = refl }) refl (Boundary.here [] acls refl))

-- ---- the two theorems, for every key, value part, store, connection and reply buffer; the record is the one that Format makes

module _ (s : State) (key : List ℕ) (least : 1 ≤ length key) (most : length key ≤ 64) (formatted : s.device ≡ table_bytes (host_table key))
    (out : ℕ) (v rest rest' : List ℕ) (limit : length v ≤ 1024) where
  in-limits : (b : List ℕ) → length b ≤ 1024 → framing.Fits (message key b) v
  in-limits b h = record { message = omega (arith, message-length key b h); value = limit }

  fuller-limits : (b : List ℕ) → length b ≤ 1024 → framing.Fits (fuller key b) v
  fuller-limits b h = record { message = omega (arith, fuller-length key b h); value = limit }

  pub same-shown : (reading box s (fuller key newer) ≡ read 1 key tree)
      × SameBut (length (frame (message key plain) v)) (length (frame (fuller key newer) v)) (answers s out (frame (message key plain) v ++ rest)) (answers s out (frame (fuller key newer) v ++ rest'))
  same-shown =
      same s out (message key plain) (fuller key newer) v rest rest' 1 key tree
      (known key plain (message key plain) (message-read key plain (omega arith)) s least most formatted ∙ ap (decoded 1 key) says_plain) (in-limits plain (omega arith))
      (edited key plain newer (omega arith) (omega arith) put-newer) (signed key newer (omega arith)) (fuller-limits newer (omega arith))

  pub refused-inside-shown : (reading box s (fuller key stranger) ≡ undecodable 1 key)
      × RefusedOr (length (frame (message key securing) v)) (answers s out (frame (message key securing) v ++ rest)) (answers s out (frame (fuller key stranger) v ++ rest'))
      (answered (signed_reply 1 key (invalid_tree s.connection.number) []) s (length (frame (fuller key stranger) v)))
  refused-inside-shown =
      refused-inside-security-reply s out (message key securing) (fuller key stranger) v rest rest' 1 key security_tree 0
      (known key securing (message key securing) (message-read key securing (omega arith)) s least most formatted ∙ ap (decoded 1 key) says-securing) (in-limits securing (omega arith))
      (edited key securing stranger (omega arith) (omega arith) put-stranger) (signed key stranger (omega arith)) (fuller-limits stranger (omega arith))

  -- the field goes in at that place, and the message is signed again
  abbrev security_place : Place (message key securing) Security
  security_place = Place.command 1 (hmac key securing) securing (message-read key securing (omega arith)) in_security

  place-shown : EditedAt box key added security_place
  unfolding in_security
  place-shown =
      edited-anywhere s (message key securing) (known key securing (message key securing) (message-read key securing (omega arith)) s least most formatted ∙ ap (decoded 1 key) says-securing)
      security_place 15 (vint 1) added added-framed refl (omega (arith, message-length key securing (omega arith)))

  -- header and body sent twice
  pub command-twice-shown : (reading box s (fuller key newer_twice) ≡ read 1 key tree_twice)
      × SameBut (length (frame (message key plain_twice) v)) (length (frame (fuller key newer_twice) v)) (answers s out (frame (message key plain_twice) v ++ rest)) (answers s out (frame (fuller key newer_twice) v ++ rest'))
  command-twice-shown =
      same s out (message key plain_twice) (fuller key newer_twice) v rest rest' 1 key tree_twice
      (known key plain_twice (message key plain_twice) (message-read key plain_twice (omega arith)) s least most formatted ∙ ap (decoded 1 key) says-twice) (in-limits plain_twice (omega arith))
      (edited key plain_twice newer_twice (omega arith) (omega arith) put-twice) (signed key newer_twice (omega arith)) (fuller-limits newer_twice (omega arith))

  -- HMACauth and commandBytes sent twice, any bytes a' for the commandBytes a that do not count
  pub message-twice-shown : (a a' : List ℕ) → length a ≤ 1024 → length a' ≤ 1024 → (reading box s (fuller_twice key a' newer) ≡ read 1 key tree)
      × SameBut (length (frame (message_twice key a plain) v)) (length (frame (fuller_twice key a' newer) v)) (answers s out (frame (message_twice key a plain) v ++ rest)) (answers s out (frame (fuller_twice key a' newer) v ++ rest'))
  message-twice-shown a a' h h' =
      same s out (message_twice key a plain) (fuller_twice key a' newer) v rest rest' 1 key tree
      (known key plain (message_twice key a plain) (twice-read key a plain h (omega arith)) s least most formatted ∙ ap (decoded 1 key) says_plain)
      (record { message = omega (arith, twice-length key a plain h (omega arith)); value = limit })
      (edited-twice key a a' plain newer h h' (omega arith) (omega arith) put-newer)
      (signed_by key newer (fuller_twice key a' newer) (fuller-twice-read key a' newer h' (omega arith)))
      (record { message = omega (arith, fuller-twice-length key a' newer h' (omega arith)); value = limit })

  -- any bytes a' for the contents a of Message 6
  pub six-shown : (a a' : List ℕ) → length a ≤ 1024 → length a' ≤ 1024 → (reading box s (message_six key a' newer) ≡ read 1 key tree)
      × SameBut (length (frame (message_six key a plain) v)) (length (frame (message_six key a' newer) v)) (answers s out (frame (message_six key a plain) v ++ rest)) (answers s out (frame (message_six key a' newer) v ++ rest'))
  six-shown a a' h h' =
      same s out (message_six key a plain) (message_six key a' newer) v rest rest' 1 key tree
      (known key plain (message_six key a plain) (six-read key a plain h (omega arith)) s least most formatted ∙ ap (decoded 1 key) says_plain)
      (record { message = omega (arith, six-length key a plain h (omega arith)); value = limit })
      (edited-six key a a' plain newer h h' (omega arith) (omega arith) put-newer)
      (signed_by key newer (message_six key a' newer) (six-read key a' newer h' (omega arith)))
      (record { message = omega (arith, six-length key a' newer h' (omega arith)); value = limit })
