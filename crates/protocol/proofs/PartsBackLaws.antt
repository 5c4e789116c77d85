-- What a reader finds in a reply, each by a look-up, is what the steps gave.
use Rattle.std.specs.Prelude.{ℕ, ◌+◌, ◌≡◌, refl, Bool, true, false, List, [], ◌∷◌, ◌++◌}
use Rattle.std.proofs.Common.{arith, ap, ap₂, ◌∙◌, append-nil}
use Rattle.std.proofs.Math.Option.{Option, none, some}
use Rattle.fields_schema.specs.Tree.{map_o, then_o, guard, is_some, Tree, done, int, raw, sub, int_at, raw_at, fix_at, sub_at, raws_at, subs_at}
use Rattle.fields_encoding.specs.Encode.{int_o, int_if, raw_if, float_bytes, fix_o, each, sub_o, each_sub}
use Rattle.fields_encoding.proofs.LookUpLaws.{raw-here, int-past, int-here, int_o-here, int_o-past, int_if-here, raw_if-here, raw_if-past, int-raw_if, raw-int_if, each-here, fix_o-here, raw-fix_o, sub_o-here, sub-sub_o, subs-sub_o, each_sub-here, sub-each_sub, subs-each_sub}
use Rattle.log_readings.specs.Lent.{Sample}
use Rattle.base_definitions.specs.Lists.{map_l}
use Rattle.base_definitions.specs.Options.{or_else}
use Rattle.access_record.specs.Table as access
use Rattle.protocol.specs.StatusCode.{HMAC_FAILURE, INVALID_REQUEST}
use Rattle.protocol.specs.State.{State}
use Rattle.protocol.specs.Command.{command_of}
use Rattle.protocol.specs.MessageType.{INVALID_MESSAGE_TYPE}
use Rattle.protocol.specs.Operation.{asked_by, reply_type}
use Rattle.protocol.specs.Judge.{Capacity, Log, ReplyBody, bare, key_value, range, log, judge}
use Rattle.protocol.specs.Reading.{Reading, closing, undecodable, read}
use Rattle.protocol.specs.Reply.{sample_tree, capacity_tree, limits_tree, log_tree, header_tree, body_tree, status_tree, command_tree, signed_by, closing_with}
use Rattle.protocol.specs.Answer.{respond}
use Rattle.protocol.specs.Box.{box, acl_of, sequence_of, type_of, judged, decide, message_in}
use Rattle.protocol.specs.PartsRead.{entry_read, bits_of, sample_read, capacity_read, log_read, body_read}
use Rattle.protocol.specs.ReplyContent.{closing_content, judged_by, content_of}
use Rattle.protocol.specs.Readable.{Gives}

-- a keyValue of which parts are left out says the same
entry_found : (k v g : List ℕ) (a : ℕ) → entry_read (raw_if 3 k (raw_if 4 v (raw_if 5 g (int_if 6 a done)))) ≡ key_value k v g a
entry_found k v g a =
    let t = raw_if 4 v (raw_if 5 g (int_if 6 a done)) in
    let u = raw_if 5 g (int_if 6 a done) in
    let w = int_if 6 a done in
    let wn : (n : ℕ) → raw_at n w ≡ none = λ n. raw-int_if n 6 a done in
    let k0 : raw_at 3 t ≡ none = raw_if-past 3 4 v u refl ∙ raw_if-past 3 5 g w refl ∙ wn 3 in
    let v0 : raw_at 4 u ≡ none = raw_if-past 4 5 g w refl ∙ wn 4 in
    let ks : or_else [] (raw_at 3 (raw_if 3 k t)) ≡ k = raw_if-here 3 k t k0 in
    let vs : or_else [] (raw_at 4 (raw_if 3 k t)) ≡ v = ap (or_else []) (raw_if-past 4 3 k t refl) ∙ raw_if-here 4 v u v0 in
    let gs : or_else [] (raw_at 5 (raw_if 3 k t)) ≡ g = ap (or_else []) (raw_if-past 5 3 k t refl ∙ raw_if-past 5 4 v u refl) ∙ raw_if-here 5 g w (wn 5) in
    let as0 : or_else 0 (int_at 6 (raw_if 3 k t)) ≡ a = ap (or_else 0) (int-raw_if 6 3 k t ∙ int-raw_if 6 4 v u ∙ int-raw_if 6 5 g w) ∙ int_if-here 6 a done refl in
    cc

keys_found : (ks : List (List ℕ)) → range (raws_at 8 (each 8 ks done)) ≡ range ks
keys_found ks = ap range (each-here 8 ks done ∙ append-nil ks)

bits_back : (b : ℕ) → bits_of (float_bytes b) ≡ b
bits_back b = omega arith

value-back : (o : Option ℕ) → map_o bits_of (map_o float_bytes o) ≡ o
value-back none = refl
value-back (some b) = ap some (bits_back b)

sample-back : (r : Sample) → sample_read (sample_tree r) ≡ r
sample-back r =
    let t = fix_o 2 (map_o float_bytes r.value) done in
    let n : or_else [] (raw_at 1 (raw 1 r.name t)) ≡ r.name = ap (or_else []) (raw-here 1 r.name t (raw-fix_o 1 2 (map_o float_bytes r.value) done)) in
    let v : map_o bits_of (fix_at 2 t) ≡ r.value = ap (map_o bits_of) (fix_o-here 2 (map_o float_bytes r.value) done refl) ∙ value-back r.value in
    ap₂ (λ n v. record { name = n; value = v }) n v

samples-back : (rs : List Sample) → map_l sample_read (map_l sample_tree rs) ≡ rs
unfolding map_l
samples-back [] = refl
samples-back (r ∷ rs) = ap₂ (λ x xs. x ∷ xs) (sample-back r) (samples-back rs)

capacity-back : (o : Option Capacity) → map_o capacity_read (map_o capacity_tree o) ≡ o
capacity-back none = refl
capacity-back (some c) = ap (λ b. some (record { nominal = c.nominal; portion = b })) (bits_back c.portion)

limits-back : (b : Bool) → is_some (guard b limits_tree) ≡ b
limits-back true = refl
limits-back false = refl

log-found : (g : Log) → log_read (log_tree g) ≡ g
log-found g =
    let us = map_l sample_tree g.utilizations in
    let ts = map_l sample_tree g.temperatures in
    let c = map_o capacity_tree g.capacity in
    let l = guard g.limits limits_tree in
    let a = sub_o 8 l done in
    let b = sub_o 4 c a in
    let d = each_sub 3 ts b in
    let e2 : subs_at 2 (each_sub 2 us d) ≡ us =
    each_sub-here 2 us d ∙ ap (λ x. us ++ x) (subs-each_sub 2 3 ts b refl ∙ subs-sub_o 2 4 c a refl ∙ subs-sub_o 2 8 l done refl) ∙ append-nil us in
    let e3 : subs_at 3 (each_sub 2 us d) ≡ ts =
    subs-each_sub 3 2 us d refl ∙ each_sub-here 3 ts b ∙ ap (λ x. ts ++ x) (subs-sub_o 3 4 c a refl ∙ subs-sub_o 3 8 l done refl) ∙ append-nil ts in
    let e4 : sub_at 4 (each_sub 2 us d) ≡ c = sub-each_sub 4 2 us d refl ∙ sub-each_sub 4 3 ts b refl ∙ sub_o-here 4 c a (sub-sub_o 4 8 l done refl) in
    let e8 : sub_at 8 (each_sub 2 us d) ≡ l =
    sub-each_sub 8 2 us d refl ∙ sub-each_sub 8 3 ts b refl ∙ sub-sub_o 8 4 c a refl ∙ sub_o-here 8 l done refl in
    let u : map_l sample_read (subs_at 2 (each_sub 2 us d)) ≡ g.utilizations = ap (map_l sample_read) e2 ∙ samples-back g.utilizations in
    let t : map_l sample_read (subs_at 3 (each_sub 2 us d)) ≡ g.temperatures = ap (map_l sample_read) e3 ∙ samples-back g.temperatures in
    let q : map_o capacity_read (sub_at 4 (each_sub 2 us d)) ≡ g.capacity = ap (map_o capacity_read) e4 ∙ capacity-back g.capacity in
    let m : is_some (sub_at 8 (each_sub 2 us d)) ≡ g.limits = ap (λ (o : Option Tree). is_some o) e8 ∙ limits-back g.limits in
    λ i. record { utilizations = u i; temperatures = t i; capacity = q i; limits = m i }

body-found : (b : ReplyBody) (code : ℕ) → body_read (sub_at 2 (body_tree b (status_tree code))) ≡ b
body-found bare code = refl
body-found (key_value k v g a) code = entry_found k v g a
body-found (range ks) code = keys_found ks
body-found (log g) code = ap log (log-found g)

code-found : (b : ReplyBody) (code : ℕ) → then_o (sub_at 3 (body_tree b (status_tree code))) (λ s. int_at 1 s) ≡ some code
code-found bare code = refl
code-found (key_value k v g a) code = refl
code-found (range ks) code = refl
code-found (log g) code = refl

header-found : (h : Tree) (b : ReplyBody) (code : ℕ) → sub_at 1 (sub 1 h (body_tree b (status_tree code))) ≡ some h
header-found h bare code = refl
header-found h (key_value k v g a) code = refl
header-found h (range ks) code = refl
header-found h (log g) code = refl

signed_gives : (i : ℕ) (key : List ℕ) (c : ℕ) (a : Option ℕ) (y : ℕ) (b : ReplyBody) (code : ℕ) (v : List ℕ)
    → Gives c (signed_by i key (command_tree c a y b code) v) (record { identity = some i; key = some key; ack_sequence = a; type = some y; body = b; code = code; value = v })
signed_gives i key c a y b code v =
    let h = header-found (header_tree c a y) b code in
    let t = int_o 6 a (int 7 y done) in
    record {
      identity = refl;
      signature = refl;
      connection = ap (λ o. then_o o (λ u. int_at 3 u)) h ∙ int-here 3 c t (int_o-past 3 6 a (int 7 y done) refl);
      ack_sequence = ap (λ o. then_o o (λ u. int_at 6 u)) h ∙ int-past 6 3 c t refl ∙ int_o-here 6 a (int 7 y done) refl;
      type = ap (λ o. then_o o (λ u. int_at 7 u)) h ∙ int-past 7 3 c t refl ∙ int_o-past 7 6 a (int 7 y done) refl;
      body = body-found b code;
      code = code-found b code;
      value = refl;
    }

-- "Closing replies: …; header 3 and status only"
closing-gives : (c code : ℕ) → Gives c (closing_with c code) (closing_content code)
closing-gives c code =
    record { identity = refl; signature = refl; connection = refl; ack_sequence = refl; type = refl; body = refl; code = refl; value = refl }

-- the reply to what is read gives what the steps gave
pub reply-gives : (s : State) (v : List ℕ) (r : Reading) → Gives s.connection.number (message_in (respond box s v r)) (content_of s v r)
unfolding decide
reply-gives s v (closing code) = closing-gives s.connection.number code
reply-gives s v (undecodable i key) = signed_gives i key s.connection.number none INVALID_MESSAGE_TYPE bare INVALID_REQUEST []
reply-gives s v (read i key t) = go (acl_of s i)
  where
    go : (o : Option access.Acl) → Gives s.connection.number (message_in (judged s i key (command_of t) v o)) (judged_by s i key (command_of t) v o)
    go none = closing-gives s.connection.number HMAC_FAILURE
    go (some a) =
        let j = judge s a (command_of t) v in
        signed_gives i key s.connection.number (sequence_of (command_of t).header) (reply_type (asked_by (type_of (command_of t).header))) j.body j.code j.value
