-- The parts of a command in the runs that a writer makes of them, from its end to its front.
use Rattle.std.specs.Prelude.{ℕ, ◌-◌, ◌≡◌, refl, List, ◌++◌}
use Rattle.std.proofs.Math.Option.{Option}
use Rattle.fields_schema.specs.Tree.{Tree, done, int}
use Rattle.fields_encoding.specs.Encode.{int_field, head, len_field, encode, int_o, int_if, raw_if}
use Rattle.fields_write_bytes.specs.Pushed.{Pushed}
use Rattle.fields_write_bytes.proofs.PushedLaws.{◌onto◌, again, pushed-sub}
use Rattle.fields_write_bytes.proofs.TreePartsLaws.{int-last, sub-last, int-pushed, int_o-pushed, raw_if-pushed}
use Rattle.protocol.specs.Judge.{ReplyBody, bare, key_value, range, log}
use Rattle.protocol.specs.Reply.{header_tree, body_tree, status_tree, command_tree}
use Rattle.reply_command.specs.Parts.{body_bytes}

pub header-law : {r c b a at : ℕ} {l m1 m2 m3 n : List ℕ} (connection : ℕ) (ack : Option ℕ) (type : ℕ) → Pushed r c (head 1 (at - c)) m3 n
    → Pushed c b (int_field 3 connection) m2 m3 → Pushed b a (encode (int_o 6 ack done)) m1 m2 → Pushed a at (int_field 7 type) l m1
    → Pushed r at (len_field 1 (encode (header_tree connection ack type))) l n
header-law connection ack type p q w z =
    pushed-sub 1 p (int-pushed 3 connection (int_o 6 ack (int 7 type done)) q (int_o-pushed 6 ack (int 7 type done) w (int-last 7 type z)))

pub connection-law : {r a at : ℕ} {l m n : List ℕ} (connection : ℕ) → Pushed r a (head 1 (at - a)) m n → Pushed a at (int_field 3 connection) l m
    → Pushed r at (len_field 1 (encode (int 3 connection done))) l n
connection-law connection p q = pushed-sub 1 p (int-last 3 connection q)

pub status-law : {r a at : ℕ} {l m n : List ℕ} (code : ℕ) → Pushed r a (head 3 (at - a)) m n → Pushed a at (int_field 1 code) l m
    → Pushed r at (encode (status_tree code)) l n
status-law code p q = sub-last 3 (int 1 code done) p (int-last 1 code q)

pub key_value-law : {r e d c b a at : ℕ} {l m1 m2 m3 m4 m5 n : List ℕ} (k v g : List ℕ) (al : ℕ) → Pushed r e (head 2 (at - e)) m5 n → Pushed e d (head 1 (at - d)) m4 m5
    → Pushed d c (encode (raw_if 3 k done)) m3 m4 → Pushed c b (encode (raw_if 4 v done)) m2 m3 → Pushed b a (encode (raw_if 5 g done)) m1 m2
    → Pushed a at (encode (int_if 6 al done)) l m1 → Pushed r at (body_bytes (key_value k v g al)) l n
key_value-law k v g al p q w3 w2 w1 w0 =
    pushed-sub 2 p (sub-last 1 (raw_if 3 k (raw_if 4 v (raw_if 5 g (int_if 6 al done)))) q
    (raw_if-pushed 3 k (raw_if 4 v (raw_if 5 g (int_if 6 al done))) w3 (raw_if-pushed 4 v (raw_if 5 g (int_if 6 al done)) w2 (raw_if-pushed 5 g (int_if 6 al done) w1 w0))))

body-parts : (b : ReplyBody) (t : Tree) → body_bytes b ++ encode t ≡ encode (body_tree b t)
unfolding encode
body-parts bare t = refl
body-parts (key_value k v g a) t = refl
body-parts (range ks) t = refl
body-parts (log g) t = refl

-- a command: header, body, status
pub command-law : {r b a at : ℕ} {l m1 m2 n : List ℕ} (connection : ℕ) (ack : Option ℕ) (type : ℕ) (body : ReplyBody) (code : ℕ)
    → Pushed r b (len_field 1 (encode (header_tree connection ack type))) m2 n → Pushed b a (body_bytes body) m1 m2 → Pushed a at (encode (status_tree code)) l m1
    → Pushed r at (encode (command_tree connection ack type body code)) l n
unfolding encode
command-law connection ack type body code p q w = p onto (again (body-parts body (status_tree code)) (q onto w))

-- one with no body: header, status
pub bare-law : {r a at : ℕ} {l m n : List ℕ} (connection : ℕ) (ack : Option ℕ) (type code : ℕ) → Pushed r a (len_field 1 (encode (header_tree connection ack type))) m n
    → Pushed a at (encode (status_tree code)) l m → Pushed r at (encode (command_tree connection ack type bare code)) l n
unfolding encode
bare-law connection ack type code p w = p onto w
