-- A signed reply in the runs that a writer makes of it, from its end to its front.
use Rattle.std.specs.Prelude.{ℕ, ◌-◌, ◌≤◌, ◌≡◌, refl, List, [], ◌∷◌, ◌++◌, length, take, drop}
use Rattle.std.proofs.Common.{arith, sym, ap, ap₂, ◌∙◌, append_assoc, le-leb, length-drop, take_all, take_at}
use Rattle.fields_schema.specs.Tree.{Tree, done, int, raw}
use Rattle.fields_encoding.specs.Encode.{int_field, head, len_field, encode}
use Rattle.signature_sha1.specs.Sha1.{Answer}
use Rattle.signature_hmac.specs.Hmac.{hmac, hmac_answer}
use Rattle.fields_write_bytes.specs.Pushed.{Pushed, Starts}
use Rattle.fields_write_bytes.proofs.PushedLaws.{◌onto◌, again, pushed-sub, pushed_none, pushed-tail, pushed_whole, starts-again}
use Rattle.fields_write_bytes.proofs.TreePartsLaws.{raw-last, int-pushed, raw-done}
use Rattle.base_definitions.specs.BigEndian.{be32}
use Rattle.protocol.specs.Frame.{frame}
use Rattle.protocol.specs.Reply.{status_tree, signed_tree, closing_command, signed_reply, closing_reply}
use Rattle.reply_envelope.specs.Frames.{auth_bytes, Finished}

-- the signature: keys of at most 64 bytes and commands of at most 4,096 are never refused
pub made : (key text : List ℕ) → length key ≤ 64 → length text ≤ 4096 → hmac_answer key text ≡ record { number = 0; digest = hmac key text }
unfolding hmac_answer
made key text h k = rw (le-leb (length key) 128 (omega arith), le-leb (length text) 1048576 (omega arith))

pub never-made : (key text : List ℕ) → length key ≤ 64 → length text ≤ 4096 → (a : Answer) → a ≡ hmac_answer key text → 1 ≤ a.number → ⊥
never-made key text h k a e l = let z = ap (λ (x : Answer). x.number) (e ∙ made key text h k) in omega arith

-- the message and the frame ----------------------------------------------------------------

pub auth-law : {r d c b a : ℕ} {l m1 m2 m3 n : List ℕ} (identity : ℕ) (h : List ℕ) → Pushed r d (int_field 4 1) m3 n → Pushed d c (head 5 (a - c)) m2 m3
    → Pushed c b (int_field 1 identity) m1 m2 → Pushed b a (len_field 2 h) l m1 → Pushed r a (auth_bytes identity h) l n
auth-law identity h p q w z = p onto pushed-sub 5 q (int-pushed 1 identity (raw 2 h done) w (raw-last 2 h z))

signed_parts : (identity : ℕ) (key c : List ℕ) → auth_bytes identity (hmac key c) ++ len_field 7 c ≡ encode (signed_tree identity key c)
unfolding encode
signed_parts identity key c =
    append_assoc (int_field 4 1) (len_field 5 (encode (int 1 identity (raw 2 (hmac key c) done)))) (len_field 7 c)
    ∙ ap (λ r. int_field 4 1 ++ (len_field 5 (encode (int 1 identity (raw 2 (hmac key c) done))) ++ r)) (sym (raw-done 7 c))

-- a frame: its prefix in front of a message and a value
frame-law : {r a end : ℕ} {l m s n b : List ℕ} (v : List ℕ) (k : ℕ) → k ≡ length v → length l ≤ 4096 → Pushed r a (0x46 ∷ (be32 (end - a) ++ be32 k)) s n
    → Pushed a end b m s → Pushed end (length l) v l m → drop r n ≡ frame b v
unfolding frame be32
frame-law {a = a} {end = end} {b = b} v k h f p w z =
    let wf = w.from in
    let zf = z.from in
    let e : be32 (end - a) ≡ be32 (length b) = ap be32 (let g : end - a ≡ length b = omega arith in g) in
    let d : be32 k ≡ be32 (length v) = ap be32 h in
    pushed_whole (again (ap₂ (λ x y. 0x46 ∷ (x ++ y)) e d) p onto (w onto z))
    ∙ ap (λ t. 0x46 ∷ t) (append_assoc (be32 (length b)) (be32 (length v)) (b ++ v))

pub finish-law : {r b a at end : ℕ} {l m1 m2 n : List ℕ} (key : List ℕ) (identity k : ℕ) → k ≡ length l - end → length l ≤ 4096
    → Pushed r b (0x46 ∷ (be32 (end - b) ++ be32 k)) m2 n → Pushed b a (auth_bytes identity (hmac key (take (end - at) (drop at l)))) m1 m2
    → Pushed a at (head 7 (end - at)) l m1 → Finished r at end key identity l n
finish-law {r} {b} {a} {at} {end} {l} {m1} {m2} {n} key identity k h f p q w = record { all = go }
  where
    go : (o m c v : List ℕ) → Pushed at end c m l → Pushed end (length o) v o m → drop r n ≡ frame (encode (signed_tree identity key c)) v
    go o m c v x y =
        let xf = x.from in
        let xl = x.long in
        let yf = y.from in
        let yl = y.long in
        let d : take (end - at) (drop at l) ≡ c = ap (take (end - at)) (pushed-tail x) ∙ take_at c (drop end m) (end - at) (omega arith) in
        let g = again (ap (λ t. auth_bytes identity (hmac key t)) d) q in
        frame-law v k (omega arith) (omega arith) p (again (signed_parts identity key c) (g onto pushed-sub 7 w x)) y

-- nothing stands after the place n
pub no_value : (n : ℕ) (l : List ℕ) → n ≡ length l → Pushed n (length l) [] l l
no_value n l e =
    let p = pushed_none (length l) l (omega arith) in
    record { from = omega arith; fits = p.fits; long = refl; same = p.same ∙ ap (λ k. take k l ++ ([] ++ drop (length l) l)) (sym e) }

pub closing-law : {r d c b a at : ℕ} {l m1 m2 m3 m4 n : List ℕ} (connection code : ℕ) → at ≡ length l → length l ≤ 4096
    → Pushed r d (0x46 ∷ (be32 (at - d) ++ be32 0)) m4 n → Pushed d c (int_field 4 3) m3 m4 → Pushed c b (head 7 (at - b)) m2 m3
    → Pushed b a (len_field 1 (encode (int 3 connection done))) m1 m2 → Pushed a at (encode (status_tree code)) l m1 → drop r n ≡ closing_reply connection code
unfolding closing_reply encode
closing-law {at = at} {l = l} connection code h f p q w x y =
    frame-law [] 0 refl f p (again (ap (λ t. int_field 4 3 ++ t) (sym (raw-done 7 (encode (closing_command connection code))))) (q onto pushed-sub 7 w (x onto y))) (no_value at l h)

-- a whole signed reply
pub signed-whole : {r at end i identity : ℕ} {key m before after v : List ℕ} (t : Tree) (l : List ℕ) → i ≡ identity → Finished r at end key i before after
    → Pushed at end (encode t) m before → Pushed end (length l) v l m → drop r after ≡ signed_reply identity key t v
unfolding signed_reply
signed-whole {key = key} {v = v} t l e f p q = f.all _ _ _ _ p q ∙ ap (λ (n : ℕ). signed_reply n key t v) e

-- the copy of the end of a scratch buffer to the start of the lent one
pub copied : {r : ℕ} {bs before after : List ℕ} (s : List ℕ) (from to : ℕ) → length s ≡ to → drop from s ≡ bs → Starts r (take (to - from) (drop from s)) before after
    → Starts r bs before after
copied s from to h e w = starts-again (take_all (to - from) (drop from s) (omega (arith, length-drop from s)) ∙ e) w
