-- Steps 1 and 2, one law for each way that they go.
use Rattle.std.specs.Prelude.{◌≡◌, refl, Bool, true, false, cond, List, ℕ, ◌+◌, ◌-◌, ◌*◌, ◌≤◌, length, take, drop, get_or, Option as Maybe, Some, None}
use Rattle.std.proofs.Common.{sym, ap₂, subst, ◌∙◌, arith, take_at}
use Rattle.std.proofs.Math.Path.{ap}
use Rattle.std.proofs.Math.Option.{Option, none, some}
use Rattle.base_integers.specs.Signed.{word_of}
use Rattle.fields_schema.specs.Tree.{map_o}
use Rattle.signature_hmac.specs.Hmac as signature
use Rattle.signature_hmac.specs.Hmac.{hmac}
use Rattle.signature_hmac.specs.HmacLaws.{verified-exactly}
use Rattle.access_record.specs.Table.{acl_of, place_of}
use Rattle.access_record.specs.Record as access
use Rattle.access_record.specs.Record.{table_of, bytes_at, Placed}
use Rattle.access_record.proofs.TableLaws.{acl_of-at, place-of, length-bytes_at}
use Rattle.fields_encoding.proofs.BasicLaws.{never}
use Rattle.fields_write_bytes.specs.Pushed.{Starts}
use Rattle.fields_lookup.proofs.SliceLaws.{slice_at}
use Rattle.fields_lookup.specs.Views.{bytes_at as bytes_in}
use Rattle.request_message.specs.declared.Sealed.{Sealed}
use Rattle.request_message.specs.Messages.{sealed_view}
use Rattle.protocol.specs.StatusCode.{CONNECTION_TERMINATED}
use Rattle.protocol.specs.State.{State, table}
use Rattle.protocol.specs.Reading as reading
use Rattle.base_definitions.proofs.ListLaws.{same_bytes-true, same_bytes-self}
use Rattle.base_definitions.specs.Lists.{same_bytes}
use Rattle.protocol.specs.Reading.{Envelope, envelope, read_message, reading_by, decoded, verified, opened}
use Rattle.protocol.specs.Answer.{Reply, respond}
use Rattle.protocol.specs.Box.{box, close, acl_at}
use Rattle.reply_send.specs.Sent.{Sent}

-- the same reply by another name
pub sent-as : {x y : Reply State} {n : ℕ} {out out' : List ℕ} {after : State} → x ≡ y → Sent y n out out' after → Sent x n out out' after
sent-as {n = n} {out} {out'} {after} e h = subst (λ (x : Reply State). Sent x n out out' after) (sym e) h

-- what step 1 reads
pub sealed : (m : List ℕ) (r : Sealed) → sealed_view m (Some r) ≡ read_message m → {i : ℕ} → i ≡ word_of r.identity
    → read_message m ≡ some (envelope i (take (r.hmac.start + r.hmac.len - r.hmac.start) (drop r.hmac.start m)) (take (r.command.start + r.command.len - r.command.start) (drop r.command.start m)))
sealed m r e {i} ei =
    sym e ∙ ap (λ (i : ℕ). some (envelope i (bytes_in m r.hmac) (bytes_in m r.command))) (sym ei)
    ∙ ap₂ (λ (x y : List ℕ). some (envelope i x y)) (sym (slice_at m r.hmac)) (sym (slice_at m r.command))

pub unsealed : (m : List ℕ) → sealed_view m None ≡ read_message m → read_message m ≡ none
unsealed m e = sym e

-- ---- steps 1 and 2

module _ (s : State) (v : List ℕ) where
  abbrev key_of : ℕ → Option (List ℕ)
  key_of i = box.key_of s i

  abbrev reply_to : List ℕ → Reply State
  reply_to m = respond box s v (reading_by hmac key_of m)

  pub unread : (m : List ℕ) → read_message m ≡ none → reply_to m ≡ close s CONNECTION_TERMINATED
  unfolding reading_by
  unread m e = ap (λ (o : Option Envelope). respond box s v (opened hmac key_of o)) e

  module _ (m : List ℕ) {i : ℕ} {sig c : List ℕ} (e : read_message m ≡ some (envelope i sig c)) where
    looked-up : reply_to m ≡ respond box s v (verified hmac key_of i sig c (key_of i))
    unfolding reading_by
    looked-up = ap (λ (o : Option Envelope). respond box s v (opened hmac key_of o)) e

    pub unknown : place_of (table s) i ≡ None → reply_to m ≡ close s 2
    unknown f = looked-up ∙ ap (λ (p : Maybe ℕ). respond box s v (verified hmac key_of i sig c (map_o (λ a. a.key) (acl_at s p)))) f

    pub known : {p : ℕ} → place_of (table s) i ≡ Some p → reply_to m ≡ respond box s v (verified hmac key_of i sig c (some (acl_of (table s) p).key))
    known f = looked-up ∙ ap (λ (p : Maybe ℕ). respond box s v (verified hmac key_of i sig c (map_o (λ a. a.key) (acl_at s p)))) f

  module _ (i : ℕ) (sig c key : List ℕ) where
    pub wrong-hmac : same_bytes sig (hmac key c) ≡ false → respond box s v (verified hmac key_of i sig c (some key)) ≡ close s 2
    wrong-hmac e = ap (λ (t : Bool). respond box s v (cond t (decoded i key (reading.decodes c)) (reading.closing 2))) e

    pub right-hmac : same_bytes sig (hmac key c) ≡ true
        → respond box s v (verified hmac key_of i sig c (some key)) ≡ respond box s v (decoded i key (reading.decodes c))
    right-hmac e = ap (λ (t : Bool). respond box s v (cond t (decoded i key (reading.decodes c)) (reading.closing 2))) e

  -- the command under the key, by its copy
  pub sent-by : (i : ℕ) (c : List ℕ) {by key : List ℕ} {n : ℕ} {out out' : List ℕ} {after : State} → by ≡ key
      → Sent (respond box s v (decoded i by (reading.decodes c))) n out out' after → Sent (respond box s v (decoded i key (reading.decodes c))) n out out' after
  sent-by i c {n = n} {out} {out'} {after} e h = subst (λ (k : List ℕ). Sent (respond box s v (decoded i k (reading.decodes c))) n out out' after) e h

-- the comparison of step 2 is that of the signature part
pub hmac-right : (key c sig : List ℕ) → length key ≤ 64 → length c ≤ 8192 → same_bytes sig (hmac key c) ≡ signature.verified key c sig
hmac-right key c sig k l =
    go (signature.verified key c sig) refl (same_bytes sig (hmac key c)) refl
  where
    exactly : (signature.verified key c sig ≡ true → sig ≡ hmac key c) × (signature.verified key c (hmac key c) ≡ true)
    exactly = verified-exactly key c sig (omega arith) (omega arith)

    go : (a : Bool) → signature.verified key c sig ≡ a → (b : Bool) → same_bytes sig (hmac key c) ≡ b → same_bytes sig (hmac key c) ≡ signature.verified key c sig
    go true e true f = f ∙ sym e
    go false e false f = f ∙ sym e
    go true e false f = never (let z = sym f ∙ ap (λ (x : List ℕ). same_bytes x (hmac key c)) (exactly.0 e) ∙ same_bytes-self (hmac key c) in cc)
    go false e true f = never (let z = sym e ∙ ap (signature.verified key c) (same_bytes-true sig (hmac key c) f) ∙ exactly.1 in cc)

-- ---- the key

pub key-short : (l : List ℕ) (i : ℕ) → Placed l i → length (acl_of (table_of l) i).key ≤ 64
unfolding access.acl_at
key-short l i p =
    let e : length (acl_of (table_of l) i).key ≡ length (bytes_at l (16 + i * 368 + 16) (get_or l (16 + i * 368 + 8) 0)) = ap (λ a. length a.key) (acl_of-at l i p.below) in
    let f = length-bytes_at l (16 + i * 368 + 16) (get_or l (16 + i * 368 + 8) 0) in
    let g = (place-of l i p.below p.good).key_fits in
    omega arith

pub copied : {n : ℕ} {bs before after : List ℕ} → Starts n bs before after → take n after ≡ bs
copied {n} {bs} {before} {after} h = ap (take n) h.same ∙ take_at bs (drop n before) n (sym h.next)
