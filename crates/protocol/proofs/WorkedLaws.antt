-- Document 01, "Readings to check by hand": W1 to W11 shown.
use Rattle.std.specs.Prelude.{ℕ, ◌≡◌, Bool, cond, ◌&&◌, ◌||◌, List, [], ◌∷◌, ◌++◌, reverse, length, take}
use Rattle.std.proofs.Common.{arith, ◌∙◌, append-nil, length-append}
use Rattle.std.proofs.Math.Path.{refl, ap}
use Rattle.std.proofs.Math.Bool.{true, false}
use Rattle.std.proofs.Math.Seq.{take-nil}
use Rattle.fields_wire.specs.Varint.{varint_up}
use Rattle.fields_schema.specs.Tree.{done, int, raw}
use Rattle.fields_encoding.proofs.BasicLaws.{never}
use Rattle.fields_encoding.specs.Encode.{int_field, len_field, encode, int_o}
use Rattle.signature_hmac.specs.Hmac.{hmac}
use Rattle.access_record.specs.Table as access
use Rattle.base_definitions.specs.BigEndian.{be32}
use Rattle.base_definitions.specs.Lists.{map_l, only, same_bytes, fill}
use Rattle.access_permission.specs.Permissions.{READ, RANGE}
use Rattle.access_permission.specs.Permission.{fits_at, fits, permits}
use Rattle.std.specs.declared.cmp.Ordering.{Ordering}
use Rattle.std.specs.declared.cmp.Ordering.TheVariants.{Less, Equal, Greater}
use Rattle.store_block.specs.Order.{cmp}
use Rattle.std.specs.Ordering.{ordering_reverse}
use Rattle.store_block.specs.OrderLaws.{cmp-flip}
use Rattle.store_block.specs.Entry.{Entry, entry}
use Rattle.std.specs.Ordering.{is_eq, is_lt}
use Rattle.store_block.specs.Block.{sum_from, head, body, block}
use Rattle.store_layout.specs.Entries.{next_of, previous_of}
use Rattle.protocol.specs.Frame.{frame}
use Rattle.protocol.specs.State.{State, table, entries}
use Rattle.protocol.specs.Command.{Range}
use Rattle.protocol.specs.Operation.{asked, asked_in}
use Rattle.protocol.specs.Judge.{above_last, judge, range, fails, succeeds, shown, visible, visible_in, in_range, keys_in, keys_of}
use Rattle.protocol.specs.Reply.{signed_by, signed_tree, signed_reply, closing_reply}
use Rattle.protocol.proofs.DigestLaws.{hmac-length}
use Rattle.protocol.specs.Box.{command_reply, message_in}
use Rattle.protocol.specs.Worked.{noop, noop_response, key_of, same_ends, told, Readings}

w1-told : (s : State) (a : access.Acl) (key : List ℕ) → s.connection.number ≡ 1 → (table s).cluster_version ≡ 0 → above_last 2 s.connection.last ≡ true
    → message_in (command_reply s 1 key noop (judge s a noop [])) ≡ signed_by 1 key noop_response []
unfolding judge asked asked_in
w1-told s a key n v l = rw (v, l, n)

-- an HMACauth of identity 1 with any 20 bytes
w1-auth : (h : List ℕ) → length h ≡ 20 → encode (int 1 1 (raw 2 h done)) ≡ 0x08 ∷ 0x01 ∷ 0x12 ∷ 0x14 ∷ h
unfolding encode varint_up
w1-auth h e = rw e (ap (λ l. 0x08 ∷ 0x01 ∷ 0x12 ∷ 0x14 ∷ l) (append-nil h))

w1-length : (h : List ℕ) → length h ≡ 20 → length (int_field 4 1 ++ (len_field 5 (0x08 ∷ 0x01 ∷ 0x12 ∷ 0x14 ∷ h) ++ (len_field 7 (encode noop_response) ++ []))) ≡ 42
unfolding encode int_o varint_up asked asked_in
w1-length h e = rw e (omega (arith, length-append h (0x3A ∷ 0x0C ∷ encode noop_response)))

w1-message : (key : List ℕ) → length (encode (signed_tree 1 key (encode noop_response))) ≡ 42
unfolding encode
w1-message key =
    let h = hmac key (encode noop_response) in
    ap (λ l. length (int_field 4 1 ++ (len_field 5 l ++ (len_field 7 (encode noop_response) ++ [])))) (w1-auth h (hmac-length key (encode noop_response)))
    ∙ w1-length h (hmac-length key (encode noop_response))

w1-whole : (key : List ℕ) → length (signed_reply 1 key noop_response []) ≡ 51
unfolding signed_reply frame be32
w1-whole key = let m = encode (signed_tree 1 key (encode noop_response)) in omega (arith, length-append m [], w1-message key)

-- two entries that are stored, whatever they hold beside their keys, and those of them that may be seen
module _ (s : State) (a : access.Acl) (v0 g0 w0 v2 g2 w2 : List ℕ) (a0 a2 : ℕ) where
  abbrev e0 : Entry
  e0 = entry (key_of 0x30) v0 g0 w0 a0

  abbrev e2 : Entry
  e2 = entry (key_of 0x32) v2 g2 w2 a2

  abbrev seen : List ℕ → Bool
  seen k = permits a s.connection.protected READ k

  abbrev those : Bool → Bool → List Entry
  those x y = cond x (e0 ∷ cond y (e2 ∷ []) []) (cond y (e2 ∷ []) [])

  visible-two : entries s ≡ e0 ∷ e2 ∷ [] → visible_in s a READ ≡ those (seen (key_of 0x30)) (seen (key_of 0x32))
  unfolding visible only
  visible-two e = ap (λ es. visible a s.connection.protected READ es) e

  w9 : entries s ≡ e0 ∷ e2 ∷ [] → seen (key_of 0x32) ≡ true → shown s false (next_of (key_of 0x31) (visible_in s a READ)) ≡ told s e2
  unfolding next_of only cmp
  w9 e p = ap (λ es. shown s false (next_of (key_of 0x31) es)) (visible-two e) ∙ go (seen (key_of 0x30)) (seen (key_of 0x32)) p
    where
      go : (x y : Bool) → y ≡ true → shown s false (next_of (key_of 0x31) (those x y)) ≡ told s e2
      go true true q = refl
      go false true q = refl
      go x false q = never (cc)

  w10 : entries s ≡ e0 ∷ e2 ∷ [] → seen (key_of 0x30) ≡ true → shown s false (previous_of (key_of 0x31) (visible_in s a READ)) ≡ told s e0
  unfolding previous_of only cmp
  w10 e p = ap (λ es. shown s false (previous_of (key_of 0x31) es)) (visible-two e) ∙ go (seen (key_of 0x30)) (seen (key_of 0x32)) p
    where
      go : (x y : Bool) → x ≡ true → shown s false (previous_of (key_of 0x31) (those x y)) ≡ told s e0
      go true true q = refl
      go true false q = refl
      go false y q = never (cc)

  w10-none : entries s ≡ e0 ∷ e2 ∷ [] → shown s false (previous_of (key_of 0x30) (visible_in s a READ)) ≡ fails s 7
  unfolding previous_of only cmp
  w10-none e = ap (λ es. shown s false (previous_of (key_of 0x30) es)) (visible-two e) ∙ go (seen (key_of 0x30)) (seen (key_of 0x32))
    where
      go : (x y : Bool) → shown s false (previous_of (key_of 0x30) (those x y)) ≡ fails s 7
      go true true = refl
      go true false = refl
      go false true = refl
      go false false = refl

-- a key is not both above another and below it, or equal where a flag is off
between : (o : Ordering) (i j : Bool) → (i && j) ≡ false → ((is_lt o || (i && is_eq o)) && (is_lt (ordering_reverse o) || (j && is_eq (ordering_reverse o)))) ≡ false
between Less true true e = refl
between Less true false e = refl
between Less false true e = refl
between Less false false e = refl
between Equal true true e = e
between Equal true false e = refl
between Equal false j e = refl
between Greater true j e = refl
between Greater false j e = refl

none_between : (k : List ℕ) (i j : Bool) (n : ℕ) (r : Bool) → (i && j) ≡ false → (x : List ℕ) → in_range (same_ends k i j n r) x ≡ false
unfolding in_range
none_between k i j n r h x =
    ap (λ o. ((is_lt (cmp k x) || (i && is_eq (cmp k x))) && (is_lt o || (j && is_eq o)))) (cmp-flip k x) ∙ between (cmp k x) i j h

no_keys : (r : Range) → ((x : List ℕ) → in_range r x ≡ false) → (es : List Entry) → keys_in r es ≡ []
unfolding keys_in only map_l
no_keys r h [] = refl
no_keys r h (e ∷ es) = rw (h e.key) (no_keys r h es)

empty-list : (n : ℕ) (r : Bool) (ks : List (List ℕ)) → ks ≡ [] → take n (cond r (reverse ks) ks) ≡ []
empty-list n true ks e = ap (λ l. take n (reverse l)) e ∙ take-nil n
empty-list n false ks e = ap (take n) e ∙ take-nil n

w11 : (k : List ℕ) (i j : Bool) (n : ℕ) (r : Bool) (es : List Entry) → (i && j) ≡ false → keys_of (same_ends k i j n r) es ≡ []
unfolding keys_of
w11 k i j n r es h = empty-list n r (keys_in (same_ends k i j n r) es) (no_keys (same_ends k i j n r) (none_between k i j n r h) es)

pub readings : Readings
unfolding closing_reply frame encode varint_up int_o asked asked_in sum_from body head fill be32 block fits fits_at same_bytes
readings = record {
  W1 = (w1-told, refl, λ key. (w1-message key, w1-whole key));
  W2 = refl;
  W3 = (refl, refl);
  W4 = refl;
  W5 = refl;
  W6 = refl;
  W7 = refl;
  W8 = refl;
  W9 = w9;
  W10 = λ s a v0 g0 w0 v2 g2 w2 a0 a2 e. (w10 s a v0 g0 w0 v2 g2 w2 a0 a2 e, w10-none s a v0 g0 w0 v2 g2 w2 a0 a2 e);
  W11 = λ s a k i j n r h. ap (λ ks. succeeds s (range ks) []) (w11 k i j n r (visible_in s a RANGE) h);
}
