-- A message is read exactly where steps 1 to 3 pass, one by one.
use Rattle.std.specs.Prelude.{ℕ, ◌≡◌, Bool, true, false}
use Rattle.std.proofs.Math.Path.{refl, ap}
use Rattle.std.proofs.Common.{sym, ◌∙◌, eqb-true}
use Rattle.std.proofs.Math.Bool.{cond}
use mathlib.Core.List.{List, []}
use Rattle.std.proofs.Math.Option.{Option, none, some}
use Rattle.fields_schema.specs.Tree.{then_o, guard, Tree, int_at, raw_at, sub_at, listed}
use Rattle.fields_schema.proofs.OptionLaws.{then_some, guard-some}
use Rattle.base_definitions.specs.Lists.{same_bytes}
use Rattle.base_definitions.specs.Options.{or_else}
use Rattle.base_definitions.proofs.ListLaws.{same_bytes-true, same_bytes-self}
use Rattle.fields_encoding.proofs.BasicLaws.{never}
use Rattle.fields_schema.specs.declared.Kind.TheVariants.{Message, Command}
use Rattle.protocol.specs.AuthType.{HMACAUTH}
use Rattle.protocol.specs.Reading.{Envelope, envelope, sealed, is_one, envelope_of, read_message, security_once, sent_once, decodes, closing, read, decoded, verified, opened, reading_by}
use Rattle.protocol.specs.Answer.{Device, reading}
use Rattle.protocol.specs.FirstSteps.{FirstSteps}

-- step 1
record Opened (m : List ℕ) (i : ℕ) (sig c : List ℕ) : Type 0 where
  message : Tree
  auth : Tree
  decodes : listed Message m ≡ some message
  one : int_at 4 message ≡ some HMACAUTH
  present : sub_at 5 message ≡ some auth
  identity : int_at 1 auth ≡ some i
  hmac : or_else [] (raw_at 2 auth) ≡ sig
  command : raw_at 7 message ≡ some c

is_one_lem : (o : Option ℕ) → is_one o ≡ true → o ≡ some HMACAUTH
is_one_lem none e = never (cc)
is_one_lem (some a) e = ap some (eqb-true a HMACAUTH e)

opens : (m : List ℕ) {i : ℕ} {sig c : List ℕ} → read_message m ≡ some (envelope i sig c) → Opened m i sig c
unfolding read_message
opens m {i} {sig} {c} e =
    let t = then_some (listed Message m) (λ t. envelope_of t) e in
    go t.0 t.1 (is_one (int_at 4 t.0)) refl (sub_at 5 t.0) refl (raw_at 7 t.0) refl t.2
  where
    known : (t u : Tree) (b : List ℕ) → listed Message m ≡ some t → is_one (int_at 4 t) ≡ true → sub_at 5 t ≡ some u → raw_at 7 t ≡ some b
        → (o : Option ℕ) → int_at 1 u ≡ o → then_o o (λ i. some (envelope i (or_else [] (raw_at 2 u)) b)) ≡ some (envelope i sig c) → Opened m i sig c
    known t u b l a h r none o e = never (cc)
    known t u b l a h r (some j) o e =
        let x : j ≡ i = cc in
        let y : b ≡ c = cc in
        let z : or_else [] (raw_at 2 u) ≡ sig = cc in
        record { message = t; auth = u; decodes = l; one = is_one_lem (int_at 4 t) a; present = h; identity = o ∙ ap some x; hmac = z; command = r ∙ ap some y }

    go : (t : Tree) → listed Message m ≡ some t → (b : Bool) → is_one (int_at 4 t) ≡ b → (o : Option Tree) → sub_at 5 t ≡ o → (p : Option (List ℕ)) → raw_at 7 t ≡ p
        → cond b (sealed o p) none ≡ some (envelope i sig c) → Opened m i sig c
    go t l false a o h p r e = never (cc)
    go t l true a none h p r e = never (cc)
    go t l true a (some u) h none r e = never (cc)
    go t l true a (some u) h (some b) r e = known t u b l a h r (int_at 1 u) refl e

-- step 3
decodes-once : (c : List ℕ) {t : Tree} → decodes c ≡ some t → (listed Command c ≡ some t) × (security_once t ≡ true)
decodes-once c {t} e =
    let i = then_some (listed Command c) (λ t. sent_once t) e in
    let g = guard-some (security_once i.0) i.2 in
    (i.1 ∙ ap some g.1, ap security_once (sym g.1) ∙ g.0)

module _ (D : Device) (s : D.State) (m : List ℕ) where
  -- STEP BY STEP: what a message that is read has passed
  pub steps-passed : {i : ℕ} {key : List ℕ} {t : Tree} → reading D s m ≡ read i key t → FirstSteps D s m i key t
  unfolding reading_by
  steps-passed {i} {key} {t} e = go (read_message m) refl e
    where
      last : (j : ℕ) (sig c k : List ℕ) (o : Option Tree) → Opened m j sig c → D.key_of s j ≡ some k → sig ≡ D.hmac k c → decodes c ≡ o
          → decoded j k o ≡ read i key t → FirstSteps D s m i key t
      last j sig c k none p q r l e = never (cc)
      last j sig c k (some u) p q r l e =
          let a : j ≡ i = cc in
          let b : k ≡ key = cc in
          let w : u ≡ t = cc in
          let x = decodes-once c (l ∙ ap some w) in
          record {
            message = p.message;
            auth = p.auth;
            command_bytes = c;
            message_decodes = p.decodes;
            auth_type = p.one;
            auth_present = p.present;
            identity_present = p.identity ∙ ap some a;
            command_present = p.command;
            key_found = ap (D.key_of s) (sym a) ∙ q ∙ ap some b;
            hmac_right = p.hmac ∙ r ∙ ap (λ k. D.hmac k c) b;
            command_decodes = x.0;
            security_once = x.1;
          }

      test : (j : ℕ) (sig c k : List ℕ) (b : Bool) → same_bytes sig (D.hmac k c) ≡ b → Opened m j sig c → D.key_of s j ≡ some k
          → cond b (decoded j k (decodes c)) (closing 2) ≡ read i key t → FirstSteps D s m i key t
      test j sig c k true r p q e = last j sig c k (decodes c) p q (same_bytes-true sig (D.hmac k c) r) refl e
      test j sig c k false r p q e = never (cc)

      look_up : (j : ℕ) (sig c : List ℕ) (o : Option (List ℕ)) → D.key_of s j ≡ o → Opened m j sig c → verified D.hmac (D.key_of s) j sig c o ≡ read i key t
          → FirstSteps D s m i key t
      look_up j sig c none q p e = never (cc)
      look_up j sig c (some k) q p e = test j sig c k (same_bytes sig (D.hmac k c)) refl p q e

      go : (o : Option Envelope) → read_message m ≡ o → opened D.hmac (D.key_of s) o ≡ read i key t → FirstSteps D s m i key t
      go none p e = never (cc)
      go (some (envelope j sig c)) p e = look_up j sig c (D.key_of s j) refl (opens m p) e

  -- the envelope that step 1 opens
  pub steps-open : {i : ℕ} {key : List ℕ} {t : Tree} (p : FirstSteps D s m i key t) → read_message m ≡ some (envelope i (D.hmac key p.command_bytes) p.command_bytes)
  unfolding read_message
  steps-open {i} {key} {t} p =
      ap (λ o. then_o o (λ t. envelope_of t)) p.message_decodes
      ∙ (λ j. cond (is_one (p.auth_type j)) (sealed (p.auth_present j) (p.command_present j)) none)
      ∙ ap (λ o. then_o o (λ i. some (envelope i (or_else [] (raw_at 2 p.auth)) p.command_bytes))) p.identity_present
      ∙ ap (λ x. some (envelope i x p.command_bytes)) p.hmac_right

  -- a message of a known identity, rightly signed, is read as its command decodes
  pub reads : {i : ℕ} {key sig c : List ℕ} → read_message m ≡ some (envelope i sig c) → D.key_of s i ≡ some key → sig ≡ D.hmac key c → reading D s m ≡ decoded i key (decodes c)
  unfolding reading_by
  reads {i} {key} {sig} {c} p q r = rw (p, q, r, same_bytes-self (D.hmac key c)) refl

  pub steps-decoded : {i : ℕ} {key : List ℕ} {t : Tree} (p : FirstSteps D s m i key t) → decodes p.command_bytes ≡ some t
  steps-decoded {i} {key} {t} p = ap (λ o. then_o o (λ t. sent_once t)) p.command_decodes ∙ ap (λ b. guard b t) p.security_once

  -- and one that passes them is read
  pub passed-read : {i : ℕ} {key : List ℕ} {t : Tree} → FirstSteps D s m i key t → reading D s m ≡ read i key t
  passed-read {i} {key} {t} p =
      reads (steps-open p) p.key_found refl ∙ ap (decoded i key) (steps-decoded p)
