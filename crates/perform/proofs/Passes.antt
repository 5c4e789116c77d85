-- What step 8 leaves known of a body that passes it: the part that the operation uses is there.
use mathlib.Core.Path.{◌≡◌, refl, sym, ap, ◌∙◌, subst}
use mathlib.Core.Bool.{Bool, true, false, cond, ◌&&◌}
use mathlib.Core.List.{List, []}
use mathlib.Core.Option.{Option, none, some}
use Prim.Native.Nat.{ℕ, ◌≤◌}
use native.Mathlib.Omega.{arith}
use lib.Dec.{leb}
use lib.ListN.{length}
use Rattle.fields_schema.specs.Tree.{guard, is_some}
use Rattle.fields_lookup.specs.Views.{signed_view}
use Rattle.access_record.specs.Table as access
use Rattle.access_permission.specs.Permissions.{READ, RANGE}
use Rattle.store_layout.specs.Entries.{next_of, previous_of}
use Rattle.protocol.specs.declared.Operation.{Operation}
use Rattle.protocol.specs.declared.Operation.TheVariants.{Noop, Get, GetVersion, GetNext, GetPrevious, GetKeyRange, Put, Delete, FlushAllData, Setup, GetLog, Security}
use Rattle.operation_visible.specs.Seen.{sees}
use Rattle.protocol.specs.State.{State, entries}
use Rattle.protocol.specs.Command as command
use Rattle.base_definitions.specs.Lists.{is_empty, only}
use Rattle.base_definitions.specs.Options.{or_else}
use Rattle.protocol.specs.Judge.{algorithms_good, broken, change_good, delete_by, entry_of, fault, key_value_good, key_value_in, keys_of, logged, no_key_value, no_range, present, put, range, range_good, range_in, secure, security_good, set_up, shown, step10, succeeds, types_good, version_shown, visible, visible_in}
use Rattle.judge_body_rules.specs.PassedLaws.{put-passed, range-passed}
use Rattle.request_command.specs.declared.Body.{Body}
use Rattle.request_parts.specs.Views.{key_value_view, range_view}
use Rattle.request_command.specs.Views.{body_view}
use Rattle.request_scope.specs.Stands.{acls_in}
use Rattle.request_merged.specs.Types.{log_types}
use Rattle.reply_command.specs.declared.ReplyTo.{ReplyTo}
use Rattle.reply_send.specs.Sent.{Sent, replied}
use Rattle.reply_send.specs.SentLaws.{sent-as}

never : {A : Type 0} → false ≡ true → A
never e = absurd (let z : ◌≡◌ {A = ℕ} 0 1 = cc in omega arith)

-- a part of which a test holds that fails where there is none
there : {A : Type 0} (d : A) (f : Option A → Bool) → f none ≡ false → (has : Bool) (x : A) → f (guard has x) ≡ true → or_else d (guard has x) ≡ x
there d f n true x e = refl
there d f n false x e = never (sym n ∙ e)

beside : (x y : Bool) → broken (x && y) ≡ 0 → y ≡ true
beside true true e = refl
beside true false e = absurd (omega arith)
beside false y e = absurd (omega arith)

beside-tables : (x y : Bool) (n : ℕ) → cond (x && y) n 16 ≡ 0 → y ≡ true
beside-tables true true n e = refl
beside-tables true false n e = absurd (omega arith)
beside-tables false y n e = absurd (omega arith)

-- the body with every part as it would be read
abbrev pub whole_view : List ℕ → Body → command.Body
whole_view s b =
    record {
      key_value = some (key_value_view s b.entry);
      range = some (range_view s b.range);
      setup = some (signed_view b.cluster);
      get_log = some (log_types s);
      security = some (acls_in s b.security);
    }

module _ (s : List ℕ) (b : Body) (v : List ℕ) where
  keyed : (x : Bool) (f : command.KeyValue → Bool) → broken (x && present f (body_view s b).key_value) ≡ 0 → key_value_in (body_view s b) ≡ key_value_view s b.entry
  keyed x f e = there no_key_value (present f) refl b.keyed (key_value_view s b.entry) (beside x (present f (body_view s b).key_value) e)

  ranged : fault GetKeyRange (body_view s b) v ≡ 0 → range_in (body_view s b) ≡ range_view s b.range
  ranged e = there no_range (present range_good) refl b.ranged (range_view s b.range) (beside (is_empty v) (present range_good (body_view s b).range) e)

  tabled : fault Security (body_view s b) v ≡ 0 → present security_good (body_view s b).security ≡ true
  tabled e = beside-tables (is_empty v) (present security_good (body_view s b).security) (cond (present algorithms_good (body_view s b).security) 0 15) e

  -- what PUT, GETKEYRANGE and SECURITY require
  pub put-good : fault Put (body_view s b) v ≡ 0 → (key_value_good (key_value_view s b.entry) ≡ true) × (length v ≤ 384)
  put-good e =
      let p = put-passed (body_view s b) v e in
      (subst (λ (k : command.KeyValue). key_value_good k ≡ true) (keyed (leb (length v) 384) change_good e) p.1, p.0)

  pub range-short : fault GetKeyRange (body_view s b) v ≡ 0 → (range_view s b.range).max_returned ≤ 32
  range-short e = subst (λ (g : command.Range). g.max_returned ≤ 32) (ranged e) (range-passed (body_view s b) v e)

  pub table-good : fault Security (body_view s b) v ≡ 0 → security_good (acls_in s b.security) ≡ true
  table-good e = go b.security.has (tabled e)
    where
      go : (has : Bool) → present security_good (guard has (acls_in s b.security)) ≡ true → security_good (acls_in s b.security) ≡ true
      go true e = e
      go false e = never e

  -- and GETLOG: the getLog is there
  pub log-there : fault GetLog (body_view s b) v ≡ 0 → b.logged ≡ true
  log-there e = go b.logged (beside (is_empty v) (present types_good (body_view s b).get_log) e)
    where
      go : (x : Bool) → present types_good (guard x (log_types s)) ≡ true → x ≡ true
      go true e = refl
      go false e = never e

  -- step 10 of a body that passes step 8
  step-whole : (t : State) (a : access.Acl) (o : Operation) → fault o (body_view s b) v ≡ 0 → step10 t a o (body_view s b) v ≡ step10 t a o (whole_view s b) v
  step-whole t a Noop e = refl
  step-whole t a FlushAllData e = refl
  step-whole t a Get e = ap (λ (k : command.KeyValue). shown t k.metadata_only (entry_of t k.key)) (keyed (is_empty v) key_value_good e)
  step-whole t a GetVersion e = ap (λ (k : command.KeyValue). version_shown t (entry_of t k.key)) (keyed (is_empty v) key_value_good e)
  step-whole t a GetNext e =
      ap (λ (k : command.KeyValue). shown t k.metadata_only (next_of k.key (visible_in t a READ))) (keyed (is_empty v) key_value_good e)
  step-whole t a GetPrevious e =
      ap (λ (k : command.KeyValue). shown t k.metadata_only (previous_of k.key (visible_in t a READ))) (keyed (is_empty v) key_value_good e)
  step-whole t a Put e = ap (λ (k : command.KeyValue). put t k v) (keyed (leb (length v) 384) change_good e)
  step-whole t a Delete e = ap (λ (k : command.KeyValue). delete_by t k (entry_of t k.key)) (keyed (is_empty v) change_good e)
  step-whole t a GetKeyRange e = ap (λ (g : command.Range). succeeds t (range (keys_of g (visible_in t a RANGE))) []) (ranged e)
  step-whole t a Setup e =
      ap (set_up t) (there none is_some refl b.changed (signed_view b.cluster) (beside (is_empty v) (is_some (body_view s b).setup) e))
  step-whole t a GetLog e =
      ap (logged t) (there [] (present types_good) refl b.logged (log_types s) (beside (is_empty v) (present types_good (body_view s b).get_log) e))
  step-whole t a Security e =
      ap (secure t) (there [] (present security_good) refl b.security.has (acls_in s b.security) (tabled e))

  pub performed : (to : ReplyTo) (by : List ℕ) (t : State) (a : access.Acl) {o o' : Operation} {n : ℕ} {out out' : List ℕ} {t' : State} → fault o (body_view s b) v ≡ 0 → o ≡ o'
      → Sent (replied to by (step10 t a o' (whole_view s b) v)) n out out' t' → Sent (replied to by (step10 t a o (body_view s b) v)) n out out' t'
  performed to by t a {o} f e h = sent-as to by (sym (step-whole t a o f ∙ ap (λ (o : Operation). step10 t a o (whole_view s b) v) e)) h

-- what a viewer sees, of a state whose connection is the viewer's
pub visible-by : (t : State) (a : access.Acl) (p : ℕ) {w : Bool} → t.connection.protected ≡ w → only (sees a w p) (entries t) ≡ visible_in t a p
unfolding visible
visible-by t a p e = ap (λ (w : Bool). only (sees a w p) (entries t)) (sym e)
