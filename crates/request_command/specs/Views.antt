-- What the structs of a command mean over the bytes that they point into, by the names of document 01's list.
-- "Absent bytes are empty, flags false, clusterVersion and offset 0."
use Rattle.std.specs.Prelude.{◌≡◌, List, Bool, true, false, cond, ℕ, ◌≤◌, length, leb}
use Rattle.std.proofs.Math.Option.{Option}
use Rattle.fields_schema.specs.FieldNumbers.{Body-key_value, Body-range, Body-setup, Body-get_log, Body-security}
use Rattle.fields_schema.specs.Tree.{guard, is_some, Tree, sub_at, tree_in, subs_at}
use Rattle.fields_schema.specs.declared.Kind.TheVariants.{Command, Security}
use Rattle.fields_lookup.specs.Views.{signed_view, bytes_at, Lies, Reads, Sub, tree_of}
use Rattle.protocol.specs.Command as c
use Rattle.protocol.specs.Command.{security_of}
use Rattle.protocol.specs.Judge.{key_value_in}
use Rattle.request_parts.specs.Views.{header_view, key_value_view, KeyValueLies, range_view, RangeLies, KeyValueIs, RangeIs}
use Rattle.request_merged.specs.Setups.{SetupIs}
use Rattle.request_merged.specs.Types.{log_types}
use Rattle.request_command.specs.declared.Body.{Body}
use Rattle.request_command.specs.declared.Request.{Request}

-- where there is no security part the empty one stands for it, which decodes; the types are those of the whole command s
abbrev pub body_view : List ℕ → Body → c.Body
body_view s b =
    record {
      key_value = guard b.keyed (key_value_view s b.entry);
      range = guard b.ranged (range_view s b.range);
      setup = guard b.changed (signed_view b.cluster);
      get_log = guard b.logged (log_types s);
      security = guard b.security.has (security_of (tree_of Security (bytes_at s b.security)));
    }

-- the key of a keyValue that is not there is empty
pub record BodyLies (s : List ℕ) (b : Body) : Type 0 where
  pub entry : KeyValueLies s b.entry
  pub range : RangeLies s b.range
  pub log : b.logged ≡ true → Reads Command s
  pub security : Lies s b.security
  pub reads : Reads Security (bytes_at s b.security)
  pub key : (key_value_in (body_view s b)).key ≡ bytes_at s b.entry.key

-- what was read of the bodies that t joins; the security part counts where there is at most one
pub record BodyIs (s : List ℕ) (t : Tree) (b : Body) : Type 0 where
  pub keyed : b.keyed ≡ is_some (sub_at Body-key_value t)
  pub entry : KeyValueIs s (tree_in (sub_at Body-key_value t)) b.entry
  pub ranged : b.ranged ≡ is_some (sub_at Body-range t)
  pub range : RangeIs s (tree_in (sub_at Body-range t)) b.range
  pub changed : b.changed ≡ is_some (sub_at Body-setup t)
  pub cluster : SetupIs (tree_in (sub_at Body-setup t)) b.cluster
  pub logged : b.logged ≡ is_some (sub_at Body-get_log t)
  pub secured : b.security.has ≡ is_some (sub_at Body-security t)
  pub lies : Lies s b.security
  pub reads : Reads Security (bytes_at s b.security)
  pub security : length (subs_at Body-security t) ≤ 1 → Sub Security s b.security (sub_at Body-security t)

-- whether the bodies that t joins have a security; at most one, unless a singular field of the command was sent twice
pub record Secured (t : Tree) (secured twice : Bool) : Type 0 where
  pub here : secured ≡ is_some (sub_at Body-security t)
  pub sole : twice ≡ false → length (subs_at Body-security t) ≤ 1

-- how many securities: none, one, or more
abbrev pub capped : ℕ → ℕ
capped n = cond (leb n 1) n 2

abbrev pub CountIs : Tree → ℕ → Type 0
CountIs t n = n ≡ capped (length (subs_at Body-security t))

-- none where the command does not decode
abbrev pub request_view : List ℕ → Request → Option c.Command
request_view s r = guard r.ok (record { header = guard r.headed (header_view r.header); body = body_view s r.body })
