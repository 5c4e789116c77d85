-- The verdict by the permission that is needed, and that what is asked for has its bit.
use Rattle.std.specs.Prelude.{◌≡◌, refl, Bool, true, List, ℕ, ◌<◌}
use Rattle.std.proofs.Common.{sym, ap, ◌∙◌, ltb-true}
use Rattle.std.proofs.Math.Option.{Option, none, some}
use Rattle.base_definitions.specs.Lists.{all}
use Rattle.access_record.specs.Table as access
use Rattle.access_permission.specs.Permission.{permits, permits_any}
use Rattle.protocol.specs.declared.Permission.{Permission}
use Rattle.protocol.specs.declared.Permission.TheVariants.{Free, Key, Any}
use Rattle.protocol.specs.Command.{Body}
use Rattle.protocol.specs.Operation.{asked_by}
use Rattle.protocol.proofs.OperationLaws.{asked-all}
use Rattle.protocol.specs.Judge.{key_value_in, permitted}
use Rattle.judge_permission.specs.Numbered.{numbered, asked_numbered}

-- what a messageType asks for has its bit
pub asked-numbered : (type : Option ℕ) → asked_numbered (asked_by type) ≡ true
unfolding all
asked-numbered none = refl
asked-numbered (some n) = asked-all asked_numbered refl refl n

module _ {p : Permission} (e : numbered p ≡ true) (n : ℕ) where
  pub key-numbered : p ≡ Key n → n < 16
  key-numbered q = ltb-true n 16 (sym (ap numbered q) ∙ e)

  pub any-numbered : p ≡ Any n → n < 16
  any-numbered q = ltb-true n 16 (sym (ap numbered q) ∙ e)

module _ (a : access.Acl) (w : Bool) {p : Permission} (b : Body) {key : List ℕ} (k : (key_value_in b).key ≡ key) where
  same : {q : Permission} → p ≡ q → permitted a w q b ≡ permitted a w p b
  same e = ap (λ (q : Permission). permitted a w q b) (sym e)

  pub by-none : p ≡ Free → true ≡ permitted a w p b
  by-none e = same e

  pub by_key : (n : ℕ) → p ≡ Key n → permits a w n key ≡ permitted a w p b
  by_key n e = ap (permits a w n) (sym k) ∙ same e

  pub by-any : (n : ℕ) → p ≡ Any n → permits_any a w n ≡ permitted a w p b
  by-any n e = same e
