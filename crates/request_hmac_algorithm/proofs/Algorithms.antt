-- The walk over the algorithms of the ACLs.
use Prim.Native.Nat.{ℕ}
use mathlib.Core.Path.{◌≡◌, refl, sym, ap, ◌∙◌}
use mathlib.Core.List.{List, [], ◌∷◌}
use mathlib.Core.Bool.{Bool, true, false, ◌&&◌}
use lib.Dec.{eqb}
use Rattle.fields_schema.specs.declared.Kind.TheVariants as kind
use Rattle.base_definitions.specs.Lists.{all}
use Rattle.fields_repeated.specs.Values.{NextPartIs}
use Rattle.fields_lookup.specs.declared.parts.Part.{Part}
use Rattle.std.specs.Prelude.{Some, None}
use Rattle.protocol.specs.Command.{Acl, acl_of}
use Rattle.protocol.specs.Judge.{algorithms_good}
use Rattle.request_scope.specs.Stands.{StandsSecurity, acl_in, acls_in}
use Rattle.request_scope.specs.Rests.{Rest}
use Rattle.request_scope.specs.RestsLaws.{rest-start, whole_is, rest_end, rest_more, rest-next}
use Rattle.request_scope.specs.Rests.{coming}

pub record Judging (s : List ℕ) (p left : Part) : Type 0 where
  pub rest : Rest kind.Acl 2 s left
  pub same : algorithms_good (coming kind.Acl 2 acl_of s left) ≡ algorithms_good (acls_in s p)

pub judging-start : (s : List ℕ) (p : Part) → StandsSecurity s p → Judging s p p
judging-start s p y = record { rest = rest-start kind.Acl 2 acl_of s kind.Security p y refl; same = ap algorithms_good (sym (whole_is kind.Acl 2 acl_of s kind.Security p y refl)) }

no-acls : algorithms_good [] ≡ true
unfolding algorithms_good all
no-acls = refl

first-acl : (a : Acl) (acls : List Acl) → algorithms_good (a ∷ acls) ≡ (eqb a.hmac_algorithm 1 && algorithms_good acls)
unfolding algorithms_good all
first-acl a acls = refl

module _ {s : List ℕ} {p left : Part} (w : Judging s p left) where
  pub judging-end : NextPartIs s left 2 None → true ≡ algorithms_good (acls_in s p)
  judging-end h = sym no-acls ∙ ap algorithms_good (sym (rest_end kind.Acl 2 acl_of s left w.rest h)) ∙ w.same

  module _ (part later : Part) (h : NextPartIs s left 2 (Some (part, later))) where
    next : algorithms_good (coming kind.Acl 2 acl_of s left) ≡ (eqb (acl_in s part).hmac_algorithm 1 && algorithms_good (coming kind.Acl 2 acl_of s later))
    next = ap algorithms_good (rest_more kind.Acl 2 acl_of s left w.rest part later h) ∙ first-acl (acl_in s part) (coming kind.Acl 2 acl_of s later)

    pub judging-other : eqb (acl_in s part).hmac_algorithm 1 ≡ false → false ≡ algorithms_good (acls_in s p)
    judging-other n = sym (next ∙ ap (λ (b : Bool). (b && algorithms_good (coming kind.Acl 2 acl_of s later))) n) ∙ w.same

    pub judging-on : eqb (acl_in s part).hmac_algorithm 1 ≡ true → Judging s p later
    judging-on n = record { rest = rest-next kind.Acl 2 acl_of s left w.rest part later h; same = sym (next ∙ ap (λ (b : Bool). (b && algorithms_good (coming kind.Acl 2 acl_of s later))) n) ∙ w.same }
