-- The walk over the messages of a repeated field: what is still to come.
use Rattle.std.specs.Prelude.{ℕ, ◌≡◌, Some, None}
use Rattle.std.proofs.Math.Path.{ap}
use Rattle.std.proofs.Common.{subst}
use mathlib.Core.List.{List, [], ◌∷◌}
use Rattle.fields_schema.specs.Rules.{rule_of}
use Rattle.fields_schema.specs.Tree.{Tree, subs_at}
use Rattle.fields_schema.specs.declared.Kind.{Kind}
use Rattle.fields_schema.specs.declared.Form.TheVariants.{Nested}
use Rattle.fields_schema.specs.PutIn.{Has}
use Rattle.fields_lookup.specs.Views.{bytes_at, tree_of}
use Rattle.fields_repeated.specs.Values.{parts_in, NextPartIs}
use Rattle.fields_repeated.specs.Repeated.{trees_of, AllRead}
use Rattle.fields_repeated.specs.RepeatedLaws.{repeated-subs, repeated-reads, reads-framed}
use Rattle.fields_lookup.specs.declared.parts.Part.{Part}
use Rattle.base_definitions.specs.Lists.{map_l}
use Rattle.request_scope.specs.Stands.{Stands}
use Rattle.request_scope.specs.Rests.{Rest, coming}

module _ {A : Type 0} (k : Kind) (num : ℕ) (f : Tree → A) (s : List ℕ) where
  pub rest-start : (kp : Kind) (p : Part) → Stands kp s p → Has (Nested k) (rule_of kp num) → Rest k num s p
  rest-start kp p y q = record { inside = y.inside; framed = reads-framed kp (bytes_at s p) y.reads; reads = repeated-reads kp (bytes_at s p) y.reads num k q }

  pub whole_is : (kp : Kind) (p : Part) → Stands kp s p → Has (Nested k) (rule_of kp num) → map_l f (subs_at num (tree_of kp (bytes_at s p))) ≡ coming k num f s p
  whole_is kp p y q = ap (map_l f) (repeated-subs kp (bytes_at s p) y.reads num k q)

  module _ (left : Part) (w : Rest k num s left) where
    pub rest_end : NextPartIs s left num None → coming k num f s left ≡ []
    unfolding map_l
    rest_end h = ap (λ (l : List (List ℕ)). map_l f (trees_of k l)) (h w.framed)

    module _ (part rest : Part) (h : NextPartIs s left num (Some (part, rest))) where
      both_read : AllRead k (bytes_at s part ∷ parts_in num (bytes_at s rest))
      both_read = subst (λ (l : List (List ℕ)). AllRead k l) (h.1.first w.framed) w.reads

      pub rest-stands : Stands k s part
      rest-stands = record { inside = h.0.inside; reads = both_read.0 }

      pub rest-next : Rest k num s rest
      rest-next = record { inside = h.1.inside; framed = h.1.framed w.framed; reads = both_read.1 }

      pub rest_more : coming k num f s left ≡ f (tree_of k (bytes_at s part)) ∷ coming k num f s rest
      unfolding map_l
      rest_more = ap (λ (l : List (List ℕ)). map_l f (trees_of k l)) (h.1.first w.framed)
