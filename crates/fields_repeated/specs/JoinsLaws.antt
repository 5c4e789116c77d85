-- The messages of one number, one after another: what has been made of those passed, joined, and those to come.
use Rattle.std.specs.Prelude.{ℕ, ◌≤◌, ◌≡◌, refl, List, [], ◌∷◌, take, drop, Some, None}
use Rattle.std.proofs.Common.{arith, sym, ap, ◌∙◌, subst}
use Rattle.fields_wire.specs.Wire.{fields_of, fields_in}
use Rattle.fields_schema.specs.Rules.{rule_of}
use Rattle.fields_schema.specs.Tree.{Tree, done, join, sub_at, tree_in}
use Rattle.fields_schema.proofs.MergedLaws.{join-assoc, join-done, join-all, sub-all}
use Rattle.fields_schema.specs.Merged.{join_all}
use Rattle.fields_schema.specs.PutIn.{Has}
use Rattle.fields_schema.specs.declared.Kind.{Kind}
use Rattle.fields_schema.specs.declared.Form.TheVariants.{Nested}
use Rattle.fields_lookup.specs.Views.{Reads, tree_of, bytes_at, Inside, After}
use Rattle.fields_lookup.specs.declared.parts.Part.{Part}
use Rattle.fields_repeated.specs.Values.{values_in, parts_in, parts_of, NextPartIs}
use Rattle.fields_repeated.specs.Repeated.{trees_of, AllRead}
use Rattle.fields_repeated.specs.RepeatedLaws.{repeated-subs, repeated-reads, reads-framed}
use Rattle.fields_repeated.specs.Joins.{Joins}

-- all messages of the number in the message of kind k' in p, after those that t joins
pub joins-start : (P : Tree → Type 0) (k k' : Kind) (n : ℕ) (s : List ℕ) (p : Part) → Inside s p → Reads k' (bytes_at s p) → Has (Nested k) (rule_of k' n) → (t : Tree) → P t
    → Joins P k n s p (join t (tree_in (sub_at n (tree_of k' (bytes_at s p)))))
joins-start P k k' n s p i y q t h =
    let m = bytes_at s p in
    record {
      inside = i;
      framed = reads-framed k' m y;
      read = repeated-reads k' m y n k q;
      past = t;
      says = h;
      same = join-all t (trees_of k (parts_in n m)) ∙ ap (join t) (ap (join_all done) (sym (repeated-subs k' m y n k q)) ∙ sym (sub-all n (tree_of k' m)));
    }

nil-values : (n : ℕ) → values_in n [] ≡ []
unfolding values_in fields_of fields_in
nil-values n = refl

empty-part : (s : List ℕ) (left : Part) → left.len ≤ 0 → bytes_at s left ≡ []
unfolding bytes_at
empty-part s left h = let z : left.len ≡ 0 = omega arith in ap (λ (n : ℕ). take n (drop left.start s)) z

module _ {P : Tree → Type 0} {k : Kind} {n : ℕ} {s : List ℕ} {left : Part} {goal : Tree} (w : Joins P k n s left goal) where
  pub joins-end : NextPartIs s left n None → P goal
  joins-end h = subst P (sym (ap (λ bs. join_all w.past (trees_of k bs)) (h w.framed)) ∙ w.same) w.says

  pub joins-empty : left.len ≤ 0 → P goal
  joins-empty h = joins-end (λ g. ap (λ (b : List ℕ). parts_in n b) (empty-part s left h) ∙ ap parts_of (nil-values n))

  module _ (part rest : Part) (h : NextPartIs s left n (Some (part, rest))) where
    all_read : AllRead k (bytes_at s part ∷ parts_in n (bytes_at s rest))
    all_read = subst (λ (l : List (List ℕ)). AllRead k l) (h.1.first w.framed) w.read

    pub joins-reads : Inside s part × Reads k (bytes_at s part)
    joins-reads = (h.0.inside, all_read.0)

    pub joins-on : (Q : Tree → Type 0) → ((t : Tree) → P t → Q (join t (tree_of k (bytes_at s part)))) → Joins Q k n s rest goal
    joins-on Q f = record {
      inside = h.1.inside;
      framed = h.1.framed w.framed;
      read = all_read.1;
      past = join w.past (tree_of k (bytes_at s part));
      says = f w.past w.says;
      same = sym (ap (λ bs. join_all w.past (trees_of k bs)) (h.1.first w.framed)) ∙ w.same;
    }

-- nothing after; one more after
pub after_none : {A : Type 0} (P : Tree → A → Type 0) (a : A) → After P a a done
after_none P a t h = subst (λ (t : Tree). P t a) (sym (join-done t)) h

pub after_more : {A : Type 0} (P : Tree → A → Type 0) (a b c : A) (v u : Tree) → After P b c v → After P a b u → After P a c (join u v)
after_more P a b c v u g f t h = subst (λ (t : Tree). P t c) (join-assoc t u v) (g (join t u) (f t h))
