-- The walk over the messages of a repeated field, each judged and written at the next place.
use Prim.Native.Nat.{ℕ, zero, suc, ◌+◌, ◌≤◌, ◌<◌}
use native.Mathlib.Omega.{arith}
use mathlib.Core.Path.{◌≡◌, refl, sym, ap, ap₂, ◌∙◌}
use mathlib.Core.List.{List, [], ◌∷◌}
use mathlib.Core.Bool.{Bool, true, false, not, ◌&&◌}
use lib.ListN.{length}
use lib.Dec.{leb, ltb}
use borrow.Author.Tests.{le-leb, lt-leb, lt-ltb}
use Rattle.fields_schema.specs.Rules.{rule_of}
use Rattle.fields_schema.specs.Tree.{Tree, subs_at}
use Rattle.fields_schema.specs.declared.Kind.{Kind}
use Rattle.fields_schema.specs.declared.Form.TheVariants.{Nested}
use Rattle.fields_schema.specs.PutIn.{Has}
use Rattle.base_definitions.specs.Lists.{all, within, map_l}
use Rattle.fields_lookup.specs.Views.{bytes_at, tree_of}
use Rattle.fields_repeated.specs.Values.{NextPartIs}
use Rattle.fields_lookup.specs.declared.parts.Part.{Part}
use Rattle.std.specs.Prelude.{Some, None}
use Rattle.std.specs.Prelude as std
use Rattle.std.specs.Option.{is_some}
use Rattle.request_scope.specs.Stands.{Stands}
use Rattle.request_scope.specs.ScopeLaws.{both_false, never}
use Rattle.request_scope.specs.Rests.{Rest}
use Rattle.request_scope.specs.RestsLaws.{rest-start, whole_is, rest_end, rest-next, rest_more}
use Rattle.request_scope.specs.Rests.{coming}
use Rattle.request_acl.specs.Taken.{few_taken, Makes}
use Rattle.request_acl.proofs.Scopes.{makes-no}

module _ {A : Type 0} (k : Kind) (num : ℕ) (f : Tree → A) (taken : A → Bool) (most : ℕ) (put : List ℕ → ℕ → List A → List ℕ) (one : List ℕ → ℕ → A → List ℕ) (s : List ℕ) (whole : List A) (first : List ℕ) where
  pub record Adding (left : Part) (out : List ℕ) (n : ℕ) : Type 0 where
    pub rest : Rest k num s left
    pub judged : all taken (coming k num f s left) ≡ all taken whole
    pub count : n + length (coming k num f s left) ≡ length whole
    pub bytes : put out n (coming k num f s left) ≡ put first 0 whole
    pub few : n ≤ most

  pub adding-start : (kp : Kind) (p : Part) → Stands kp s p → Has (Nested k) (rule_of kp num) → whole ≡ map_l f (subs_at num (tree_of kp (bytes_at s p))) → Adding p first 0
  adding-start kp p y q e =
      let g : coming k num f s p ≡ whole = sym (e ∙ whole_is k num f s kp p y q) in
      let c : length (coming k num f s p) ≡ length whole = ap length g in
      record {
        rest = rest-start k num f s kp p y q;
        judged = ap (all taken) g;
        count = omega arith;
        bytes = ap (put first 0) g;
        few = omega arith;
      }

  module _ (put-nil : (l : List ℕ) (n : ℕ) → put l n [] ≡ l) (put-cons : (l : List ℕ) (n : ℕ) (a : A) (as' : List A) → put l n (a ∷ as') ≡ put (one l n a) (n + 1) as')
      (left : Part) (out : List ℕ) (n : ℕ) (w : Adding left out n) where
    module _ (h : NextPartIs s left num None) where
      nothing : coming k num f s left ≡ []
      nothing = rest_end k num f s left w.rest h

      all-taken : all taken whole ≡ true
      unfolding all
      all-taken = sym w.judged ∙ ap (all taken) nothing

      all-counted : length whole ≡ n
      all-counted = let c = w.count in let z : length (coming k num f s left) ≡ 0 = ap length nothing in omega arith

      written : out ≡ put first 0 whole
      written = sym (put-nil out n) ∙ ap (put out n) (sym nothing) ∙ w.bytes

      few-taken : few_taken most taken whole ≡ (within 1 most n && true)
      few-taken = ap₂ (λ (k : ℕ) (b : Bool). (within 1 most k && b)) all-counted all-taken

      pub adding-none : Makes (few_taken most taken whole) (ltb 0 n) out (put first 0 whole)
      adding-none = record { answer = sym (few-taken ∙ counted n w.few); made = λ t. written }
        where
          counted : (n : ℕ) → n ≤ most → (within 1 most n && true) ≡ ltb 0 n
          counted zero l = refl
          counted (suc j) l = ap₂ (λ (a b : Bool). ((a && b) && true)) (le-leb 1 (suc j) (omega arith)) (le-leb (suc j) most l) ∙ sym (lt-ltb 0 (suc j) (omega arith))

      full-none : 1 ≤ most → most ≤ n → Makes (few_taken most taken whole) true out (put first 0 whole)
      full-none o m =
          let l = w.few in
          record { answer = sym (few-taken ∙ ap₂ (λ (a b : Bool). ((a && b) && true)) (le-leb 1 n (omega arith)) (le-leb n most l)); made = λ t. written }

    module _ (part later : Part) (h : NextPartIs s left num (Some (part, later))) where
      pub adding-refused : taken (f (tree_of k (bytes_at s part))) ≡ false → (o b : List ℕ) → Makes (few_taken most taken whole) false o b
      unfolding all
      adding-refused t o b =
          let more = rest_more k num f s left w.rest part later h in
          let no : all taken whole ≡ false = sym w.judged ∙ ap (all taken) more ∙ ap (λ (b : Bool). (b && all taken (coming k num f s later))) t in
          makes-no (few_taken most taken whole) o b (ap (◌&&◌ (within 1 most (length whole))) no ∙ both_false (within 1 most (length whole)))

      pub adding-on : taken (f (tree_of k (bytes_at s part))) ≡ true → (o : List ℕ) → o ≡ one out n (f (tree_of k (bytes_at s part))) → n < most → Adding later o (n + 1)
      unfolding all
      adding-on t o q l =
          let a = f (tree_of k (bytes_at s part)) in
          let more = rest_more k num f s left w.rest part later h in
          let c = w.count in
          let d : length (coming k num f s left) ≡ suc (length (coming k num f s later)) = ap length more in
          record {
            rest = rest-next k num f s left w.rest part later h;
            judged = sym (ap (all taken) more ∙ ap (λ (b : Bool). (b && all taken (coming k num f s later))) t) ∙ w.judged;
            count = omega arith;
            bytes = ap (λ (o : List ℕ). put o (n + 1) (coming k num f s later)) q ∙ sym (put-cons out n a (coming k num f s later)) ∙ ap (put out n) (sym more) ∙ w.bytes;
            few = omega arith;
          }

      full-more : most ≤ n → (o b : List ℕ) → Makes (few_taken most taken whole) false o b
      full-more m o b =
          let more = rest_more k num f s left w.rest part later h in
          let c = w.count in
          let d : length (coming k num f s left) ≡ suc (length (coming k num f s later)) = ap length more in
          let big : leb (length whole) most ≡ false = lt-leb (length whole) most (omega arith) in
          makes-no (few_taken most taken whole) o b (ap (λ (t : Bool). ((leb 1 (length whole) && t) && all taken whole)) big ∙ ap (λ (t : Bool). (t && all taken whole)) (both_false (leb 1 (length whole))))

    pub adding-end : 1 ≤ most → most ≤ n → (o : std.Option (Part × Part)) → NextPartIs s left num o → (r : Bool) → is_some o ≡ not r → Makes (few_taken most taken whole) r out (put first 0 whole)
    adding-end a m None h true e = full-none h a m
    adding-end a m None h false e = never e
    adding-end a m (Some (part, later)) h true e = never (sym e)
    adding-end a m (Some (part, later)) h false e = full-more part later h m out (put first 0 whole)
