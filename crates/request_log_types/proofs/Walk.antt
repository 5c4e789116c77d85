-- The walk over the types of a GetLog.
use Prim.Native.Nat.{ℕ, ◌<◌}
use native.Mathlib.Omega.{arith}
use mathlib.Core.Path.{◌≡◌, refl, sym, ap, ◌∙◌, subst}
use mathlib.Core.List.{List, [], ◌∷◌, ◌++◌, append_assoc, append-nil}
use mathlib.Core.Bool.{Bool, true, false, cond}
use lib.Dec.{eqb}
use borrow.Author.Tests.{eqb-true}
use Rattle.fields_schema.specs.Rules.{names_of}
use Rattle.fields_schema.specs.Tree.{among, ints_at}
use Rattle.fields_schema.proofs.MergedLaws.{ints-join}
use Rattle.protocol.specs.Command.{types_of}
use Rattle.fields_schema.specs.declared.Kind.TheVariants as kind
use Rattle.fields_schema.specs.declared.Names.TheVariants.{LogType}
use Rattle.base_definitions.specs.Bits.{with_bit}
use Rattle.access_record.specs.Table.{mask_of}
use Rattle.access_record.proofs.MaskLaws.{mask-more}
use Rattle.fields_lookup.specs.Views.{Inside, Reads, bytes_at, tree_of, After}
use Rattle.fields_repeated.specs.Values.{numbers_in, WellFramed, NextNumIs}
use Rattle.fields_repeated.specs.Repeated.{AllAmong}
use Rattle.fields_repeated.specs.RepeatedLaws.{repeated-named, repeated-among, reads-framed}
use Rattle.fields_lookup.specs.declared.parts.Part.{Part}
use Rattle.std.specs.Prelude.{Some, None}
use Rattle.request_log_types.specs.Types.{LogTypes}

-- the types so far, and those to come
pub record Walk (s : List ℕ) (p left : Part) (before mask : ℕ) : Type 0 where
  pub inside : Inside s left
  pub framed : WellFramed (bytes_at s left)
  pub named : AllAmong (names_of LogType) (numbers_in 1 (bytes_at s left))
  pub past : List ℕ
  pub split : types_of (tree_of kind.GetLog (bytes_at s p)) ≡ past ++ numbers_in 1 (bytes_at s left)
  pub set : (xs : List ℕ) → before ≡ mask_of xs → mask ≡ mask_of (xs ++ past)

pub walk_start : (s : List ℕ) (p : Part) (before : ℕ) → Inside s p → Reads kind.GetLog (bytes_at s p) → Walk s p p before before
walk_start s p before i y =
    let m = bytes_at s p in
    record {
      inside = i;
      framed = reads-framed kind.GetLog m y;
      named = repeated-among kind.GetLog m y 1 LogType refl;
      past = [];
      split = repeated-named kind.GetLog m y 1 LogType refl;
      set = λ xs e. e ∙ ap mask_of (sym (append-nil xs));
    }

-- the named types are below 8
abbrev Below : List ℕ → Type 0
Below [] = Unit {0}
Below (m ∷ ms) = (m < 8) × Below ms

among_below : (v : ℕ) (ms : List ℕ) → Below ms → among v ms ≡ true → v < 8
among_below v [] h e = let z : ◌≡◌ {A = ℕ} 0 1 = cc in absurd (omega arith)
among_below v (m ∷ ms) h e = go (eqb v m) refl (among_below v ms h.1) e
  where
    go : (b : Bool) → eqb v m ≡ b → (among v ms ≡ true → v < 8) → cond b true (among v ms) ≡ true → v < 8
    go true q ih f = omega (arith, h.0, eqb-true v m q)
    go false q ih f = ih f

below : (v : ℕ) → among v (names_of LogType) ≡ true → v < 8
below v e =
    among_below v (names_of LogType) (omega arith, (omega arith, (omega arith, (omega arith, (omega arith, (omega arith, (omega arith, (omega arith, tt)))))))) e

module _ {s : List ℕ} {p left : Part} {before mask : ℕ} (w : Walk s p left before mask) where
  ends : numbers_in 1 (bytes_at s left) ≡ [] → After LogTypes before mask (tree_of kind.GetLog (bytes_at s p))
  ends e t h =
      let u = tree_of kind.GetLog (bytes_at s p) in
      let q : w.past ≡ ints_at 1 u = sym (w.split ∙ ap (λ (l : List ℕ). w.past ++ l) e ∙ append-nil w.past) in
      record { set = w.set (ints_at 1 t) h.set ∙ ap mask_of (ap (λ (l : List ℕ). ints_at 1 t ++ l) q ∙ sym (ints-join 1 t u)) }

  pub walk_end : NextNumIs s left 1 None → After LogTypes before mask (tree_of kind.GetLog (bytes_at s p))
  walk_end h = ends (h w.framed)

  module _ (v : ℕ) (later : Part) (h : NextNumIs s left 1 (Some (v, later))) where
    all_named : AllAmong (names_of LogType) (v ∷ numbers_in 1 (bytes_at s later))
    all_named = subst (λ (l : List ℕ). AllAmong (names_of LogType) l) (h.first w.framed) w.named

    pub walk-small : v < 8
    walk-small = below v all_named.0

    pub walk-on : (m : ℕ) → m ≡ with_bit mask v → Walk s p later before m
    walk-on m q =
        let rest = numbers_in 1 (bytes_at s later) in
        record {
          inside = h.inside;
          framed = h.framed w.framed;
          named = all_named.1;
          past = w.past ++ (v ∷ []);
          split = w.split ∙ ap (λ (l : List ℕ). w.past ++ l) (h.first w.framed) ∙ sym (append_assoc w.past (v ∷ []) rest);
          set = λ xs e. q ∙ ap (λ (k : ℕ). with_bit k v) (w.set xs e) ∙ mask-more (xs ++ w.past) v ∙ ap mask_of (append_assoc xs w.past (v ∷ []));
        }
