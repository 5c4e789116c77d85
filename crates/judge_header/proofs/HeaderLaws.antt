-- The code's tests are those of `Judge`.
use Rattle.std.specs.Prelude.{◌≡◌, refl, Bool, true, false, cond, List, ℕ, eqb}
use Rattle.std.proofs.Common.{sym, ap, ap₂, ◌∙◌, eq-eqb, ne_eqb}
use Rattle.std.proofs.Math.Option.{Option, none, some}
use Rattle.access_record.specs.Record.{table_of}
use Rattle.protocol.specs.StatusCode.{VERSION_FAILURE, INVALID_REQUEST}
use Rattle.protocol.specs.State.{Connection, State}
use Rattle.protocol.specs.Command.{Header}
use Rattle.judge_header.specs.HeaderFault.{in_order, header_there, header_fault, Heard}
use Rattle.judge_header.specs.FaultBy.{fault_by}

-- ---- steps 4 to 6

pub by-heard : (s : State) (h : Option Header) {d : List ℕ} {v : ℕ} {c q : Option ℕ} {k : Connection} → Heard s h d v c q k → fault_by d v c q k ≡ header_fault s h
by-heard s none {d} {v} {c} {q} {k} e = sym (ap (λ (c : Option ℕ). fault_by d v c q k) e.id)
by-heard s (some x) {d} {v} {c} {q} {k} e = sym (ap₂ (header_there s x) e.id e.sequence ∙ there c q)
  where
    there : (c q : Option ℕ) → header_there s x c q ≡ fault_by d v c q k
    there (some c) (some q) =
        λ i. cond (eqb (e.version x refl i) (table_of (e.device i)).cluster_version) (cond (in_order (e.connection i) c q) 0 INVALID_REQUEST) VERSION_FAILURE
    there (some c) none = refl
    there none q = refl

module _ (d : List ℕ) (v c q : ℕ) (k : Connection) where
  pub other-version : {w : ℕ} → w ≡ (table_of d).cluster_version → (v ≡ w → ⊥) → VERSION_FAILURE ≡ fault_by d v (some c) (some q) k
  other-version g h =
      sym (ap (λ (t : Bool). cond t (cond (in_order k c q) 0 INVALID_REQUEST) VERSION_FAILURE) (ne_eqb v (table_of d).cluster_version (λ z. h (z ∙ sym g))))

  same_version : {w : ℕ} → w ≡ (table_of d).cluster_version → v ≡ w → fault_by d v (some c) (some q) k ≡ cond (in_order k c q) 0 INVALID_REQUEST
  same_version g h =
      ap (λ (t : Bool). cond t (cond (in_order k c q) 0 INVALID_REQUEST) VERSION_FAILURE) (eq-eqb v (table_of d).cluster_version (h ∙ g))

  pub out_of_order : {w : ℕ} → w ≡ (table_of d).cluster_version → v ≡ w → false ≡ in_order k c q → INVALID_REQUEST ≡ fault_by d v (some c) (some q) k
  out_of_order g h o = sym (same_version g h ∙ sym (ap (λ (t : Bool). cond t 0 INVALID_REQUEST) o))

  pub all_right : {w : ℕ} → w ≡ (table_of d).cluster_version → v ≡ w → true ≡ in_order k c q → 0 ≡ fault_by d v (some c) (some q) k
  all_right g h o = sym (same_version g h ∙ sym (ap (λ (t : Bool). cond t 0 INVALID_REQUEST) o))
