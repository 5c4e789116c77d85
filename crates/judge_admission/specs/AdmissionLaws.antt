-- Steps 8 and 9 as a code, 0 where both are passed.
use Rattle.std.specs.Prelude.{◌≡◌, refl, Bool, true, false, not, cond, List, ℕ, eqb}
use Rattle.std.proofs.Common.{sym, ap, ◌∙◌, eqb-true, eq-eqb, ne_eqb}
use Rattle.std.proofs.lemmas.Bool.{not-true, not-false}
use Rattle.access_record.specs.Table.{Acl}
use Rattle.protocol.specs.StatusCode.{NOT_AUTHORIZED}
use Rattle.protocol.specs.declared.Choice.{Choice}
use Rattle.protocol.specs.State.{State}
use Rattle.protocol.specs.Command.{Body}
use Rattle.protocol.specs.Judge.{Result, fails, fault, permitted, step10}
use Rattle.judge_header.specs.Rest.{served}
use Rattle.judge_admission.specs.Admission.{both, admission}

-- steps 8 to 10 by that code
pub served-by : (s : State) (a : Acl) (x : Choice) (b : Body) (v : List ℕ)
    → served s a x b v ≡ cond (eqb (admission a s.connection.protected x b v) 0) (step10 s a x.operation b v) (fails s (admission a s.connection.protected x b v))
served-by s a x b v = go (step10 s a x.operation b v) (fault x.operation b v) (eqb (fault x.operation b v) 0) refl (permitted a s.connection.protected x.permission b)
  where
    go : (r : Result) (m : ℕ) (t : Bool) → eqb m 0 ≡ t → (y : Bool)
        → cond (eqb m 0) (cond y r (fails s NOT_AUTHORIZED)) (fails s m) ≡ cond (eqb (both m y) 0) r (fails s (both m y))
    go r m true e true = rw e refl
    go r m true e false = rw e refl
    go r m false e y = rw (e, e) refl

module _ (a : Acl) (p : Bool) (x : Choice) (b : Body) (v : List ℕ) where
  pub admitted : {code : ℕ} → code ≡ admission a p x b v → code ≡ 0 → fault x.operation b v ≡ 0
  admitted f z = go (fault x.operation b v) (eqb (fault x.operation b v) 0) refl (permitted a p x.permission b) (sym f ∙ z)
    where
      go : (m : ℕ) (t : Bool) → eqb m 0 ≡ t → (y : Bool) → both m y ≡ 0 → m ≡ 0
      go m true f y e = eqb-true m 0 f
      go m false f y e = sym (ap (λ (t : Bool). cond t (cond y 0 NOT_AUTHORIZED) m) f) ∙ e

  module _ {code : ℕ} (f : code ≡ fault x.operation b v) where
    pub faulty : (code ≡ 0 → ⊥) → code ≡ admission a p x b v
    faulty h = f ∙ sym (ap (λ (t : Bool). cond t (cond (permitted a p x.permission b) 0 NOT_AUTHORIZED) (fault x.operation b v)) (ne_eqb (fault x.operation b v) 0 (λ z. h (f ∙ z))))

    module _ (z : code ≡ 0) {r : Bool} (g : r ≡ permitted a p x.permission b) where
      chosen : (t : Bool) → r ≡ t → cond t 0 NOT_AUTHORIZED ≡ admission a p x b v
      chosen t q =
          ap (λ (t : Bool). cond t 0 NOT_AUTHORIZED) (sym q ∙ g)
          ∙ sym (ap (λ (t : Bool). cond t (cond (permitted a p x.permission b) 0 NOT_AUTHORIZED) (fault x.operation b v)) (eq-eqb (fault x.operation b v) 0 (sym f ∙ z)))

      pub forbidden : not r ≡ true → NOT_AUTHORIZED ≡ admission a p x b v
      forbidden q = chosen false (not-true r q)

      pub allowed : not r ≡ false → 0 ≡ admission a p x b v
      allowed q = chosen true (not-false r q)
