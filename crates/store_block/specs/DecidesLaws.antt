-- A Bool that decides a claim.
use Rattle.std.specs.Prelude.{◌≡◌, refl, Bool, true, false, ◌&&◌, List, ℕ, ◌≤◌, leb, eqb, take, drop}
use Rattle.std.proofs.Common.{sym, ap, ◌∙◌, subst, arith, leb-true, leb-false, eqb-true}
use Rattle.std.proofs.lemmas.Bool.{eqb-false}
use Rattle.std.specs.declared.cmp.Ordering.{Ordering}
use Rattle.std.specs.declared.cmp.Ordering.TheVariants.{Less, Equal, Greater}
use Rattle.store_block.specs.Order.{cmp, Below}
use Rattle.store_block.specs.OrderLaws.{cmp-equal, cmp-refl}
use Rattle.store_block.specs.Entry.{Entry, Fit}
use Rattle.base_definitions.specs.BigEndian.{be32}
use Rattle.std.specs.Ordering.{is_eq, is_lt}
use Rattle.store_block.specs.Block.{sum_from, block, SumRight, decode, BlockGood, fit_test, block_test, sum_test}
use Rattle.store_block.specs.Decides.{Decides, DecidesGiven}

pub says-yes : {P : Type 0} → P → Decides true P
says-yes p = record { yes = λ e. p; no = λ e q. let z : ◌≡◌ {A = ℕ} 0 1 = cc in omega arith }

pub says-no : {P : Type 0} → (P → ⊥) → Decides false P
says-no p = record { yes = λ e. absurd (let z : ◌≡◌ {A = ℕ} 0 1 = cc in omega arith); no = λ e q. p q }

pub decides-by : {r : Bool} {P Q : Type 0} → (P → Q) → (Q → P) → Decides r P → Decides r Q
decides-by f g d = record { yes = λ e. f (d.yes e); no = λ e q. d.no e (g q) }

pub given_yes : {S P : Type 0} → (S → P) → DecidesGiven S true P
given_yes f = record { yes = λ e s. f s; no = λ e q. let z : ◌≡◌ {A = ℕ} 0 1 = cc in omega arith }

pub given-no : {S P : Type 0} → (P → ⊥) → DecidesGiven S false P
given-no p = record { yes = λ e s. (says-no p).yes e; no = λ e q. p q }

-- two that decide the same claim are equal
pub agree : (r b : Bool) {P : Type 0} → Decides r P → Decides b P → r ≡ b
agree true true p q = refl
agree true false p q = absurd (q.no refl (p.yes refl))
agree false true p q = absurd (p.no refl (q.yes refl))
agree false false p q = refl

pub both-decides : {P Q : Type 0} (a b : Bool) → Decides a P → Decides b Q → Decides (a && b) (P × Q)
both-decides true b p q = record { yes = λ e. (p.yes refl, q.yes e); no = λ e w. q.no e w.1 }
both-decides false b p q = says-no (λ w. p.no refl w.0)

pub leb-decides : (m n : ℕ) → Decides (leb m n) (m ≤ n)
leb-decides m n = record { yes = λ e. leb-true m n e; no = λ e h. let k = leb-false m n e in omega arith }

pub eqb-decides : (m n : ℕ) → Decides (eqb m n) (m ≡ n)
eqb-decides m n = record { yes = λ e. eqb-true m n e; no = λ e h. eqb-false m n e h }

pub equal-decides : (xs ys : List ℕ) → Decides (is_eq (cmp xs ys)) (xs ≡ ys)
equal-decides xs ys = go (cmp xs ys) refl
  where
    go : (o : Ordering) → cmp xs ys ≡ o → Decides (is_eq (cmp xs ys)) (xs ≡ ys)
    go Less e = subst (λ (o : Ordering). Decides (is_eq o) (xs ≡ ys)) (sym e) (says-no (λ q. let c = sym (ap (cmp xs) q) ∙ cmp-refl xs in let z : ◌≡◌ {A = ℕ} 0 1 = cc in omega arith))
    go Equal e = subst (λ (o : Ordering). Decides (is_eq o) (xs ≡ ys)) (sym e) (says-yes (cmp-equal xs ys e))
    go Greater e = subst (λ (o : Ordering). Decides (is_eq o) (xs ≡ ys)) (sym e) (says-no (λ q. let c = sym (ap (cmp xs) q) ∙ cmp-refl xs in let z : ◌≡◌ {A = ℕ} 0 1 = cc in omega arith))

pub less-decides : (xs ys : List ℕ) → Decides (is_lt (cmp xs ys)) (Below xs ys)
less-decides xs ys = go (cmp xs ys)
  where
    go : (o : Ordering) → Decides (is_lt o) (o ≡ Less)
    go Less = says-yes refl
    go Equal = says-no (λ e. let z : ◌≡◌ {A = ℕ} 0 1 = cc in omega arith)
    go Greater = says-no (λ e. let z : ◌≡◌ {A = ℕ} 0 1 = cc in omega arith)

-- the computed tests decide the rules
pub fit-decides : (e : Entry) → Decides (fit_test e) (Fit e)
unfolding fit_test
fit-decides e =
    decides-by
    (λ w. record { key_some = w.0; key_fits = w.1.0; version_fits = w.1.1.0; tag_fits = w.1.1.1.0; value_fits = w.1.1.1.1.0; algorithm_fits = w.1.1.1.1.1 })
    (λ f. (f.key_some, (f.key_fits, (f.version_fits, (f.tag_fits, (f.value_fits, f.algorithm_fits))))))
    (both-decides _ _ (leb-decides _ _) (both-decides _ _ (leb-decides _ _) (both-decides _ _ (leb-decides _ _) (both-decides _ _ (leb-decides _ _) (both-decides _ _ (leb-decides _ _) (leb-decides _ _))))))

pub block-decides : (b : List ℕ) → Decides (block_test b) (BlockGood b)
unfolding block_test
block-decides b =
    decides-by (λ w. record { fit = w.0; same = w.1 }) (λ g. (g.fit, g.same))
    (both-decides _ _ (fit-decides (decode b)) (equal-decides (block (decode b)) b))

pub sum-decides : (b : List ℕ) → Decides (sum_test b) (SumRight b)
unfolding sum_test
sum-decides b = equal-decides (drop 508 b) (be32 (sum_from 0 (take 508 b)))
