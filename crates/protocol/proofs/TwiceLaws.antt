-- Document 02, CR 5: "Security sent twice … stay[s] refused": twice in one body, and in each of two bodies, which are merged.
use Rattle.std.specs.Prelude.{ℕ, ◌+◌, ◌≤◌, ◌≡◌, refl, Bool, true, false, length}
use Rattle.std.proofs.Common.{arith, sym, ap, ◌∙◌, subst, length-append}
use mathlib.Core.List.{List, ◌++◌, flatten}
use Rattle.std.proofs.Math.Option.{Option, none, some}
use Rattle.std.proofs.lemmas.Bool.{lt-leb}
use Rattle.fields_wire.specs.Wire.{Field, fields_of}
use Rattle.fields_schema.specs.Tree.{map_o, then_o, guard, is_some, Tree, done, sub, listed, join, sub_at, tree_in, subs_at}
use Rattle.fields_schema.specs.PutIn.{Holds}
use Rattle.fields_schema.proofs.MergedLaws.{sub_in, subs-join}
use Rattle.fields_schema.specs.Concat.{once_each, occurrences, Sends}
use Rattle.fields_schema.proofs.OptionLaws.{nothing-some}
use Rattle.fields_schema.proofs.ConcatLaws.{listed-split}
use Rattle.fields_schema.proofs.OccurrenceLaws.{held-framed, one-message, occurrence-decodes, once-twice, once-there, part-concat, part-once}
use Rattle.fields_schema.specs.declared.Kind.TheVariants.{Command, Body, Security}
use Rattle.protocol.specs.Reading.{security_once, sent_once, decodes}

-- a command decodes where it is listed and the concatenation of its bodies is a body
pub decodes-bodies : (c : List ℕ) {fs : List Field} {t : Tree} → fields_of c ≡ some fs → listed Command c ≡ some t
    → decodes c ≡ guard (is_some (listed Body (flatten (occurrences 2 fs)))) t
unfolding security_once
decodes-bodies c {fs} {t} f e =
    ap (λ o. then_o o (λ t. sent_once t)) e
    ∙ ap (λ b. guard b t)
    (sym (ap is_some (part-concat Command 2 Body c refl f e) ∙ some-guard (once_each Body (tree_in (sub_at 2 t))) ∙ part-once Command 2 Body c refl f e 7 Security refl refl))
  where
    some-guard : (b : Bool) → is_some (guard b (tree_in (sub_at 2 t))) ≡ b
    some-guard true = refl
    some-guard false = refl

-- the Securities of a command, in all its bodies
unfoldable securities : Tree → ℕ
securities t = length (subs_at 7 (tree_in (sub_at 2 t)))

securities-join : (t u : Tree) → securities (join t u) ≡ securities t + securities u
unfolding securities
securities-join t u =
    ap (λ b. length (subs_at 7 b)) (sub_in 2 t u) ∙ ap length (subs-join 7 (tree_in (sub_at 2 t)) (tree_in (sub_at 2 u)))
    ∙ length-append (subs_at 7 (tree_in (sub_at 2 t))) (subs_at 7 (tree_in (sub_at 2 u)))

-- a field that holds a body with a Security, empty or not
securities-one : (b f : List ℕ) {t : Tree} → Holds 2 b f → Sends 7 b → listed Command f ≡ some t → 1 ≤ securities t
unfolding securities
securities-one b f {t} h g e = go (listed Body b) refl (sym (one-message Command 2 Body b f refl h) ∙ e)
  where
    go : (o : Option Tree) → listed Body b ≡ o → map_o (λ u. sub 2 u done) o ≡ some t → 1 ≤ length (subs_at 7 (tree_in (sub_at 2 t)))
    go none l q = nothing-some q
    go (some u) l q =
        let w : sub 2 u done ≡ t = cc in
        subst (λ (t : Tree). 1 ≤ length (subs_at 7 (tree_in (sub_at 2 t)))) w (once-there Body 7 Security b refl refl g l)

-- in each of two bodies: wherever they stand in a command, and whatever else is in them
pub security-in-two : (x f₁ y f₂ z b₁ b₂ : List ℕ) {fs gs : List Field} → fields_of x ≡ some fs → fields_of y ≡ some gs → Holds 2 b₁ f₁ → Holds 2 b₂ f₂
    → Sends 7 b₁ → Sends 7 b₂ → decodes (x ++ (f₁ ++ (y ++ (f₂ ++ z)))) ≡ none
unfolding security_once securities
security-in-two x f₁ y f₂ z b₁ b₂ ex ey h₁ h₂ g₁ g₂ = go (listed Command (x ++ (f₁ ++ (y ++ (f₂ ++ z))))) refl
  where
    two : {t : Tree} → listed Command (x ++ (f₁ ++ (y ++ (f₂ ++ z)))) ≡ some t → 2 ≤ securities t
    two {t} e =
        let i = listed-split Command x (f₁ ++ (y ++ (f₂ ++ z))) ex e in
        let j = listed-split Command f₁ (y ++ (f₂ ++ z)) (held-framed 2 b₁ f₁ h₁) i.3 in
        let k = listed-split Command y (f₂ ++ z) ey j.3 in
        let l = listed-split Command f₂ z (held-framed 2 b₂ f₂ h₂) k.3 in
        let s₁ = securities-one b₁ f₁ h₁ g₁ j.2 in
        let s₂ = securities-one b₂ f₂ h₂ g₂ l.2 in
        let p = ap securities (sym i.4) ∙ securities-join i.0 i.1 in
        let q = ap securities (sym j.4) ∙ securities-join j.0 j.1 in
        let r = ap securities (sym k.4) ∙ securities-join k.0 k.1 in
        let s = ap securities (sym l.4) ∙ securities-join l.0 l.1 in
        omega (arith, p, q, r, s, s₁, s₂)

    go : (o : Option Tree) → listed Command (x ++ (f₁ ++ (y ++ (f₂ ++ z)))) ≡ o → then_o o (λ t. sent_once t) ≡ none
    go none e = refl
    go (some t) e = ap (λ b. guard b t) (lt-leb (securities t) 1 (omega (arith, two e)))

-- twice in one body
pub security-in-one : (x f z b₁ b₂ : List ℕ) {fs : List Field} → fields_of x ≡ some fs → Holds 2 (b₁ ++ b₂) f → Sends 7 b₁ → Sends 7 b₂
    → decodes (x ++ (f ++ z)) ≡ none
security-in-one x f z b₁ b₂ e h g₁ g₂ =
    ap (λ o. then_o o (λ t. sent_once t)) (occurrence-decodes Command 2 Body (b₁ ++ b₂) x f z refl e h (once-twice Body 7 b₁ b₂ refl g₁ g₂))
