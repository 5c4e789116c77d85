-- What follows of GETLOG's definitions, in the words of document 02, CR 1.
use Rattle.std.specs.Prelude.{◌≡◌, refl, Bool, true, false, not, cond, ◌&&◌, ◌||◌, List, [], ◌∷◌, ℕ, eqb}
use Rattle.std.proofs.Common.{ap, ◌∙◌}
use Rattle.std.proofs.Math.Option.{some}
use Rattle.fields_schema.specs.Tree.{among}
use Rattle.protocol.specs.StatusCode.{INVALID_REQUEST, NOT_FOUND}
use Rattle.protocol.specs.declared.Operation.TheVariants.{GetLog}
use Rattle.protocol.specs.State.{State}
use Rattle.protocol.specs.Command.{Body}
use Rattle.base_definitions.specs.Lists.{is_empty}
use Rattle.protocol.specs.Judge.{Result, present, types_good, broken, fault, fails, succeeds, log, log_with, logged}

-- ---- "gives each asked type once", whatever the order and number of asking

abbrev given : State → Bool → Bool → Bool → Bool → Bool → Result
given s device utilized heated filled limited = cond device (fails s NOT_FOUND) (succeeds s (log (log_with s.store s.readings utilized heated filled limited)) [])

pub asked-alike : (s : State) (ts us : List ℕ) → ((t : ℕ) → among t ts ≡ among t us) → logged s ts ≡ logged s us
asked-alike s ts us e = λ i. given s (e 7 i) (e 0 i) (e 1 i) (e 2 i) (e 6 i)

pub asked_twice : (s : State) (t : ℕ) (ts : List ℕ) → logged s (t ∷ t ∷ ts) ≡ logged s (t ∷ ts)
asked_twice s t ts = asked-alike s (t ∷ t ∷ ts) (t ∷ ts) (λ u. go (eqb u t) (among u ts))
  where
    go : (b c : Bool) → cond b true (cond b true c) ≡ cond b true c
    go true c = refl
    go false c = refl

-- ---- "no type, or a 3, 4 or 5, is INVALID_REQUEST at step 8, else a 7 is NOT_FOUND at step 10"

refused : (v : List ℕ) (b : Body) {ts : List ℕ} → b.get_log ≡ some ts → types_good ts ≡ false → fault GetLog b v ≡ INVALID_REQUEST
refused v b {ts} e h = ap (λ o. broken (is_empty v && present types_good o)) e ∙ go (is_empty v) (types_good ts) h
  where
    go : (x y : Bool) → y ≡ false → broken (x && y) ≡ INVALID_REQUEST
    go true true h = ap (λ (y : Bool). broken y) h
    go true false h = refl
    go false y h = refl

pub no-type : (v : List ℕ) (b : Body) → b.get_log ≡ some [] → fault GetLog b v ≡ INVALID_REQUEST
unfolding types_good
no-type v b e = refused v b e refl

-- whatever other types are asked for, a 7 among them
pub not-shown : (v : List ℕ) (b : Body) (ts : List ℕ) → b.get_log ≡ some ts → (among 3 ts || (among 4 ts || among 5 ts)) ≡ true → fault GetLog b v ≡ INVALID_REQUEST
unfolding types_good
not-shown v b ts e h = refused v b e (go (is_empty ts) (among 3 ts || (among 4 ts || among 5 ts)) h)
  where
    go : (x y : Bool) → y ≡ true → (not x && not y) ≡ false
    go true y h = refl
    go false true h = refl
    go false false h = ap not h

pub device-missing : (s : State) (ts : List ℕ) → among 7 ts ≡ true → logged s ts ≡ fails s NOT_FOUND
device-missing s ts e = ap (λ (b : Bool). given s b (among 0 ts) (among 1 ts) (among 2 ts) (among 6 ts)) e
