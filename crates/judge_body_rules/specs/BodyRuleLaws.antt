-- The code's tests are those of `Judge`.
use Rattle.std.specs.Prelude.{◌≡◌, refl, Bool, true, false, cond, ◌&&◌, List, [], ◌∷◌, ℕ, ◌≤◌, ◌<◌, leb, length}
use Rattle.std.proofs.Common.{sym, ap, ap₂, ◌∙◌, arith, le-leb}
use Rattle.std.proofs.Math.Option.{Option, none, some}
use Rattle.std.proofs.lemmas.Bool.{lt-leb}
use Rattle.fields_schema.specs.Tree.{guard, map_o, is_some}
use Rattle.base_definitions.specs.Lists.{within, is_empty}
use Rattle.protocol.specs.StatusCode.{NO_SUCH_HMAC_ALGORITHM, INVALID_REQUEST}
use Rattle.protocol.specs.declared.Operation.{Operation}
use Rattle.protocol.specs.declared.Operation.TheVariants.{Noop, Get, GetVersion, GetNext, GetPrevious, GetKeyRange, Put, Delete, FlushAllData, Setup, GetLog, Security}
use Rattle.protocol.specs.Command.{KeyValue, Range, Body}
use Rattle.protocol.specs.Judge.{broken, fault, present, key_value_good, change_good, range_good, types_good, security_good, algorithms_good}
use Rattle.judge_body_rules.specs.BodyParts.{most_value, part_fault, Lengths, RangeLengths, Checked}
use Rattle.judge_body_rules.specs.LengthsGood.{lengths_good, range_lengths_good}

pub by_lengths : {k : KeyValue} {a b c d : ℕ} → Lengths k a b c d → (r : Bool) → r ≡ lengths_good a b c d → r ≡ key_value_good k
unfolding key_value_good
by_lengths l r e =
    e ∙ ap₂ (λ (x y : Bool). (x && y)) (sym (ap (within 1 64) l.key))
    (ap₂ ◌&&◌ (sym (ap (λ (n : ℕ). leb n 16) l.new_version))
    (ap₂ ◌&&◌ (sym (ap (λ (n : ℕ). leb n 16) l.db_version)) (sym (ap (λ (n : ℕ). leb n 32) l.tag))))

-- the length of a part that may be absent
pub length-guard : (has : Bool) (b : List ℕ) → map_o length (guard has b) ≡ guard has (length b)
length-guard true b = refl
length-guard false b = refl

present-length : (k : Option (List ℕ)) → present (λ n. leb n 64) (map_o length k) ≡ present (λ b. leb (length b) 64) k
present-length none = refl
present-length (some b) = refl

pub by-range-lengths : {g : Range} {a b : Option ℕ} {most : ℕ} → RangeLengths g a b most → (r : Bool) → r ≡ range_lengths_good a b most → r ≡ range_good g
unfolding range_good
by-range-lengths {g} l r e =
    e ∙ ap₂ ◌&&◌ (sym (ap (λ (a : Option ℕ). present (λ n. leb n 64) a) l.start) ∙ present-length g.start_key)
    (ap₂ ◌&&◌ (sym (ap (λ (a : Option ℕ). present (λ n. leb n 64) a) l.end) ∙ present-length g.end_key) (sym (ap (λ (n : ℕ). leb n 32) l.most)))

pub over-long : (n m p : ℕ) → m < n → INVALID_REQUEST ≡ cond (leb n m) p INVALID_REQUEST
over-long n m p h = sym (ap (λ (t : Bool). cond t p INVALID_REQUEST) (lt-leb n m h))

pub not-long : (n m p : ℕ) → n ≤ m → p ≡ cond (leb n m) p INVALID_REQUEST
not-long n m p h = sym (ap (λ (t : Bool). cond t p INVALID_REQUEST) (le-leb n m h))

-- the fault of a body, by the operation
empty : (v : List ℕ) {n : ℕ} → length v ≡ n → is_empty v ≡ leb n 0
empty [] e = ap (λ (n : ℕ). leb n 0) e
empty (x ∷ xs) {n} e = sym (lt-leb n 0 (omega arith))

either-broken : (x y : Bool) → broken (x && y) ≡ cond x (broken y) INVALID_REQUEST
either-broken true y = refl
either-broken false y = refl

either-fault : (x y : Bool) (n : ℕ) → cond (x && y) n INVALID_REQUEST ≡ cond x (cond y n INVALID_REQUEST) INVALID_REQUEST
either-fault true y n = refl
either-fault false y n = refl

-- a part beside an empty value part
beside : (v : List ℕ) (y : Bool) {n m : ℕ} → length v ≡ n → broken y ≡ m → broken (is_empty v && y) ≡ cond (leb n 0) m INVALID_REQUEST
beside v y l e = either-broken (is_empty v) y ∙ ap₂ (λ (t : Bool) (m : ℕ). cond t m INVALID_REQUEST) (empty v l) e

pub by-checked : (o : Operation) (b : Body) (v : List ℕ) {n p c r s l x : ℕ} → Checked o b v n p c r s l x → cond (leb n (most_value o)) (part_fault o p c r s l x) 16 ≡ fault o b v
by-checked Noop b v k = sym (ap broken (empty v k.value))
by-checked FlushAllData b v k = sym (ap broken (empty v k.value))
by-checked Get b v k = sym (beside v (present key_value_good b.key_value) k.value k.pair)
by-checked GetVersion b v k = sym (beside v (present key_value_good b.key_value) k.value k.pair)
by-checked GetNext b v k = sym (beside v (present key_value_good b.key_value) k.value k.pair)
by-checked GetPrevious b v k = sym (beside v (present key_value_good b.key_value) k.value k.pair)
by-checked Put b v k =
    sym (either-broken (leb (length v) 384) (present change_good b.key_value) ∙ ap₂ (λ (m d : ℕ). cond (leb m 384) d INVALID_REQUEST) k.value k.change)
by-checked Delete b v k = sym (beside v (present change_good b.key_value) k.value k.change)
by-checked GetKeyRange b v k = sym (beside v (present range_good b.range) k.value k.range)
by-checked Setup b v k = sym (beside v (is_some b.setup) k.value k.setup)
by-checked GetLog b v k = sym (beside v (present types_good b.get_log) k.value (k.log refl))
by-checked Security b v k =
    sym
    (either-fault (is_empty v) (present security_good b.security) (cond (present algorithms_good b.security) 0 NO_SUCH_HMAC_ALGORITHM)
    ∙ ap₂ (λ (t : Bool) (m : ℕ). cond t m INVALID_REQUEST) (empty v k.value) (k.security refl))
