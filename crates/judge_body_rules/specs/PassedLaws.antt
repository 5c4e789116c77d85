-- What step 8 leaves known of a request that passes it.
use Rattle.std.specs.Prelude.{◌≡◌, Bool, true, false, not, ◌&&◌, List, ℕ, ◌≤◌, leb, length}
use Rattle.std.proofs.Math.Option.{Option, none, some}
use Rattle.std.proofs.Common.{arith, leb-true}
use Rattle.access_record.proofs.TableLaws.{both-fst, both-snd}
use Rattle.protocol.specs.declared.Operation.TheVariants.{GetKeyRange, Put}
use Rattle.base_definitions.specs.Lists.{is_empty}
use Rattle.base_definitions.specs.Options.{or_else}
use Rattle.protocol.specs.Command.{KeyValue, Range, Body}
use Rattle.protocol.specs.Judge.{present, key_value_good, change_good, range_good, broken, fault, no_key_value, no_range, key_value_in, range_in}

never : {A : Type 0} → ◌≡◌ {A = ℕ} 0 1 → A
never z = absurd (omega arith)

unbroken : (x : Bool) → broken x ≡ 0 → x ≡ true
unbroken true e = cc
unbroken false e = absurd (omega arith)

-- PUT: the value part and every length fit a block
pub put-passed : (b : Body) (v : List ℕ) → fault Put b v ≡ 0 → (length v ≤ 384) × (key_value_good (key_value_in b) ≡ true)
put-passed b v e =
    let t = unbroken (leb (length v) 384 && present change_good b.key_value) e in (
      leb-true (length v) 384 (both-fst (leb (length v) 384) (present change_good b.key_value) t),
      go b.key_value (both-snd (leb (length v) 384) (present change_good b.key_value) t),
    )
  where
    go : (o : Option KeyValue) → present change_good o ≡ true → key_value_good (or_else no_key_value o) ≡ true
    go none e = never (cc)
    go (some k) e = both-fst (key_value_good k) (not k.metadata_only) e

-- GETKEYRANGE: at most 32 keys
pub range-passed : (b : Body) (v : List ℕ) → fault GetKeyRange b v ≡ 0 → (range_in b).max_returned ≤ 32
unfolding range_good
range-passed b v e =
    let t = unbroken (is_empty v && present range_good b.range) e in
    go b.range (both-snd (is_empty v) (present range_good b.range) t)
  where
    go : (o : Option Range) → present range_good o ≡ true → (or_else no_range o).max_returned ≤ 32
    go none e = never (cc)
    go (some r) e =
        let f = both-snd (present (λ k. leb (length k) 64) r.start_key) (present (λ k. leb (length k) 64) r.end_key && leb r.max_returned 32) e in
        leb-true r.max_returned 32 (both-snd (present (λ k. leb (length k) 64) r.end_key) (leb r.max_returned 32) f)
