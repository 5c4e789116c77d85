-- What follows of the definitions of `Format`: each refusal by its test, and that a formatted box is good.
use Rattle.std.specs.Prelude.{◌≡◌, refl, Bool, true, false, cond, ◌&&◌, List, [], ℕ, ◌≤◌, ◌<◌, leb, length, replicate}
use Rattle.std.proofs.Common.{sym, ap, ◌∙◌, arith, le-leb}
use Rattle.std.proofs.lemmas.Bool.{lt-leb}
use Rattle.base_definitions.specs.Lists.{within}
use Rattle.access_record.specs.Table.{host_table, table_good}
use Rattle.access_record.specs.Record.{table_of, table_bytes}
use Rattle.access_record.proofs.TableLaws.{within_low, within-high}
use Rattle.access_record.proofs.ReadbackLaws.{table-back, host-good}
use Rattle.store_block.specs.DecidesLaws.{agree, says-yes}
use Rattle.store_layout.specs.Store.{size_good, store_good, entries_of}
use Rattle.store_layout.proofs.CheckLaws.{store-decides}
use Rattle.store_layout.proofs.SizeLaws.{size-decides}
use Rattle.store_layout.proofs.KeptLaws.{blank-kept}
use Rattle.protocol.specs.Format.{format_refusal, unless_refused, Told}

both-no : (x : Bool) → (x && false) ≡ false
both-no true = refl
both-no false = refl

pub told : (n : ℕ) (store device key store' device' : List ℕ) → format_refusal store key ≡ n
    → store' ≡ unless_refused n (replicate (length store) 0) store → device' ≡ unless_refused n (table_bytes (host_table key)) device
    → Told n store device key store' device'
told n store device key store' device' e s d =
    record {
      number = sym e;
      stored = s ∙ ap (λ r. unless_refused r (replicate (length store) 0) store) (sym e);
      recorded = d ∙ ap (λ r. unless_refused r (table_bytes (host_table key)) device) (sym e);
    }

pub store-bad : (store device key : List ℕ) → size_good store ≡ false → Told 2 store device key store device
unfolding format_refusal unless_refused
store-bad store device key e = told 2 store device key store device (rw e) refl refl

pub key-empty : (store device key : List ℕ) → size_good store ≡ true → length key ≡ 0 → Told 6 store device key store device
unfolding format_refusal unless_refused
key-empty store device key e h = told 6 store device key store device (rw (e, lt-leb 1 (length key) (omega arith))) refl refl

pub key-long : (store device key : List ℕ) → size_good store ≡ true → 64 < length key → Told 6 store device key store device
unfolding format_refusal unless_refused
key-long store device key e h =
    told 6 store device key store device (rw (e, lt-leb (length key) 64 h, both-no (leb 1 (length key)))) refl refl

pub made : (store device key : List ℕ) → size_good store ≡ true → 1 ≤ length key → length key ≤ 64
    → Told 0 store device key (replicate (length store) 0) (table_bytes (host_table key))
unfolding format_refusal unless_refused
made store device key e h l =
    told 0 store device key (replicate (length store) 0) (table_bytes (host_table key)) (rw (e, le-leb 1 (length key) h, le-leb (length key) 64 l)) refl refl

-- neither refusal
both-tests : (t u : Bool) → ◌≡◌ {A = ℕ} 0 (cond t (cond u 0 6) 2) → (t ≡ true) × (u ≡ true)
both-tests true true e = (refl, refl)
both-tests true false e = absurd (omega (arith, e))
both-tests false u e = absurd (omega (arith, e))

passed : (store key : List ℕ) → 0 ≡ format_refusal store key → (size_good store ≡ true) × (within 1 64 (length key) ≡ true)
unfolding format_refusal
passed store key e = both-tests (size_good store) (within 1 64 (length key)) e

-- A FORMATTED BOX IS GOOD: its store is, and has no entry; its record is, and has the one ACL of the host's key
pub formatted-good : {store device key store' device' : List ℕ} → Told 0 store device key store' device'
    → (store_good store' ≡ true) × (entries_of store' ≡ []) × (table_good (table_of device') ≡ true) × (table_of device' ≡ host_table key)
unfolding unless_refused
formatted-good {store} {device} {key} {store'} {device'} t =
    let p = passed store key t.number in
    let size = (size-decides store).yes p.0 in
    let blank = blank-kept store size.some size.most (sym size.whole) in
    let e : store' ≡ replicate (length store) 0 = t.stored ∙ ap (λ r. unless_refused r (replicate (length store) 0) store) (sym t.number) in
    let d : device' ≡ table_bytes (host_table key) = t.recorded ∙ ap (λ r. unless_refused r (table_bytes (host_table key)) device) (sym t.number) in
    let h = host-good key (within_low 1 64 (length key) p.1) (within-high 1 64 (length key) p.1) in
    let b : table_of device' ≡ host_table key = ap table_of d ∙ table-back (host_table key) h in (
      ap store_good e ∙ agree (store_good (replicate (length store) 0)) true (store-decides (replicate (length store) 0)) (says-yes blank.good),
      ap entries_of e ∙ blank.entries,
      ap table_good b ∙ h,
      b,
    )
