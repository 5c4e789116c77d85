-- Document 01, "What the box does", Format: "makes the device record and a store of blank blocks. The one ACL is identity 1, a key from the
-- host, one scope with every permission, cluster version 0." "Format gives 2 only for the store's length, then 6; it ignores old contents."
use Rattle.std.specs.Prelude.{cond, List, ◌≡◌, ℕ, eqb, length, replicate}
use Rattle.base_definitions.specs.Lists.{within}
use Rattle.access_record.specs.Table.{host_table}
use Rattle.access_record.specs.Record.{table_bytes}
use Rattle.store_layout.specs.Store.{size_good}
use Rattle.base_definitions.specs.Refusals.{STORE_BAD, KEY_BAD}

-- 0, or the refusal: 2 STORE_BAD, then 6 KEY_BAD, "host key not 1 to 64 bytes"
unfoldable pub format_refusal : List ℕ → List ℕ → ℕ
format_refusal store key = cond (size_good store) (cond (within 1 64 (length key)) 0 KEY_BAD) STORE_BAD

-- what is lent afterwards: on a refusal nothing changes
unfoldable pub unless_refused : ℕ → List ℕ → List ℕ → List ℕ
unless_refused refusal made before = cond (eqb refusal 0) made before

abbrev pub formatted_store : List ℕ → List ℕ → List ℕ
formatted_store store key = unless_refused (format_refusal store key) (replicate (length store) 0) store

abbrev pub formatted_device : List ℕ → List ℕ → List ℕ → List ℕ
formatted_device store device key = unless_refused (format_refusal store key) (table_bytes (host_table key)) device

-- the call: its number, and the store and the device record afterwards
pub record Told (n : ℕ) (store device key store' device' : List ℕ) : Type 0 where
  pub number : n ≡ format_refusal store key
  pub stored : store' ≡ formatted_store store key
  pub recorded : device' ≡ formatted_device store device key
