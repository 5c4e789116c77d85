-- An entry, document 01, "Blocks": "lengths of key (1 to 64), version (0 to 16), tag (0 to 32)", "value length, 0 to 384",
-- "algorithm 1 to 6, or 0 for none".
use Rattle.std.specs.Prelude.{List, [], ℕ, ◌≤◌, length}

pub record Entry : Type 0 where
  pub key : List ℕ
  pub version : List ℕ
  pub tag : List ℕ
  pub value : List ℕ
  pub algorithm : ℕ

abbrev pub entry : List ℕ → List ℕ → List ℕ → List ℕ → ℕ → Entry
entry k v t w a = record { key = k; version = v; tag = t; value = w; algorithm = a }

-- what stands past the last entry: every part empty
abbrev pub no_entry : Entry
no_entry = entry [] [] [] [] 0

pub record Fit (e : Entry) : Type 0 where
  pub key_some : 1 ≤ length e.key
  pub key_fits : length e.key ≤ 64
  pub version_fits : length e.version ≤ 16
  pub tag_fits : length e.tag ≤ 32
  pub value_fits : length e.value ≤ 384
  pub algorithm_fits : e.algorithm ≤ 6

-- each part fits its place in a block
pub record Sized (e : Entry) : Type 0 where
  pub key_fits : length e.key ≤ 64
  pub version_fits : length e.version ≤ 16
  pub tag_fits : length e.tag ≤ 32
  pub value_fits : length e.value ≤ 384
