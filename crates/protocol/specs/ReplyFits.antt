-- The parts of a reply that are in range.
use Rattle.std.specs.Prelude.{ℕ, ◌^◌, ◌≤◌, ◌<◌, ◌≡◌, true, List, [], ◌∷◌, length}
use Rattle.std.proofs.Math.Option.{Option, some}
use Rattle.fields_schema.specs.Rules.{names_of}
use Rattle.fields_schema.specs.Tree.{is_int32, among}
use Rattle.fields_schema.specs.declared.Names.TheVariants.{StatusCode}
use Rattle.fields_encoding.specs.Cost.{AtMost}
use Rattle.protocol.specs.Judge as judging
use Rattle.log_readings.specs.Lent.{Sample}
use Rattle.protocol.specs.Judge.{Log, bare, key_value, range, log}

-- one of the codes that document 01 names
pub record CodeNamed (code : ℕ) : Type 0 where
  pub named : among code (names_of StatusCode) ≡ true
  pub small : code < 2 ^ 64

-- a type that an enum may have
pub record TypeFits (type : ℕ) : Type 0 where
  pub word : type < 2 ^ 64
  pub enum : is_int32 type ≡ true

-- samples with names of at most 16 bytes
abbrev pub ShortNames : List Sample → Type 0
ShortNames [] = Unit {0}
ShortNames (r ∷ rs) = (length r.name ≤ 16) × ShortNames rs

-- the parts of a log that good readings and a good store can give
pub record LogFits (g : Log) : Type 0 where
  pub few_utilizations : length g.utilizations ≤ 2
  pub few_temperatures : length g.temperatures ≤ 4
  pub utilizations_named : ShortNames g.utilizations
  pub temperatures_named : ShortNames g.temperatures
  pub nominal_word : (c : judging.Capacity) → g.capacity ≡ some c → c.nominal < 2 ^ 64

-- the parts of a body that a good store and good readings can give
pub data BodyFits : judging.ReplyBody → Type 0 where
  bares : BodyFits bare
  key_values : {k v g : List ℕ} {a : ℕ} → length k ≤ 64 → length v ≤ 16 → length g ≤ 32 → a ≤ 6 → BodyFits (key_value k v g a)
  ranges : {ks : List (List ℕ)} → length ks ≤ 32 → AtMost 64 ks → BodyFits (range ks)
  logs : {g : Log} → LogFits g → BodyFits (log g)

-- the parts of a signed reply, in range
pub record InRange (identity connection : ℕ) (ack : Option ℕ) (type : ℕ) (body : judging.ReplyBody) (code : ℕ) (value : List ℕ) : Type 0 where
  pub identity_word : identity < 2 ^ 64
  pub connection_word : connection < 2 ^ 64
  pub ack_word : (v : ℕ) → ack ≡ some v → v < 2 ^ 64
  pub type_fits : TypeFits type
  pub body_good : BodyFits body
  pub code_named : CodeNamed code
  pub value_short : length value ≤ 384
