-- Document 01, "Replies": "Body only on success: PUT and DELETE an empty keyValue; GET, GETNEXT, GETPREVIOUS keyValue 3, 4, 5, 6 …, and the value part unless
-- metadataOnly; GETVERSION keyValue 4 …; range with 8 for each key"; GETLOG a getLog (document 02, CR 1).
use Rattle.std.specs.Prelude.{ℕ, ◌≡◌, Bool, cond, List, [], None, Some}
use Rattle.store_block.specs.Entry.{Entry}
use Rattle.protocol.specs.Operation.{Asked}
use Rattle.protocol.specs.declared.Operation.{Operation}
use Rattle.protocol.specs.declared.Operation.TheVariants.{Noop, Get, GetVersion, GetNext, GetPrevious, GetKeyRange, Put, Delete, FlushAllData, Setup, GetLog, Security}
use Rattle.protocol.specs.StatusCode.{SUCCESS}
use Rattle.protocol.specs.Judge.{Log, ReplyBody, Result, bare, key_value, range, log}

-- no body field and no value part
abbrev pub Bare : ReplyBody → List ℕ → Type 0
Bare b v = (b ≡ bare) × (v ≡ [])

-- what the success of each operation has
abbrev pub Shape : Bool → Operation → ReplyBody → List ℕ → Type 0
Shape m Noop b v = Bare b v
Shape m FlushAllData b v = Bare b v
Shape m Setup b v = Bare b v
Shape m Security b v = Bare b v
Shape m Put b v = (b ≡ key_value [] [] [] 0) × (v ≡ [])
Shape m Delete b v = (b ≡ key_value [] [] [] 0) × (v ≡ [])
Shape m Get b v = (e : Entry) × (b ≡ key_value e.key e.version e.tag e.algorithm) × (v ≡ cond m [] e.value)
Shape m GetNext b v = (e : Entry) × (b ≡ key_value e.key e.version e.tag e.algorithm) × (v ≡ cond m [] e.value)
Shape m GetPrevious b v = (e : Entry) × (b ≡ key_value e.key e.version e.tag e.algorithm) × (v ≡ cond m [] e.value)
Shape m GetVersion b v = (e : Entry) × (b ≡ key_value [] e.version [] 0) × (v ≡ [])
Shape m GetLog b v = (g : Log) × (b ≡ log g) × (v ≡ [])
Shape m GetKeyRange b v = (ks : List (List ℕ)) × (b ≡ range ks) × (v ≡ [])

-- no success without a built request
abbrev pub ShapeOf : Bool → Asked → ReplyBody → List ℕ → Type 0
ShapeOf m (Some x) b v = Shape m x.operation b v
ShapeOf m None b v = ⊥

-- a result of a request, with metadataOnly or not
pub record Bodied (m : Bool) (a : Asked) (r : Result) : Type 0 where
  pub success : r.code ≡ SUCCESS → ShapeOf m a r.body r.value
  pub failure : (r.code ≡ SUCCESS → ⊥) → Bare r.body r.value
