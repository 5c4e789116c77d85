-- Step 7: "Match on messageType numbers chooses operation, permission and reply type, everything else refused."
use Rattle.std.specs.Prelude.{cond, List, [], ◌∷◌, ℕ, ◌-◌, eqb, None, Some}
use Rattle.std.specs.declared.option.Option as code
use Rattle.std.proofs.Math.Option.{Option, none, some}
use Rattle.access_permission.specs.Permissions as permission
use Rattle.protocol.specs.declared.Operation.{Operation}
use Rattle.protocol.specs.declared.Operation.TheVariants.{Noop, Get, GetVersion, GetNext, GetPrevious, GetKeyRange, Put, Delete, FlushAllData, Setup, GetLog, Security}
use Rattle.protocol.specs.declared.Permission.{Permission}
use Rattle.protocol.specs.declared.Permission.TheVariants.{Free, Key, Any}
use Rattle.protocol.specs.declared.Choice.{Choice}
use Rattle.protocol.specs.MessageType.{GET, PUT, DELETE, GETNEXT, GETPREVIOUS, GETKEYRANGE, GETVERSION, SETUP, GETLOG, SECURITY, NOOP, FLUSHALLDATA, INVALID_MESSAGE_TYPE}

-- a request that is built: its messageType, its operation, and the permission that it needs
pub record Row : Type 0 where
  pub type : ℕ
  pub operation : Operation
  pub permission : Permission

abbrev pub row : ℕ → Operation → Permission → Row
row n o p = record { type = n; operation = o; permission = p }

-- "READ 0: GET, GETVERSION, GETNEXT, GETPREVIOUS. WRITE 1: PUT. DELETE 2: DELETE. RANGE 3: GETKEYRANGE. SETUP 4, SECURITY 8 likewise.
-- NOOP and FLUSHALLDATA need none"; document 02: "permission GETLOG 7, any key"; its CR 2: GETNEXT, GETPREVIOUS and GETKEYRANGE are judged with no key
abbrev pub rows : List Row
rows =
    row GET Get (Key permission.READ)
    ∷ row PUT Put (Key permission.WRITE)
    ∷ row DELETE Delete (Key permission.DELETE)
    ∷ row GETNEXT GetNext (Any permission.READ)
    ∷ row GETPREVIOUS GetPrevious (Any permission.READ)
    ∷ row GETKEYRANGE GetKeyRange (Any permission.RANGE)
    ∷ row GETVERSION GetVersion (Key permission.READ)
    ∷ row SETUP Setup (Any permission.SETUP)
    ∷ row GETLOG GetLog (Any permission.GETLOG)
    ∷ row SECURITY Security (Any permission.SECURITY)
    ∷ row NOOP Noop Free
    ∷ row FLUSHALLDATA FlushAllData Free
    ∷ []

-- "Type is the request's minus one"
abbrev pub chosen : Row → Choice
chosen r = record { operation = r.operation; permission = r.permission; reply_type = r.type - 1 }

-- what a messageType asks for, if it is that of a request that is built
abbrev pub Asked : Type 0
Asked = code.Option Choice

unfoldable pub asked_in : List Row → ℕ → Asked
asked_in [] n = None
asked_in (r ∷ rs) n = cond (eqb n r.type) (Some (chosen r)) (asked_in rs n)

-- what a number asks for
unfoldable pub asked : ℕ → Asked
asked n = asked_in rows n

-- what a header's messageType asks for; an absent one nothing
abbrev pub asked_by : Option ℕ → Asked
asked_by none = None
asked_by (some n) = asked n

-- the type of the reply: "-1 where no built request is read"
abbrev pub reply_type : Asked → ℕ
reply_type (Some c) = c.reply_type
reply_type None = INVALID_MESSAGE_TYPE
