-- Document 003, Message.AuthType: what document 01 takes and gives.
use Rattle.std.specs.Prelude.{ℕ}

abbrev pub HMACAUTH : ℕ
HMACAUTH = 1

abbrev pub UNSOLICITEDSTATUS : ℕ
UNSOLICITEDSTATUS = 3
