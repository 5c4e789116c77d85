-- How deep the messages of each kind go: a message inside one of kind k has a kind of lower depth. A test over the table.
use Rattle.std.specs.Prelude.{ℕ}
use Rattle.fields_schema.specs.declared.Kind.{Kind}
use Rattle.fields_schema.specs.declared.Kind.TheVariants.{Message, HmacAuth, Command, Header, Body, KeyValue, Range, Setup, GetLog, Security, Acl, Scope, ReplyCommand, ReplyBody, ReplyRange, ReplyGetLog, Utilization, Temperature, Capacity, Limits, Status}

abbrev pub depth : Kind → ℕ
depth Message = 1
depth HmacAuth = 0
depth Command = 4
depth Header = 0
depth Body = 3
depth KeyValue = 0
depth Range = 0
depth Setup = 0
depth GetLog = 0
depth Security = 2
depth Acl = 1
depth Scope = 0
depth ReplyCommand = 4
depth ReplyBody = 3
depth ReplyRange = 0
depth ReplyGetLog = 1
depth Utilization = 0
depth Temperature = 0
depth Capacity = 0
depth Limits = 0
depth Status = 0
