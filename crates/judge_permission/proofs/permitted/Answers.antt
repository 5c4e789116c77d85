use mathlib.Core.Path.{◌∙◌}
use Rattle.access_record.specs.Table.{acl_of}
use Rattle.access_record.specs.Record.{table_of}
use Rattle.judge_permission.specs.PermissionLaws.{key-numbered, any-numbered, by-none, by_key, by-any}
use Rattle.judge_permission.proofs.permitted.Goals as goal

pub permits-requires : goal.permits-requires
permits-requires c = (c.requires.0, key-numbered c.requires.1 _ c.in-Key.is)

pub permits_any-requires : goal.permits_any-requires
permits_any-requires c = (c.requires.0, any-numbered c.requires.1 _ c.in-Any.is)

pub returns-in-Free : goal.returns-in-Free
returns-in-Free c = λ b k. by-none (acl_of (table_of c.args.device.now) c.args.acl) c.args.protected b k c.in-Free.is

pub returns-in-Key : goal.returns-in-Key
returns-in-Key c = λ b k. c.permits.ensures ∙ by_key (acl_of (table_of c.args.device.now) c.args.acl) c.args.protected b k _ c.in-Key.is

pub returns-in-Any : goal.returns-in-Any
returns-in-Any c = λ b k. c.permits_any.ensures ∙ by-any (acl_of (table_of c.args.device.now) c.args.acl) c.args.protected b k _ c.in-Any.is
