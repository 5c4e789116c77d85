use mathlib.Core.Path.{ap, ◌∙◌}
use native.Mathlib.Omega.{arith}
use lib.ListN.{length}
use Rattle.device_message.specs.MessageLaws.{key-short, copied}
use Rattle.device_message.proofs.copy_key.Goals as goal

pub key_of-requires : goal.key_of-requires
key_of-requires c = c.requires.0

pub copy-requires : goal.copy-requires
copy-requires c =
    let a = c.args in
    let e = ap length c.key_of.ensures in
    let k = key-short a.device.now a.acl c.requires.0 in
    let l = c.requires.1 in
    omega arith

pub returns : goal.returns
returns c =
    let a = c.args in
    let k = key-short a.device.now a.acl c.requires.0 in
    let e = c.key_of.ensures in
    let f = c.copy.ensures in
    let g = ap length e in
    let n = f.next in
    (copied f ∙ e, omega arith)
