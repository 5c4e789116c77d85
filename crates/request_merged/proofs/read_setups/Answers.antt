use mathlib.Core.Path.{refl}
use Rattle.fields_schema.specs.Tree.{Tree, done}
use Rattle.fields_schema.specs.declared.Kind.TheVariants as k
use Rattle.fields_lookup.specs.Views.{bytes_at, tree_of}
use Rattle.fields_later.specs.LaterLaws.{signed-later}
use Rattle.fields_repeated.specs.JoinsLaws.{joins-start, joins-end, joins-reads, joins-on}
use Rattle.request_merged.specs.Setups.{SetupIs}
use Rattle.request_merged.proofs.read_setups.Goals as goal

pub loop-part-init : goal.loop-part-init
loop-part-init c =
    let s = c.args.s.now in
    joins-start (λ (t : Tree). SetupIs t c.no_setup-n.result) k.Setup k.Body 3 s c.args.p c.requires.0 c.requires.1 refl done c.no_setup-n.ensures

pub next_part-requires : goal.next_part-requires
next_part-requires c = c.loop-part.invariant.inside

pub read_setup-requires : goal.read_setup-requires
read_setup-requires c =
    let x = c.in-Some in
    joins-reads c.loop-part.invariant x.part x.rest x.ensures

pub loop-part-smaller : goal.loop-part-smaller
loop-part-smaller c = c.in-Some.ensures.1.shorter

pub loop-part-preserved : goal.loop-part-preserved
loop-part-preserved c =
    let x = c.in-Some in
    let s = c.args.s.now in
    let q = c.read_setup in
    let r = c.later-n in
    joins-on c.loop-part.invariant x.part x.rest x.ensures (λ (t : Tree). SetupIs t r.result)
    (λ t h. signed-later 1 t (tree_of k.Setup (bytes_at s x.part)) c.loop-part.n q.result r.result r.ensures h q.ensures)

pub returns : goal.returns
returns c = joins-end c.loop-part.invariant c.in_default.ensures
