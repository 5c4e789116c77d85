use native.Mathlib.Omega.{arith}
use mathlib.Core.Path.{refl}
use Rattle.fields_schema.specs.declared.Kind.TheVariants as k
use Rattle.fields_lookup.proofs.Levels.{level-at, only_at, part_at}
use Rattle.request_command.proofs.read_body.Goals as goal

pub part_of-a-requires : goal.part_of-a-requires
part_of-a-requires c = let o = c.open_at-t in part_at k.Body c.args.s.now c.args.p o.result o.ensures c.requires 1 (omega arith) refl

pub part_of-b-requires : goal.part_of-b-requires
part_of-b-requires c = let o = c.open_at-t in part_at k.Body c.args.s.now c.args.p o.result o.ensures c.requires 2 (omega arith) refl

pub part_of-c-requires : goal.part_of-c-requires
part_of-c-requires c = let o = c.open_at-t in part_at k.Body c.args.s.now c.args.p o.result o.ensures c.requires 3 (omega arith) refl

pub part_of-d-requires : goal.part_of-d-requires
part_of-d-requires c = let o = c.open_at-t in part_at k.Body c.args.s.now c.args.p o.result o.ensures c.requires 6 (omega arith) refl

pub part_of-security-requires : goal.part_of-security-requires
part_of-security-requires c = let o = c.open_at-t in part_at k.Body c.args.s.now c.args.p o.result o.ensures c.requires 7 (omega arith) refl

pub entry_in-entry-requires : goal.entry_in-entry-requires
entry_in-entry-requires c =
    let o = c.open_at-t in
    let x = c.part_of-a in
    let w = c.sent_twice-twice in
    (c.requires.0, c.requires.1, only_at k.Body c.args.s.now c.args.p o.result o.ensures c.requires 1 k.KeyValue refl (λ e. e) x.result x.ensures w.result w.ensures)

pub range_in-range-requires : goal.range_in-range-requires
range_in-range-requires c =
    let o = c.open_at-t in
    let x = c.part_of-b in
    let w = c.sent_twice-twice in
    (c.requires.0, c.requires.1, only_at k.Body c.args.s.now c.args.p o.result o.ensures c.requires 2 k.Range refl (λ e. e) x.result x.ensures w.result w.ensures)

pub setup_in-cluster-requires : goal.setup_in-cluster-requires
setup_in-cluster-requires c =
    let o = c.open_at-t in
    let x = c.part_of-c in
    let w = c.sent_twice-twice in
    (c.requires.0, c.requires.1, only_at k.Body c.args.s.now c.args.p o.result o.ensures c.requires 3 k.Setup refl (λ e. e) x.result x.ensures w.result w.ensures)

pub returns : goal.returns
returns c =
    let o = c.open_at-t in
    let l = level-at k.Body c.args.s.now c.args.p o.result o.ensures c.requires in
    let x7 = c.part_of-security in
    record {
      keyed = c.part_of-a.ensures.here k.Body k.KeyValue l refl;
      entry = c.entry_in-entry.ensures;
      ranged = c.part_of-b.ensures.here k.Body k.Range l refl;
      range = c.range_in-range.ensures;
      changed = c.part_of-c.ensures.here k.Body k.Setup l refl;
      cluster = c.setup_in-cluster.ensures;
      logged = c.part_of-d.ensures.here k.Body k.GetLog l refl;
      secured = x7.ensures.here k.Body k.Security l refl;
      lies = x7.ensures.lies;
      reads = (x7.ensures.message k.Body k.Security l refl tt).reads;
      security = λ n. x7.ensures.message k.Body k.Security l refl tt;
    }
