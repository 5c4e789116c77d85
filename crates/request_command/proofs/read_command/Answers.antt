use native.Mathlib.Omega.{arith}
use Prim.Native.Nat.{◌≤◌}
use mathlib.Core.Path.{refl, sym, ap, subst, ◌∙◌}
use lib.ListN.{length}
use Rattle.fields_schema.specs.Tree.{is_some, listed, Tree, sub_at, tree_in, subs_at}
use Rattle.fields_schema.specs.declared.Kind.TheVariants as k
use Rattle.fields_schema.specs.declared.Form.TheVariants.{Nested}
use Rattle.fields_lookup.specs.Views.{bytes_at, tree_of, Only}
use Rattle.fields_lookup.proofs.LevelLaws.{once-subs}
use Rattle.fields_lookup.proofs.Levels.{level-at, only_at, part_at}
use Rattle.request_command.proofs.Levels.{body-lies, command-law}
use Rattle.request_command.proofs.read_command.Goals as goal
use Rattle.request_command.proofs.read_command.Goals.{After-header_in-header}

pub part_of-h-requires : goal.part_of-h-requires
part_of-h-requires c = let o = c.open_at-t in part_at k.Command c.args.s.now c.args.p o.result o.ensures (c.requires.0, c.requires.1) 1 (omega arith) refl

pub part_of-b-requires : goal.part_of-b-requires
part_of-b-requires c = let o = c.open_at-t in part_at k.Command c.args.s.now c.args.p o.result o.ensures (c.requires.0, c.requires.1) 2 (omega arith) refl

pub header_in-header-requires : goal.header_in-header-requires
header_in-header-requires c =
    let o = c.open_at-t in
    let x = c.part_of-h in
    let w = c.sent_twice-twice in
    (c.requires.0, c.requires.1, only_at k.Command c.args.s.now c.args.p o.result o.ensures (c.requires.0, c.requires.1) 1 k.Header refl (λ e. e) x.result x.ensures w.result w.ensures)

bodies : (c : After-header_in-header) → let a = c.args in Only k.Body a.s.now c.part_of-b.result c.sent_twice-twice.result (sub_at 2 (tree_of k.Command (bytes_at a.s.now a.p)))
bodies c =
    let o = c.open_at-t in
    let x = c.part_of-b in
    let w = c.sent_twice-twice in
    only_at k.Command c.args.s.now c.args.p o.result o.ensures (c.requires.0, c.requires.1) 2 k.Body refl (λ e. e) x.result x.ensures w.result w.ensures

pub body_in-body-requires : goal.body_in-body-requires
body_in-body-requires c = (c.requires.0, c.requires.1, bodies (goal.at.body_in-body-requires c).After-header_in-header)

-- one body has at most one
pub secured_once-ok-requires : goal.secured_once-ok-requires
secured_once-ok-requires c =
    let s = c.args.s.now in
    let x = c.part_of-b in (
      c.requires.0,
      c.requires.1,
      record {
        here = c.body_in-body.ensures.secured;
        sole = λ e.
            let y = (bodies (goal.at.secured_once-ok-requires c).After-header_in-header).sole e in
            subst (λ (t : Tree). length (subs_at 7 t) ≤ 1) y.tree (once-subs k.Body 7 (Nested k.Security) refl (bytes_at s x.result) y.reads);
      },
    )

pub returns : goal.returns
returns c =
    let s = c.args.s.now in
    let p = c.args.p in
    let o = c.open_at-t in
    let l = level-at k.Command s p o.result o.ensures (c.requires.0, c.requires.1) in
    let m = bytes_at s p in
    let x = c.part_of-h in
    let h = c.header_in-header in
    let w = c.body_in-body in (
      command-law s m c.requires.2 c.requires.1 x.result h.result w.result (x.ensures.here k.Command k.Header l refl) h.ensures w.ensures c.secured_once-ok.result c.secured_once-ok.ensures,
      body-lies s (tree_in (sub_at 2 (tree_of k.Command m))) w.result w.ensures (λ z. ap (λ m. is_some (listed k.Command m)) (sym c.requires.2) ∙ c.requires.1),
    )
