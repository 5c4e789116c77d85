use native.Mathlib.Omega.{arith}
use mathlib.Core.Path.{refl, sym, ap, subst, ◌∙◌}
use mathlib.Core.List.{List}
use mathlib.Core.Bool.{true}
use lib.ListN.{length}
use Prim.Native.Nat.{ℕ}
use Rattle.fields_schema.specs.Tree.{Tree, done, is_some, listed, sub_at, tree_in}
use Rattle.fields_schema.proofs.MergedLaws.{sub_in}
use Rattle.fields_schema.specs.declared.Kind.TheVariants as k
use Rattle.access_record.specs.Table.{mask_of}
use Rattle.fields_lookup.specs.Views.{bytes_at, tree_of}
use Rattle.fields_lookup.proofs.Slotted.{whole-bytes}
use Rattle.fields_lookup.specs.declared.parts.Part.{Part}
use Rattle.request_merged.specs.Types.{log_types}
use Rattle.fields_repeated.specs.Joins.{Joins}
use Rattle.fields_repeated.specs.JoinsLaws.{joins-start, joins-end, joins-reads, joins-on}
use Rattle.request_log_types.specs.Types.{BodyTypes, LogTypes, TypesAre}
use Rattle.request_log_types.proofs.log_types.Invariants.{bodies}
use Rattle.request_log_types.proofs.log_types.Goals as goal

none-asked : BodyTypes done 0
unfolding mask_of
none-asked = record { set = refl }

all-bodies : (s : List ℕ) (r : ℕ) → BodyTypes (bodies s) r → TypesAre (log_types s) r
unfolding log_types
all-bodies s r h = h

pub loop-part-init : goal.loop-part-init
loop-part-init c =
    let s = c.args.s.now in
    let whole : Part = record { has = true; start = 0; len = length s } in
    subst (λ (m : List ℕ). Joins (λ (t : Tree). BodyTypes t 0) k.Body 2 s whole (bodies m)) (whole-bytes s)
    (joins-start (λ (t : Tree). BodyTypes t 0) k.Body k.Command 2 s whole (omega arith) (ap (λ m. is_some (listed k.Command m)) (whole-bytes s) ∙ c.requires) refl done none-asked)

pub next_part-requires : goal.next_part-requires
next_part-requires c = c.loop-part.invariant.inside

pub logs_in-mask-requires : goal.logs_in-mask-requires
logs_in-mask-requires c =
    let x = c.in-Some in
    joins-reads c.loop-part.invariant x.part x.rest x.ensures

pub loop-part-smaller : goal.loop-part-smaller
loop-part-smaller c = c.in-Some.ensures.1.shorter

pub loop-part-preserved : goal.loop-part-preserved
loop-part-preserved c =
    let x = c.in-Some in
    let s = c.args.s.now in
    let r = c.logs_in-mask in
    let u = tree_of k.Body (bytes_at s x.part) in
    joins-on c.loop-part.invariant x.part x.rest x.ensures (λ (t : Tree). BodyTypes t r.result)
    (λ t h. subst (λ (v : Tree). LogTypes v r.result) (sym (sub_in 6 t u)) (r.ensures (tree_in (sub_at 6 t)) h))

pub returns : goal.returns
returns c =
    all-bodies c.args.s.now c.loop-part.mask (joins-end c.loop-part.invariant c.in_default.ensures)
