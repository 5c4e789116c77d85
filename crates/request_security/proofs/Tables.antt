-- The whole table.
use Prim.Native.Nat.{ℕ, ◌+◌, ◌≤◌}
use native.Mathlib.Omega.{arith}
use mathlib.Core.Path.{◌≡◌, refl, sym, ap, ap₂, ◌∙◌}
use mathlib.Core.List.{List, [], ◌∷◌}
use mathlib.Core.Bool.{Bool, true, false, ◌&&◌}
use lib.ListN.{length}
use Rattle.access_record.specs.Table as access
use Rattle.base_definitions.specs.Lists.{all, within, map_l}
use Rattle.access_record.specs.Table.{find_from, is_nobody, acl_good, acls_good, table_good}
use Rattle.access_record.specs.Record.{table_of, table_bytes}
use Rattle.access_record.proofs.TableLaws.{both-fst, both-snd, within-high}
use Rattle.access_record.specs.Roomy.{RoomyAcls, RoomyTable}
use Rattle.access_record.proofs.ReadbackLaws.{roomy-acl, roomy-back}
use Rattle.access_table_write.specs.Write.{empty_table, put_acls}
use Rattle.access_table_write.specs.WrittenLaws.{table-written}
use Rattle.protocol.specs.Command.{Acl}
use Rattle.protocol.specs.Judge.{acl_read, wanted_acl, wanted, security_good}
use Rattle.request_scope.specs.ScopeLaws.{never}
use Rattle.request_acl.specs.Taken.{acl_taken, put_one, Makes}
use Rattle.request_security.specs.Security.{acls_taken}
use Rattle.request_acl.proofs.Scopes.{makes-no}
use Rattle.request_acl.proofs.Acls.{length-map, all_map, all_both}

-- ---- written one after another
abbrev pub put_all : List ℕ → ℕ → List Acl → List ℕ
put_all l n acls = put_acls l n (map_l wanted_acl acls)

pub all_nil : (l : List ℕ) (n : ℕ) → put_all l n [] ≡ l
unfolding put_acls map_l
all_nil l n = refl

pub all_cons : (l : List ℕ) (n : ℕ) (a : Acl) (acls : List Acl) → put_all l n (a ∷ acls) ≡ put_all (put_one l n a) (n + 1) acls
unfolding put_acls map_l put_one
all_cons l n a acls = refl

-- ---- the rules of the table
acls-all : (acls : List Acl) → all acl_taken acls ≡ (all acl_read acls && all acl_good (map_l wanted_acl acls))
unfolding acl_taken
acls-all acls = all_both acl_read (λ a. acl_good (wanted_acl a)) acls ∙ ap (◌&&◌ (all acl_read acls)) (sym (all_map acl_good wanted_acl acls))

good-each : (xs : List access.Acl) → acls_good xs ≡ true → all acl_good xs ≡ true
unfolding acls_good all
good-each [] h = refl
good-each (x ∷ xs) h =
    let r = both-snd (acl_good x) (is_nobody (find_from 0 x.identity xs) && acls_good xs) h in
    ap₂ ◌&&◌ (both-fst (acl_good x) (is_nobody (find_from 0 x.identity xs) && acls_good xs) h)
    (good-each xs (both-snd (is_nobody (find_from 0 x.identity xs)) (acls_good xs) r))

roomy-each : (xs : List access.Acl) → all acl_good xs ≡ true → RoomyAcls xs
unfolding all
roomy-each [] h = RoomyAcls.none
roomy-each (x ∷ xs) h = RoomyAcls.more (roomy-acl x (both-fst (acl_good x) (all acl_good xs) h)) (roomy-each xs (both-snd (acl_good x) (all acl_good xs) h))

good-taken : (acls : List Acl) → security_good acls ≡ true → acls_taken acls ≡ true
unfolding security_good table_good acls_taken
good-taken acls h =
    let xs = map_l wanted_acl acls in
    let t = both-snd (all acl_read acls) (within 1 8 (length xs) && acls_good xs) h in
    ap₂ ◌&&◌ (ap (within 1 8) (sym (length-map wanted_acl acls)) ∙ both-fst (within 1 8 (length xs)) (acls_good xs) t)
    (acls-all acls ∙ ap₂ ◌&&◌ (both-fst (all acl_read acls) (within 1 8 (length xs) && acls_good xs) h) (good-each xs (both-snd (within 1 8 (length xs)) (acls_good xs) t)))

pub table-refused : (acls : List Acl) → acls_taken acls ≡ false → (out bytes : List ℕ) → Makes (security_good acls) false out bytes
table-refused acls e out bytes = makes-no (security_good acls) out bytes (go (security_good acls) refl)
  where
    go : (b : Bool) → security_good acls ≡ b → b ≡ false
    go true h = never (sym e ∙ good-taken acls h)
    go false h = refl

same-rules : (v : ℕ) (acls : List Acl) → table_good (wanted v acls) ≡ table_good (wanted 0 acls)
unfolding table_good
same-rules v acls = refl

parted : (acls : List Acl) → acls_taken acls ≡ true → (length (map_l wanted_acl acls) ≤ 8) × (all acl_read acls ≡ true) × (all acl_good (map_l wanted_acl acls) ≡ true)
unfolding acls_taken
parted acls h =
    let xs = map_l wanted_acl acls in
    let few = within-high 1 8 (length acls) (both-fst (within 1 8 (length acls)) (all acl_taken acls) h) in
    let each = sym (acls-all acls) ∙ both-snd (within 1 8 (length acls)) (all acl_taken acls) h in
    let n = length-map wanted_acl acls in
    (omega arith, both-fst (all acl_read acls) (all acl_good xs) each, both-snd (all acl_read acls) (all acl_good xs) each)

judged : (acls : List Acl) → all acl_read acls ≡ true → security_good acls ≡ table_good (wanted 0 acls)
unfolding security_good
judged acls h = ap (λ (b : Bool). (b && table_good (wanted 0 acls))) h

pub table-made : (version : ℕ) (acls : List Acl) → acls_taken acls ≡ true → (before out : List ℕ) → before ≡ table_bytes (empty_table version) → out ≡ put_acls before 0 (map_l wanted_acl acls)
    → (r : Bool) → r ≡ table_good (table_of out) → Makes (security_good acls) r out (table_bytes (wanted version acls))
table-made version acls h before out b o r q =
    let t = wanted version acls in
    let g = parted acls h in
    let room : RoomyTable t = record { few = g.0; places = roomy-each (map_l wanted_acl acls) g.2 } in
    let is : out ≡ table_bytes t = o ∙ ap (λ (l : List ℕ). put_acls l 0 (map_l wanted_acl acls)) b ∙ table-written t room in
    record {
      answer = q ∙ ap (λ (l : List ℕ). table_good (table_of l)) is ∙ ap table_good (roomy-back t room) ∙ same-rules version acls ∙ sym (judged acls g.1);
      made = λ w. is;
    }
