-- A table that is written ACL by ACL and scope by scope stands in the record byte for byte.
use Rattle.std.specs.Prelude.{◌≡◌, refl, true, List, [], ◌∷◌, ◌++◌, ℕ, ◌+◌, ◌-◌, ◌*◌, ◌≤◌, ◌<◌, length, replicate, set}
use Rattle.std.proofs.Common.{sym, ap, ap₂, ◌∙◌, append_assoc, append-nil, arith, length-append}
use Rattle.std.proofs.lemmas.List.{replicate-append-replicate}
use Rattle.access_record.specs.Table.{Scope, Acl, Table, table_good, every_scope, host_acl, host_table}
use Rattle.base_definitions.specs.BigEndian.{be32}
use Rattle.base_definitions.specs.Lists.{fill}
use Rattle.access_record.specs.Record.{word_bytes, scope_bytes, scopes_bytes, acl_head, acl_bytes, acls_bytes, table_head, table_bytes, table_of}
use Rattle.access_record.specs.Roomy.{Roomy, RoomyAcl, RoomyAcls, RoomyTable}
use Rattle.access_record.proofs.ReadbackLaws.{length-word, length-fill, length-scope_bytes, length-scopes_bytes, length-acls_bytes, roomy-table, table-back}
use Rattle.access_record_bytes.specs.Wrote.{put, Wrote}
use Rattle.access_table_write.specs.Write.{empty_table, put_acl, put_scope, put_scopes, put_acls}
use Rattle.access_table_write.specs.FillLaws.{fill-past, fill_more, fill-zeros, fill-fill, put-past, set_past}

scopes-snoc : (ss : List Scope) (s : Scope) → scopes_bytes ss ++ scope_bytes s ≡ scopes_bytes (ss ++ (s ∷ []))
unfolding scopes_bytes
scopes-snoc [] s = sym (append-nil (scope_bytes s))
scopes-snoc (x ∷ ss) s = append_assoc (scope_bytes x) (scopes_bytes ss) (scope_bytes s) ∙ ap (λ (l : List ℕ). scope_bytes x ++ l) (scopes-snoc ss s)

acls-snoc : (xs : List Acl) (x : Acl) → acls_bytes xs ++ acl_bytes x ≡ acls_bytes (xs ++ (x ∷ []))
unfolding acls_bytes
acls-snoc [] x = sym (append-nil (acl_bytes x))
acls-snoc (y ∷ xs) x = append_assoc (acl_bytes y) (acls_bytes xs) (acl_bytes x) ∙ ap (λ (l : List ℕ). acl_bytes y ++ l) (acls-snoc xs x)

length-table_head : (v n : ℕ) → length (table_head v n) ≡ 16
unfolding table_head word_bytes be32
length-table_head v n = refl

length-acl_head : (w : ℕ) (key : List ℕ) (n : ℕ) → length key ≤ 64 → length (acl_head w key n) ≡ 80
unfolding acl_head
length-acl_head w key n h =
    let a = length-word w in
    let b = length-fill 64 key h in
    simp length-append (omega arith)

length-snoc : {A : Type 0} (xs : List A) (x : A) → length (xs ++ (x ∷ [])) ≡ length xs + 1
length-snoc xs x = length-append xs (x ∷ [])

count_set : (v n m : ℕ) (r : List ℕ) → set (table_head v n ++ r) 8 m ≡ table_head v m ++ r
unfolding table_head word_bytes be32
count_set v n m r = refl

scopes-set : (w : ℕ) (key : List ℕ) (n m : ℕ) (r : List ℕ) → set (acl_head w key n ++ r) 9 m ≡ acl_head w key m ++ r
unfolding acl_head word_bytes be32
scopes-set w key n m r = refl

abbrev table_with : ℕ → List Acl → Table
table_with v xs = record { cluster_version = v; acls = xs }

abbrev acl_with : ℕ → List ℕ → List Scope → Acl
acl_with w key ss = record { identity = w; key = key; scopes = ss }

bare-acl : (w : ℕ) (key : List ℕ) → acl_bytes (acl_with w key []) ≡ acl_head w key 0 ++ replicate 288 0
unfolding acl_bytes scopes_bytes fill
bare-acl w key = refl

-- ---- one ACL more
pub acl-added : (v : ℕ) (xs : List Acl) (w : ℕ) (key : List ℕ) → RoomyAcls xs → length xs < 8 → length key ≤ 64
    → put_acl (table_bytes (table_with v xs)) (length xs) w key ≡ table_bytes (table_with v (xs ++ (acl_with w key [] ∷ [])))
unfolding put_acl table_bytes
acl-added v xs w key room few fits =
    let i = length xs in
    let a = acl_with w key [] in
    let b = acls_bytes xs in
    let h = acl_head w key 0 in
    let th = length-table_head v (i + 1) in
    let bl = length-acls_bytes xs room in
    let hl = length-acl_head w key 0 fits in
    let bh = length-append b h in
    let whole : acls_bytes (xs ++ (a ∷ [])) ≡ (b ++ h) ++ replicate 288 0 =
    sym (acls-snoc xs a) ∙ ap (λ (z : List ℕ). b ++ z) (bare-acl w key) ∙ sym (append_assoc b h (replicate 288 0)) in
    ap (λ (l : List ℕ). put l (16 + i * 368) h) (count_set v i (i + 1) (fill 2944 b))
    ∙ put-past (table_head v (i + 1)) (fill 2944 b) (16 + i * 368) (i * 368) h (omega arith)
    ∙ ap (λ (l : List ℕ). table_head v (i + 1) ++ l)
    (fill_more 2944 (i * 368) b h (sym bl) (omega arith)
    ∙ sym (ap (fill 2944) whole ∙ fill-zeros 2944 288 (b ++ h) (omega arith)))
    ∙ ap (λ (n : ℕ). table_head v n ++ fill 2944 (acls_bytes (xs ++ (a ∷ [])))) (sym (length-snoc xs a))

-- ---- one scope more

-- the record up to the last ACL, and its last ACL
last-acl : (v : ℕ) (xs : List Acl) (a : Acl) → RoomyAcls xs → RoomyAcl a → length xs < 8
    → table_bytes (table_with v (xs ++ (a ∷ [])))
    ≡ (table_head v (length xs + 1) ++ acls_bytes xs)
    ++ (acl_head a.identity a.key (length a.scopes) ++ fill (2864 - length xs * 368) (scopes_bytes a.scopes))
unfolding table_bytes acl_bytes
last-acl v xs a room ra few =
    let b = acls_bytes xs in
    let s = scopes_bytes a.scopes in
    let h = acl_head a.identity a.key (length a.scopes) in
    let bl = length-acls_bytes xs room in
    let hl = length-acl_head a.identity a.key (length a.scopes) ra.key_fits in
    let sl = length-scopes_bytes a.scopes ra.values in
    let sf = ra.few in
    ap₂ (λ (n : ℕ) (l : List ℕ). table_head v n ++ fill 2944 l) (length-snoc xs a) (sym (acls-snoc xs a))
    ∙ ap (λ (l : List ℕ). table_head v (length xs + 1) ++ l)
    (fill-past 2944 (2944 - length xs * 368) b (acl_bytes a) (omega arith)
    ∙ ap (λ (l : List ℕ). b ++ l)
    (fill-past (2944 - length xs * 368) (2864 - length xs * 368) h (fill 288 s) (omega arith)
    ∙ ap (λ (l : List ℕ). h ++ l) (fill-fill (2864 - length xs * 368) 288 s (omega arith) (omega arith))))
    ∙ sym (append_assoc (table_head v (length xs + 1)) b (h ++ fill (2864 - length xs * 368) s))

roomy-more : {ss : List Scope} (s : Scope) → Roomy ss → length s.value ≤ 64 → Roomy (ss ++ (s ∷ []))
roomy-more s Roomy.none h = Roomy.more h Roomy.none
roomy-more s (Roomy.more k r) h = Roomy.more k (roomy-more s r h)

pub scope_added : (v : ℕ) (xs : List Acl) (a : Acl) (s : Scope) → RoomyAcls xs → RoomyAcl a → length xs < 8 → length a.scopes < 4 → length s.value ≤ 64
    → put_scope (table_bytes (table_with v (xs ++ (a ∷ [])))) (length xs) (length a.scopes) s
    ≡ table_bytes (table_with v (xs ++ (acl_with a.identity a.key (a.scopes ++ (s ∷ [])) ∷ [])))
unfolding put_scope
scope_added v xs a s room ra few less fits =
    let i = length xs in
    let j = length a.scopes in
    let ss = a.scopes in
    let m = 2864 - i * 368 in
    let p = table_head v (i + 1) ++ acls_bytes xs in
    let x = scope_bytes s in
    let h = acl_head a.identity a.key (j + 1) in
    let rest = fill m (scopes_bytes ss) in
    let grown = acl_with a.identity a.key (ss ++ (s ∷ [])) in
    let th = length-table_head v (i + 1) in
    let bl = length-acls_bytes xs room in
    let pl = length-append (table_head v (i + 1)) (acls_bytes xs) in
    let hl = length-acl_head a.identity a.key (j + 1) ra.key_fits in
    let sl = length-scopes_bytes ss ra.values in
    let xl = length-scope_bytes s fits in
    let n = length-snoc ss s in
    let rg : RoomyAcl grown = record { key_fits = ra.key_fits; few = omega arith; values = roomy-more s ra.values fits } in
    ap (λ (l : List ℕ). put (set l (16 + i * 368 + 9) (j + 1)) (16 + i * 368 + 80 + j * 72) x) (last-acl v xs a room ra few)
    ∙ ap (λ (l : List ℕ). put l (16 + i * 368 + 80 + j * 72) x)
    (set_past p (acl_head a.identity a.key j ++ rest) (16 + i * 368 + 9) 9 (j + 1) (omega arith)
    ∙ ap (λ (l : List ℕ). p ++ l) (scopes-set a.identity a.key j (j + 1) rest))
    ∙ put-past p (h ++ rest) (16 + i * 368 + 80 + j * 72) (80 + j * 72) x (omega arith)
    ∙ ap (λ (l : List ℕ). p ++ l)
    (put-past h rest (80 + j * 72) (j * 72) x (omega arith)
    ∙ ap (λ (l : List ℕ). h ++ l) (fill_more m (j * 72) (scopes_bytes ss) x (sym sl) (omega arith) ∙ ap (fill m) (scopes-snoc ss s)))
    ∙ sym (last-acl v xs grown room rg few ∙ ap (λ (k : ℕ). p ++ (acl_head a.identity a.key k ++ fill m (scopes_bytes (ss ++ (s ∷ []))))) n)

-- ---- all scopes of an ACL, all ACLs of a table
snoc-append : {A : Type 0} (xs : List A) (x : A) (ys : List A) → (xs ++ (x ∷ [])) ++ ys ≡ xs ++ (x ∷ ys)
snoc-append xs x ys = append_assoc xs (x ∷ []) ys

scopes-added : (v : ℕ) (xs : List Acl) (a : Acl) (ss : List Scope) → RoomyAcls xs → RoomyAcl a → length xs < 8 → length a.scopes + length ss ≤ 4 → Roomy ss
    → put_scopes (table_bytes (table_with v (xs ++ (a ∷ [])))) (length xs) (length a.scopes) ss
    ≡ table_bytes (table_with v (xs ++ (acl_with a.identity a.key (a.scopes ++ ss) ∷ [])))
unfolding put_scopes
scopes-added v xs a [] room ra few less Roomy.none =
    ap (λ (z : List Scope). table_bytes (table_with v (xs ++ (acl_with a.identity a.key z ∷ [])))) (sym (append-nil a.scopes))
scopes-added v xs a (s ∷ ss) room ra few less (Roomy.more h hs) =
    let grown = acl_with a.identity a.key (a.scopes ++ (s ∷ [])) in
    let n : length (a.scopes ++ (s ∷ [])) ≡ length a.scopes + 1 = length-snoc a.scopes s in
    let rg : RoomyAcl grown = record { key_fits = ra.key_fits; few = omega arith; values = roomy-more s ra.values h } in
    ap₂ (λ (l : List ℕ) (k : ℕ). put_scopes l (length xs) k ss) (scope_added v xs a s room ra few (omega arith) h) (sym n)
    ∙ scopes-added v xs grown ss room rg few (omega arith) hs
    ∙ ap (λ (z : List Scope). table_bytes (table_with v (xs ++ (acl_with a.identity a.key z ∷ [])))) (snoc-append a.scopes s ss)

roomy-acls-more : {xs : List Acl} (a : Acl) → RoomyAcls xs → RoomyAcl a → RoomyAcls (xs ++ (a ∷ []))
roomy-acls-more a RoomyAcls.none h = RoomyAcls.more h RoomyAcls.none
roomy-acls-more a (RoomyAcls.more k r) h = RoomyAcls.more k (roomy-acls-more a r h)

acls-added : (v : ℕ) (xs rest : List Acl) → RoomyAcls xs → RoomyAcls rest → length xs + length rest ≤ 8
    → put_acls (table_bytes (table_with v xs)) (length xs) rest ≡ table_bytes (table_with v (xs ++ rest))
unfolding put_acls
acls-added v xs [] room RoomyAcls.none few = ap (λ (z : List Acl). table_bytes (table_with v z)) (sym (append-nil xs))
acls-added v xs (a ∷ rest) room (RoomyAcls.more h hs) few =
    let bare = acl_with a.identity a.key [] in
    let sf = h.few in
    let rb : RoomyAcl bare = record { key_fits = h.key_fits; few = omega arith; values = Roomy.none } in
    let n : length (xs ++ (a ∷ [])) ≡ length xs + 1 = length-snoc xs a in
    ap (λ (l : List ℕ). put_acls (put_scopes l (length xs) 0 a.scopes) (length xs + 1) rest)
    (acl-added v xs a.identity a.key room (omega arith) h.key_fits)
    ∙ ap₂ (λ (l : List ℕ) (k : ℕ). put_acls l k rest) (scopes-added v xs bare a.scopes room rb (omega arith) (omega arith) h.values) (sym n)
    ∙ acls-added v (xs ++ (a ∷ [])) rest (roomy-acls-more a room h) hs (omega arith)
    ∙ ap (λ (z : List Acl). table_bytes (table_with v z)) (snoc-append xs a rest)

-- a table written into the empty one: the record is the table's, every byte
pub table-written : (t : Table) → RoomyTable t → put_acls (table_bytes (empty_table t.cluster_version)) 0 t.acls ≡ table_bytes t
table-written t r = acls-added t.cluster_version [] t.acls RoomyAcls.none r.places (let f = r.few in omega arith)

-- and a good table is read back
pub written_back : (t : Table) → table_good t ≡ true → table_of (put_acls (table_bytes (empty_table t.cluster_version)) 0 t.acls) ≡ t
written_back t g = ap table_of (table-written t (roomy-table t g)) ∙ table-back t g

-- ---- Format: one ACL with one scope
pub host-written : (key : List ℕ) → length key ≤ 64 → put_scope (put_acl (table_bytes (empty_table 0)) 0 1 key) 0 0 every_scope ≡ table_bytes (host_table key)
unfolding put_acls put_scopes
host-written key h =
    let acl : RoomyAcl (host_acl key) = record { key_fits = h; few = omega arith; values = Roomy.more {s = every_scope} (omega arith) Roomy.none } in
    table-written (host_table key) (record { few = omega arith; places = RoomyAcls.more acl RoomyAcls.none })

-- ---- what the empty table is made of
pub empty-made : (v : ℕ) → word_bytes v ++ replicate 2952 0 ≡ table_bytes (empty_table v)
unfolding table_bytes table_head acls_bytes fill
empty-made v =
    ap (λ (z : List ℕ). word_bytes v ++ z) (sym (replicate-append-replicate 8 2944 0))
    ∙ sym (append_assoc (word_bytes v) (0 ∷ 0 ∷ 0 ∷ 0 ∷ 0 ∷ 0 ∷ 0 ∷ 0 ∷ []) (replicate 2944 0))

pub length-empty : (v : ℕ) → length (word_bytes v ++ replicate 2952 0) ≡ 2960
unfolding word_bytes be32
length-empty v = refl

-- past a word
pub word_next : (w : ℕ) {a b : ℕ} {l m : List ℕ} → Wrote a b (word_bytes w) l m → b ≡ a + 8
word_next w r = let n = r.next in let k = length-word w in omega arith
