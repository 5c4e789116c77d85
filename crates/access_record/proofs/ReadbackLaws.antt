-- A table that is read back from its record is that table.
use Rattle.std.specs.Prelude.{◌≡◌, Bool, true, false, ◌&&◌, eqb, take, drop, get_or, replicate}
use Rattle.std.proofs.Math.Path.{refl, ap, ap₂}
use Rattle.std.proofs.Common.{sym, ◌∙◌, take-append-drop, get_or-append-add, length-take-le, leb-true, le-leb}
use Rattle.std.proofs.Math.Bool.{not}
use mathlib.Core.List.{List, [], ◌∷◌, ◌++◌, append_assoc}
use Prim.Native.Nat.{ℕ, zero, suc, ◌+◌, ◌-◌, ◌*◌, ◌/◌, ◌%◌, ◌≤◌}
use native.Mathlib.Omega.{arith}
use Rattle.std.proofs.Math.ListN.{length, length-append}
use Rattle.std.proofs.lemmas.List.{length-replicate}
use Rattle.base_definitions.specs.BigEndian.{be32}
use Rattle.base_definitions.specs.Lists.{within, all, fill}
use Rattle.access_record.specs.Table.{Scope, Acl, Table, mask_good, offset_good, scope_good, acl_good, acls_good, table_good, is_nobody, find_from, host_table}
use Rattle.access_record.specs.Record.{bytes_at, half_at, word_at, scope_at, scopes_at, acl_at, acls_at, table_of, word_bytes, flag, scope_bytes, scopes_bytes, acl_head, acl_bytes, acls_bytes, table_head, table_bytes, with_cluster_version}
use Rattle.access_record.proofs.TableLaws.{both-fst, both-snd, within-high}
use Rattle.access_record.specs.Roomy.{Roomy, none, more, RoomyAcl, RoomyAcls, RoomyTable}

-- ---- past a part, the readings are those of the rest
module _ (p l : List ℕ) where
  get_d-shift : (b a : ℕ) → b ≡ length p + a → get_or (p ++ l) b 0 ≡ get_or l a 0
  get_d-shift b a e = ap (λ (k : ℕ). get_or (p ++ l) k 0) e ∙ get_or-append-add p l a 0

  bytes-shift : (b a n : ℕ) → b ≡ length p + a → bytes_at (p ++ l) b n ≡ bytes_at l a n
  unfolding bytes_at
  bytes-shift b a zero e = refl
  bytes-shift b a (suc n) e =
      ap₂ (λ (x : ℕ) (y : List ℕ). x ∷ y) (get_d-shift b a e) (bytes-shift (b + 1) (a + 1) n (omega arith))

  half-shift : (b a : ℕ) → b ≡ length p + a → half_at (p ++ l) b ≡ half_at l a
  unfolding half_at
  half-shift b a e =
      let e0 = get_d-shift b a e in
      let e1 = get_d-shift (b + 1) (a + 1) (omega arith) in
      let e2 = get_d-shift (b + 2) (a + 2) (omega arith) in
      let e3 = get_d-shift (b + 3) (a + 3) (omega arith) in
      omega arith

  word-shift : (b a : ℕ) → b ≡ length p + a → word_at (p ++ l) b ≡ word_at l a
  unfolding word_at
  word-shift b a e =
      let e0 = half-shift b a e in
      let e1 = half-shift (b + 4) (a + 4) (omega arith) in
      omega arith

  scope-shift : (b a : ℕ) → b ≡ length p + a → scope_at (p ++ l) b ≡ scope_at l a
  unfolding scope_at
  scope-shift b a e =
      let e0 = get_d-shift b a e in
      let e1 = get_d-shift (b + 1) (a + 1) (omega arith) in
      let e2 = get_d-shift (b + 2) (a + 2) (omega arith) in
      let e3 = get_d-shift (b + 3) (a + 3) (omega arith) in
      let e4 = get_d-shift (b + 4) (a + 4) (omega arith) in
      let v = bytes-shift (b + 8) (a + 8) (get_or (p ++ l) (b + 1) 0) (omega arith) ∙ ap (bytes_at l (a + 8)) e1 in
      λ i. record { offset = e0 i; value = v i; permissions = e2 i * 256 + e3 i; tls_required = not (eqb (e4 i) 0) }

  scopes-shift : (b a n : ℕ) → b ≡ length p + a → scopes_at (p ++ l) b n ≡ scopes_at l a n
  unfolding scopes_at
  scopes-shift b a zero e = refl
  scopes-shift b a (suc n) e =
      ap₂ (λ (x : Scope) (y : List Scope). x ∷ y) (scope-shift b a e) (scopes-shift (b + 72) (a + 72) n (omega arith))

  acl-shift : (b a : ℕ) → b ≡ length p + a → acl_at (p ++ l) b ≡ acl_at l a
  unfolding acl_at
  acl-shift b a e =
      let e0 = word-shift b a e in
      let e1 = get_d-shift (b + 8) (a + 8) (omega arith) in
      let e2 = get_d-shift (b + 9) (a + 9) (omega arith) in
      let k = bytes-shift (b + 16) (a + 16) (get_or (p ++ l) (b + 8) 0) (omega arith) ∙ ap (bytes_at l (a + 16)) e1 in
      let s = scopes-shift (b + 80) (a + 80) (get_or (p ++ l) (b + 9) 0) (omega arith) ∙ ap (scopes_at l (a + 80)) e2 in
      λ i. record { identity = e0 i; key = k i; scopes = s i }

  acls-shift : (b a n : ℕ) → b ≡ length p + a → acls_at (p ++ l) b n ≡ acls_at l a n
  unfolding acls_at
  acls-shift b a zero e = refl
  acls-shift b a (suc n) e =
      ap₂ (λ (x : Acl) (y : List Acl). x ∷ y) (acl-shift b a e) (acls-shift (b + 368) (a + 368) n (omega arith))

-- ---- lengths
pub length-fill : (n : ℕ) (xs : List ℕ) → length xs ≤ n → length (fill n xs) ≡ n
unfolding fill
length-fill n xs h = simp (length-append, length-replicate) (omega arith)

pub length-scope_bytes : (s : Scope) → length s.value ≤ 64 → length (scope_bytes s) ≡ 72
unfolding scope_bytes
length-scope_bytes s h = let e = length-fill 64 s.value h in omega arith

-- ---- a list in front of others
front : (v r : List ℕ) → bytes_at (v ++ r) 0 (length v) ≡ v
unfolding bytes_at
front [] r = refl
front (x ∷ v) r = ap (λ (y : List ℕ). x ∷ y) (bytes-shift (x ∷ []) (v ++ r) 1 0 (length v) refl ∙ front v r)

front-fill : (n : ℕ) (v r : List ℕ) → bytes_at (fill n v ++ r) 0 (length v) ≡ v
unfolding fill
front-fill n v r = ap (λ (x : List ℕ). bytes_at x 0 (length v)) (append_assoc v (replicate (n - length v) 0) r) ∙ front v (replicate (n - length v) 0 ++ r)

half_back : (h : ℕ) (r : List ℕ) → half_at (be32 h ++ r) 0 ≡ h
unfolding half_at be32
half_back h r = let e : h / 16777216 * 16777216 + h / 65536 % 256 * 65536 + h / 256 % 256 * 256 + h % 256 ≡ h = omega arith in e

length-half : (h : ℕ) → length (be32 h) + 0 ≡ 4
unfolding be32
length-half h = refl

pub length-word : (w : ℕ) → length (word_bytes w) ≡ 8
unfolding word_bytes be32
length-word w = refl

word_back : (w : ℕ) (r : List ℕ) → word_at (word_bytes w ++ r) 0 ≡ w
unfolding word_at word_bytes
word_back w r =
    let a = be32 (w / 4294967296) in
    let b = be32 (w % 4294967296) in
    let x : half_at ((a ++ b) ++ r) 0 ≡ w / 4294967296 = ap (λ (l : List ℕ). half_at l 0) (append_assoc a b r) ∙ half_back (w / 4294967296) (b ++ r) in
    let y : half_at ((a ++ b) ++ r) 4 ≡ w % 4294967296 = ap (λ (l : List ℕ). half_at l 4) (append_assoc a b r) ∙ half-shift a (b ++ r) 4 0 (sym (length-half (w / 4294967296))) ∙ half_back (w % 4294967296) r in
    let e : w / 4294967296 * 4294967296 + w % 4294967296 ≡ w = omega arith in
    ap₂ (λ (m n : ℕ). m * 4294967296 + n) x y ∙ e

flag-back : (t : Bool) → not (eqb (flag t) 0) ≡ t
flag-back true = refl
flag-back false = refl

scope-back : (s : Scope) (r : List ℕ) → scope_at (scope_bytes s ++ r) 0 ≡ s
unfolding scope_at scope_bytes
scope-back s r =
    let m : s.permissions / 256 * 256 + s.permissions % 256 ≡ s.permissions = omega arith in
    let head = s.offset ∷ length s.value ∷ (s.permissions / 256) ∷ (s.permissions % 256) ∷ flag s.tls_required ∷ 0 ∷ 0 ∷ 0 ∷ [] in
    let v = bytes-shift head (fill 64 s.value ++ r) 8 0 (length s.value) refl ∙ front-fill 64 s.value r in
    let t = flag-back s.tls_required in
    λ i. record { offset = s.offset; value = v i; permissions = m i; tls_required = t i }

pub length-scopes_bytes : (ss : List Scope) → Roomy ss → length (scopes_bytes ss) ≡ length ss * 72
unfolding scopes_bytes
length-scopes_bytes [] none = refl
length-scopes_bytes (s ∷ ss) (more h hs) =
    let ih = length-scopes_bytes ss hs in
    let b = length-scope_bytes s h in
    simp length-append (omega arith)

scopes-back : (ss : List Scope) (r : List ℕ) → Roomy ss → scopes_at (scopes_bytes ss ++ r) 0 (length ss) ≡ ss
unfolding scopes_at scopes_bytes
scopes-back [] r none = refl
scopes-back (s ∷ ss) r (more h hs) =
    let b = length-scope_bytes s h in
    let whole : (scope_bytes s ++ scopes_bytes ss) ++ r ≡ scope_bytes s ++ (scopes_bytes ss ++ r) = append_assoc (scope_bytes s) (scopes_bytes ss) r in
    ap (λ (l : List ℕ). scopes_at l 0 (suc (length ss))) whole
    ∙ ap₂ (λ (x : Scope) (y : List Scope). x ∷ y) (scope-back s (scopes_bytes ss ++ r))
    (scopes-shift (scope_bytes s) (scopes_bytes ss ++ r) 72 0 (length ss) (omega arith) ∙ scopes-back ss r hs)

fill-scopes : (n : ℕ) (ss : List Scope) (r : List ℕ) → Roomy ss → scopes_at (fill n (scopes_bytes ss) ++ r) 0 (length ss) ≡ ss
unfolding fill
fill-scopes n ss r h =
    ap (λ (l : List ℕ). scopes_at l 0 (length ss)) (append_assoc (scopes_bytes ss) (replicate (n - length (scopes_bytes ss)) 0) r)
    ∙ scopes-back ss (replicate (n - length (scopes_bytes ss)) 0 ++ r) h

module _ (a : Acl) (h : RoomyAcl a) where
  scopes-fit : length (scopes_bytes a.scopes) ≤ 288
  scopes-fit = let f = h.few in omega (arith, length-scopes_bytes a.scopes h.values)

  pub length-acl_bytes : length (acl_bytes a) ≡ 368
  unfolding acl_bytes acl_head
  length-acl_bytes =
      let w = length-word a.identity in
      let k = length-fill 64 a.key h.key_fits in
      let s = length-fill 288 (scopes_bytes a.scopes) scopes-fit in
      simp length-append (omega arith)

  acl-back : (r : List ℕ) → acl_at (acl_bytes a ++ r) 0 ≡ a
  unfolding acl_at acl_bytes acl_head word_bytes be32
  acl-back r =
      let w = word_bytes a.identity in
      let rest = fill 288 (scopes_bytes a.scopes) in
      let head = w ++ (length a.key ∷ length a.scopes ∷ 0 ∷ 0 ∷ 0 ∷ 0 ∷ 0 ∷ 0 ∷ []) in
      let tail = length a.key ∷ length a.scopes ∷ 0 ∷ 0 ∷ 0 ∷ 0 ∷ 0 ∷ 0 ∷ (fill 64 a.key ++ rest) in
      let kf = length-fill 64 a.key h.key_fits in
      let id : word_at (acl_bytes a ++ r) 0 ≡ a.identity =
      ap (λ (l : List ℕ). word_at l 0) (append_assoc w tail r) ∙ word_back a.identity (tail ++ r) in
      let key : bytes_at (acl_bytes a ++ r) 16 (length a.key) ≡ a.key =
      bytes-shift head ((fill 64 a.key ++ rest) ++ r) 16 0 (length a.key) refl
      ∙ ap (λ (l : List ℕ). bytes_at l 0 (length a.key)) (append_assoc (fill 64 a.key) rest r)
      ∙ front-fill 64 a.key (rest ++ r) in
      let sc : scopes_at (acl_bytes a ++ r) 80 (length a.scopes) ≡ a.scopes =
      scopes-shift head ((fill 64 a.key ++ rest) ++ r) 80 64 (length a.scopes) refl
      ∙ ap (λ (l : List ℕ). scopes_at l 64 (length a.scopes)) (append_assoc (fill 64 a.key) rest r)
      ∙ scopes-shift (fill 64 a.key) (rest ++ r) 64 0 (length a.scopes) (omega arith)
      ∙ fill-scopes 288 a.scopes r h.values in
      λ i. record { identity = id i; key = key i; scopes = sc i }

pub length-acls_bytes : (xs : List Acl) → RoomyAcls xs → length (acls_bytes xs) ≡ length xs * 368
unfolding acls_bytes
length-acls_bytes [] none = refl
length-acls_bytes (x ∷ xs) (more h hs) =
    let ih = length-acls_bytes xs hs in
    let b = length-acl_bytes x h in
    simp length-append (omega arith)

acls-back : (xs : List Acl) (r : List ℕ) → RoomyAcls xs → acls_at (acls_bytes xs ++ r) 0 (length xs) ≡ xs
unfolding acls_at acls_bytes
acls-back [] r none = refl
acls-back (x ∷ xs) r (more h hs) =
    let b = length-acl_bytes x h in
    let whole : (acl_bytes x ++ acls_bytes xs) ++ r ≡ acl_bytes x ++ (acls_bytes xs ++ r) = append_assoc (acl_bytes x) (acls_bytes xs) r in
    ap (λ (l : List ℕ). acls_at l 0 (suc (length xs))) whole
    ∙ ap₂ (λ (y : Acl) (ys : List Acl). y ∷ ys) (acl-back x h (acls_bytes xs ++ r))
    (acls-shift (acl_bytes x) (acls_bytes xs ++ r) 368 0 (length xs) (omega arith) ∙ acls-back xs r hs)

-- what a good table gives
pub roomy-scope : (s : Scope) → scope_good s ≡ true → length s.value ≤ 64
unfolding scope_good
roomy-scope s g = leb-true (length s.value) 64 (both-fst _ (mask_good s.permissions) (both-snd (offset_good s.offset) _ g))

roomy-scopes : (ss : List Scope) → all scope_good ss ≡ true → Roomy ss
unfolding all
roomy-scopes [] g = none
roomy-scopes (s ∷ ss) g =
    more (roomy-scope s (both-fst (scope_good s) (all scope_good ss) g))
    (roomy-scopes ss (both-snd (scope_good s) (all scope_good ss) g))

pub roomy-acl : (a : Acl) → acl_good a ≡ true → RoomyAcl a
unfolding acl_good
roomy-acl a g =
    let t = both-snd (within 1 64 (length a.key)) (within 1 4 (length a.scopes) && all scope_good a.scopes) g in
    record {
      key_fits = within-high 1 64 (length a.key) (both-fst _ (within 1 4 (length a.scopes) && all scope_good a.scopes) g);
      few = within-high 1 4 (length a.scopes) (both-fst _ (all scope_good a.scopes) t);
      values = roomy-scopes a.scopes (both-snd (within 1 4 (length a.scopes)) _ t);
    }

pub roomy-acls : (xs : List Acl) → acls_good xs ≡ true → RoomyAcls xs
unfolding acls_good
roomy-acls [] g = none
roomy-acls (x ∷ xs) g =
    more (roomy-acl x (both-fst _ (is_nobody (find_from 0 x.identity xs) && acls_good xs) g))
    (roomy-acls xs (both-snd (is_nobody (find_from 0 x.identity xs)) (acls_good xs) (both-snd (acl_good x) _ g)))

pub roomy-table : (t : Table) → table_good t ≡ true → RoomyTable t
unfolding table_good
roomy-table t g =
    let xs = t.acls in
    record {
      few = within-high 1 8 (length xs) (both-fst _ (acls_good xs) g);
      places = roomy-acls xs (both-snd (within 1 8 (length xs)) _ g);
    }

pub roomy-back : (t : Table) → RoomyTable t → table_of (table_bytes t) ≡ t
unfolding table_of table_bytes table_head word_bytes be32 fill
roomy-back t g =
    let w = word_bytes t.cluster_version in
    let xs = t.acls in
    let zs : List ℕ = replicate (2944 - length (acls_bytes xs)) 0 in
    let head = w ++ (length xs ∷ 0 ∷ 0 ∷ 0 ∷ 0 ∷ 0 ∷ 0 ∷ 0 ∷ []) in
    let c : word_at (table_bytes t) 0 ≡ t.cluster_version = word_back t.cluster_version (length xs ∷ 0 ∷ 0 ∷ 0 ∷ 0 ∷ 0 ∷ 0 ∷ 0 ∷ fill 2944 (acls_bytes xs)) in
    let s : acls_at (table_bytes t) 16 (length xs) ≡ xs = acls-shift head (acls_bytes xs ++ zs) 16 0 (length xs) refl ∙ acls-back xs zs g.places in
    λ i. record { cluster_version = c i; acls = s i }

-- a good table, read back from its record, is that table
pub table-back : (t : Table) → table_good t ≡ true → table_of (table_bytes t) ≡ t
table-back t g = roomy-back t (roomy-table t g)

pub length-table_bytes : (t : Table) → RoomyTable t → length (table_bytes t) ≡ 2960
unfolding table_bytes table_head
length-table_bytes t g =
    let xs = t.acls in
    let n = g.few in
    let k = length-acls_bytes xs g.places in
    let f = length-fill 2944 (acls_bytes xs) (omega arith) in
    let w = length-word t.cluster_version in
    simp length-append (omega arith)

-- the cluster version set anew: all else of the table stands
pub version-set : (l : List ℕ) (w : ℕ) → 8 ≤ length l → table_of (with_cluster_version l w) ≡ record { cluster_version = w; acls = (table_of l).acls }
unfolding with_cluster_version table_of
version-set l w h =
    let p = word_bytes w in
    let q = take 8 l in
    let d = drop 8 l in
    let lp = length-word w in
    let lq = length-take-le 8 l h in
    let whole = take-append-drop 8 l in
    let n : get_or (p ++ d) 8 0 ≡ get_or l 8 0 =
    get_d-shift p d 8 0 (omega arith) ∙ sym (get_d-shift q d 8 0 (omega arith)) ∙ ap (λ (x : List ℕ). get_or x 8 0) whole in
    let s : acls_at (p ++ d) 16 (get_or (p ++ d) 8 0) ≡ acls_at l 16 (get_or l 8 0) =
    ap (acls_at (p ++ d) 16) n
    ∙ acls-shift p d 16 8 (get_or l 8 0) (omega arith) ∙ sym (acls-shift q d 16 8 (get_or l 8 0) (omega arith))
    ∙ ap (λ (x : List ℕ). acls_at x 16 (get_or l 8 0)) whole in
    let c : word_at (p ++ d) 0 ≡ w = word_back w d in
    λ i. record { cluster_version = c i; acls = s i }

-- a good record stays good
pub version-good : (l : List ℕ) (w : ℕ) → 8 ≤ length l → table_good (table_of (with_cluster_version l w)) ≡ table_good (table_of l)
unfolding table_good
version-good l w h = ap table_good (version-set l w h)

-- Format's table is good for host keys of 1 to 64 bytes
pub host-good : (key : List ℕ) → 1 ≤ length key → length key ≤ 64 → table_good (host_table key) ≡ true
unfolding table_good acls_good acl_good all offset_good scope_good mask_good find_from
host-good key h k = simp (le-leb 1 (length key) h, le-leb (length key) 64 k)
