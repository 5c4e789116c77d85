-- The parts of a log in the runs that a writer makes of them, from its end to its front.
use Rattle.std.specs.Prelude.{ℕ, ◌-◌, ◌≡◌, refl, Bool, true, false, cond, List, [], ◌++◌, get_or}
use Rattle.std.proofs.Common.{sym, ap}
use Rattle.fields_wire.specs.Varint.{varint_up}
use Rattle.fields_schema.specs.Tree.{map_o, guard, done, int, fix}
use Rattle.fields_encoding.specs.Encode.{int_field, head, len_field, float_bytes, fix_field, encode, sub_o, each_sub}
use Rattle.fields_write_bytes.specs.Pushed.{Pushed}
use Rattle.fields_write_bytes.proofs.PushedLaws.{◌onto◌, again, pushed-sub}
use Rattle.fields_write_bytes.proofs.TreePartsLaws.{int-last, fix-last, sub-last, int-pushed, sub_o-pushed, each_sub-pushed, sub-none, sub-some}
use Rattle.log_readings.specs.Lent.{Sample}
use Rattle.base_definitions.specs.Lists.{map_l}
use Rattle.protocol.specs.Judge.{Capacity, log, capacity_of, log_with}
use Rattle.protocol.specs.Reply.{sample_tree, capacity_tree, limits_tree, log_tree}
use Rattle.reply_command.specs.Parts.{body_bytes}
use Rattle.reply_log_body.specs.LogSizes.{sizes, samples_if}

pub sizes-law : {r c b a at : ℕ} {l m1 m2 m3 n : List ℕ} → Pushed r c (int_field 1 64) m3 n → Pushed c b (int_field 2 384) m2 m3 → Pushed b a (int_field 3 16) m1 m2
    → Pushed a at (int_field 4 32) l m1 → Pushed r at (encode sizes) l n
sizes-law w4 w3 w2 w1 =
    int-pushed 1 64 (int 2 384 (int 3 16 (int 4 32 done))) w4
    (int-pushed 2 384 (int 3 16 (int 4 32 done)) w3 (int-pushed 3 16 (int 4 32 done) w2 (int-last 4 32 w1)))

limits-are : encode sizes ++ encode (int 8 8192 (int 9 32 (int 10 8 done))) ≡ encode limits_tree
unfolding encode varint_up
limits-are = refl

pub limits-law : {r d c b a at : ℕ} {l m1 m2 m3 m4 n : List ℕ} → Pushed r d (head 8 (at - d)) m4 n → Pushed d c (encode sizes) m3 m4
    → Pushed c b (int_field 8 8192) m2 m3 → Pushed b a (int_field 9 32) m1 m2 → Pushed a at (int_field 10 8) l m1 → Pushed r at (len_field 8 (encode limits_tree)) l n
limits-law p q w3 w2 w1 =
    pushed-sub 8 p
    (again limits-are (q onto int-pushed 8 8192 (int 9 32 (int 10 8 done)) w3 (int-pushed 9 32 (int 10 8 done) w2 (int-last 10 8 w1))))

pub capacity-law : {r b a at : ℕ} {l m1 m2 n : List ℕ} (c : Capacity) → Pushed r b (head 4 (at - b)) m2 n → Pushed b a (int_field 4 c.nominal) m1 m2
    → Pushed a at (fix_field 5 (float_bytes c.portion)) l m1 → Pushed r at (len_field 4 (encode (capacity_tree c))) l n
capacity-law c p q w =
    pushed-sub 4 p (int-pushed 4 c.nominal (fix 5 (float_bytes c.portion) done) q (fix-last 5 (float_bytes c.portion) w))

-- a part that is asked for, and one that is not
pub limits-asked : (b : Bool) → b ≡ true → len_field 8 (encode limits_tree) ≡ encode (sub_o 8 (guard b limits_tree) done)
limits-asked b e = sub-some 8 limits_tree (guard b limits_tree) (ap (λ (b : Bool). guard b limits_tree) e)

pub limits-left : (b : Bool) → b ≡ false → [] ≡ encode (sub_o 8 (guard b limits_tree) done)
limits-left b e = sub-none 8 (guard b limits_tree) (ap (λ (b : Bool). guard b limits_tree) e)

pub capacity-asked : (b : Bool) (c : Capacity) → b ≡ true → len_field 4 (encode (capacity_tree c)) ≡ encode (sub_o 4 (map_o capacity_tree (guard b c)) done)
capacity-asked b c e = sub-some 4 (capacity_tree c) (map_o capacity_tree (guard b c)) (ap (λ (b : Bool). map_o capacity_tree (guard b c)) e)

pub capacity-left : (b : Bool) (c : Capacity) → b ≡ false → [] ≡ encode (sub_o 4 (map_o capacity_tree (guard b c)) done)
capacity-left b c e = sub-none 4 (map_o capacity_tree (guard b c)) (ap (λ (b : Bool). map_o capacity_tree (guard b c)) e)

pub samples-asked : (n : ℕ) (b : Bool) (xs : List Sample) → b ≡ true
    → encode (each_sub n (map_l sample_tree xs) done) ≡ encode (each_sub n (map_l sample_tree (cond b xs [])) done)
samples-asked n b xs e = ap (λ (b : Bool). encode (each_sub n (map_l sample_tree (cond b xs [])) done)) (sym e)

pub samples-left : (n : ℕ) (b : Bool) (xs : List Sample) → b ≡ false → [] ≡ encode (each_sub n (map_l sample_tree (cond b xs [])) done)
unfolding encode each_sub map_l
samples-left n b xs e = ap (λ (b : Bool). encode (each_sub n (map_l sample_tree (cond b xs [])) done)) (sym e)

-- a body with a log
pub log-law : {r e d c b a at u t : ℕ} {l m1 m2 m3 m4 m5 n : List ℕ} (store readings : List ℕ) (utilized heated filled limited : Bool)
    → u ≡ get_or readings 1 0 → t ≡ get_or readings 0 0 → Pushed r e (head 2 (at - e)) m5 n → Pushed e d (head 6 (at - d)) m4 m5
    → Pushed d c (encode (each_sub 2 (samples_if utilized false readings 4 u) done)) m3 m4
    → Pushed c b (encode (each_sub 3 (samples_if heated true readings 0 t) done)) m2 m3
    → Pushed b a (encode (sub_o 4 (map_o capacity_tree (guard filled (capacity_of store))) done)) m1 m2
    → Pushed a at (encode (sub_o 8 (guard limited limits_tree) done)) l m1 → Pushed r at (body_bytes (log (log_with store readings utilized heated filled limited))) l n
unfolding log_with
log-law store readings u h f g x y p q w4 w3 w2 w1 =
    let us = samples_if u false readings 4 (get_or readings 1 0) in
    let ts = samples_if h true readings 0 (get_or readings 0 0) in
    let fourth = sub_o 8 (guard g limits_tree) done in
    let third = sub_o 4 (map_o capacity_tree (guard f (capacity_of store))) fourth in
    let second = each_sub 3 ts third in
    pushed-sub 2 p (sub-last 6 (log_tree (log_with store readings u h f g)) q
    (each_sub-pushed 2 us second (again (ap (λ k. encode (each_sub 2 (samples_if u false readings 4 k) done)) x) w4)
    (each_sub-pushed 3 ts third (again (ap (λ k. encode (each_sub 3 (samples_if h true readings 0 k) done)) y) w3)
    (sub_o-pushed 4 (map_o capacity_tree (guard f (capacity_of store))) fourth w2 w1))))
