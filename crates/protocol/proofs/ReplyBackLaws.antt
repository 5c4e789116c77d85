-- A reply whose parts are in range, read back by the field rules for replies, says what it was made of and nothing else.
use Rattle.std.specs.Prelude.{ℕ, zero, suc, ◌+◌, ◌^◌, ◌≤◌, ◌<◌, ◌≡◌, refl, Bool, true, false, ◌&&◌, length, ltb}
use native.Mathlib.Omega.{arith}
use Rattle.std.proofs.Common.{sym, ◌∙◌, subst, length-append, ltb-true}
use Rattle.std.proofs.Math.Path.{ap}
use mathlib.Core.List.{List, [], ◌∷◌, append-nil}
use Rattle.std.proofs.Math.Option.{Option, none, some}
use Rattle.base_definitions.specs.BigEndian.{be32}
use Rattle.fields_schema.specs.Rules.{names_of}
use Rattle.fields_schema.specs.Tree.{map_o, guard, is_int32, among, Tree, done, int}
use Rattle.fields_schema.specs.declared.Kind.TheVariants.{Message, HmacAuth, Header, KeyValue, ReplyCommand, ReplyBody, ReplyRange, ReplyGetLog, Utilization, Temperature, Capacity, Limits, Status}
use Rattle.fields_schema.specs.declared.Names.TheVariants.{Algorithm, StatusCode}
use Rattle.fields_encoding.specs.Encode.{encode, int_if, raw_if, float_bytes, each, sub_o, each_sub, FitsAfter, Fits, ends}
use Rattle.fields_encoding.specs.Cost.{cost, AtMost, CostMost}
use Rattle.fields_encoding.proofs.CostLaws.{encode-cost, int_o-cost, int_if-cost, raw_if-cost, fix_o-cost, each-cost, sub_o-cost, each_sub-cost, total-most}
use Rattle.fields_encoding.proofs.FitsLaws.{number, fit_int, fit-raw, fit-sub, fit-int_o, fit-int_if, fit-raw_if, fit-fix, fit-fix_o, fit-each, fit-sub_o, fit-each_sub}
use Rattle.fields_encoding.specs.AllFit.{AllFit}
use Rattle.fields_encoding.proofs.BackLaws.{read_back}
use Rattle.fields_encoding.proofs.BasicLaws.{never, guarded}
use Rattle.protocol.specs.Frame.{frame, frame_of}
use Rattle.protocol.proofs.FrameLaws.{frame-read}
use Rattle.protocol.specs.Judge as judging
use Rattle.log_readings.specs.Lent.{Sample}
use Rattle.base_definitions.specs.Lists.{map_l}
use Rattle.protocol.specs.Judge.{Log}
use Rattle.protocol.proofs.DigestLaws.{hmac-length}
use Rattle.protocol.specs.Reply.{sample_tree, capacity_tree, limits_tree, log_tree, header_tree, body_tree, status_tree, command_tree, signed_tree, closing_command, closing_tree, signed_reply, closing_reply}
use Rattle.protocol.specs.ReplyFits.{CodeNamed, TypeFits, ShortNames, LogFits, BodyFits, bares, key_values, ranges, logs, InRange}
use Rattle.protocol.specs.Says.{Says}

both_true : (s t : Bool) → (s && t) ≡ true → (s ≡ true) × (t ≡ true)
both_true true t h = (refl, h)
both_true false t h = never (cc)

-- by a computed test
pub known-code : {code : ℕ} → (among code (names_of StatusCode) && ltb code (2 ^ 64)) ≡ true → CodeNamed code
known-code {code} e =
    let p = both_true (among code (names_of StatusCode)) (ltb code (2 ^ 64)) e in record { named = p.0; small = ltb-true code (2 ^ 64) p.1 }

pub known-type : {type : ℕ} → (ltb type (2 ^ 64) && is_int32 type) ≡ true → TypeFits type
known-type {type} e = let p = both_true (ltb type (2 ^ 64)) (is_int32 type) e in record { word = ltb-true type (2 ^ 64) p.0; enum = p.1 }

frame-length : (m v : List ℕ) → length (frame m v) ≡ 9 + length m + length v
unfolding frame be32
frame-length m v = omega (arith, length-append m v)

-- ---- the command

status-fits : (code : ℕ) → CodeNamed code → (ns : List ℕ) → among 3 ns ≡ false → FitsAfter ReplyCommand ns (status_tree code)
status-fits code h ns e =
    fit-sub Status (number refl) (omega arith) refl (fit_int (number refl) h.small (guarded h.named) ends) ends

header-fits : (c : ℕ) (a : Option ℕ) (y : ℕ) → c < 2 ^ 64 → ((v : ℕ) → a ≡ some v → v < 2 ^ 64) → TypeFits y → Fits Header (header_tree c a y)
header-fits c a y l f h =
    fit_int (number refl) l refl (fit-int_o a (number refl) (λ v e. (f v e, refl)) (fit_int (number refl) h.word (guarded h.enum) ends))

-- a named algorithm
algorithm-named : (a : ℕ) → 1 ≤ a → a ≤ 6 → among a (names_of Algorithm) ≡ true
algorithm-named zero l m = absurd (omega arith)
algorithm-named (suc zero) l m = refl
algorithm-named (suc (suc zero)) l m = refl
algorithm-named (suc (suc (suc zero))) l m = refl
algorithm-named (suc (suc (suc (suc zero)))) l m = refl
algorithm-named (suc (suc (suc (suc (suc zero))))) l m = refl
algorithm-named (suc (suc (suc (suc (suc (suc zero)))))) l m = refl
algorithm-named (suc (suc (suc (suc (suc (suc (suc a))))))) l m = absurd (omega arith)

-- the keyValue of a reply
abbrev entry_tree : List ℕ → List ℕ → List ℕ → ℕ → Tree
entry_tree k v g a = raw_if 3 k (raw_if 4 v (raw_if 5 g (int_if 6 a done)))

entry-cost : (k v g : List ℕ) (a : ℕ) → length k ≤ 64 → length v ≤ 16 → length g ≤ 32 → cost (entry_tree k v g a) ≤ 172
entry-cost k v g a hk hv hg =
    let p = raw_if-cost 3 k (raw_if 4 v (raw_if 5 g (int_if 6 a done))) in
    let q = raw_if-cost 4 v (raw_if 5 g (int_if 6 a done)) in
    let r = raw_if-cost 5 g (int_if 6 a done) in
    omega (arith, int_if-cost 6 a done)

entry-fits : (k v g : List ℕ) (a : ℕ) → length k ≤ 64 → length v ≤ 16 → length g ≤ 32 → a ≤ 6 → Fits KeyValue (entry_tree k v g a)
entry-fits k v g a hk hv hg ha =
    fit-raw_if k (number refl) (omega arith) refl
    (fit-raw_if v (number refl) (omega arith) refl
    (fit-raw_if g (number refl) (omega arith) refl
    (fit-int_if a (number refl) (omega arith) (λ l. guarded (algorithm-named a l ha)) ends)))

range-cost : (ks : List (List ℕ)) → length ks ≤ 32 → AtMost 64 ks → cost (each 8 ks done) ≤ 2528
range-cost ks few short = omega (arith, each-cost 8 ks done, total-most 64 ks short)

-- the samples of a log
samples-cost : (rs : List Sample) → ShortNames rs → CostMost 40 (map_l sample_tree rs)
unfolding map_l
samples-cost [] h = record {}
samples-cost (r ∷ rs) h = (omega (arith, h.0, fix_o-cost 2 (map_o float_bytes r.value) done), samples-cost rs h.1)

samples-length : (rs : List Sample) → length (map_l sample_tree rs) ≡ length rs
unfolding map_l
samples-length [] = refl
samples-length (r ∷ rs) = ap suc (samples-length rs)

float-four : (o : Option ℕ) (b : List ℕ) → map_o float_bytes o ≡ some b → length b ≡ 4
float-four none b e = never (cc)
float-four (some v) b e = let q : float_bytes v ≡ b = cc in sym (ap length q)

utilizations-fit : (rs : List Sample) → ShortNames rs → AllFit Utilization (map_l sample_tree rs)
unfolding map_l
utilizations-fit [] h = record {}
utilizations-fit (r ∷ rs) h = (
  fit-raw (number refl) (omega (arith, h.0)) refl (fit-fix_o (map_o float_bytes r.value) (number refl) (λ b e. (float-four r.value b e, refl)) ends),
  utilizations-fit rs h.1,
)

temperatures-fit : (rs : List Sample) → ShortNames rs → AllFit Temperature (map_l sample_tree rs)
unfolding map_l
temperatures-fit [] h = record {}
temperatures-fit (r ∷ rs) h = (
  fit-raw (number refl) (omega (arith, h.0)) refl (fit-fix_o (map_o float_bytes r.value) (number refl) (λ b e. (float-four r.value b e, refl)) ends),
  temperatures-fit rs h.1,
)

limits-fit : Fits Limits limits_tree
limits-fit =
    fit_int (number refl) (omega arith) refl (fit_int (number refl) (omega arith) refl (fit_int (number refl) (omega arith) refl
    (fit_int (number refl) (omega arith) refl (fit_int (number refl) (omega arith) refl (fit_int (number refl) (omega arith) refl
    (fit_int (number refl) (omega arith) refl ends))))))

-- the capacity and the limits, where they are
capacity-part : (o : Option judging.Capacity) → ((c : judging.Capacity) → o ≡ some c → c.nominal < 2 ^ 64) → (s : Tree) → map_o capacity_tree o ≡ some s
    → (cost s ≤ 24) × Fits Capacity s
capacity-part none h s e = never (cc)
capacity-part (some c) h s e =
    let q : capacity_tree c ≡ s = cc in
    subst (λ t. (cost t ≤ 24) × Fits Capacity t) q (omega arith, fit_int (number refl) (h c refl) refl (fit-fix (number refl) refl refl ends))

limits-part : (b : Bool) (s : Tree) → guard b limits_tree ≡ some s → (cost s ≤ 105) × Fits Limits s
limits-part false s e = never (cc)
limits-part true s e = let q : limits_tree ≡ s = cc in subst (λ t. (cost t ≤ 105) × Fits Limits t) q (omega arith, limits-fit)

module _ {g : Log} (h : LogFits g) where
  abbrev capacity_sent : Option Tree
  capacity_sent = map_o capacity_tree g.capacity

  abbrev limits_sent : Option Tree
  limits_sent = guard g.limits limits_tree

  abbrev behind : Tree
  behind = sub_o 4 capacity_sent (sub_o 8 limits_sent done)

  behind-cost : cost behind ≤ 159
  behind-cost =
      omega (
        arith,
        sub_o-cost 4 24 capacity_sent (sub_o 8 limits_sent done) (λ s e. (capacity-part g.capacity h.nominal_word s e).0),
        sub_o-cost 8 105 limits_sent done (λ s e. (limits-part g.limits s e).0),
      )

  log-cost : cost (log_tree g) ≤ 489
  log-cost =
      let us = map_l sample_tree g.utilizations in
      let ts = map_l sample_tree g.temperatures in
      let a = each_sub-cost 2 40 us (each_sub 3 ts behind) (samples-cost g.utilizations h.utilizations_named) in
      let b = each_sub-cost 3 40 ts behind (samples-cost g.temperatures h.temperatures_named) in
      let u = samples-length g.utilizations in
      let t = samples-length g.temperatures in
      let fu = h.few_utilizations in
      let ft = h.few_temperatures in
      omega (arith, behind-cost)

  log-fits : Fits ReplyGetLog (log_tree g)
  log-fits =
      fit-each_sub Utilization 40 (map_l sample_tree g.utilizations) (number refl) (omega arith) (samples-cost g.utilizations h.utilizations_named) (λ s b. refl)
      (utilizations-fit g.utilizations h.utilizations_named)
      (fit-each_sub Temperature 40 (map_l sample_tree g.temperatures) (number refl) (omega arith) (samples-cost g.temperatures h.temperatures_named) (λ s b. refl)
      (temperatures-fit g.temperatures h.temperatures_named)
      (fit-sub_o Capacity capacity_sent (number refl)
      (λ s e. let p = capacity-part g.capacity h.nominal_word s e in (omega (arith, p.0), p.1)) (λ b. refl)
      (fit-sub_o Limits limits_sent (number refl) (λ s e. let p = limits-part g.limits s e in (omega (arith, p.0), p.1)) (λ b. refl) ends)))

-- what a body adds to the cost of what follows it
body-cost : {b : judging.ReplyBody} (t : Tree) → BodyFits b → cost (body_tree b t) ≤ 2558 + cost t
body-cost t bares = omega arith
body-cost t (key_values {k = k} {v = v} {g = g} {a = a} hk hv hg ha) = omega (arith, entry-cost k v g a hk hv hg)
body-cost t (logs h) = omega (arith, log-cost h)
body-cost t (ranges {ks = ks} few short) = omega (arith, range-cost ks few short)

body-fits : {b : judging.ReplyBody} → BodyFits b → (code : ℕ) → CodeNamed code → FitsAfter ReplyCommand (1 ∷ []) (body_tree b (status_tree code))
body-fits bares code h = status-fits code h (1 ∷ []) refl
body-fits (key_values {k = k} {v = v} {g = g} {a = a} hk hv hg ha) code h =
    fit-sub ReplyBody (number refl) (omega (arith, entry-cost k v g a hk hv hg)) refl
    (fit-sub KeyValue (number refl) (omega (arith, entry-cost k v g a hk hv hg)) refl (entry-fits k v g a hk hv hg ha) ends)
    (status-fits code h (2 ∷ 1 ∷ []) refl)
body-fits (logs g) code h =
    fit-sub ReplyBody (number refl) (omega (arith, log-cost g)) refl
    (fit-sub ReplyGetLog (number refl) (omega (arith, log-cost g)) refl (log-fits g) ends)
    (status-fits code h (2 ∷ 1 ∷ []) refl)
body-fits (ranges {ks = ks} few short) code h =
    fit-sub ReplyBody (number refl) (omega (arith, range-cost ks few short)) refl
    (fit-sub ReplyRange (number refl) (omega (arith, range-cost ks few short)) refl (fit-each 64 ks (number refl) (omega arith) short (λ s b. refl) ends) ends)
    (status-fits code h (2 ∷ 1 ∷ []) refl)

header-cost : (c : ℕ) (a : Option ℕ) (y : ℕ) → cost (header_tree c a y) ≤ 45
header-cost c a y = omega (arith, int_o-cost 6 a (int 7 y done))

module _ {i c : ℕ} {a : Option ℕ} {y : ℕ} {b : judging.ReplyBody} {code : ℕ} {value : List ℕ} (h : InRange i c a y b code value) (key : List ℕ) where
  command-fits : Fits ReplyCommand (command_tree c a y b code)
  command-fits =
      fit-sub Header (number refl) (omega (arith, header-cost c a y)) refl (header-fits c a y h.connection_word h.ack_word h.type_fits)
      (body-fits h.body_good code h.code_named)

  command-length : length (encode (command_tree c a y b code)) ≤ 2648
  command-length = omega (arith, encode-cost command-fits, header-cost c a y, body-cost (status_tree code) h.body_good)

  message-fits : Fits Message (signed_tree i key (encode (command_tree c a y b code)))
  message-fits =
      let t = encode (command_tree c a y b code) in
      fit_int (number refl) (omega arith) refl
      (fit-sub HmacAuth (number refl) (omega (arith, hmac-length key t)) refl
      (fit_int (number refl) h.identity_word refl (fit-raw (number refl) (omega (arith, hmac-length key t)) refl ends))
      (fit-raw (number refl) (omega (arith, command-length)) refl ends))

  pub message-length : length (encode (signed_tree i key (encode (command_tree c a y b code)))) ≤ 2743
  message-length = omega (arith, encode-cost message-fits, command-length, hmac-length key (encode (command_tree c a y b code)))

  -- a signed reply says what it was made of, and nothing else
  pub signed-says : Says (signed_reply i key (command_tree c a y b code) value) (signed_tree i key (encode (command_tree c a y b code))) (command_tree c a y b code) value
  unfolding signed_reply
  signed-says =
      let m = encode (signed_tree i key (encode (command_tree c a y b code))) in
      record {
        bytes = m;
        command_bytes = encode (command_tree c a y b code);
        framed = ap frame_of (sym (append-nil (frame m value))) ∙ frame-read [] (record { message = omega (arith, message-length); value = omega (arith, h.value_short) });
        message_read = read_back message-fits;
        carries = refl;
        command_read = read_back command-fits;
        short = omega (arith, frame-length m value, message-length, h.value_short);
      }

-- ---- closing replies

module _ (c code : ℕ) (word : c < 2 ^ 64) (named : CodeNamed code) where
  closing-fits : Fits ReplyCommand (closing_command c code)
  closing-fits = fit-sub Header (number refl) (omega arith) refl (fit_int (number refl) word refl ends) (status-fits code named (1 ∷ []) refl)

  closing-message : Fits Message (closing_tree (encode (closing_command c code)))
  closing-message = fit_int (number refl) (omega arith) refl (fit-raw (number refl) (omega (arith, encode-cost closing-fits)) refl ends)

  pub closing-length : length (encode (closing_tree (encode (closing_command c code)))) ≤ 90
  closing-length = omega (arith, encode-cost closing-message, encode-cost closing-fits)

  pub closing-says : Says (closing_reply c code) (closing_tree (encode (closing_command c code))) (closing_command c code) []
  unfolding closing_reply
  closing-says =
      let m = encode (closing_tree (encode (closing_command c code))) in
      record {
        bytes = m;
        command_bytes = encode (closing_command c code);
        framed = ap frame_of (sym (append-nil (frame m []))) ∙ frame-read [] (record { message = omega (arith, closing-length); value = omega arith });
        message_read = read_back closing-message;
        carries = refl;
        command_read = read_back closing-fits;
        short = omega (arith, frame-length m [], closing-length);
      }
