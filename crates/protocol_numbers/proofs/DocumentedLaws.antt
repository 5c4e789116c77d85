-- The definitions behave as the documents' numbers say.
use Rattle.std.specs.Prelude.{ℕ, ◌+◌, ◌-◌, ◌*◌, ◌/◌, ◌%◌, ◌≤◌, ◌<◌, ◌≡◌, refl, Bool, true, false, cond, ◌&&◌, List, [], ◌∷◌, ◌++◌, eqb, leb, length, drop, get_or, replicate}
use Rattle.std.proofs.Common.{arith, sym, ap, ◌∙◌, drop_at, lt-ltb, le-ltb, le-leb, eq-eqb}
use Rattle.std.proofs.Math.Option.{Option, none, some}
use Rattle.std.proofs.lemmas.List.{length-replicate}
use Rattle.std.proofs.lemmas.Bool.{lt-leb}
use Rattle.base_definitions.specs.Bits.{bit, with_bit}
use Rattle.base_definitions.specs.Options.{or_else}
use Rattle.base_definitions.specs.Lists.{all, any, map_l, within, is_empty}
use Rattle.signature_sha1_compression.specs.Compression.{add, f, K, turned, step, next_w, grow, words, W, rounds, add_all, compress}
use Rattle.signature_sha1.specs.Sha1.{block, chain, be, zeros, pad, overall, finish, bytes, sha1_words, sha1, sha1_answer}
use Rattle.signature_sha1.specs.Sha1Laws.{pad-length}
use Rattle.signature_hmac.specs.Hmac.{masked, keyed_words, hmac_words, hmac, hmac_answer}
use Rattle.fields_wire.specs.Varint.{varint_up}
use Rattle.fields_wire.specs.Wire.{varint_in, value_of, read_field, fields_in, fields_of}
use Rattle.fields_schema.specs.Tree.{items, level, open_all, listed_in, listed}
use Rattle.fields_encoding.specs.Encode.{encode, int_if, raw_if, fix_o, each, sub_o, each_sub}
use Rattle.store_block.specs.Order.{cmp}
use Rattle.store_block.specs.Entry.{Entry}
use Rattle.store_block.specs.Block.{decode, fit_test}
use Rattle.store_layout.specs.Store.{size_good, store_good}
use Rattle.access_record.specs.Table as access
use Rattle.access_record.specs.Table.{named, mask_of, mask_good, offset_good, scope_good, acl_good, find_from, acls_good, table_good}
use Rattle.access_permission.specs.Permission.{fits_at, fits, holds, grants, permits, permits_any}
use Rattle.log_binary32.specs.Binary32.{field_units, digits_in, pattern_at, rounded, less_thirty_two, minus32, times5, over9}
use Rattle.log_binary32.specs.Celsius.{celsius_of}
use Rattle.log_readings.specs.Lent.{bits_at, lent_at, places_from, all_named, readings_good}
use Rattle.store_rescue.specs.State.{blank_test, state_of}
use Rattle.store_rescue.specs.Rescue.{report, report_byte, rescue_of}
use Rattle.protocol.specs.State.{State, table, accepted}
use Rattle.protocol.specs.Command.{Body, Command}
use Rattle.protocol.specs.Operation.{Asked, asked, asked_in, asked_by}
use Rattle.protocol.specs.Frame.{more, frame_of}
use Rattle.protocol.specs.Reading.{read_message, security_once, reading_by}
use Rattle.protocol.specs.Judge.{Result, key_value_good, range_good, types_good, permissions_good, acl_read, security_good, algorithms_good, broken, log_with, step7, step8, step9, step10, judge, set_up}
use Rattle.protocol.specs.Box.{box}
use Rattle.protocol.proofs.CallRefusalLaws as refusals
use Rattle.protocol.specs.Format.{format_refusal}
use Rattle.protocol.specs.Passes.{Passes}
use Rattle.protocol_numbers.specs.Documented.{OperationTable, ReadCodes, JudgedCodes, Limit, Step8, OperationCodes, FrameNumbers, WireNumbers, FieldNumbers, ReplyNumbers, LogNumbers, AnswerRefusals, FormatNumbers, BlockNumbers, RescueNumbers, ReportBytes, RoundNumbers, DigestNumbers, Documented, OperationRow, row_of, Chooses, by_row, else_none, without, acls, scopes}

padding : (n : ℕ) → drop (length (pad n) - 8) (pad n) ≡ be 8 (8 * n)
unfolding pad
padding n =
    let front : List ℕ = 0x80 ∷ replicate (zeros n) 0 in
    let k : length front ≡ length (pad n) - 8 = simp length-replicate (omega (arith, pad-length n)) in
    drop_at front (be 8 (8 * n)) (length (pad n) - 8) k

whole-padded : (n : ℕ) → (n + length (pad n)) % 64 ≡ 0
unfolding zeros
whole-padded n = rw (pad-length n) (omega arith)

short-padded : (n : ℕ) → length (pad n) ≤ 72
unfolding zeros
short-padded n = rw (pad-length n) (omega arith)

first-padded : (n : ℕ) → get_or (pad n) 0 0 ≡ 0x80
unfolding pad
first-padded n = refl

pads-of : (text : List ℕ) → hmac [] text ≡ sha1 (replicate 64 0x5c ++ sha1 (replicate 64 0x36 ++ text))
unfolding hmac hmac_words keyed_words masked sha1
pads-of text = refl

round : (t x y z : ℕ) → RoundNumbers t x y z
unfolding f K
round t x y z = record {
  first = λ l. (rw (lt-ltb t _ l), rw (lt-ltb t _ l));
  second = λ k l. (rw (le-ltb t _ k, lt-ltb t _ l), rw (le-ltb t _ k, lt-ltb t _ l));
  third = λ k l. (rw (le-ltb t 20 (omega arith), le-ltb t _ k, lt-ltb t _ l), rw (le-ltb t 20 (omega arith), le-ltb t _ k, lt-ltb t _ l));
  fourth = λ k l. (
    rw (le-ltb t 20 (omega arith), le-ltb t 40 (omega arith), le-ltb t _ k),
    rw (le-ltb t 20 (omega arith), le-ltb t 40 (omega arith), le-ltb t _ k),
  );
}

computed : (key text : List ℕ) → DigestNumbers key text
unfolding add f K turned step next_w grow words W rounds add_all compress block chain be zeros pad overall finish bytes sha1_words sha1 sha1_answer hmac_words hmac_answer
computed key text = record {
  eighty = λ h m. refl;
  start = refl;
  padded = λ n. (first-padded n, whole-padded n, short-padded n, padding n);
  example = refl;
  text_most = λ l. rw (lt-ltb (8 * length text) 18446744073709551616 (omega arith));
  text_over = λ l. rw (le-ltb (8 * length text) 18446744073709551616 (omega arith));
  pads = pads-of text;
  key_kept = λ l. rw (le-leb (length key) _ l);
  key_hashed = λ l. rw (lt-leb (length key) _ l);
  hmac_most = λ k l. rw (le-leb (length key) _ k, le-leb (length text) _ l);
  key_over = λ k. rw (lt-leb (length key) _ k);
  hmac_over = λ k l. rw (le-leb (length key) _ k, lt-leb (length text) _ l);
}

and-false : (b : Bool) → (b && false) ≡ false
and-false true = refl
and-false false = refl

whole-blocks : (l : List ℕ) (n : ℕ) → length l ≡ 512 * n → length l / 512 ≡ n
whole-blocks l n e = omega arith

size-most : (l : List ℕ) (n : ℕ) → length l ≡ 512 * n → 1 ≤ n → n ≤ 128 → size_good l ≡ true
unfolding size_good
size-most l n e k m =
    rw (whole-blocks l n e, le-leb 1 n k, le-leb n 128 m, e) (eq-eqb (n * 512) (512 * n) (omega arith))

size-over : (l : List ℕ) (n : ℕ) → length l ≡ 512 * n → 128 < n → (size_good l ≡ false) × (store_good l ≡ false)
unfolding size_good store_good
size-over l n e m = let k : 1 ≤ n = omega arith in (
  rw (whole-blocks l n e, lt-leb n 128 m, le-leb 1 n k),
  rw (whole-blocks l n e, lt-leb n 128 m, le-leb 1 n k),
)

refuses : (s : State) (out : ℕ) (xs : List ℕ) → AnswerRefusals s out xs
refuses s out xs = record {
  out_short = λ l. refusals.out-short box s out xs (lt-ltb out _ l);
  store_bad = λ l b. refusals.store-bad box s out xs (le-ltb out _ l) b;
  device_bad = λ l b c. refusals.device-bad box s out xs (le-ltb out _ l) b c;
  closed = λ l b c d. refusals.closed-before box s out xs (le-ltb out _ l) b c d;
  more_due = λ l b c d e. refusals.more-due box s out xs (le-ltb out _ l) b c d e;
  readings_bad = λ l b c d n g. refusals.readings-bad box s out xs (le-ltb out _ l) b c d n g;
}

formats : (store : List ℕ) → FormatNumbers store
unfolding format_refusal
formats store = record {
  blocks_most = size-most store;
  blocks_over = size-over store;
  store_bad = λ key e. rw e;
  key_good = λ key e l m. rw (e, le-leb _ (length key) l, le-leb (length key) _ m);
  key_empty = λ key e l. rw (e, lt-leb _ (length key) l);
  key_over = λ key e m. rw (e, lt-leb (length key) _ m, and-false (leb 1 (length key)));
}

blocks : BlockNumbers
unfolding decode fit_test blank_test cmp map_l
blocks = record { lengths = refl; places = λ b. refl; blank_bytes = refl }

frames : FrameNumbers
unfolding frame_of
frames = record {
  cut = refl;
  first = λ b rest e. rw e;
  message_most = refl;
  message_over = λ rest. refl;
  value_most = refl;
  value_over = λ rest. refl;
}

wire : WireNumbers
unfolding varint_in read_field value_of map_l
wire = record { varints = refl; numbers = refl; wire_types = refl; int32 = refl }

fields : FieldNumbers
unfolding read_message security_once listed listed_in level open_all items fields_of fields_in read_field value_of varint_in map_l
fields = record {
  message = refl;
  header = refl;
  key_value = refl;
  force = refl;
  start_inclusive = refl;
  reversed = refl;
  setup = refl;
  get_log = refl;
  security = refl;
  refused_present = refl;
  absent = λ t e. (rw e, rw e);
  priorities = refl;
  algorithms = refl;
  synchronizations = refl;
  log_types = refl;
}

-- steps 7 to 10
abbrev onwards : State → access.Acl → Command → List ℕ → ℕ → Asked → Result
onwards s a c v q o =
    step7 (accepted s q) o (λ x. step8 (accepted s q) x.operation c.body v (step9 (accepted s q) a x.permission c.body (step10 (accepted s q) a x.operation c.body v)))

passed : (s : State) (a : access.Acl) (c : Command) (v : List ℕ) (q : ℕ) (p : Passes s c q) → judge s a c v ≡ onwards s a c v q (asked_by p.header.message_type)
unfolding judge
passed s a c v q p =
    rw (
      p.there,
      p.connection,
      p.sequence,
      p.version,
      eq-eqb (table s).cluster_version (table s).cluster_version refl,
      eq-eqb s.connection.number s.connection.number refl,
      p.later,
    )

reads : (s : State) (m v rest : List ℕ) → ReadCodes s m v rest
unfolding reading_by
reads s m v rest = record {
  no_frame = refl;
  no_message = λ e. rw e;
  auth_type = λ t n e w. rw (e, w);
  unknown = λ i sent c e n. rw (e, n);
  unverified = λ i sent c a e n w. rw (e, n, w);
  undecodable = λ i sent c a e n w d. rw (e, n, w, d);
}

judges : (s : State) (a : access.Acl) (c : Command) (v : List ℕ) → JudgedCodes s a c v
unfolding judge
judges s a c v = record {
  no_header = λ e. rw e;
  no_connection = λ h e n. rw (e, n);
  no_sequence = λ h n e i q. rw (e, i, q);
  other_version = λ h n q e i j w. rw (e, i, j, w);
  other_connection = λ h n q e i j w o. rw (e, i, j, w, o);
  old_sequence = λ h n q e i j w o l. rw (e, i, j, w, o, l);
  not_built = λ q p e. passed s a c v q p ∙ ap (onwards s a c v q) e;
  ill_formed = λ q p o e g. passed s a c v q p ∙ ap (onwards s a c v q) e ∙ rw g;
  not_permitted = λ q p o e g h. passed s a c v q p ∙ ap (onwards s a c v q) e ∙ rw (g, h);
  performed = λ q p o e g h. passed s a c v q p ∙ ap (onwards s a c v q) e ∙ rw (g, h);
}

-- a test of both ends, and one of the upper end alone
both_ends : (least most : ℕ) (code : List ℕ → ℕ) (f : Bool → ℕ) → f true ≡ 0 → f false ≡ 16
    → ((x : List ℕ) → code x ≡ f (within least most (length x))) → Limit least most code
both_ends least most code f t u is = record {
  passes = λ x l m. is x ∙ ap f (ap (λ b. b && leb (length x) most) (le-leb least (length x) l) ∙ le-leb (length x) most m) ∙ t;
  fewer = λ x l. is x ∙ ap f (ap (λ b. b && leb (length x) most) (lt-leb least (length x) l)) ∙ u;
  more = λ x m. is x ∙ ap f (ap (λ b. leb least (length x) && b) (lt-leb (length x) most m) ∙ and-false (leb least (length x))) ∙ u;
}

upper-end : (most : ℕ) (code : List ℕ → ℕ) (f : Bool → ℕ) → f true ≡ 0 → f false ≡ 16 → ((x : List ℕ) → code x ≡ f (leb (length x) most)) → Limit 0 most code
upper-end most code f t u is = record {
  passes = λ x l m. is x ∙ ap f (le-leb (length x) most m) ∙ t;
  fewer = λ x l. absurd (omega arith);
  more = λ x m. is x ∙ ap f (lt-leb (length x) most m) ∙ u;
}

empty : (x : List ℕ) → is_empty x ≡ leb (length x) 0
empty [] = refl
empty (b ∷ x) = sym (lt-leb (length (b ∷ x)) 0 (omega arith))

step8s : Step8
unfolding key_value_good range_good types_good permissions_good acl_read security_good algorithms_good all map_l acls scopes named mask_of with_bit bit mask_good offset_good scope_good acl_good find_from acls_good table_good
step8s = record {
  key = both_ends _ _ _ (λ t. broken (t && true)) refl refl (λ x. refl);
  new_version = upper-end _ _ (λ t. broken (t && true)) refl refl (λ x. refl);
  db_version = upper-end _ _ (λ t. broken (t && true)) refl refl (λ x. refl);
  tag = upper-end _ _ broken refl refl (λ x. refl);
  value_put = upper-end _ _ (λ t. broken (t && true)) refl refl (λ x. refl);
  value_get = upper-end _ _ (λ t. broken (t && true)) refl refl (λ x. ap (λ t. broken (t && true)) (empty x));
  start_key = upper-end _ _ (λ t. broken (t && true)) refl refl (λ x. refl);
  end_key = upper-end _ _ (λ t. broken (t && true)) refl refl (λ x. refl);
  max_returned = (λ n l. ap broken (le-leb n _ l), λ n l. ap broken (lt-leb n _ l));
  absent_max_returned = λ t e. rw e;
  acl_count = refl;
  acl_key = refl;
  scope_count = refl;
  permission_count = refl;
  permission_named = refl;
  offset = refl;
  scope_value = refl;
  hmac_algorithm = refl;
  absent_hmac_algorithm = λ t e. rw e;
  log_types = refl;
}

-- both by the same test of the number
chooses : (t : Bool) {a b : Asked} {r q : Option OperationRow} → Chooses a r → Chooses b q → Chooses (cond t a b) (cond t r q)
chooses true h k = h
chooses false h k = k

operations : OperationTable
unfolding asked asked_in row_of without mask_of with_bit bit permits permits_any any grants holds fits fits_at
operations = record {
  asks = λ n.
      chooses (eqb n _) (by_row _ _ refl refl (λ p b. (refl, refl)))
      (chooses (eqb n _) (by_row _ _ refl refl (λ p b. (refl, refl)))
      (chooses (eqb n _) (by_row _ _ refl refl (λ p b. (refl, refl)))
      (chooses (eqb n _) (by_row _ _ refl refl (λ p b. (refl, refl)))
      (chooses (eqb n _) (by_row _ _ refl refl (λ p b. (refl, refl)))
      (chooses (eqb n _) (by_row _ _ refl refl (λ p b. (refl, refl)))
      (chooses (eqb n _) (by_row _ _ refl refl (λ p b. (refl, refl)))
      (chooses (eqb n _) (by_row _ _ refl refl (λ p b. (refl, refl)))
      (chooses (eqb n _) (by_row _ _ refl refl (λ p b. (refl, refl)))
      (chooses (eqb n _) (by_row _ _ refl refl (λ p b. (refl, refl)))
      (chooses (eqb n _) (by_row _ _ refl refl (λ p b. refl))
      (chooses (eqb n _) (by_row _ _ refl refl (λ p b. refl))
      else_none)))))))))));
  asks_none = refl;
  replies_none = refl;
  host = λ key. refl;
}

set-up-code : (s : State) (o : Option ℕ) → (set_up s o).code ≡ 1
set-up-code s none = refl
set-up-code s (some v) = refl

performs : (s : State) (a : access.Acl) (b : Body) (v : List ℕ) → OperationCodes s a b v
performs s a b v = record {
  noop = refl;
  flushed = refl;
  listed = refl;
  secured = refl;
  set_up = set-up-code s (or_else none b.setup);
  get_missing = λ e. rw e;
  get_found = λ x e. rw e;
  version_missing = λ e. rw e;
  version_found = λ x e. rw e;
  next_none = λ e. rw e;
  previous_none = λ e. rw e;
  put_mismatch = λ e. rw e;
  put_no_space = λ e g. rw (e, g);
  put_stored = λ e g. rw (e, g);
  delete_missing = λ e g. rw (e, g);
  delete_forced = λ e g. rw (e, g);
  delete_mismatch = λ x e g. rw (e, g);
  deleted = λ x e g. rw (e, g);
  log_device = λ types e. rw e;
  logged = λ types e. rw e;
}

replies : ReplyNumbers
unfolding encode int_if raw_if fix_o each sub_o each_sub varint_up map_l
replies = record { key_value = refl; keys = refl; logs = refl }

logs : LogNumbers
unfolding log_with map_l bits_at lent_at places_from all_named readings_good celsius_of minus32 less_thirty_two times5 over9 rounded field_units digits_in pattern_at
logs = record {
  type_0 = λ s. refl;
  type_1 = λ s. refl;
  type_2 = λ s. refl;
  type_6 = λ s. refl;
  capacity = λ store n e. omega arith;
  limits = refl;
  celsius = refl;
  temperature_count = refl;
  utilization_count = refl;
  name_length = refl;
}

rescues : (store report : List ℕ) → RescueNumbers store report
unfolding rescue_of
rescues store report = record { store_bad = λ e. rw e; report_bad = λ e g. rw (e, g); rescued = λ e g. rw (e, g) }

reports : (es : List Entry) (b : List ℕ) → ReportBytes es b
unfolding report_byte report state_of
reports es b = record {
  blank = λ e. rw e;
  check_wrong = λ e g. rw (e, g);
  rule_broken = λ e g h. rw (e, g, h);
  earlier = λ e g h i. rw (e, g, h, i);
  kept = λ e g h i. rw (e, g, h, i);
}

pub documented : Documented
documented = record {
  round = round;
  digest = computed;
  answer = refuses;
  format = formats;
  block = blocks;
  frame = frames;
  wire = wire;
  listed = fields;
  steps_1_to_3 = reads;
  steps_4_to_9 = judges;
  step_8 = step8s;
  operation = operations;
  step_10 = performs;
  reply = replies;
  log = logs;
  rescues = rescues;
  report = reports;
}
