-- An instance of the laws: a command shaped like a reply, with any numbers and keys in range, fits and is read back.
use Rattle.std.specs.Prelude.{ℕ, ◌^◌, ◌≤◌, ◌<◌, ◌≡◌, refl, List, [], true, length}
use Rattle.std.proofs.Common.{arith, ◌∙◌, append-nil}
use Rattle.std.proofs.Math.Option.{Option, some}
use Rattle.fields_wire.specs.Varint.{varint_up}
use Rattle.fields_schema.specs.Rules.{names_of}
use Rattle.fields_schema.specs.Tree.{is_int32, among, Tree, done, int, sub, listed, int_at, raws_at}
use Rattle.fields_encoding.specs.Encode.{encode, int_o, each, Fits, ends}
use Rattle.fields_encoding.proofs.BasicLaws.{guarded}
use Rattle.fields_encoding.specs.Cost.{cost, AtMost}
use Rattle.fields_encoding.proofs.CostLaws.{encode-cost, int_o-cost, each-cost, total-most}
use Rattle.fields_encoding.proofs.FitsLaws.{number, fit_int, fit-int_o, fit-sub, fit-each}
use Rattle.fields_encoding.proofs.LookUpLaws.{int-past, int_o-here, each-here}
use Rattle.fields_encoding.specs.FitsTest.{is_fit}
use Rattle.fields_encoding.proofs.FitsTestLaws.{test_fits}
use Rattle.fields_encoding.proofs.BackLaws.{read_back}
use Rattle.fields_schema.specs.declared.Kind.TheVariants.{Header, ReplyCommand, ReplyBody, ReplyRange, Status}
use Rattle.fields_schema.specs.declared.Names.TheVariants.{StatusCode}

-- header 3, 6 and 7
abbrev header : ℕ → Option ℕ → ℕ → Tree
header c a y = int 3 c (int_o 6 a (int 7 y done))

-- a body with a range of keys
abbrev body : List (List ℕ) → Tree
body ks = sub 2 (each 8 ks done) done

abbrev command : ℕ → Option ℕ → ℕ → List (List ℕ) → ℕ → Tree
command c a y ks code = sub 1 (header c a y) (sub 2 (body ks) (sub 3 (int 1 code done) done))

record InRange (c : ℕ) (a : Option ℕ) (y : ℕ) (ks : List (List ℕ)) (code : ℕ) : Type 0 where
  connection : c < 2 ^ 64
  ack : (v : ℕ) → a ≡ some v → v < 2 ^ 64
  type : (y < 2 ^ 64) × (is_int32 y ≡ true)
  few : length ks ≤ 32
  short : AtMost 64 ks
  status : (code < 2 ^ 64) × (among code (names_of StatusCode) ≡ true)

module _ (c : ℕ) (a : Option ℕ) (y : ℕ) (ks : List (List ℕ)) (code : ℕ) (h : InRange c a y ks code) where
  header-fits : Fits Header (header c a y)
  header-fits =
      fit_int (number refl) h.connection refl
      (fit-int_o a (number refl) (λ v e. (h.ack v e, refl)) (fit_int (number refl) h.type.0 (guarded h.type.1) ends))

  range-cost : cost (each 8 ks done) ≤ 2528
  range-cost = omega (arith, each-cost 8 ks done, total-most 64 ks h.short, h.few)

  body-fits : Fits ReplyBody (body ks)
  body-fits =
      fit-sub ReplyRange (number refl) (omega (arith, range-cost)) refl (fit-each 64 ks (number refl) (omega arith) h.short (λ s b. refl) ends)
      ends

  command-fits : Fits ReplyCommand (command c a y ks code)
  command-fits =
      fit-sub Header (number refl) (omega (arith, int_o-cost 6 a (int 7 y done))) refl header-fits
      (fit-sub ReplyBody (number refl) (omega (arith, range-cost)) refl body-fits
      (fit-sub Status (number refl) (omega arith) refl (fit_int (number refl) h.status.0 (guarded h.status.1) ends) ends))

  command-back : listed ReplyCommand (encode (command c a y ks code)) ≡ some (command c a y ks code)
  command-back = read_back command-fits

  -- the numbers and keys are found again
  ack-back : int_at 6 (header c a y) ≡ a
  ack-back = int-past 6 3 c (int_o 6 a (int 7 y done)) refl ∙ int_o-here 6 a (int 7 y done) refl

  keys-back : raws_at 8 (each 8 ks done) ≡ ks
  keys-back = each-here 8 ks done ∙ append-nil ks

  command-length : length (encode (command c a y ks code)) ≤ 2650
  command-length = omega (arith, encode-cost command-fits, range-cost, int_o-cost 6 a (int 7 y done))

-- a closed tree fits by the test
closed : let t = sub 1 (header 1 (some 2) 29) (sub 3 (int 1 1 done) done) in listed ReplyCommand (encode t) ≡ some t
unfolding is_fit encode varint_up int_o
closed = read_back (test_fits ReplyCommand [] (sub 1 (header 1 (some 2) 29) (sub 3 (int 1 1 done) done)) refl)
