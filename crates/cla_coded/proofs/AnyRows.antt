-- Plain groups of rows that are given by codes.
use Rattle.std.proofs.Common.{◌≡◌, ℕ, ℤ, ◌<◌, ◌≤◌, ◌^◌, List, length, sym, ◌∙◌, refl, None, arith, inl, inr}
use Rattle.std.proofs.lemmas.Bool.{cases_lt}
use Rattle.std.proofs.lemmas.Bool.Decides.{nat_tests}
use Rattle.std.specs.List.{range_with_len}
use Rattle.cla_layout.specs.declared.kind.Kind.TheVariants as kind
use Rattle.cla_layout.specs.Groups.{code_of, cell_of}
use Rattle.cla_layout.specs.Tuples.{tuples_of}
use Rattle.cla_group.specs.Dictionaries.{AreInOrder}
use Rattle.cla_layout.proofs.Tuples.{tuple_value}
use Rattle.cla_layout.proofs.Counting.{code_is}
use Rattle.cla_codes.specs.Widths.{FitsWidth}
use Rattle.cla_coded.specs.AnyGroups.{least_code_bytes, IsGroupFrom}

-- rows that are written out by their codes keep their values
pub plain_from : (width n : ℕ) (codes : List ℕ) (old new : List ℤ) (codes' : List ℕ) (tuples' : List (List ℤ))
    → ((i : ℕ) → i < length codes → code_of codes i < n) → AreInOrder width codes old new
    → codes' ≡ range_with_len 0 (length codes) → tuples' ≡ tuples_of width (length codes) new
    → (codes' ≡ range_with_len 0 (length codes)) ×
    ((i c : ℕ) → i < length codes → c < width → cell_of codes' tuples' i c ≡ cell_of codes (tuples_of width n old) i c)
plain_from width n codes old new codes' tuples' in_tuples same codes_are tuples_are = (
  codes_are,
  λ i c row place.
      rw (codes_are, tuples_are, code_is (length codes) i row)
      (tuple_value width (length codes) new i c row place ∙ same i c row place
      ∙ sym (tuple_value width n old (code_of codes i) c (in_tuples i row) place)),
)

-- how many bytes can name so many tuples
pub two_bytes : (n : ℕ) → 2 ^ 8 < n → n ≤ 2 ^ 16 → least_code_bytes n ≡ 2
two_bytes n many few = grind (arith, nat_tests)

pub four_bytes : (n : ℕ) → 2 ^ 16 < n → least_code_bytes n ≡ 4
four_bytes n many = grind (arith, nat_tests)

one_byte : (n : ℕ) → n ≤ 2 ^ 8 → least_code_bytes n ≡ 1
one_byte n few = grind (arith, nat_tests)

-- the fewest bytes that can name tuples can name them
pub fewest_fit : (w n : ℕ) → w ≡ least_code_bytes n → n ≤ 2 ^ 26 → FitsWidth w n
fewest_fit w n is few = elim (cases_lt (2 ^ 16) n) [
  | inl most ↦ rw (is, four_bytes n most) (record { width = refl; few = omega (arith, few) })
  | inr less ↦ elim (cases_lt (2 ^ 8) n) [
    | inl more ↦ rw (is, two_bytes n more less) (record { width = refl; few = omega (arith, less) })
    | inr least ↦ rw (is, one_byte n least) (record { width = refl; few = omega (arith, least) })
  ]
]

-- a group of one code for each row is made of its codes and tuples, if the codes take the fewest bytes
pub codes_from : (bytes width : ℕ) (codes : List ℕ) (tuples : List (List ℤ)) (columns : ℕ) (codes' : List ℕ)
    (tuples' : List (List ℤ)) →
    least_code_bytes (length tuples) ≡ bytes → columns ≡ width → codes' ≡ codes → tuples' ≡ tuples →
    IsGroupFrom kind.Codes width codes tuples (record { kind = kind.Codes; code_bytes = bytes; rest = None }) columns
    codes' tuples'
codes_from bytes width codes tuples columns codes' tuples' least columns_are codes_are tuples_are = record {
  form_is = rw least refl;
  columns_are = columns_are;
  has = (codes_are, tuples_are);
}
