-- What parsing a word of the form of an integer gives.
use Rattle.std.proofs.Common.{◌≡◌, ℕ, ℤ, pos, negsuc, ◌<◌, ◌-◌, List, [], ◌∷◌, true, false, ◌==◌, Ok, Err, refl}
use Rattle.std.proofs.Common.{arith, inl, inr}
use Rattle.std.proofs.lemmas.Bool.{cases_Bool, and_parts, ltb-true, lt-ltb, eqb-true}
use Rattle.std.proofs.lemmas.Bool.Decides.{nat_tests}
use Rattle.std.specs.List.{list_all}
use Rattle.std.specs.Char.{is_ascii_digit, digit_value}
use Rattle.std.specs.Int.{w128}
use Rattle.std.specs.Int.RustNames.{FitsSigned}
use Rattle.std.specs.Str.{IsAscii}
use Rattle.std.specs.Str.Parse.{AllDigits, IsNumeral, without_leading_sign, signed_digits_value}
use Rattle.std.proofs.lemmas.Str.Ascii.{IsAscii-nil, IsAscii-cons}
use Rattle.cla_text.specs.declared.integer.BadInt.TheVariants.{Form, Wide}
use Rattle.cla_text.specs.Integers.{are_digits, is_int_word, fits_128, int_of}

digit_small : (c : ℕ) → is_ascii_digit c ≡ true → (c < 128) × (digit_value c < 10)
digit_small c h = grind (arith, nat_tests)

digits_are : (ds : List ℕ) → list_all is_ascii_digit ds ≡ true → IsAscii ds × AllDigits 10 ds
digits_are [] h = (IsAscii-nil, tt)
digits_are (c ∷ cs) h =
    let p = and_parts (is_ascii_digit c) (list_all is_ascii_digit cs) h in
    let d = digit_small c p.0 in
    let more = digits_are cs p.1 in
    (IsAscii-cons c cs d.0 more.0, (d.1, more.1))

pub numeral : (ds : List ℕ) → are_digits ds ≡ true → IsAscii ds × IsNumeral 10 ds
numeral ds h =
    let p = and_parts _ _ h in
    let d = digits_are ds p.1 in
    (d.0, (ltb-true _ _ p.0, d.1))

pub int_word_ascii : (word : List ℕ) → is_int_word word ≡ true → IsAscii word
unfolding is_int_word
int_word_ascii [] h = IsAscii-nil
int_word_ascii (b ∷ bs) h = elim (cases_Bool (b == 45)) [
  | inl minus ↦ IsAscii-cons b bs (omega (arith, eqb-true b 45 minus)) (numeral bs (rw minus at h)).0
  | inr other ↦ elim (cases_Bool (b == 43)) [
    | inl plus ↦ IsAscii-cons b bs (omega (arith, eqb-true b 43 plus)) (numeral bs (rw (other, plus) at h)).0
    | inr none ↦ (numeral (b ∷ bs) (rw (other, none) at h)).0
  ]
]

does_fit : (v : ℤ) → FitsSigned w128 v → fits_128 v ≡ true
does_fit (pos n) h = lt-ltb _ _ h.sfits
does_fit (negsuc n) h = lt-ltb _ _ h.sfits

pub fits_from : (v : ℤ) → fits_128 v ≡ true → FitsSigned w128 v
fits_from (pos n) h = record { sfits = ltb-true _ _ h }
fits_from (negsuc n) h = record { sfits = ltb-true _ _ h }

pub int_ok : (word : List ℕ) (v : ℤ) → is_int_word word ≡ true → FitsSigned w128 (signed_digits_value 10 word) →
    v ≡ signed_digits_value 10 word → int_of word ≡ Ok v
unfolding int_of
int_ok word v h fits is = rw (h, is, does_fit (signed_digits_value 10 word) fits) refl

pub int_wide : (word : List ℕ) → is_int_word word ≡ true →
    (IsNumeral 10 (without_leading_sign word) × FitsSigned w128 (signed_digits_value 10 word) → ⊥) →
    int_of word ≡ Err Wide
unfolding int_of is_int_word
int_wide word h parsed = elim (cases_Bool (fits_128 (signed_digits_value 10 word))) [
  | inl fits ↦ absurd (parsed ((numeral (without_leading_sign word) h).1, fits_from _ fits))
  | inr wide ↦ rw (h, wide) refl
]

pub int_form : (word : List ℕ) → is_int_word word ≡ false → int_of word ≡ Err Form
unfolding int_of
int_form word h = rw h refl

pub digit_is : (c : ℕ) → is_ascii_digit c ≡ true → digit_value c ≡ c - 48
digit_is c h = grind (arith, nat_tests)

pub word_is : (word : List ℕ) → are_digits (without_leading_sign word) ≡ true → is_int_word word ≡ true
unfolding is_int_word
word_is word h = h
