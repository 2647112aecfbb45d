-- Decimal texts give their integers back.
use Rattle.std.proofs.Common.{◌≡◌, ℕ, ℤ, pos, negsuc, ◌^◌, ◌<◌, List, get_or, refl, ap, ◌∙◌, suc, neg_ℤ, arith}
use Rattle.std.proofs.lemmas.Bool.{ne_eqb}
use Rattle.std.specs.Int.RustNames.{unsigned_abs}
use Rattle.std.specs.Fmt.{decimal}
use Rattle.std.specs.Str.Parse.{digits_value, signed_digits_value}
use Rattle.std.proofs.lemmas.Fmt.{decimal_is_IsNumeral}
use Rattle.std.proofs.lemmas.Str.Parse.{digit_at}
use Rattle.cla_spec.specs.Numbers.{decimal_of}

-- the value of digits without a sign
pub value_of_digits : (ds : List ℕ) → (get_or ds 0 0 ≡ 45 → ⊥) → (get_or ds 0 0 ≡ 43 → ⊥) → signed_digits_value 10 ds
    ≡ pos (digits_value 10 ds)
value_of_digits ds minus plus = rw (ne_eqb (get_or ds 0 0) 45 minus, ne_eqb (get_or ds 0 0) 43 plus) refl

-- the value of a decimal text
pub value-decimal : (v : ℤ) → unsigned_abs v < 2 ^ 63 → signed_digits_value 10 (decimal_of v) ≡ v
value-decimal (pos n) h =
    let k = decimal_is_IsNumeral n (omega arith) in
    let digit = digit_at (decimal n) 0 k.0.1 k.0.0 in
    value_of_digits (decimal n) (λ e. omega (arith, e, digit.0)) (λ e. omega (arith, e, digit.0)) ∙ ap pos k.1
value-decimal (negsuc n) h =
    let k = decimal_is_IsNumeral (suc n) (omega arith) in
    ap (λ (m : ℕ). neg_ℤ (pos m)) k.1
