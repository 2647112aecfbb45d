-- Integers in words.
use Rattle.std.specs.Prelude.{ℕ, ℤ, pos, negsuc, ◌^◌, List, length, Bool, ◌&&◌, nat_lt, if◌then◌else◌, Result, Ok, Err}
use Rattle.std.specs.List.{list_all}
use Rattle.std.specs.Char.{is_ascii_digit}
use Rattle.std.specs.Str.Parse.{without_leading_sign, signed_digits_value}
use Rattle.cla_text.specs.declared.integer.BadInt.{BadInt}
use Rattle.cla_text.specs.declared.integer.BadInt.TheVariants.{Form, Wide}

abbrev pub are_digits : List ℕ → Bool
are_digits digits = nat_lt 0 (length digits) && list_all is_ascii_digit digits

-- an optional sign, and then digits, at least one
unfoldable pub is_int_word : List ℕ → Bool
is_int_word word = are_digits (without_leading_sign word)

-- an integer from -2^127 to 2^127 - 1
abbrev pub fits_128 : ℤ → Bool
fits_128 (pos n) = nat_lt n (2 ^ 127)
fits_128 (negsuc n) = nat_lt n (2 ^ 127)

-- the integer that a word spells
unfoldable pub int_of : List ℕ → Result ℤ BadInt
int_of word =
    if is_int_word word then (if fits_128 (signed_digits_value 10 word) then Ok (signed_digits_value 10 word) else Err
    Wide) else Err Form
