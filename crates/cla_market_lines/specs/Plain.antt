-- Plain lines: words of digits, parted by one blank each, the last with a minus or without.
use Rattle.std.specs.Prelude.{◌≡◌, ℕ, ℤ, ◌<◌, ◌^◌, List, ◌++◌, ◌∷◌, length, map, Bool, true, false, pos, neg_ℤ, ◌==◌}
use Rattle.std.specs.Prelude.{◌||◌, Result, Ok}
use Rattle.std.specs.List.{list_all, position_or_len}
use Rattle.std.specs.Char.{is_ascii_digit}
use Rattle.std.specs.Str.Parse.{digits_value}
use Rattle.cla_spec.specs.Lines.{is_lf, first_line}
use Rattle.cla_text.specs.declared.integer.BadInt.{BadInt}
use Rattle.cla_text.specs.Integers.{int_of}
use Rattle.cla_text.specs.Words.{words_of}

-- a byte of a plain word
abbrev pub is_plain : ℕ → Bool
is_plain b = is_ascii_digit b || b == 45

-- these bytes begin with a plain word of this value, and then the byte `stop`
pub record WordThen (stop : ℕ) (bytes : List ℕ) (value : ℤ) (rest : List ℕ) : Type 0 where
  pub word : List ℕ
  pub some : 0 < length word
  pub plain : list_all is_plain word ≡ true
  pub is : int_of word ≡ Ok value
  pub split : bytes ≡ word ++ stop ∷ rest

-- these bytes begin with digits of this value, and then the byte `stop`
pub record DigitsThen (stop : ℕ) (bytes : List ℕ) (value : ℕ) (rest : List ℕ) : Type 0 where
  pub word : List ℕ
  pub some : 0 < length word
  pub digits : list_all is_ascii_digit word ≡ true
  pub is : value ≡ digits_value 10 word
  pub small : value < 2 ^ 64
  pub split : bytes ≡ word ++ stop ∷ rest

abbrev pub signed : Bool → ℕ → ℤ
signed true n = neg_ℤ (pos n)
signed false n = pos n

-- the values of a line's words
abbrev pub values_of : List ℕ → List (Result ℤ BadInt)
values_of line = map int_of (words_of line)

-- the first LF among these bytes stands at this place
abbrev pub IsEndAt : List ℕ → ℕ → Type 0
IsEndAt bytes place = (place < length bytes) × (position_or_len is_lf bytes ≡ place)

-- the first line of these bytes ends at the LF at `place`, and its words have these values
pub record IsPlain (bytes : List ℕ) (values : List (Result ℤ BadInt)) (place : ℕ) : Type 0 where
  pub end : IsEndAt bytes place
  pub values_are : values_of (first_line bytes) ≡ values
