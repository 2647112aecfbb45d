-- The lines that are written are read as what they were written for.
use Rattle.std.proofs.Common.{pow_mono, Some, ◌≡◌, ℕ, ℤ, pos, negsuc, suc, ◌+◌, ◌-◌, ◌^◌, ◌<◌, ◌≤◌, ◌==◌, List, []}
use Rattle.std.proofs.Common.{◌∷◌, ◌++◌, length, Bool, true, false, Ok, refl, sym, subst, arith, append_assoc}
use Rattle.std.proofs.lemmas.Bool.{ne_eqb, lt-ltb}
use Rattle.std.proofs.lemmas.Bool.Decides.{nat_tests}
use Rattle.std.proofs.lemmas.Int.{fits_signed_from_abs}
use Rattle.std.proofs.lemmas.Fmt.{decimal_is_IsNumeral}
use Rattle.std.proofs.lemmas.Str.Parse.{digit_from_value}
use Rattle.std.specs.Char.{is_ascii_digit, digit_value}
use Rattle.std.specs.Fmt.{decimal}
use Rattle.std.specs.Int.{w128}
use Rattle.std.specs.Int.RustNames.{unsigned_abs, FitsSigned}
use Rattle.std.specs.List.{list_all, position_or_len}
use Rattle.std.specs.Str.Parse.{AllDigits, IsNumeral, without_leading_sign}
use Rattle.cla_spec.specs.Numbers.{InRange, decimal_of}
use Rattle.cla_spec.specs.Lines.{is_lf}
use Rattle.cla_spec.proofs.Decimals.{value-decimal}
use Rattle.cla_text.specs.Integers.{are_digits, is_int_word, int_of}
use Rattle.cla_text.specs.Words.{is_blank, words_of}
use Rattle.cla_text.proofs.IntWords.{int_ok, word_is}
use Rattle.cla_text.proofs.WordLaws.{split_head}
use Rattle.cla_market.specs.Texts.{placed_lines, is_skipped, number_line, triple_line}
use Rattle.cla_market.specs.declared.banner.Banner.{Banner}
use Rattle.cla_market.specs.declared.banner.Format.TheVariants.{Coordinate}
use Rattle.cla_market.specs.declared.banner.Field.TheVariants.{Integer}
use Rattle.cla_market.specs.declared.banner.Symmetry.TheVariants.{General}
use Rattle.cla_market.specs.declared.size.Size.{Size}
use Rattle.cla_market.specs.Entries.{Triple, index_of, entry_in}
use Rattle.cla_market.proofs.PlainWords.{NonePasses, none_on, none_at, split_plain, first_word, last_word, is_cr}
use Rattle.cla_market.proofs.PlainWords.{keeps_all}

-- a byte of a decimal text passes no test of smaller bytes
none_digits : (p : ℕ → Bool) → ((b : ℕ) → 45 ≤ b → p b ≡ false) → (ds : List ℕ) → AllDigits 10 ds → NonePasses p ds
none_digits p apart [] h = tt
none_digits p apart (c ∷ cs) h =
    let digit = digit_from_value c h.0 in
    (apart c (omega (arith, digit.0)), none_digits p apart cs h.1)

pub none_decimal : (p : ℕ → Bool) → ((b : ℕ) → 45 ≤ b → p b ≡ false) → (v : ℤ) → unsigned_abs v < 2 ^ 63
    → NonePasses p (decimal_of v)
none_decimal p apart (pos n) small = none_digits p apart (decimal n)
    (decimal_is_IsNumeral n (omega (arith, small))).0.1
none_decimal p apart (negsuc n) small = (
  apart 45 (omega arith),
  none_digits p apart (decimal (suc n))
      (decimal_is_IsNumeral (suc n) (omega (arith, small))).0.1,
)

pub some_decimal : (v : ℤ) → unsigned_abs v < 2 ^ 63 → 0 < length (decimal_of v)
some_decimal (pos n) small = (decimal_is_IsNumeral n (omega (arith, small))).0.0
some_decimal (negsuc n) small = omega arith

pub not_blank : (b : ℕ) → 45 ≤ b → is_blank b ≡ false
not_blank b le = rw (ne_eqb b 32 (λ e. omega (arith, e, le)), ne_eqb b 9 (λ e. omega (arith, e, le))) refl

pub not_lf : (b : ℕ) → 45 ≤ b → is_lf b ≡ false
not_lf b le = ne_eqb b 10 (λ e. omega (arith, e, le))

pub not_cr : (b : ℕ) → 45 ≤ b → is_cr b ≡ false
not_cr b le = ne_eqb b 13 (λ e. omega (arith, e, le))

-- the words of a line of three numbers
pub words_of_numbers : (a b c : ℤ) → unsigned_abs a < 2 ^ 63 → unsigned_abs b < 2 ^ 63 → unsigned_abs c < 2 ^ 63
    → words_of (number_line a b c) ≡ decimal_of a ∷ decimal_of b ∷ decimal_of c ∷ []
words_of_numbers a b c sa sb sc =
    let none = none_decimal is_blank not_blank in
    let third = last_word is_blank (decimal_of c) (none c sc) (some_decimal c sc) in
    let second = first_word is_blank (decimal_of b) (decimal_of c) 32 (none b sb) refl (some_decimal b sb) in
    let first = first_word is_blank (decimal_of a) (decimal_of b ++ 32 ∷ decimal_of c) 32 (none a sa) refl
    (some_decimal a sa) in
    rw (first, second, third) refl

-- there is no LF and no CR in a line of three numbers
pub none_in_numbers : (p : ℕ → Bool) → ((b : ℕ) → 45 ≤ b → p b ≡ false) → p 32 ≡ false → (a b c : ℤ)
    → unsigned_abs a < 2 ^ 63 → unsigned_abs b < 2 ^ 63 → unsigned_abs c < 2 ^ 63 → NonePasses p (number_line a b c)
none_in_numbers p apart blank a b c sa sb sc =
    none_on p (decimal_of a) (32 ∷ (decimal_of b ++ 32 ∷ decimal_of c)) (none_decimal p apart a sa) (
      blank,
      none_on p (decimal_of b) (32 ∷ decimal_of c) (none_decimal p apart b sb)
          (blank, none_decimal p apart c sc),
    )

-- digits are digits
is_digit : (c : ℕ) → digit_value c < 10 → is_ascii_digit c ≡ true
is_digit c h = let digit = digit_from_value c h in grind (arith, nat_tests)

are_all : (ds : List ℕ) → AllDigits 10 ds → list_all is_ascii_digit ds ≡ true
are_all [] h = refl
are_all (c ∷ cs) h = rw (is_digit c h.0, are_all cs h.1) refl

are : (ds : List ℕ) → IsNumeral 10 ds → are_digits ds ≡ true
are ds h = rw (lt-ltb 0 (length ds) h.0, are_all ds h.1) refl

-- a text without a sign
unsigned : (ds : List ℕ) → AllDigits 10 ds → without_leading_sign ds ≡ ds
unsigned [] h = refl
unsigned (c ∷ cs) h =
    let digit = digit_from_value c h.0 in
    rw (ne_eqb c 45 (λ e. omega (arith, e, digit.0)), ne_eqb c 43 (λ e. omega (arith, e, digit.0))) refl

is_word : (v : ℤ) → unsigned_abs v < 2 ^ 63 → is_int_word (decimal_of v) ≡ true
is_word (pos n) small =
    let k = (decimal_is_IsNumeral n (omega (arith, small))).0 in
    word_is (decimal n) (subst (λ (w : List ℕ). are_digits w ≡ true) (sym (unsigned (decimal n) k.1))
    (are (decimal n) k))
is_word (negsuc n) small =
    let k = (decimal_is_IsNumeral (suc n) (omega (arith, small))).0 in
    word_is (45 ∷ decimal (suc n)) (are (decimal (suc n)) k)

-- the integer of a decimal text
pub int_of_decimal : (v : ℤ) → unsigned_abs v < 2 ^ 63 → int_of (decimal_of v) ≡ Ok v
int_of_decimal v small =
    let value = value-decimal v small in
    let fits = subst (λ (z : ℤ). FitsSigned w128 z) (sym value)
    (fits_signed_from_abs w128 v (omega (arith, small))) in
    int_ok (decimal_of v) v (is_word v small) fits (sym value)

-- a line that ends with LF is the first line of what it begins
pub placed_line : (at : ℕ) (w rest : List ℕ) → NonePasses is_lf w → NonePasses is_cr w
    → placed_lines at ((w ++ 10 ∷ []) ++ rest) ≡ (w, at + (length w + 1)) ∷ placed_lines (at + (length w + 1)) rest
unfolding placed_lines
placed_line at w rest lf cr =
    let whole : (w ++ 10 ∷ []) ++ rest ≡ w ++ 10 ∷ rest = append_assoc w (10 ∷ []) rest in
    let cut = split_plain is_lf w rest 10 lf refl in
    let k = position_or_len is_lf rest in
    rw (whole, cut, split_head is_lf rest, keeps_all w cr) refl

abbrev is_percent : ℕ → Bool
is_percent b = b == 37

-- no word of a number begins with %
not_percent : (b : ℕ) → 45 ≤ b → is_percent b ≡ false
not_percent b le = ne_eqb b 37 (λ e. omega (arith, e, le))

pub not_skipped : (v : ℤ) (words : List (List ℕ)) → unsigned_abs v < 2 ^ 63
    → is_skipped (decimal_of v ∷ words) ≡ false
not_skipped v words small = none_at is_percent (decimal_of v) 0 (none_decimal is_percent not_percent v small)
    (some_decimal v small)

-- an index that is written is read
index_is : (i most : ℕ) → i < most → index_of (Some (pos (i + 1))) most ≡ Ok i
index_is i most lt =
    let back : i + 1 - 1 ≡ i = omega arith in
    rw (lt-ltb 0 (i + 1) (omega arith), back, lt-ltb i most lt) refl

-- the banner that is written
abbrev pub written_banner : Banner
written_banner = record { format = Coordinate; field = Integer; symmetry = General }

pub in_63 : (bits : ℕ) (v : ℤ) → bits ≤ 63 → InRange bits v → unsigned_abs v < 2 ^ 63
in_63 bits v low h = let two : 2 ^ bits ≤ 2 ^ 63 = pow_mono low in omega (arith, h, two)

-- the line of a triple is read as the triple
pub entry_is : (bits n : ℕ) (size : Size) (t : Triple) → bits ≤ 63 → size.rows ≤ 2 ^ 31 → size.cols ≤ 2 ^ 31
    → t.row < size.rows → t.col < size.cols → InRange bits t.value
    → entry_in bits written_banner size n (words_of (triple_line t)) ≡ Ok t
unfolding entry_in
entry_is bits n size t low rows cols row col in_range_is =
    let small_value : unsigned_abs t.value < 2 ^ 63 = in_63 bits t.value low in_range_is in
    let small_row : unsigned_abs (pos (t.row + 1)) < 2 ^ 63 = omega (arith, rows, row) in
    let small_col : unsigned_abs (pos (t.col + 1)) < 2 ^ 63 = omega (arith, cols, col) in
    rw (
      words_of_numbers (pos (t.row + 1)) (pos (t.col + 1)) t.value small_row small_col small_value,
      int_of_decimal (pos (t.row + 1)) small_row,
      int_of_decimal (pos (t.col + 1)) small_col,
      int_of_decimal t.value
          small_value,
      index_is t.row size.rows row,
      index_is t.col size.cols col,
      lt-ltb (unsigned_abs t.value)
          (2 ^ bits) in_range_is,
    ) refl
