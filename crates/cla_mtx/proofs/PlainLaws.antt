-- What the values of a line's words say of its entry.
use Rattle.std.proofs.Common.{inl, inr, ◌≡◌, ◌≢◌, ℕ, ℤ, pos, ◌-◌, ◌<◌, ◌≤◌, ◌^◌, ◌==◌, ◌&&◌, Bool, if◌then◌else◌}
use Rattle.std.proofs.Common.{List, [], ◌∷◌, map, slice_index, true, false, Ok, Err, Result, refl, sym, ap, subst}
use Rattle.std.proofs.Common.{◌∙◌, arith}
use Rattle.std.specs.Int.RustNames.{unsigned_abs}
use Rattle.std.proofs.lemmas.Bool.{cases_eq, eq-eqb, ne_eqb, lt-ltb}
use Rattle.cla_spec.specs.Numbers.{InRange, in_range}
use Rattle.cla_text.specs.declared.integer.BadInt.{BadInt}
use Rattle.cla_text.specs.declared.integer.BadInt.TheVariants.{Form}
use Rattle.cla_text.specs.Integers.{int_of, is_int_word}
use Rattle.cla_market.specs.declared.banner.Symmetry.TheVariants.{General}
use Rattle.cla_market.specs.Results.{one_of, three_of}
use Rattle.cla_market.specs.Entries.{Triple, coordinate_entry, array_entry}
use Rattle.cla_market.specs.Texts.{is_skipped}

no_digits : (b : Bool) (r : Result ℤ BadInt) (v : ℤ) → (if b && false then r else Err Form) ≡ Ok v → ⊥
no_digits true r v is = cc
no_digits false r v is = cc

-- a number doesn't begin with %
no_comment : (word : List ℕ) (v : ℤ) → int_of word ≡ Ok v → (slice_index word 0 == 37) ≡ false
unfolding int_of is_int_word
no_comment [] v is = absurd cc
no_comment (b ∷ bs) v is = elim (cases_eq b 37) [
  | inl same ↦ absurd (no_digits _ _ v (rw same at is))
  | inr other ↦ ne_eqb b 37 other
]

pub not_skipped : (words : List (List ℕ)) (v : ℤ) (more : List (Result ℤ BadInt)) → map int_of words ≡ Ok v ∷ more
    → is_skipped words ≡ false
not_skipped [] v more is = absurd cc
not_skipped (word ∷ words) v more is = let first : int_of word ≡ Ok v = cc in no_comment word v first

in_range_is : (bits : ℕ) (v : ℤ) → InRange bits v → in_range bits v ≡ true
in_range_is bits v fits = lt-ltb (unsigned_abs v) (2 ^ bits) fits

pub array_is : (bits : ℕ) (cell : ℕ × ℕ) (words : List (List ℕ)) (v : ℤ) → map int_of words ≡ Ok v ∷ []
    → InRange bits v
    → array_entry bits cell (one_of words) ≡ Ok record { row = cell.0; col = cell.1; value = v }
array_is bits cell [] v is fits = absurd cc
array_is bits cell (a ∷ b ∷ more) v is fits = absurd cc
array_is bits cell (a ∷ []) v is fits =
    let first : int_of a ≡ Ok v = cc in
    rw (first, in_range_is bits v fits) refl

pub coordinate_is : (bits rows cols x y : ℕ) (words : List (List ℕ)) (v : ℤ)
    → map int_of words ≡ Ok (pos x) ∷ Ok (pos y) ∷ Ok v ∷ [] → 1 ≤ x → x ≤ rows → 1 ≤ y → y ≤ cols → InRange bits v
    → coordinate_entry bits General rows cols (three_of words)
    ≡ Ok record { row = x - 1; col = y - 1; value = v }
coordinate_is bits rows cols x y [] v is x1 xm y1 ym fits = absurd cc
coordinate_is bits rows cols x y (a ∷ []) v is x1 xm y1 ym fits = absurd cc
coordinate_is bits rows cols x y (a ∷ b ∷ []) v is x1 xm y1 ym fits = absurd cc
coordinate_is bits rows cols x y (a ∷ b ∷ c ∷ d ∷ more) v is x1 xm y1 ym fits = absurd cc
coordinate_is bits rows cols x y (a ∷ b ∷ c ∷ []) v is x1 xm y1 ym fits =
    let first : int_of a ≡ Ok (pos x) = cc in
    let second : int_of b ≡ Ok (pos y) = cc in
    let third : int_of c ≡ Ok v = cc in
    let row : x - 1 < rows = omega (arith, x1, xm) in
    let col : y - 1 < cols = omega (arith, y1, ym) in
    let fits_row = lt-ltb (x - 1) rows row in
    let fits_col = lt-ltb (y - 1) cols col in
    rw (first, second, third, lt-ltb 0 x x1, fits_row, lt-ltb 0 y y1, fits_col, in_range_is bits v fits) refl
