-- Numbering entries through a table with a place for each value.
use Rattle.std.proofs.Common.{◌≡◌, ℕ, ℤ, pos, negsuc, zero, suc, ◌+◌, ◌-◌, ◌*◌, ◌/◌, ◌^◌, ◌<◌, ◌≤◌, Bool, nat_eq, List}
use Rattle.std.proofs.Common.{[], ◌∷◌, map, length, get_or, drop, drop-cons, refl, sym, ap, ◌∙◌, arith, eq-eqb}
use Rattle.std.proofs.Common.{eqb-true}
use Rattle.std.specs.Ordering.{int_eq}
use Rattle.std.specs.Int.RustNames.{unsigned_abs}
use Rattle.std.proofs.Math.Nat.{pow-le-pow_right}
use Rattle.std.proofs.lemmas.Bool.Decides.{Decides-int_eq, same_from_decides}
use Rattle.std.proofs.lemmas.List.{length-map, get_or-map, drop_all}
use Rattle.cla_spec.specs.Bytes.{past, number_of, bytes_of, unsigned_of}
use Rattle.cla_spec.specs.Numbers.{InRange}
use Rattle.cla_num.specs.declared.number.TheConstants.{GREATEST_BITS}
use Rattle.cla_grouping.specs.Numbering.{codes_from, firsts_from}
use Rattle.cla_numbering.specs.Columns.{place_in, place_at_row}
use Rattle.cla_grouping.proofs.CodeLemmas.{codes_from-map, firsts_from-map}
use Rattle.cla_numbering.proofs.ColumnLemmas.{codes_from-tests, firsts_from-tests}

-- a number below 256 ^ k is that of its k low bytes
number_of-bytes_of : (k n : ℕ) → n < past k → number_of (bytes_of k n) ≡ n
number_of-bytes_of zero n lt = omega arith
number_of-bytes_of (suc k) n lt =
    let part : n / 256 < past k = omega (arith, lt) in
    rw (number_of-bytes_of k (n / 256) part) (omega arith)

-- values of less than 64 bits
abbrev pub Fits : ℤ → Type 0
Fits v = unsigned_abs v < 2 ^ 63

unsigned-below : (v : ℤ) → Fits v → unsigned_of 8 v < past 8
unsigned-below (pos n) h = omega (arith, h)
unsigned-below (negsuc n) h = omega (arith, h)

unsigned-same : (u v : ℤ) → Fits u → Fits v → unsigned_of 8 u ≡ unsigned_of 8 v → u ≡ v
unsigned-same (pos a) (pos b) h g e = ap pos e
unsigned-same (pos a) (negsuc b) h g e = absurd (omega (arith, h, g, e))
unsigned-same (negsuc a) (pos b) h g e = absurd (omega (arith, h, g, e))
unsigned-same (negsuc a) (negsuc b) h g e = let same : a ≡ b = omega (arith, h, g, e) in ap negsuc same

-- they have one place exactly where they are equal
place-same : (u v : ℤ) → Fits u → Fits v → place_in u ≡ place_in v → u ≡ v
unfolding place_in
place-same u v h g e = unsigned-same u v h g
    (sym (number_of-bytes_of 8 (unsigned_of 8 u) (unsigned-below u h)) ∙ e
    ∙ number_of-bytes_of 8 (unsigned_of 8 v) (unsigned-below v g))

pub places-tell : (u v : ℤ) → Fits u → Fits v → nat_eq (place_in u) (place_in v) ≡ int_eq u v
places-tell u v h g = same_from_decides (nat_eq (place_in u) (place_in v)) (int_eq u v) (
  λ e. place-same u v h g (eqb-true (place_in u) (place_in v) e),
  λ e. eq-eqb (place_in u) (place_in v) (ap place_in e),
)
    (Decides-int_eq u v)

-- zero stands at the first place
pub place-zero : place_in (pos 0) ≡ 0
unfolding place_in
place-zero = number_of-bytes_of 8 0 (omega arith)

pub fits : (bits : ℕ) (v : ℤ) → bits ≤ GREATEST_BITS → InRange bits v → Fits v
fits bits v few within =
    let least : bits ≤ 63 = omega (arith, few) in
    let two : zero < 2 = omega arith in
    omega (arith, within, pow-le-pow_right {n = 2} two {i = bits} {j = 63} least)

-- the numbering of places is that of entries
module _ {N : Type 0} (bits : ℕ) (value : N → ℤ) (eq : N → N → Bool) (few : bits ≤ GREATEST_BITS)
    (within : (x : N) → InRange bits (value x)) (law : (x y : N) → eq x y ≡ int_eq (value x) (value y)) where
  abbrev place : N → ℕ
  place x = place_in (value x)

  alike : (x y : N) → nat_eq (place x) (place y) ≡ eq x y
  alike x y = places-tell (value x) (value y) (fits bits (value x) few (within x)) (fits bits (value y) few (within y))
      ∙ sym (law x y)

  pub codes-by_place : (items : List N) → codes_from nat_eq [] (map (λ x. place_in (value x)) items)
      ≡ codes_from eq [] items
  codes-by_place items = codes_from-map nat_eq place [] items
      ∙ codes_from-tests (λ x y. nat_eq (place x) (place y)) eq alike [] items

  pub firsts-by_place : (items : List N) → length (firsts_from nat_eq [] (map (λ x. place_in (value x)) items))
      ≡ length (firsts_from eq [] items)
  firsts-by_place items = ap length (firsts_from-map nat_eq place [] items)
      ∙ length-map (firsts_from (λ x y. nat_eq (place x) (place y)) [] items) place
      ∙ ap length (firsts_from-tests (λ x y. nat_eq (place x) (place y)) eq alike [] items)

-- the places of entries, one by one
pub row-place : {N : Type 0} (value : N → ℤ) (items : List N) (i : ℕ) (x : N) → i < length items → x ≡ get_or items i x
    → place_at_row value items i ≡ place_in (value x)
row-place value items i x there is = ap place_in (get_or-map value items i x (pos 0) there ∙ ap value (sym is))

pub entry-places : {N : Type 0} (value : N → ℤ) (items : List N) (i : ℕ) (x : N) → i < length items
    → x ≡ get_or items i x
    → drop i (map (λ y. place_in (value y)) items)
    ≡ place_in (value x) ∷ drop (i + 1) (map (λ y. place_in (value y)) items)
entry-places {N} value items i x there is =
    let place = λ (y : N). place_in (value y) in
    let all = map place items in
    let more : suc i ≡ i + 1 = omega arith in
    drop-cons all i 0 (omega (arith, there, length-map items place))
    ∙ ap (λ m. get_or all i 0 ∷ drop m all) more
    ∙ ap (λ p. p ∷ drop (i + 1) all) (get_or-map place items i x 0 there ∙ ap place (sym is))

pub entry-places-none : {N : Type 0} (value : N → ℤ) (items : List N) (i : ℕ) → length items ≤ i
    → drop i (map (λ y. place_in (value y)) items) ≡ []
entry-places-none value items i past =
    drop_all i (map (λ y. place_in (value y)) items) (omega (arith, past, length-map items (λ y. place_in (value y))))
