-- Dictionaries that are kept as values in a row, and the law of the groups that have them.
use Rattle.std.proofs.Common.{◌≡◌, ℕ, ℤ, pos, zero, suc, ◌+◌, ◌*◌, ◌<◌, ◌≤◌, List, [], ◌∷◌, length, map, get_or, ap}
use Rattle.std.proofs.Common.{◌∙◌, arith}
use Rattle.std.proofs.Math.Nat.{mul-le-mul}
use Rattle.std.proofs.lemmas.List.FromFn.{length-map-range_with_len, get_or-map-range_with_len}
use Rattle.cla_spec.specs.Numbers.{InRange}
use Rattle.cla_layout.specs.Groups.{at, value_of, IsGroup}
use Rattle.cla_layout.specs.Tuples.{tuple_at, tuples_of, AreCodes}

-- how many tuples there are
pub tuples_count : (width n : ℕ) (values : List ℤ) → length (tuples_of width n values) ≡ n
tuples_count width n values = length-map-range_with_len (tuple_at width values) 0 n

-- tuple k
pub tuple_is : (width n : ℕ) (values : List ℤ) (k : ℕ) → k < n → get_or (tuples_of width n values) k []
    ≡ tuple_at width values k
tuple_is width n values k there = get_or-map-range_with_len (tuple_at width values) 0 n k k [] there (omega arith)

pub tuple_width : (width n : ℕ) (values : List ℤ) (k : ℕ) → k < n → length (get_or (tuples_of width n values) k [])
    ≡ width
tuple_width width n values k there =
    ap (λ (tuple : List ℤ). length tuple) (tuple_is width n values k there)
    ∙ length-map-range_with_len (λ c. at values (k * width + c)) 0 width

pub tuple_value : (width n : ℕ) (values : List ℤ) (k c : ℕ) → k < n → c < width
    → value_of (tuples_of width n values) k c ≡ at values (k * width + c)
tuple_value width n values k c there place =
    ap (λ (tuple : List ℤ). at tuple c) (tuple_is width n values k there)
    ∙ get_or-map-range_with_len (λ c. at values (k * width + c)) 0 width c c (pos 0) place (omega arith)

-- a place of a tuple is a place of the values
pub place_within : (width n k c : ℕ) → k < n → c < width → k * width + c < n * width
place_within width n k c there place =
    let more : suc k * width ≤ n * width =
    mul-le-mul {n₁ = suc k} {m₁ = width} {n₂ = n} {m₂ = width} (omega (arith, there)) (omega arith) in
    omega (arith, more, place)

-- what holds of each number of a list holds of each item of their integers
pub item_holds : {N : Type 0} (value : N → ℤ) (P : ℤ → Type 0) → ((x : N) → P (value x)) → (items : List N) (i : ℕ) →
    i < length items
    → P (at (map value items) i)
item_holds value P holds [] i there = absurd (omega (arith, there))
item_holds value P holds (x ∷ items) zero there = holds x
item_holds value P holds (x ∷ items) (suc i) there = item_holds value P holds items i (omega (arith, there))

-- the law of a group whose n tuples have these values in a row
pub group_with_values : {N : Type 0} (bits : ℕ) (value : N → ℤ) → ((x : N) → InRange bits (value x))
    → (width n : ℕ) (codes : List ℕ) (values : List N) → AreCodes width n codes (length values)
    → IsGroup bits width codes (tuples_of width n (map value values))
group_with_values bits value in_range width n codes values are =
    let count : length (tuples_of width n (map value values)) ≡ n = tuples_count width n (map value values) in
    record {
      a_row = are.a_row;
      a_column = are.a_column;
      few_cells = are.few_cells;
      in_tuples = λ i row. rw count (are.in_tuples i row);
      used = λ k there. are.used k (rw count at there);
      full = λ k there. tuple_width width n (map value values) k (rw count at there);
      small = λ k c there place.
          (let k_there : k < n = rw count at there in
          rw (tuple_value width n (map value values) k c k_there place)
          (item_holds value (InRange bits) in_range values (k * width + c)
          (rw are.whole (place_within width n k c k_there place))));
    }
