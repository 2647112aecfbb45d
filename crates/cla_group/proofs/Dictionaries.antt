-- What is known of dictionaries.
use Rattle.std.proofs.Common.{◌≡◌, ℕ, ℤ, pos, ◌+◌, ◌-◌, ◌*◌, ◌<◌, ◌≤◌, List, [], ◌∷◌, ◌++◌, length, map, take, drop}
use Rattle.std.proofs.Common.{get_or}
use Rattle.std.proofs.Common.{ap, sym, ◌∙◌, arith, inl, inr}
use Rattle.std.proofs.Math.Nat.{mul-le-mul_left, mul-le-mul_right}
use Rattle.std.proofs.lemmas.Bool.{cases_lt}
use Rattle.std.proofs.lemmas.List.{get_or_append_left, get_or_push, get_or-append-add, length_push, length-append}
use Rattle.std.proofs.lemmas.List.{take_more}
use Rattle.std.proofs.lemmas.List.{ext_get_or, length-map, get_or-map, length-take-le, length-drop, get_or-take}
use Rattle.std.proofs.lemmas.List.{get_or-drop}
use Rattle.std.proofs.lemmas.List.FromFn.{length-map-range_with_len, get_or-map-range_with_len}
use Rattle.cla_spec.specs.Numbers.{InRange}
use Rattle.cla_spec.specs.Matrix.{most_cells}
use Rattle.cla_layout.specs.Groups.{at, code_of}
use Rattle.cla_layout.specs.Tuples.{tuple_at, tuples_of}
use Rattle.cla_group.specs.Dictionaries.{AreInOrder}
use Rattle.cla_group.proofs.Projections.{places_few, stretch_item}
use Rattle.cla_group.specs.Rows.{ArePlaces}
use Rattle.cla_layout.proofs.Tuples.{tuples_count, tuple_is, tuple_width, tuple_value, place_within, item_holds}
use Rattle.cla_group.specs.Dictionaries.{DictionaryOf, AreTuples, AreValues, in_order}

pub tuples_are : {N : Type 0} (bits : ℕ) (value : N → ℤ) → ((x : N) → InRange bits (value x)) →
    (width n : ℕ) (values : List N)
    → AreValues width n (length values) → AreTuples bits width (tuples_of width n (map value values))
tuples_are bits value in_range width n values are =
    let count : length (tuples_of width n (map value values)) ≡ n = tuples_count width n (map value values) in
    record {
      a_column = are.a_column;
      a_tuple = rw count are.a_tuple;
      few = rw count (omega (arith, are.whole, are.few));
      full = λ k there. tuple_width width n (map value values) k (rw count at there);
      small = λ k c there place.
          (let k_there : k < n = rw count at there in
          rw (tuple_value width n (map value values) k c k_there place)
          (item_holds value (InRange bits) in_range values (k * width + c)
          (rw are.whole (place_within width n k c k_there place))));
    }

pub values_narrow : (width n values : ℕ) → AreValues width n values → width ≤ most_cells
values_narrow width n values are = omega (arith, are.whole, are.few, mul-le-mul_right {m = 1} {n = n} width are.a_tuple)

-- what some places of each tuple hold is no more
pub places_fit : (width n values : ℕ) (places : List ℕ) → AreValues width n values → ArePlaces width places
    → (length places ≤ width) × (n * length places ≤ values)
places_fit width n values places are rise =
    let narrow = places_few width places rise in
    (narrow, omega (arith, are.whole, mul-le-mul_left {m = length places} {n = width} n narrow))

-- a dictionary is its width and its tuples
abbrev pub the_dictionary : ℕ → List (List ℤ) → DictionaryOf
the_dictionary width tuples = record { width = width; tuples = tuples }

tuple_same : (width : ℕ) (new old : List ℤ) (k j : ℕ) →
    ((c : ℕ) → c < width → at new (k * width + c) ≡ at old (j * width + c))
    → tuple_at width new k ≡ tuple_at width old j
tuple_same width new old k j same =
    ext_get_or (pos 0) (tuple_at width new k) (tuple_at width old j)
    (length-map-range_with_len (λ c. at new (k * width + c)) 0 width ∙ sym
    (length-map-range_with_len (λ c. at old (j * width + c)) 0 width))
    (λ c lt. (let there : c < width = rw (length-map-range_with_len (λ c. at new (k * width + c)) 0 width) at lt in
    get_or-map-range_with_len (λ c. at new (k * width + c)) 0 width c c (pos 0) there (omega arith) ∙ same c there
    ∙ sym (get_or-map-range_with_len (λ c. at old (j * width + c)) 0 width c c (pos 0) there (omega arith))))

-- one more tuple
pub tuples_more : (width n : ℕ) (values tuple : List ℤ) → length values ≡ n * width → length tuple ≡ width
    → tuples_of width (n + 1) (values ++ tuple) ≡ tuples_of width n values ++ tuple ∷ []
tuples_more width n values tuple whole full =
    let all = values ++ tuple in
    let old = tuples_of width n values in
    let count : length old ≡ n = tuples_count width n values in
    ext_get_or [] (tuples_of width (n + 1) all) (old ++ tuple ∷ [])
    (tuples_count width (n + 1) all ∙ sym (length_push old tuple ∙ ap (λ (m : ℕ). m + 1) count))
    (λ k lt. (let there : k < n + 1 = rw (tuples_count width (n + 1) all) at lt in
    tuple_is width (n + 1) all k there ∙ elim (cases_lt k n) [
      | inl before ↦
          let place = λ (c : ℕ) (c_there : c < width). get_or_append_left values tuple (pos 0) (k * width + c)
          (rw whole (place_within width n k c before c_there)) in
          tuple_same width all values k k place ∙ sym (tuple_is width n values k before)
          ∙ sym (get_or_append_left old (tuple ∷ []) [] k (rw count before))
      | inr past ↦
          let last : k ≡ n = omega (arith, there, past) in
          let size = length-map-range_with_len (λ c. at all (k * width + c)) 0 width in
          ext_get_or (pos 0) (tuple_at width all k) tuple (size ∙ sym full) (λ c c_lt.
          (let c_there : c < width = rw size at c_lt in
          get_or-map-range_with_len (λ c. at all (k * width + c)) 0 width c c (pos 0) c_there (omega arith)
          ∙ ap (λ (m : ℕ). at all (m + c)) (ap (λ (m : ℕ). m * width) last ∙ sym whole)
          ∙ get_or-append-add values tuple c (pos 0)))
          ∙ sym (get_or_push old tuple [] k (count ∙ sym last))
    ]))

-- the values of the first k of these tuples
pub record AreFirst (width k : ℕ) (wanted : List (List ℤ)) (values : List ℤ) : Type 0 where
  pub whole : length values ≡ k * width
  pub are : tuples_of width k values ≡ take k wanted

pub first_more : (width k : ℕ) (wanted : List (List ℤ)) (values next : List ℤ) → AreFirst width k wanted values →
    k < length wanted
    → next ≡ get_or wanted k [] → length next ≡ width → AreFirst width (k + 1) wanted (values ++ next)
first_more width k wanted values next first there is full = record {
  whole = omega (arith, length-append values next, first.whole, full);
  are = tuples_more width k values next first.whole full ∙ ap (λ (ts : List (List ℤ)). ts ++ next ∷ []) first.are
      ∙ ap (λ (t : List ℤ). take k wanted ++ t ∷ []) is ∙ sym (take_more wanted k [] there);
}

pub in_order_tuples : (width n : ℕ) (order : List ℕ) (old new : List ℤ) →
    ((k : ℕ) → k < length order → code_of order k < n)
    → AreInOrder width order old new → tuples_of width (length order) new ≡ in_order order (tuples_of width n old)
in_order_tuples width n order old new within same =
    let m = length order in
    let tuples = tuples_of width n old in
    ext_get_or [] (tuples_of width m new) (in_order order tuples)
    (tuples_count width m new ∙ sym (length-map order (λ k. get_or tuples k [])))
    (λ k lt. (let there : k < m = rw (tuples_count width m new) at lt in
    tuple_is width m new k there ∙ tuple_same width new old k (code_of order k) (λ c place. same k c there place)
    ∙ sym (tuple_is width n old (code_of order k) (within k there))
    ∙ sym (get_or-map (λ k. get_or tuples k []) order k 0 [] there)))

-- how many values stand between tuple a and tuple b
pub slice_size : (width a b : ℕ) → a < b → b * width - a * width ≡ (b - a) * width
slice_size width a b some =
    let sum : b ≡ a + (b - a) = omega (arith, some) in
    let product : b * width ≡ a * width + (b - a) * width = ap (λ (m : ℕ). m * width) sum ∙ omega arith in
    omega (arith, product)

-- the values from tuple a to before tuple b are those of these tuples
pub slice_tuples : {N : Type 0} (value : N → ℤ) (width n a b : ℕ) (items : List N) → a < b → b ≤ n →
    tuples_of width (b - a)
    (map value (take (b * width - a * width) (drop (a * width) items)))
    ≡ take (b - a) (drop a (tuples_of width n (map value items)))
slice_tuples {N} value width n a b items some within =
    let cut = take (b * width - a * width) (drop (a * width) items) in
    let old = tuples_of width n (map value items) in
    let count : length old ≡ n = tuples_count width n (map value items) in
    let left : length (drop a old) ≡ n - a = length-drop a old ∙ ap (λ (m : ℕ). m - a) count in
    let there : b - a ≤ length (drop a old) = omega (arith, left, within) in
    ext_get_or [] (tuples_of width (b - a) (map value cut)) (take (b - a) (drop a old))
    (tuples_count width (b - a) (map value cut) ∙ sym (length-take-le (b - a) (drop a old) there))
    (λ k lt. (let k_there : k < b - a = rw (tuples_count width (b - a) (map value cut)) at lt in
    tuple_is width (b - a) (map value cut) k k_there
    ∙ tuple_same width (map value cut) (map value items) k (a + k) (λ c place.
    (let inside : k * width + c < b * width - a * width =
    rw (slice_size width a b some) (place_within width (b - a) k c k_there place) in
    let place_is : a * width + (k * width + c) ≡ (a + k) * width + c = omega arith in
    stretch_item value items (a * width) (b * width - a * width) (k * width + c) inside
    ∙ ap (at (map value items)) place_is))
    ∙ sym (tuple_is width n (map value items) (a + k) (omega (arith, k_there, within)))
    ∙ sym (get_or-drop a old k [])
    ∙ sym (get_or-take (b - a) (drop a old) k [] k_there)))

-- the values of tuple k, cut out
pub tuple_piece : {N : Type 0} (value : N → ℤ) (width n k size : ℕ) (values : List N) → length values ≡ n * width →
    k < n → size ≡ width
    → map value (take size (drop (k * width) values)) ≡ get_or (tuples_of width n (map value values)) k []
tuple_piece value width n k size values whole there is =
    let piece = take size (drop (k * width) values) in
    let all = mul-le-mul_right {m = k + 1} {n = n} width (omega (arith, there)) in
    let full : length (map value piece) ≡ width =
    length-map piece value
    ∙ length-take-le size (drop (k * width) values) (omega (arith, length-drop (k * width) values, is, whole, all))
    ∙ is in
    let items = λ (c : ℕ). at (map value values) (k * width + c) in
    ext_get_or (pos 0) (map value piece) (tuple_at width (map value values) k) (full
    ∙ sym (length-map-range_with_len items 0 width))
    (λ c lt. (let place : c < width = rw full at lt in
    stretch_item value values (k * width) size c (omega (arith, place, is))
    ∙ sym (get_or-map-range_with_len items 0 width c c (pos 0) place (omega arith))))
    ∙ sym (tuple_is width n (map value values) k there)
