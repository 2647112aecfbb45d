-- The tuple of zeros among others, and the owners that lists make.
use Rattle.std.proofs.Common.{mul-le-mul_right, ◌≡◌, ℕ, ℤ, pos, zero, suc, ◌+◌, ◌*◌, ◌-◌, ◌<◌, ◌≤◌, min, Bool, List}
use Rattle.std.proofs.Common.{[], ◌∷◌, ◌++◌, length, map, take, drop, replicate, Ok, refl, sym, ap, subst, ◌∙◌}
use Rattle.std.proofs.Common.{append_assoc, arith, inl, inr}
use native.Mathlib.Nat.{add-mul}
use Rattle.std.specs.Prelude.{nat_lt, ◌^◌}
use Rattle.std.proofs.lemmas.Bool.{cases_Bool, cases_lt, ltb-false}
use Rattle.std.proofs.lemmas.List.{map-append, take-map, drop-map, length-append, length-take, take-append-drop}
use Rattle.std.proofs.lemmas.List.{take_at, drop_at, ext_get_or, get_or_append_left, get_or-append_right}
use Rattle.std.proofs.lemmas.List.{get_or-append-add}
use Rattle.std.proofs.lemmas.List.FromFn.{length-map-range_with_len, get_or-map-range_with_len}
use Rattle.cla_spec.specs.Bytes.{number_of}
use Rattle.cla_layout.specs.Groups.{at}
use Rattle.cla_layout.specs.Tuples.{tuple_at, tuples_of}
use Rattle.cla_layout.proofs.Tuples.{place_within}
use Rattle.cla_packed.specs.declared.fault.FieldName.{FieldName}
use Rattle.cla_packed.specs.declared.fault.PackFault.TheVariants.{Field}
use Rattle.cla_packed.specs.Fields.{Place, IsBytes, number_at, field_at, tested, after}
use Rattle.cla_packed.specs.Lists.{IsList}
use Rattle.cla_packed.specs.Offsets.{offsets_bytes}
use Rattle.cla_packed.specs.Rests.{with_tuple}
use Rattle.cla_packed.specs.Runs.{runs_bytes}
use Rattle.cla_packed_laws.proofs.Forms.{IsForm, bind_ok, passed}
use Rattle.cla_packed_laws.proofs.Offsets.{offsets_form}
use Rattle.cla_packed_laws.proofs.Runs.{runs_form}
use Rattle.cla_pack_reader.specs.Listings.{Listing, AsOffsets, AsRuns, rows_at}
use Rattle.cla_pack_reader.proofs.TupleLaws.{tuples_more}

-- ---- tuples one behind the other

add_times : (w a b : ℕ) → (a + b) * w ≡ a * w + b * w
add_times w a b = add-mul a b w

module _ (width m n : ℕ) (xs ys : List ℤ) (whole : length xs ≡ m * width) where
  front : (q : ℕ) → q < m → tuple_at width (xs ++ ys) q ≡ tuple_at width xs q
  front q lt = ext_get_or (pos 0) (tuple_at width (xs ++ ys) q) (tuple_at width xs q)
      (length-map-range_with_len (λ c. at (xs ++ ys) (q * width + c)) 0 width
      ∙ sym (length-map-range_with_len (λ c. at xs (q * width + c)) 0 width)) (λ c there.
      let fits : c < width =
      omega (arith, there, length-map-range_with_len (λ c. at (xs ++ ys) (q * width + c)) 0 width) in
      let place : q * width + c < length xs = omega (arith, whole, place_within width m q c lt fits) in
      get_or-map-range_with_len (λ c. at (xs ++ ys) (q * width + c)) 0 width c c (pos 0) fits (omega arith)
      ∙ get_or_append_left xs ys (pos 0) (q * width + c) place
      ∙ sym (get_or-map-range_with_len (λ c. at xs (q * width + c)) 0 width c c (pos 0) fits (omega arith)))

  back : (q : ℕ) → m ≤ q → tuple_at width (xs ++ ys) q ≡ tuple_at width ys (q - m)
  back q le = ext_get_or (pos 0) (tuple_at width (xs ++ ys) q) (tuple_at width ys (q - m))
      (length-map-range_with_len (λ c. at (xs ++ ys) (q * width + c)) 0 width
      ∙ sym (length-map-range_with_len (λ c. at ys ((q - m) * width + c)) 0 width)) (λ c there.
      let fits : c < width =
      omega (arith, there, length-map-range_with_len (λ c. at (xs ++ ys) (q * width + c)) 0 width) in
      let all : q ≡ m + (q - m) = omega (arith, le) in
      let parts : q * width ≡ m * width + (q - m) * width = ap (λ (k : ℕ). k * width) all ∙ add_times width m (q - m) in
      let place : q * width + c ≡ length xs + ((q - m) * width + c) = omega (arith, whole, parts) in
      get_or-map-range_with_len (λ c. at (xs ++ ys) (q * width + c)) 0 width c c (pos 0) fits (omega arith)
      ∙ ap (λ (i : ℕ). at (xs ++ ys) i) place ∙ get_or-append-add xs ys ((q - m) * width + c) (pos 0)
      ∙ sym (get_or-map-range_with_len (λ c. at ys ((q - m) * width + c)) 0 width c c (pos 0) fits (omega arith)))

  tuples_join : tuples_of width (m + n) (xs ++ ys) ≡ tuples_of width m xs ++ tuples_of width n ys
  tuples_join =
      let all = tuple_at width (xs ++ ys) in
      let one = tuples_of width m xs in
      let two = tuples_of width n ys in
      let size_one : length one ≡ m = length-map-range_with_len (tuple_at width xs) 0 m in
      let size_two : length two ≡ n = length-map-range_with_len (tuple_at width ys) 0 n in
      ext_get_or [] (tuples_of width (m + n) (xs ++ ys)) (one ++ two)
      (length-map-range_with_len all 0 (m + n) ∙ omega (arith, length-append one two, size_one, size_two)) (λ q there.
      let lt : q < m + n = omega (arith, there, length-map-range_with_len all 0 (m + n)) in
      get_or-map-range_with_len all 0 (m + n) q q [] lt (omega arith) ∙ elim (cases_lt q m) [
        | inl first ↦ front q first ∙ sym (get_or_append_left one two [] q (omega (arith, first, size_one))
            ∙ get_or-map-range_with_len (tuple_at width xs) 0 m q q [] first (omega arith))
        | inr second ↦ back q second ∙ sym (get_or-append_right one two m q [] size_one second
            ∙ get_or-map-range_with_len (tuple_at width ys) 0 n (q - m) (q - m) [] (omega (arith, lt, second))
            (omega arith))
      ])

module _ (width d r : ℕ) (old z : List ℤ) (whole : length old ≡ d * width) (le : r ≤ d) (full : length z ≡ width) where
  place : ℕ
  place = r * width

  parts : (place ≤ length old) × (length (take place old) ≡ r * width)
  unfolding place
  parts =
      let near : r * width ≤ d * width = mul-le-mul_right width le in
      let fits : r * width ≤ length old = omega (arith, near, whole) in
      (fits, length-take (r * width) old ∙ omega (arith, fits))

  -- one more tuple in its place
  pub tuple_in : tuples_of width (d + 1) (take (r * width) old ++ (z ++ drop (r * width) old))
      ≡ with_tuple r z (tuples_of width d old)
  unfolding place
  tuple_in =
      let xs = take (r * width) old in
      let ys = drop (r * width) old in
      let n = d - r in
      let one = tuples_of width r xs in
      let two = tuples_of width n ys in
      let size : length one ≡ r = length-map-range_with_len (tuple_at width xs) 0 r in
      let more : d + 1 ≡ r + (1 + n) = omega (arith, le) in
      let all : d ≡ r + n = omega (arith, le) in
      let single : tuples_of width 1 z ≡ z ∷ [] = tuples_more width 0 [] z (omega arith) full in
      let zs : length z ≡ 1 * width = omega (arith, full) in
      let here : tuples_of width d old ≡ one ++ two =
      ap (λ (k : ℕ). tuples_of width k old) all
      ∙ ap (λ (vs : List ℤ). tuples_of width (r + n) vs) (sym (take-append-drop (r * width) old))
      ∙ tuples_join width r n xs ys parts.1 in
      let taken : take r (tuples_of width d old) ≡ one = ap (λ (ts : List (List ℤ)). take r ts) here
      ∙ take_at one two r size in
      let dropped : drop r (tuples_of width d old) ≡ two = ap (λ (ts : List (List ℤ)). drop r ts) here
      ∙ drop_at one two r size in
      ap (λ (k : ℕ). tuples_of width k (xs ++ (z ++ ys))) more
      ∙ tuples_join width r (1 + n) xs (z ++ ys) parts.1
      ∙ ap (λ (ts : List (List ℤ)). one ++ ts) (tuples_join width 1 n z ys zs
      ∙ ap (λ (ts : List (List ℤ)). ts ++ two) single)
      ∙ sym (rw (taken, dropped) refl)

  pub count_in : length (take (r * width) old ++ (z ++ drop (r * width) old)) ≡ (d + 1) * width
  count_in =
      let whole_again = ap (λ (l : List ℤ). length l) (take-append-drop (r * width) old)
      ∙ whole in
      let more : (d + 1) * width ≡ d * width + width = add_times width d 1 ∙ omega arith in
      omega (
        arith,
        length-append (take (r * width) old) (z ++ drop (r * width) old),
        length-append z (drop (r * width) old),
        length-append (take (r * width) old) (drop (r * width) old),
        whole_again,
        full,
        more,
      )

map_zeros : {N : Type 0} (value : N → ℤ) (zero : N) (n : ℕ) → value zero ≡ pos 0
    → map value (replicate n zero) ≡ replicate n (pos 0)
map_zeros value z zero h = refl
map_zeros value z (suc n) h = rw (h, map_zeros value z n h) refl

-- values with zeros in a place
pub zeros_put : {N : Type 0} (value : N → ℤ) (values : List N) (i n more : ℕ) (z : N) → i ≤ length values
    → value z ≡ pos 0 → more ≡ n
    → map value ((take i values ++ replicate more z) ++ drop i values)
    ≡ take i (map value values) ++ (replicate n (pos 0) ++ drop i (map value values))
zeros_put value values i n more z le h is =
    map-append value (take i values ++ replicate more z) (drop i values)
    ∙ ap (λ (l : List ℤ). l ++ map value (drop i values)) (map-append value (take i values)
    (replicate more z))
    ∙ append_assoc (map value (take i values)) (map value (replicate more z)) (map value (drop i values))
    ∙ ap (λ (l : List ℤ). l ++ (map value (replicate more z) ++ map value (drop i values)))
    (sym (take-map value i values))
    ∙ ap (λ (l : List ℤ). take i (map value values) ++ (l ++ map value (drop i values)))
    (map_zeros value z more h ∙ ap (λ (k : ℕ). replicate k (pos 0)) is)
    ∙ ap (λ (l : List ℤ). take i (map value values) ++ (replicate n (pos 0) ++ l)) (sym (drop-map value i values))

-- ---- the owners that lists make

pub none_bytes : IsBytes []
none_bytes i = omega arith

near_number : (k group : ℕ) (name : FieldName) (p q : Place) (n : ℕ) → number_at k group name p ≡ Ok (n, q)
    → q.offset ≤ q.limit
unfolding number_at
near_number k group name p q n h = elim (cases_Bool (nat_lt p.limit (p.offset + min k (length p.rest)))) [
  | inl past ↦ (let e = rw past at h in cc)
  | inr in_limit ↦ elim (cases_Bool (nat_lt (length p.rest) k)) [
    | inl short ↦ (let e = rw (in_limit, short) at h in cc)
    | inr there ↦
        let e = rw (in_limit, there) at h in
        let same : (number_of (take k p.rest), after k p) ≡ (n, q) = cc in
        subst (λ (x : ℕ × Place). x.1.offset ≤ x.1.limit) same (omega (
          arith,
          ltb-false p.limit (p.offset + min k (length p.rest)) in_limit,
          ltb-false (length p.rest) k there,
        ))
  ]
]

pub near_field : (k : ℕ) (test : ℕ → Bool) (group : ℕ) (name : FieldName) (p q : Place) (n : ℕ)
    → field_at k test group name p ≡ Ok (n, q) → q.offset ≤ q.limit
unfolding field_at
near_field k test group name p q n h =
    let b = bind_ok (number_at k group name p) (λ x. tested (test x.0) (Field group name p.offset) x) (n, q) h in
    let c = passed (test b.0.0) (Field group name p.offset) b.0 (n, q) b.2 in
    near_number k group name p q n (b.1 ∙ ap (λ (x : ℕ × Place). Ok x) c.1)

pub list_bytes : Listing → ℕ → List ℕ → List ℕ
list_bytes AsOffsets rows = offsets_bytes 32768 rows
list_bytes AsRuns rows = runs_bytes

pub list_form_of : (listing : Listing) (rows group : ℕ) → 0 < rows → rows < 2 ^ 31 → (earlier : List (List ℕ))
    → IsForm (rows_at listing rows group earlier) (IsList rows earlier) (list_bytes listing rows)
unfolding list_bytes
list_form_of AsOffsets rows group some few earlier =
    offsets_form 32768 rows group earlier (omega arith) (omega arith) some
list_form_of AsRuns rows group some few earlier = runs_form rows group earlier (omega (arith, few))
