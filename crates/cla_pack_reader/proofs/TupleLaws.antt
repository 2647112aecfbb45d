-- Tuples of values that stand tuple after tuple, and the set of those that were seen.
use Rattle.std.proofs.Common.{◌≡◌, ℕ, ℤ, pos, ◌+◌, ◌*◌, ◌-◌, ◌<◌, Bool, true, false, List, [], ◌∷◌, ◌++◌, length, map}
use Rattle.std.proofs.Common.{take, drop, refl, sym, ap, ◌∙◌, arith}
use Rattle.std.specs.Prelude.{◌&&◌, not}
use Rattle.std.specs.List.{range_with_len}
use Rattle.std.specs.Ordering.{int_eq}
use Rattle.std.specs.Cmp.Lexicographic.{pointwise}
use Rattle.std.proofs.lemmas.List.{length-map, drop-map, take-map, take_at, drop_at, ext_get_or}
use Rattle.std.proofs.lemmas.List.{get_or_append_left, get_or-append_right}
use Rattle.std.proofs.lemmas.List.FromFn.{length-map-range_with_len, get_or-map-range_with_len, map-range_with_len_more}
use Rattle.std.proofs.lemmas.Bool.{and_left, and_right, and_from, not_from_true, not_from_false}
use Rattle.cla_layout.specs.Groups.{at}
use Rattle.cla_layout.specs.Listed.{is_zero}
use Rattle.cla_layout.specs.Tuples.{tuple_at, tuples_of}
use Rattle.cla_layout.proofs.Tuples.{place_within}
use Rattle.cla_packed.specs.Values.{is_among}
use Rattle.cla_pack_reader.specs.Tuples.{fits_tuple}

module _ {N : Type 0} (value : N → ℤ) (eq : N → N → Bool) (same : (x y : N) → eq x y ≡ int_eq (value x) (value y)) where
  -- tuples are compared by their integers
  pub pointwise_same : (xs ys : List N) → pointwise eq xs ys ≡ pointwise int_eq (map value xs) (map value ys)
  pointwise_same [] [] = refl
  pointwise_same [] (y ∷ ys) = refl
  pointwise_same (x ∷ xs) [] = refl
  pointwise_same (x ∷ xs) (y ∷ ys) = rw (same x y, pointwise_same xs ys) refl

module _ (width n : ℕ) (values tuple : List ℤ) (whole : length values ≡ n * width) (full : length tuple ≡ width) where
  before : (q : ℕ) → q < n → tuple_at width (values ++ tuple) q ≡ tuple_at width values q
  before q lt = ext_get_or (pos 0) (tuple_at width (values ++ tuple) q) (tuple_at width values q)
      (length-map-range_with_len (λ c. at (values ++ tuple) (q * width + c)) 0 width
      ∙ sym (length-map-range_with_len (λ c. at values (q * width + c)) 0 width)) (λ c there.
      let fits : c < width =
      omega (arith, there, length-map-range_with_len (λ c. at (values ++ tuple) (q * width + c)) 0 width) in
      let place : q * width + c < length values = omega (arith, whole, place_within width n q c lt fits) in
      get_or-map-range_with_len (λ c. at (values ++ tuple) (q * width + c)) 0 width c c (pos 0) fits (omega arith)
      ∙ get_or_append_left values tuple (pos 0) (q * width + c) place
      ∙ sym (get_or-map-range_with_len (λ c. at values (q * width + c)) 0 width c c (pos 0) fits (omega arith)))

  last : tuple_at width (values ++ tuple) n ≡ tuple
  last = ext_get_or (pos 0) (tuple_at width (values ++ tuple) n) tuple
      (length-map-range_with_len (λ c. at (values ++ tuple) (n * width + c)) 0 width ∙ sym full) (λ c there.
      let fits : c < width =
      omega (arith, there, length-map-range_with_len (λ c. at (values ++ tuple) (n * width + c)) 0 width) in
      let place : n * width + c - n * width ≡ c = omega arith in
      get_or-map-range_with_len (λ c. at (values ++ tuple) (n * width + c)) 0 width c c (pos 0) fits (omega arith)
      ∙ get_or-append_right values tuple (n * width) (n * width + c) (pos 0) whole (omega arith)
      ∙ ap (λ (i : ℕ). at tuple i) place)

  -- one tuple more
  pub tuples_more : tuples_of width (n + 1) (values ++ tuple) ≡ tuples_of width n values ++ tuple ∷ []
  tuples_more =
      let all = tuple_at width (values ++ tuple) in
      let front : map all (range_with_len 0 n) ≡ tuples_of width n values =
      ext_get_or [] (map all (range_with_len 0 n)) (tuples_of width n values)
      (length-map-range_with_len all 0 n ∙ sym (length-map-range_with_len (tuple_at width values) 0 n))
      (λ q there.
      let lt : q < n = omega (arith, there, length-map-range_with_len all 0 n) in
      get_or-map-range_with_len all 0 n q q [] lt (omega arith) ∙ before q lt
      ∙ sym (get_or-map-range_with_len (tuple_at width values) 0 n q q [] lt (omega arith))) in
      map-range_with_len_more all 0 n n (omega arith) ∙ rw (front, last) refl

-- the values behind those that were there are the tuple's
pub key_is : {N : Type 0} (value : N → ℤ) (old new : List N) (tuple : List ℤ) (n : ℕ)
    → map value new ≡ map value old ++ tuple → n ≡ length old → map value (drop n new) ≡ tuple
key_is value old new tuple n more here =
    sym (drop-map value n new) ∙ ap (λ (vs : List ℤ). drop n vs) more
    ∙ drop_at (map value old) tuple n (length-map old value ∙ sym here)

-- and those before them are as they were
pub front_is : {N : Type 0} (value : N → ℤ) (old new : List N) (tuple : List ℤ) (n : ℕ)
    → map value new ≡ map value old ++ tuple → n ≡ length old → map value (take n new) ≡ map value old
front_is value old new tuple n more here =
    sym (take-map value n new) ∙ ap (λ (vs : List ℤ). take n vs) more
    ∙ take_at (map value old) tuple n (length-map old value ∙ sym here)

module _ (listed : Bool) (before : List (List ℤ)) (tuple : List ℤ) where
  pub zero_unfit : (listed && is_zero tuple) ≡ true → fits_tuple listed before tuple ≡ false
  zero_unfit bad = and_right (not (is_among before tuple)) (not (listed && is_zero tuple))
      (not_from_true (listed && is_zero tuple) bad)

  pub among_unfit : not (is_among before tuple) ≡ false → fits_tuple listed before tuple ≡ false
  among_unfit bad = and_left (not (is_among before tuple)) (not (listed && is_zero tuple)) bad

  pub tuple_fits : not (is_among before tuple) ≡ true → (listed && is_zero tuple) ≡ false
      → fits_tuple listed before tuple ≡ true
  tuple_fits new some = and_from (not (is_among before tuple)) (not (listed && is_zero tuple)) new
      (not_from_false (listed && is_zero tuple) some)
