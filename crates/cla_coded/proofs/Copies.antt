-- Equal parts, and a matrix as one part.
use Rattle.std.proofs.Common.{◌≡◌, ℕ, ℤ, pos, ◌+◌, ◌<◌, ◌≤◌, List, [], ◌∷◌, ◌++◌, length, map, get_or}
use Rattle.std.proofs.Common.{refl, sym, ◌∙◌}
use Rattle.std.proofs.Common.{arith, inl, inr}
use Rattle.std.specs.List.{range_with_len}
use Rattle.std.proofs.lemmas.Bool.{cases_lt}
use Rattle.std.proofs.lemmas.List.{ext_get_or, get_or-map, length-map, get_or_append_left, get_or_push}
use Rattle.std.proofs.lemmas.List.{length_push}
use Rattle.std.proofs.lemmas.List.FromFn.{length-map-range_with_len, get_or-map-range_with_len}
use Rattle.cla_spec.specs.Matrix.{Matrix}
use Rattle.cla_layout.specs.Groups.{at}
use Rattle.cla_layout.specs.Tuples.{tuples_of}
use Rattle.cla_group.specs.Rows.{ArePlaces, projected}
use Rattle.cla_layout.proofs.Loose.{first_rise}
use Rattle.cla_layout.proofs.Counting.{rows_count, code_is}
use Rattle.cla_layout.specs.Layouts.{LayoutPart, loose_layout}

-- one more column
pub columns_more : (n : ℕ) → range_with_len 0 n ++ n ∷ [] ≡ range_with_len 0 (n + 1)
columns_more n =
    let long : length (range_with_len 0 n ++ n ∷ []) ≡ n + 1 =
    omega (arith, length_push (range_with_len 0 n) n, rows_count n) in
    ext_get_or 0 (range_with_len 0 n ++ n ∷ []) (range_with_len 0 (n + 1)) (long ∙ sym (rows_count (n + 1)))
    (λ i lt. (let there : i < n + 1 = rw long at lt in elim (cases_lt i n) [
      | inl before ↦ get_or_append_left (range_with_len 0 n) (n ∷ []) 0 i (rw (rows_count n) before)
          ∙ code_is n i before
          ∙ sym (code_is (n + 1) i there)
      | inr last ↦ (let is : i ≡ n = omega (arith, there, last) in get_or_push (range_with_len 0 n) n 0 i (rows_count n
          ∙ sym is) ∙ sym is
          ∙ sym (code_is (n + 1) i there))
    ]))

-- all places of a tuple
pub all_places : (width : ℕ) → 1 ≤ width → ArePlaces width (range_with_len 0 width)
all_places width some = record {
  some = rw (rows_count width) some;
  rising = first_rise width;
  within =
      λ c there. (let c_there : c < width = rw (rows_count width) at there in rw (code_is width c c_there) c_there);
}

projected_all : (width : ℕ) (tuple : List ℤ) → length tuple ≡ width → projected (range_with_len 0 width) tuple ≡ tuple
projected_all width tuple full =
    ext_get_or (pos 0) (projected (range_with_len 0 width) tuple) tuple (length-map-range_with_len (at tuple) 0 width
    ∙ sym full)
    (λ c lt. (let there : c < width = rw (length-map-range_with_len (at tuple) 0 width) at lt in
    get_or-map-range_with_len (at tuple) 0 width c c (pos 0) there (omega arith)))

-- keep all values
pub all_projected : (width : ℕ) (tuples : List (List ℤ)) →
    ((k : ℕ) → k < length tuples → length (get_or tuples k []) ≡ width)
    → map (projected (range_with_len 0 width)) tuples ≡ tuples
all_projected width tuples full =
    ext_get_or [] (map (projected (range_with_len 0 width)) tuples) tuples
    (length-map tuples (projected (range_with_len 0 width)))
    (λ k lt. (let there : k < length tuples = rw (length-map tuples (projected (range_with_len 0 width))) at lt in
    get_or-map (projected (range_with_len 0 width)) tuples k [] [] there
    ∙ projected_all width (get_or tuples k []) (full k there)))

-- the layout of one plain part
pub one_plain_part : (m : Matrix) (rows cols : ℕ) (parts : List LayoutPart) (columns codes : List ℕ)
    (tuples : List (List ℤ)) → rows
    ≡ m.rows → cols ≡ m.cols
    → parts ≡ record { columns = columns; codes = codes; tuples = tuples } ∷ [] → columns ≡ range_with_len 0 m.cols →
    codes
    ≡ range_with_len 0 m.rows → tuples ≡ tuples_of m.cols m.rows m.cells
    → record { rows = rows; cols = cols; parts = parts } ≡ loose_layout m
one_plain_part m rows cols parts columns codes tuples rows_are cols_are parts_are columns_are codes_are tuples_are =
    rw (rows_are, cols_are, parts_are, columns_are, codes_are, tuples_are) refl
