-- Groups that are made of others.
use Rattle.std.proofs.Common.{refl, ◌≡◌, ℕ, ℤ, pos, ◌+◌, ◌-◌, ◌*◌, ◌<◌, ◌≤◌, List, [], length, map, take, drop}
use Rattle.std.proofs.Common.{get_or, ap, sym, ◌∙◌, arith}
use Rattle.std.proofs.Math.Nat.{mul-le-mul_left, mul-le-mul_right}
use Rattle.std.proofs.lemmas.List.{length-map, get_or-map}
use Rattle.cla_spec.specs.Matrix.{most_cells}
use Rattle.cla_layout.specs.Groups.{at, code_of, value_of, IsGroup}
use Rattle.cla_group.specs.Rows.{AreRowsFrom, ArePlaces, projected}
use Rattle.cla_rows.specs.Renaming.{AreRenamed}
use Rattle.cla_layout.proofs.Coded.{rows_between, row_between}
use Rattle.cla_layout.proofs.Counts.{used_few}
use Rattle.cla_group.proofs.Projections.{places_few}
use Rattle.cla_layout.specs.Tuples.{AreCodes}
use Rattle.cla_group.specs.Dictionaries.{DictionaryOf, AreTuples, AreValues, in_order}
use Rattle.cla_group.specs.KeptRows.{AreKeptRows}

-- the same codes with other tuples
pub group_valued : (bits width : ℕ) (codes : List ℕ) (tuples tuples' : List (List ℤ)) → IsGroup bits width codes tuples
    → AreTuples bits width tuples' → length tuples' ≡ length tuples → IsGroup bits width codes tuples'
group_valued bits width codes tuples tuples' is are count = record {
  a_row = is.a_row;
  a_column = is.a_column;
  few_cells = is.few_cells;
  in_tuples = λ i row. rw count (is.in_tuples i row);
  used = λ k there. is.used k (rw count at there);
  full = are.full;
  small = are.small;
}

-- some of the columns
pub group_projected : (bits width : ℕ) (codes : List ℕ) (tuples : List (List ℤ)) (places : List ℕ) →
    IsGroup bits width codes tuples
    → ArePlaces width places → IsGroup bits (length places) codes (map (projected places) tuples)
group_projected bits width codes tuples places is are =
    let count : length (map (projected places) tuples) ≡ length tuples = length-map tuples (projected places) in
    let tuple : (k : ℕ) → k < length tuples → get_or (map (projected places) tuples) k []
    ≡ projected places (get_or tuples k []) =
    (λ k there. get_or-map (projected places) tuples k [] [] there) in
    record {
      a_row = is.a_row;
      a_column = are.some;
      few_cells =
          omega (
            arith,
            is.few_cells,
            mul-le-mul_left {m = length places} {n = width} (length codes)
                (places_few width places are),
          );
      in_tuples = λ i row. rw count (is.in_tuples i row);
      used = λ k there. is.used k (rw count at there);
      full = λ k there. ap (λ (t : List ℤ). length t) (tuple k (rw count at there))
          ∙ length-map places (at (get_or tuples k []));
      small = λ k c there place.
          (let k_there : k < length tuples = rw count at there in
          rw (ap (λ (t : List ℤ). at t c) (tuple k k_there)
          ∙ get_or-map (at (get_or tuples k [])) places c 0 (pos 0) place)
          (is.small k (code_of places c) k_there (are.within c place)));
    }

-- some of the rows
in_order_tuple : (order : List ℕ) (tuples : List (List ℤ)) (k : ℕ) → k < length order
    → get_or (in_order order tuples) k [] ≡ get_or tuples (code_of order k) []
in_order_tuple order tuples k there = get_or-map (λ k. get_or tuples k []) order k 0 [] there

pub group_sliced : (bits width a b : ℕ) (codes : List ℕ) (tuples : List (List ℤ)) (new order : List ℕ) → a < b →
    b ≤ length codes
    → IsGroup bits width codes tuples → AreRenamed (length tuples) (take (b - a) (drop a codes)) new order
    → IsGroup bits width new (in_order order tuples)
group_sliced bits width a b codes tuples new order some within is are =
    let rows : length new ≡ b - a = are.rows ∙ rows_between a b codes within in
    let count : length (in_order order tuples) ≡ length order = length-map order (λ k. get_or tuples k []) in
    record {
      a_row = omega (arith, rows, some);
      a_column = is.a_column;
      few_cells = omega (
        arith,
        is.few_cells,
        ap (λ (n : ℕ). n * width) rows,
        mul-le-mul_right {m = b - a} {n = length codes} width
            (omega (arith, within)),
      );
      in_tuples = λ i row. rw count (are.named i (omega (arith, row, are.rows)));
      used = λ k there. are.used k (rw count at there);
      full = λ k there. (let k_there : k < length order = rw count at there in ap (λ (t : List ℤ). length t)
          (in_order_tuple order tuples k k_there) ∙ is.full (code_of order k) (are.within k k_there));
      small = λ k c there place. (let k_there : k < length order = rw count at there in rw
          (ap (λ (t : List ℤ). at t c) (in_order_tuple order tuples k k_there))
          (is.small (code_of order k) c (are.within k k_there) place));
    }

pub rows_sliced : (bits width a b : ℕ) (codes : List ℕ) (tuples : List (List ℤ)) (new order : List ℕ) → b ≤ length codes
    → IsGroup bits width codes tuples → AreRenamed (length tuples) (take (b - a) (drop a codes)) new order
    → AreRowsFrom a (b - a) width codes tuples new (in_order order tuples)
rows_sliced bits width a b codes tuples new order within is are =
    let rows : length (take (b - a) (drop a codes)) ≡ b - a = rows_between a b codes within in
    let name : (i : ℕ) → i < b - a → code_of new i < length order = (λ i row. are.named i (rw rows row)) in
    let same : (i : ℕ) → i < b - a → code_of order (code_of new i) ≡ code_of codes (a + i) =
    (λ i row. are.same i (rw rows row) ∙ row_between a b codes i row) in
    record {
      rows = are.rows ∙ rows;
      cells =
          λ i c row place. ap (λ (t : List ℤ). at t c) (in_order_tuple order tuples (code_of new i) (name i row))
          ∙ ap (λ (k : ℕ). value_of tuples k c) (same i row);
      alike = λ i j i_row j_row. (
        (λ one. sym (same i i_row) ∙ ap (code_of order) one ∙ same j j_row),
        (λ one. are.distinct (code_of new i) (code_of new j) (name i i_row) (name j j_row)
            (same i i_row ∙ one ∙ sym (same j j_row))),
      );
    }

-- the values of a group's codes are a dictionary's
pub dictionary_values : (width n : ℕ) (codes : List ℕ) (values : ℕ) → AreCodes width n codes values →
    AreValues width n values
dictionary_values width n codes values are = record {
  a_column = are.a_column;
  a_tuple = omega (arith, are.in_tuples 0 (omega (arith, are.a_row)));
  whole = are.whole;
  few =
      omega (
        arith,
        are.few_cells,
        are.whole,
        mul-le-mul_right {m = n} {n = length codes} width (used_few codes n are.used),
      );
}

-- the rows that are kept with new codes, in the order that renumbers them
pub rows_kept : (bits : ℕ) (codes : List ℕ) (from : DictionaryOf) (new order : List ℕ) (kept : DictionaryOf)
    → AreRenamed (length from.tuples) codes new order →
    kept ≡ record { width = from.width; tuples = in_order order from.tuples }
    → AreKeptRows bits codes from new kept
rows_kept bits codes from new order kept are is =
    let count : length (in_order order from.tuples) ≡ length order = length-map order (λ k. get_or from.tuples k []) in
    rw is (record {
      width = refl;
      few = rw count are.few;
      numbered = λ k there. are.rising k (k + 1) (omega arith) (rw count at there);
      group = λ a b all some within cut group. group_sliced bits from.width a b all from.tuples new order some within
          group (rw cut at are);
      rows = λ a b all some within cut group. rows_sliced bits from.width a b all from.tuples new order within group
          (rw cut at are);
    })
