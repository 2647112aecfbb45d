-- Groups whose tuples are their rows.
use Rattle.std.proofs.Common.{◌≡◌, ℕ, zero, suc, ℤ, ◌+◌, ◌-◌, ◌*◌, ◌/◌, ◌<◌, ◌≤◌, List, [], length, take, drop, ap}
use Rattle.std.proofs.Common.{sym, ◌∙◌, arith}
use Rattle.std.specs.List.{range_with_len}
use Rattle.std.proofs.lemmas.List.{length-take-le, length-drop, get_or-take, get_or-drop}
use Rattle.cla_layout.specs.Groups.{at, code_of, value_of, IsGroup}
use Rattle.cla_group.specs.Rows.{AreRowsFrom}
use Rattle.cla_layout.specs.Groups.{AreNumbered}
use Rattle.cla_group.specs.Dictionaries.{AreTuples, AreValues}
use Rattle.cla_layout.proofs.Counting.{rows_count, code_is, occurs_once, first_row_is}
use Rattle.cla_plain.specs.Rows.{AreRows}

-- row i has code i
pub plain_group : (bits width : ℕ) (tuples : List (List ℤ)) → AreTuples bits width tuples
    → IsGroup bits width (range_with_len 0 (length tuples)) tuples
plain_group bits width tuples are =
    let n = length tuples in
    record {
      a_row = rw (rows_count n) are.a_tuple;
      a_column = are.a_column;
      few_cells = rw (rows_count n) are.few;
      in_tuples = λ i row. (let there : i < n = rw (rows_count n) at row in rw (code_is n i there) there);
      used = λ k there. rw (occurs_once n k there) (omega arith);
      full = are.full;
      small = are.small;
    }

some_rows : (n width values : ℕ) → values ≡ n * width → 1 ≤ values → 1 ≤ n
some_rows zero width values whole some = absurd (omega (arith, whole, some))
some_rows (suc n) width values whole some = omega arith

-- whole rows of values
pub rows_whole : {X : Type 0} (width : ℕ) (values : List X) → AreRows width values →
    AreValues width (length values / width) (length values)
rows_whole width values are =
    let whole : length values ≡ (length values / width) * width = omega (arith, are.whole, are.a_column) in
    record {
      a_column = are.a_column;
      a_tuple = some_rows (length values / width) width (length values) whole are.a_value;
      whole = whole;
      few = are.few;
    }

-- the rows from row a to before row b
pub rows_cut : (width a b : ℕ) (tuples : List (List ℤ)) → a < b → b ≤ length tuples →
    AreRowsFrom a (b - a) width (range_with_len 0 (length tuples)) tuples
    (range_with_len 0 (length (take (b - a) (drop a tuples))))
    (take (b - a) (drop a tuples))
rows_cut width a b tuples some within =
    let cut = take (b - a) (drop a tuples) in
    let count : length cut ≡ b - a =
    length-take-le (b - a) (drop a tuples) (omega (arith, length-drop a tuples, within)) in
    let new : (i : ℕ) → i < b - a → code_of (range_with_len 0 (length cut)) i ≡ i =
    (λ i row. code_is (length cut) i (omega (arith, row, count))) in
    let old : (i : ℕ) → i < b - a → code_of (range_with_len 0 (length tuples)) (a + i) ≡ a + i =
    (λ i row. code_is (length tuples) (a + i) (omega (arith, row, within))) in
    record {
      rows = rows_count (length cut) ∙ count;
      cells = λ i c row place.
          ap (λ (k : ℕ). value_of cut k c) (new i row)
          ∙ ap (λ (tuple : List ℤ). at tuple c) (get_or-take (b - a) (drop a tuples) i [] row
          ∙ get_or-drop a tuples i [])
          ∙ ap (λ (k : ℕ). value_of tuples k c) (sym (old i row));
      alike = λ i j row other. (
        (λ same. omega (arith, same, new i row, new j other, old i row, old j other)),
        (λ same. omega (arith, same, new i row, new j other, old i row, old j other)),
      );
    }

pub rows_numbered : (n : ℕ) → AreNumbered (range_with_len 0 n) n
rows_numbered n = λ k there. rw (first_row_is n k (omega (arith, there)), first_row_is n (k + 1) there) (omega arith)
