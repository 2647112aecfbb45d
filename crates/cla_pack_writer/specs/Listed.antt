-- Bodies of groups, part by part.
use Rattle.std.specs.Prelude.{◌≡◌, ℕ, ℤ, ◌+◌, ◌-◌, List, ◌++◌, length, take, drop, Option, None, Some}
use Rattle.std.specs.List.{flat_map, range_with_len}
use Rattle.cla_layout.specs.Listed.{rows_of}
use Rattle.cla_rows.specs.CodeRuns.{listed_keys, AreRunsByKey}
use Rattle.cla_runs.specs.Rows.{RowsOf}
use Rattle.cla_spec.specs.Bytes.{bytes_of}
use Rattle.cla_packed.specs.Values.{tuple_bytes}
use Rattle.cla_packed.specs.Bodies.{Body}
use Rattle.cla_packed.specs.Lists.{rows_from}

-- codes and tuples as a body
abbrev pub body_with : List ℕ → List (List ℤ) → Body
body_with codes tuples = record { codes = codes; tuples = tuples }

-- how many tuples are listed, whether there is a rest, and the tuples but the rest
abbrev pub head_bytes : Option ℕ → List (List ℤ) → List ℕ
head_bytes None tuples = bytes_of 4 (length tuples) ++ (bytes_of 1 0 ++ flat_map (tuple_bytes 8) tuples)
head_bytes (Some r) tuples = bytes_of 4 (length tuples - 1)
    ++ (bytes_of 1 1 ++ (flat_map (tuple_bytes 8) (take r tuples) ++ flat_map (tuple_bytes 8) (drop (r + 1) tuples)))

-- the lists of the n codes from code a on, one after the other
abbrev pub lists_from : (List ℕ → List ℕ) → List ℕ → ℕ → ℕ → List ℕ
lists_from bytes codes a n = flat_map (λ k. bytes (rows_from 0 codes k)) (range_with_len a n)

-- the lists of all codes but the rest
abbrev pub lists_bytes : (List ℕ → List ℕ) → Option ℕ → List ℕ → ℕ → List ℕ
lists_bytes bytes None codes n = lists_from bytes codes 0 n
lists_bytes bytes (Some r) codes n = lists_from bytes codes 0 r ++ lists_from bytes codes (r + 1) (n - (r + 1))

-- how many rows of a segment are listed, and each of them, counted from the segment's first row
abbrev pub counted_offsets : List ℕ → List ℕ
counted_offsets offsets = bytes_of 2 (length offsets) ++ flat_map (bytes_of 2) offsets

-- these are the numbers of the runs of code k, which is not the rest
pub record IsListOf (rows : RowsOf) (k : ℕ) (numbers : List ℕ) : Type 0 where
  pub listed : k ≡ rows.rest → ⊥
  pub numbers_are : numbers ≡ rows_of (listed_keys rows.codes rows.rest) k
  pub runs : AreRunsByKey rows.codes rows.rest
