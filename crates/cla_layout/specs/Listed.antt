-- Rows that are listed by code (PVLDB 9(12), section 3: offset lists and run lengths). One tuple may have no list,
-- the rest.
use Rattle.std.specs.Prelude.{ℕ, ℤ, pos, ◌-◌, List, length, filter, Option, Some, None, Bool, false, ◌==◌, ◌&&◌, ◌||◌}
use Rattle.std.specs.Prelude.{not, nat_lt, if◌then◌else◌}
use Rattle.std.specs.List.{range_with_len, position_or_len, list_all}
use Rattle.std.specs.Ordering.{int_eq}
use Rattle.cla_layout.specs.Groups.{code_of}

-- a tuple of zeros
abbrev pub is_zero : List ℤ → Bool
is_zero tuple = list_all (λ v. int_eq v (pos 0)) tuple

-- the rest of a group, which is the tuple without a list: today the first one of zeros, if there is one
abbrev pub rest_of : List ℕ → List (List ℤ) → Option ℕ
rest_of codes tuples = let k = position_or_len is_zero tuples in if nat_lt k (length tuples) then Some k else None

-- the code k of n, if it is one of them
abbrev pub numbered_rest : ℕ → ℕ → Option ℕ
numbered_rest n k = if nat_lt k n then Some k else None

-- whether code k has no list
abbrev pub is_rest : Option ℕ → ℕ → Bool
is_rest None k = false
is_rest (Some rest) k = k == rest

-- the rows that pass a test, in rising order
abbrev pub rows_where : (ℕ → Bool) → ℕ → List ℕ
rows_where test rows = filter test (range_with_len 0 rows)

-- the rows that have code k
abbrev pub rows_of : List ℕ → ℕ → List ℕ
rows_of codes k = rows_where (λ i. code_of codes i == k) (length codes)

-- a run of code k begins at a row that has it where the row before hasn't
abbrev pub begins_run : List ℕ → ℕ → ℕ → Bool
begins_run codes k i = code_of codes i == k && (i == 0 || not (code_of codes (i - 1) == k))

-- the first rows of the maximal runs of code k, in rising order
abbrev pub run_begins : List ℕ → ℕ → List ℕ
run_begins codes k = rows_where (begins_run codes k) (length codes)
