-- Runs of rows, each as the gap behind the run before and its length.
use Rattle.std.specs.Prelude.{ℕ, suc, ◌+◌, ◌-◌, List, [], ◌∷◌, ◌++◌, length, Bool, ◌&&◌, ◌||◌, ◌==◌, not, nat_lt}
use Rattle.std.specs.Prelude.{nat_le, if◌then◌else◌}
use Rattle.std.specs.List.{flat_map, list_all, range_with_len}
use Rattle.cla_spec.specs.Bytes.{bytes_of}
use Rattle.cla_packed.specs.declared.fault.FieldName.TheVariants.{Runs, Gap, Length}
use Rattle.cla_packed.specs.Fields.{Place, Read, field_at, then_at, list_at, as_at}
use Rattle.cla_packed.specs.Lists.{named, floor_of}

-- a gap and a length
abbrev pub Run : Type 0
Run = ℕ × ℕ

-- the row behind runs, which begin to count at row a
abbrev pub end_of : ℕ → List Run → ℕ
end_of a [] = a
end_of a (run ∷ more) = end_of (a + run.0 + run.1) more

abbrev pub rows_of_runs : ℕ → List Run → List ℕ
rows_of_runs a [] = []
rows_of_runs a (run ∷ more) = range_with_len (a + run.0) run.1 ++ rows_of_runs (a + run.0 + run.1) more

-- one more row before these runs, behind this gap
abbrev pub one_more_row : ℕ → List Run → List Run
one_more_row gap [] = (gap, 1) ∷ []
one_more_row gap (run ∷ more) = if run.0 == 0 then (gap, suc run.1) ∷ more else (gap, 1) ∷ run ∷ more

-- the maximal runs of rising rows
abbrev pub runs_of_rows : ℕ → List ℕ → List Run
runs_of_rows a [] = []
runs_of_rows a (i ∷ more) = one_more_row (i - a) (runs_of_rows (i + 1) more)

-- at least 1 but in the first run; the run's first row is below the rows, and that of the first run is above the
-- first row
-- of the tuple before
abbrev pub fits_gap : ℕ → List (List ℕ) → List Run → ℕ → Bool
fits_gap rows earlier so_far gap = (nat_lt 0 gap || length so_far == 0) && nat_lt (end_of 0 so_far + gap) rows
    && (nat_lt 0 (length so_far) || nat_le (floor_of earlier) (end_of 0 so_far + gap))

-- at least 1; the run ends within the rows, and no tuple before names one of its rows
abbrev pub fits_length : ℕ → List (List ℕ) → List Run → ℕ → ℕ → Bool
fits_length rows earlier so_far gap n = nat_lt 0 n && nat_le (end_of 0 so_far + gap + n) rows
    && list_all (λ i. not (named earlier i)) (range_with_len (end_of 0 so_far + gap) n)

abbrev pub run_at : ℕ → ℕ → List (List ℕ) → List Run → Place → Read Run
run_at rows group earlier so_far p = then_at (field_at 4 (fits_gap rows earlier so_far) group Gap)
    (λ gap. field_at 4 (fits_length rows earlier so_far gap) group Length) p

abbrev pub fits_runs : ℕ → ℕ → Bool
fits_runs rows n = nat_le 1 n && nat_le n rows

-- the rows of a tuple
abbrev pub runs_at : ℕ → ℕ → List (List ℕ) → Place → Read (List ℕ)
runs_at rows group earlier p =
    as_at (λ x. rows_of_runs 0 x.1) (then_at (field_at 4 (fits_runs rows) group Runs)
    (λ n. list_at (λ left so_far. run_at rows group earlier so_far) n [])) p

abbrev pub run_bytes : Run → List ℕ
run_bytes run = bytes_of 4 run.0 ++ bytes_of 4 run.1

abbrev pub runs_bytes : List ℕ → List ℕ
runs_bytes list = bytes_of 4 (length (runs_of_rows 0 list)) ++ flat_map run_bytes (runs_of_rows 0 list)
