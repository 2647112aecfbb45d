-- How many values the groups of a layout hold: what an operator on them costs.
use Rattle.std.specs.Prelude.{ℕ, ◌*◌, List, length, sum_by, ◌==◌}
use Rattle.cla_layout.specs.Groups.{code_of, first_row_of}
use Rattle.cla_layout.specs.Listed.{rows_where}
use Rattle.cla_layout.specs.Layouts.{LayoutPart}

-- the values of all parts: tuples times columns
abbrev pub values_of : List LayoutPart → ℕ
values_of parts = sum_by (λ part. length part.tuples * length part.columns) parts

-- how many different codes there are: the rows that are the first with their code
abbrev pub different_codes : List ℕ → ℕ
different_codes codes = length (rows_where (λ i. first_row_of codes (code_of codes i) == i) (length codes))
