-- How long files may be, and how many bytes tables may take.
use Rattle.std.specs.Prelude.{ℕ, ◌^◌}

-- how many bytes a script and a table may have
abbrev pub script_limit : ℕ
script_limit = 2 ^ 20

abbrev pub table_limit : ℕ
table_limit = 2 ^ 32

-- the greatest budget of a table's bytes, which is also the one where none is asked for
abbrev pub most_budget : ℕ
most_budget = 2 ^ 32
