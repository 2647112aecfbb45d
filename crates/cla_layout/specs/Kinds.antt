-- The kinds of groups.
use Rattle.std.specs.Prelude.{ℕ}
use Rattle.cla_layout.specs.declared.kind.Kind.{Kind}
use Rattle.cla_layout.specs.declared.kind.Kind.TheVariants.{Plain, Codes, Offsets, Runs}

-- the number of a kind in packed files
abbrev pub kind_number : Kind → ℕ
kind_number Plain = 1
kind_number Codes = 2
kind_number Offsets = 3
kind_number Runs = 4
