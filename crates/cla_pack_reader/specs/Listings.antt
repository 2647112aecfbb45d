-- The two ways in which the rows of a tuple are listed.
use Rattle.std.specs.Prelude.{ℕ, List}
use Rattle.cla_layout.specs.declared.kind.Kind.{Kind}
use Rattle.cla_layout.specs.declared.kind.Kind.TheVariants as kinds
use Rattle.cla_packed.specs.Fields.{Place, Read}
use Rattle.cla_packed.specs.Offsets.{offsets_at}
use Rattle.cla_packed.specs.Runs.{runs_at}

-- as offsets in segments, or as runs
pub data Listing : Type 0 where
  AsOffsets : Listing
  AsRuns : Listing

-- the rows of a tuple behind those of earlier ones
abbrev pub rows_at : Listing → ℕ → ℕ → List (List ℕ) → Place → Read (List ℕ)
rows_at AsOffsets rows group earlier p = offsets_at 32768 rows group earlier p
rows_at AsRuns rows group earlier p = runs_at rows group earlier p

-- the kind of a group whose rows are listed so
abbrev pub kind_listed : Listing → Kind
kind_listed AsOffsets = kinds.Offsets
kind_listed AsRuns = kinds.Runs
