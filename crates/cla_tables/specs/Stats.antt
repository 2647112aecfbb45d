-- What is told of the groups of a table.
use Rattle.std.specs.Prelude.{◌≡◌, ℕ, List, length, map}
use Rattle.cla_spec.specs.Matrix.{Matrix}
use Rattle.cla_layout.specs.declared.kind.Kind.{Kind}
use Rattle.cla_layout.specs.declared.kind.Kind.TheVariants as kind
use Rattle.cla_grouping.specs.Tuples.{tuples_in}
use Rattle.cla_grouping.specs.Grouping.{GroupOf}
use Rattle.cla_tables.specs.declared.stats.GroupStats.{GroupStats}
use Rattle.cla_tables.specs.declared.stats.TableStats.{TableStats}
use Rattle.cla_tables.specs.TableFiles.{TableFile}

-- How many tuples a group of columns has: in a plain group each row has one of its own, in the others the distinct ones
-- count, the tuple of zeros too.
abbrev pub tuples_by_kind : Kind → Matrix → List ℕ → ℕ
tuples_by_kind kind.Plain m columns = m.rows
tuples_by_kind kind.Codes m columns = (tuples_in m columns).distinct
tuples_by_kind kind.Offsets m columns = (tuples_in m columns).distinct
tuples_by_kind kind.Runs m columns = (tuples_in m columns).distinct

-- what is told of a group of a matrix
abbrev pub stats_of : Matrix → GroupOf → GroupStats
stats_of m g = record
    { kind = g.kind; width = length g.columns; tuples = tuples_by_kind g.kind m g.columns; bytes = g.bytes }

-- what is told of a table
pub record AreStats (t : TableFile) (s : TableStats) : Type 0 where
  pub rows : s.rows ≡ t.matrix.rows
  pub cols : s.cols ≡ t.matrix.cols
  pub bytes : s.bytes ≡ t.bytes
  pub groups : s.groups.items ≡ map (stats_of t.matrix) t.groups
