-- How a table is grouped, as it is told.
use Rattle.std.specs.Prelude.{ℕ, pos, suc, List, [], ◌∷◌, ◌++◌, length, map, codes}
use Rattle.cla_spec.specs.Numbers.{decimal_of}
use Rattle.cla_layout.specs.declared.kind.Kind.{Kind}
use Rattle.cla_layout.specs.declared.kind.Kind.TheVariants as kind
use Rattle.cla_tables.specs.declared.stats.GroupStats.{GroupStats}
use Rattle.cla_tables.specs.TableFiles.{TableFile}
use Rattle.cla_tables.specs.Stats.{stats_of}

abbrev pub kind_text : Kind → List ℕ
kind_text kind.Plain = codes "plain"
kind_text kind.Codes = codes "codes"
kind_text kind.Offsets = codes "offsets"
kind_text kind.Runs = codes "runs"

-- a number behind a word
abbrev pub numbered : List ℕ → ℕ → List ℕ
numbered word n = word ++ decimal_of (pos n)

-- the line of a group, with its number from 1: its kind, how many columns it has, how many tuples, and its bytes
abbrev pub group_line : ℕ → GroupStats → List ℕ
group_line n g =
    numbered (codes "group ") n ++ codes " " ++ kind_text g.kind ++ numbered (codes " width ") g.width
    ++ numbered (codes " tuples ") g.tuples ++ numbered (codes " bytes ") g.bytes ++ codes "\n"

-- the lines of groups, of which so many stand before
abbrev pub group_lines : ℕ → List GroupStats → List ℕ
group_lines before [] = []
group_lines before (g ∷ groups) = group_line (suc before) g ++ group_lines (suc before) groups

-- a table's rows, columns, groups and bytes, a line for each
abbrev pub head_lines : ℕ → ℕ → ℕ → ℕ → List ℕ
head_lines rows cols groups bytes =
    numbered (codes "rows ") rows ++ numbered (codes "\ncolumns ") cols ++ numbered (codes "\ngroups ") groups
    ++ numbered (codes "\nbytes ") bytes ++ codes "\n"

-- what is told of a table
abbrev pub stats_text : TableFile → List ℕ
stats_text t =
    head_lines t.matrix.rows t.matrix.cols (length t.groups) t.bytes
    ++ group_lines 0 (map (stats_of t.matrix) t.groups)
