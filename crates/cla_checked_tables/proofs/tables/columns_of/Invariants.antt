use Rattle.std.proofs.Common.{◌≡◌, take}
use Rattle.cla_layout.specs.Layouts.{all_columns}
use Rattle.cla_coded.specs.Parts.{parts_of}
use Rattle.cla_checked_tables.proofs.tables.columns_of.Given as goal

-- the columns of the parts before this one
abbrev pub invariant-loop-part : goal.invariant-loop-part
invariant-loop-part g l =
    l.columns.items ≡ all_columns (take l.part-index (parts_of g.G.Group.codes g.G.Group.dictionary l.parts))
