use Rattle.std.proofs.Common.{map}
use Rattle.cla_layout.specs.GroupLaws.{IsExtreme}
use Rattle.cla_coded.specs.Tables.{layout_of}
use Rattle.cla_agg.proofs.Placed.{ArePartsPlaced}
use Rattle.cla_agg.proofs.columns.choose_in_columns.Given as goal

-- the columns of the parts so far
abbrev pub invariant-loop-part : goal.invariant-loop-part
invariant-loop-part g l =
    ArePartsPlaced (IsExtreme g.O.Order.before) (layout_of g.G.Group.codes g.G.Group.dictionary l.m) l.part-index
    (map g.N.Number.value l.fn.into) (map g.N.Number.value l.into)
