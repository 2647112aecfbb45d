use Rattle.std.proofs.Common.{◌≡◌, ◌+◌, take}
use Rattle.cla_coded.specs.Parts.{parts_of}
use Rattle.cla_prod.specs.Columns.{column_product, read_values}
use Rattle.cla_prod.proofs.ColumnsRead.{AreReadTo}
use Rattle.cla_prod.proofs.columns.times_columns.Given as goal

-- the parts so far
abbrev pub invariant-loop-part : goal.invariant-loop-part
invariant-loop-part g l = record {
  products : AreReadTo l.lines l.part-index (column_product (parts_of g.G.Group.codes g.G.Group.dictionary l.parts)
      l.lines (parts_of g.H.Group.codes g.H.Group.dictionary l.read))
      (parts_of g.H.Group.codes g.H.Group.dictionary l.read) l.exact;
  counts : l.meter ≡ record l.fn.meter {
    mults = l.fn.meter.mults + read_values l.lines.order (parts_of g.G.Group.codes g.G.Group.dictionary l.parts)
        (take l.part-index (parts_of g.H.Group.codes g.H.Group.dictionary l.read));
  };
}
