use Rattle.std.proofs.Common.{◌≡◌, ◌+◌, take}
use Rattle.cla_coded.specs.Parts.{parts_of}
use Rattle.cla_prod.specs.Columns.{AreLinesOf, column_product, listed_values}
use Rattle.cla_prod.proofs.columns.times_part.Given as goal

-- the columns in the places before c
abbrev pub invariant-loop-c : goal.invariant-loop-c
invariant-loop-c g l = record {
  products : AreLinesOf l.lines l.c (column_product (parts_of g.G.Group.codes g.G.Group.dictionary l.parts) l.lines
      (parts_of g.H.Group.codes g.H.Group.dictionary l.read)) l.part.columns.items l.fn.exact l.exact;
  counts : l.meter ≡ record l.fn.meter {
    mults = l.fn.meter.mults + listed_values l.lines.order (parts_of g.G.Group.codes g.G.Group.dictionary l.parts)
        (take l.c l.part.columns.items);
  };
}
