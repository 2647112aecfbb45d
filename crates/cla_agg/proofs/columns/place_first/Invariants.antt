use Rattle.std.proofs.Common.{◌≡◌, map}
use Rattle.cla_layout.specs.Groups.{at}
use Rattle.cla_layout.specs.Layouts.{column_at}
use Rattle.cla_coded.specs.Parts.{part_of}
use Rattle.cla_agg.specs.Lines.{IsFirstValue}
use Rattle.cla_agg.proofs.Placed.{AreMadeBefore}
use Rattle.cla_agg.proofs.columns.place_first.Given as goal

-- the columns before place c
abbrev pub invariant-loop-c : goal.invariant-loop-c
invariant-loop-c g l =
    AreMadeBefore (IsFirstValue (part_of g.G.Group.codes g.G.Group.dictionary l.part))
    (λ d v. v ≡ at (map g.N.Number.value l.fn.into) (column_at l.part.columns.items d)) l.c
    (part_of g.G.Group.codes g.G.Group.dictionary l.part) (map g.N.Number.value l.fn.into)
    (map g.N.Number.value l.into)
