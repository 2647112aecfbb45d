use Rattle.std.proofs.Common.{◌++◌, ℕ, List, take, ap, ◌∙◌}
use Rattle.std.proofs.lemmas.List.{length-map, take_all}
use Rattle.cla_layout.specs.Layouts.{all_columns}
use Rattle.cla_coded.specs.Parts.{part_of, parts_of}
use Rattle.cla_checked_tables.proofs.ListedColumns.{columns_taken}
use Rattle.cla_checked_tables.proofs.tables.columns_of.Goals as goal

pub loop-part-preserved : goal.loop-part-preserved
loop-part-preserved g c =
    let parts = c.args.parts.now in
    let i = c.loop-part.part-index in
    let more = columns_taken g.G.Group.codes g.G.Group.dictionary parts i c.part-item.result c.loop-part-test.true
    c.part-item.is in
    rw (c.in_ok-extend_from_slice.ensures.items, more, c.loop-part.invariant)
    (ap (λ (xs : List ℕ). all_columns (take i (parts_of g.G.Group.codes g.G.Group.dictionary parts)) ++ xs)
    c.deref.ensures.value)

pub returns : goal.returns
returns g c =
    let parts = c.args.parts.now in
    c.loop-part.invariant
    ∙ ap all_columns (take_all c.loop-part.part-index (parts_of g.G.Group.codes g.G.Group.dictionary parts)
    (rw (length-map parts (part_of g.G.Group.codes g.G.Group.dictionary)) c.loop-part-test.false))
