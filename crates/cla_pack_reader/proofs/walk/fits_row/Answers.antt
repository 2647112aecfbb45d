use Rattle.std.proofs.Common.{Bool, sym, ap, ◌∙◌}
use Rattle.std.specs.Prelude.{◌||◌, nat_le}
use Rattle.cla_pack_reader.proofs.WalkLaws.{below_next, is_named, last_test}
use Rattle.cla_pack_reader.proofs.walk.fits_row.Goals as goal

pub returns-then-row-walk : goal.returns-then-row-walk
returns-then-row-walk c earlier so_far s =
    sym (below_next earlier so_far c.args.marks.now c.args.walk c.args.floor s c.args.row c.if-row-walk.true)

pub returns-then-has : goal.returns-then-has
returns-then-has c earlier so_far s =
    sym (is_named earlier so_far c.args.marks.now c.args.walk c.args.floor s c.args.row c.requires c.if-row-walk.false
    (sym c.has.ensures ∙ c.if-has.true))

pub returns-then-walk : goal.returns-then-walk
returns-then-walk c earlier so_far s =
    sym (last_test earlier so_far c.args.marks.now c.args.walk c.args.floor s c.args.row c.requires c.if-row-walk.false
    (sym c.has.ensures ∙ c.if-has.false) ∙ ap (λ (b : Bool). b || nat_le c.args.floor c.args.row) c.if-walk.true)

pub returns : goal.returns
returns c earlier so_far s =
    sym (last_test earlier so_far c.args.marks.now c.args.walk c.args.floor s c.args.row c.requires c.if-row-walk.false
    (sym c.has.ensures ∙ c.if-has.false) ∙ ap (λ (b : Bool). b || nat_le c.args.floor c.args.row) c.if-walk.false)
