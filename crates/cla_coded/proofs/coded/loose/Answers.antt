use Rattle.std.proofs.Common.{◌≡◌, ◌/◌, length, sym, subst, refl}
use Rattle.cla_plain.proofs.Shapes.{whole_rows, rows_of_shape}
use Rattle.cla_layout.specs.Layouts.{IsWhole, layout_with, loose_layout}
use Rattle.cla_coded.specs.Parts.{parts_of}
use Rattle.cla_coded.specs.AnyGroups.{any_codes, any_dictionary}
use Rattle.cla_coded.proofs.Copies.{one_plain_part}
use Rattle.cla_layout.proofs.Loose.{loose_whole}
use Rattle.cla_coded.proofs.coded.loose.Goals as goal
use Rattle.cla_coded.proofs.coded.loose.Goals.{In_ok-push}
use Rattle.cla_coded.proofs.coded.loose.Given.{Over}

-- the layout of the one part
layout : (g : Over) (c : In_ok-push g)
    → layout_with c.rows-rows.result c.cols-cols.result (parts_of any_codes any_dictionary c.push.new.self.items)
    ≡ loose_layout c.args.m
layout g c =
    let m = c.args.m in
    let rows : length c.from.result.items / m.cols ≡ m.rows =
    rows_of_shape m.rows m.cols c.from.result.items c.from.ensures.shape in
    one_plain_part m c.rows-rows.result c.cols-cols.result
    (parts_of any_codes any_dictionary c.push.new.self.items) _ _ _ c.rows-rows.ensures c.cols-cols.ensures
    (rw (c.in_ok-push.ensures.items, c.in_ok-parts.ensures.items) refl)
    (rw c.cols-cols.ensures at c.in_ok-columns.ensures)
    (rw (c.cols-cols.ensures, rows) at c.from_rows.ensures.codes)
    (rw (c.cols-cols.ensures, rows, c.from.ensures.cells) at c.from_rows.ensures.dictionary)

pub from_rows-requires : goal.from_rows-requires
from_rows-requires g c =
    record {
      rows =
          rw c.cols-cols.ensures (whole_rows c.args.m.rows c.args.m.cols c.from.result.items c.from.ensures.shape);
    }

pub new-requires : goal.new-requires
new-requires g c =
    let whole = loose_whole g.N.Number.BITS g.N.Number.value g.met.N.Number.in_range c.args.m c.from.result.items
    c.from.ensures.cells c.from.ensures.shape in
    subst (IsWhole g.N.Number.BITS) (sym (layout g c)) whole

pub returns-clause-layout : goal.returns-clause-layout
returns-clause-layout g c = rw c.new.ensures (layout g (goal.at.returns-clause-layout g c).In_ok-push)
