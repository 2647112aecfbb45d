use Rattle.std.proofs.Common.{◌/◌, length, map, refl}
use Rattle.cla_spec.specs.Matrix.{IsShaped}
use Rattle.cla_plain.proofs.Shapes.{whole_rows, rows_of_shape}
use Rattle.cla_coded.proofs.AnyRows.{plain_from}
use Rattle.cla_coded.proofs.any_group.AnyGroup.from_codes.Goals as goal

pub from_rows-requires : goal.from_rows-requires
from_rows-requires g c =
    record {
      rows = whole_rows (length c.args.codes.now) c.args.width c.in_ok-rows-in-Plain.rows.items
          (record {
            a_row = c.requires.a_row;
            a_col = c.requires.a_column;
            count = c.in_ok-rows-in-Plain.ensures.count;
            few = c.requires.few_cells;
          });
    }

pub returns-in_ok-rows-in-Plain : goal.returns-in_ok-rows-in-Plain
returns-in_ok-rows-in-Plain g c =
    let shaped : IsShaped (length c.args.codes.now) c.args.width c.in_ok-rows-in-Plain.rows.items = record {
      a_row = c.requires.a_row;
      a_col = c.requires.a_column;
      count = c.in_ok-rows-in-Plain.ensures.count;
      few = c.requires.few_cells;
    } in
    let rows = rows_of_shape (length c.args.codes.now) c.args.width c.in_ok-rows-in-Plain.rows.items shaped in
    rw c.in-Plain.is (record {
      form_is = refl;
      columns_are = c.from_rows.ensures.columns;
      has =
          plain_from c.args.width (length c.args.values.items / c.args.width) c.args.codes.now
          (map g.N.Number.value c.args.values.items)
          (map g.N.Number.value c.in_ok-rows-in-Plain.rows.items) _ _
          c.requires.in_tuples (rw c.deref.ensures.value at c.in_ok-rows-in-Plain.ensures.values)
          (rw rows at c.from_rows.ensures.codes)
          (rw rows at c.from_rows.ensures.dictionary);
    })
