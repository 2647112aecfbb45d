use Rattle.std.proofs.Common.{◌∙◌, refl}
use Rattle.cla_coded.specs.AnyGroups.{any_columns, any_dictionary, any_law}
use Rattle.cla_layout.proofs.Counting.{rows_count}
use Rattle.cla_coded.proofs.Copies.{all_places, all_projected}
use Rattle.cla_coded.proofs.coded.copy_part.Goals as goal

pub project-requires : goal.project-requires
project-requires g c =
    let group = c.args.part.now.group in
    record {
      places = rw (c.deref-2.ensures.value, c.in_ok-places.ensures, c.width.ensures)
          (all_places (any_columns group) (any_law group).a_column);
    }

pub returns-clause-part : goal.returns-clause-part
returns-clause-part g c =
    let group = c.args.part.now.group in
    let kept = rw (c.deref-2.ensures.value, c.in_ok-places.ensures, c.width.ensures) at c.in_ok-group.ensures.dictionary
    in
    rw (
      c.in_ok-columns.ensures.items ∙ c.deref.ensures.value,
      c.in_ok-group.ensures.codes,
      kept ∙ all_projected (any_columns group) (any_dictionary group) (any_law group).full,
    ) refl

pub returns-clause-outline : goal.returns-clause-outline
returns-clause-outline g c =
    let group = c.args.part.now.group in
    let width = rw (c.deref-2.ensures.value, c.in_ok-places.ensures, c.width.ensures) at c.in_ok-group.ensures.columns
    in
    rw (
      c.in_ok-columns.ensures.items ∙ c.deref.ensures.value,
      width ∙ rows_count (any_columns group),
      c.in_ok-group.ensures.codes,
    ) refl
