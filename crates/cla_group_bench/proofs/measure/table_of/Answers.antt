use Rattle.cla_layout.specs.Groups.{IsGroup}
use Rattle.cla_coded.specs.AnyGroups.{any_columns, any_codes, any_dictionary, any_law}
use Rattle.cla_group_bench.proofs.OneGroup.{one_group_whole}
use Rattle.cla_group_bench.proofs.measure.table_of.Goals as goal

pub new-requires : goal.new-requires
new-requires c =
    let group = c.args.group in
    let is : IsGroup 47 (any_columns group) (any_codes group) (any_dictionary group) = any_law group in
    let whole = one_group_whole 47 (any_codes group) (any_dictionary group) (rw c.requires at is) in
    rw (c.in_ok-push-2.ensures.items, c.new-parts.ensures.items)
    (rw (c.in_ok-push.ensures.items, c.new-columns.ensures.items, c.rows-rows.ensures) whole)
