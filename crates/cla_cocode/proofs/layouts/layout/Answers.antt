use Rattle.std.proofs.Common.{◌≡◌, ◌+◌, ◌*◌, ◌≤◌, ℕ, [], ◌∷◌, length, map, ap, ◌∙◌, arith}
use Rattle.std.specs.List.{range_with_len}
use Rattle.cla_layout.specs.declared.kind.Kind.TheVariants as kind
use Rattle.cla_grouping.specs.Sizes.{plain_bytes}
use Rattle.cla_grouping.specs.Grouping.{GroupOf, bytes_in, groups_to, in_best_kind, most_grouped}
use Rattle.cla_cocode.specs.Cuts.{group_seen}
use Rattle.cla_cocode.proofs.Finished.{kept-rule, kept-small, kept-least, cut-made, plain-rule, groups-rule}
use Rattle.cla_cocode.proofs.layouts.layout.Goals as goal

plain : ℕ → ℕ → GroupOf
plain cols bytes = record { columns = range_with_len 0 cols; kind = kind.Plain; bytes = bytes }

pub bytes_of-requires-clause-small : goal.bytes_of-requires-clause-small
bytes_of-requires-clause-small g c k d there =
    let same = ap (map group_seen) c.deref.ensures.value ∙ c.in_ok-groups-2.ensures in
    kept-small c.args.m.now c.args.m.now.cols c.in_ok-kept_groups.field-0.items c.deref.result.now
    c.in_ok-kept_groups.ensures.counted same k d there

pub returns-in_ok-groups-3-clause-rule : goal.returns-in_ok-groups-3-clause-rule
unfolding plain
returns-in_ok-groups-3-clause-rule g c =
    let m = c.args.m.now in
    let few : m.cols ≤ most_grouped = omega (arith, c.if-cols-gt-MOST_GROUPED.false, c.cols-cols.ensures) in
    let rule = kept-rule m c.in_ok-kept_groups.field-0.items c.in_ok-kept_groups.ensures.counted
    c.in_ok-kept_groups.ensures.columns in
    let seen : map group_seen c.deref.result.now ≡ map (in_best_kind m) (groups_to m m.cols) =
    ap (map group_seen) c.deref.ensures.value ∙ c.in_ok-groups-2.ensures ∙ rule in
    let total = c.bytes_of.ensures ∙ ap bytes_in seen in
    let bytes : 5 + 4 * c.cols-cols.result + 8 * length c.cells.result.now
    ≡ plain_bytes m.rows m.cols = omega (arith, c.cols-cols.ensures, c.cells.ensures.shape.count) in
    cut-made c.rows-rows.result c.cols-cols.result (map group_seen c.in_ok-groups-3.groups.items) m c.rows-rows.ensures
    c.cols-cols.ensures
    (c.in_ok-groups-3.ensures
    ∙ ap (λ n. plain n (5 + 4 * c.cols-cols.result + 8 * length c.cells.result.now) ∷ []) c.cols-cols.ensures
    ∙ ap (λ n. plain m.cols n ∷ []) bytes
    ∙ plain-rule m few (omega (arith, c.if-plain-bytes_of.true, total, bytes)))

pub returns-else-plain-bytes_of-clause-rule : goal.returns-else-plain-bytes_of-clause-rule
returns-else-plain-bytes_of-clause-rule g c =
    let m = c.args.m.now in
    let few : m.cols ≤ most_grouped = omega (arith, c.if-cols-gt-MOST_GROUPED.false, c.cols-cols.ensures) in
    let rule = kept-rule m c.in_ok-kept_groups.field-0.items c.in_ok-kept_groups.ensures.counted
    c.in_ok-kept_groups.ensures.columns in
    let seen : map group_seen c.deref.result.now ≡ map (in_best_kind m) (groups_to m m.cols) =
    ap (map group_seen) c.deref.ensures.value ∙ c.in_ok-groups-2.ensures ∙ rule in
    let total = c.bytes_of.ensures ∙ ap bytes_in seen in
    let bytes : 5 + 4 * c.cols-cols.result + 8 * length c.cells.result.now
    ≡ plain_bytes m.rows m.cols = omega (arith, c.cols-cols.ensures, c.cells.ensures.shape.count) in
    cut-made c.rows-rows.result c.cols-cols.result (map group_seen c.in_ok-groups-2.groups.items) m c.rows-rows.ensures
    c.cols-cols.ensures
    (c.in_ok-groups-2.ensures ∙ rule ∙ groups-rule m few (omega (arith, c.if-plain-bytes_of.false, total, bytes)))

pub returns-else-plain-bytes_of-clause-least : goal.returns-else-plain-bytes_of-clause-least
returns-else-plain-bytes_of-clause-least g c other =
    kept-least c.args.m.now c.in_ok-kept_groups.field-0.items c.in_ok-groups-2.groups.items
    c.in_ok-kept_groups.ensures.counted.each c.in_ok-groups-2.ensures
