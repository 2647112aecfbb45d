use Rattle.std.proofs.Common.{[], sym, ap, ◌∙◌, subst}
use Rattle.std.proofs.lemmas.List.{get_or-map}
use Rattle.cla_grouping.specs.Tuples.{AreColumns}
use Rattle.cla_cocode.specs.declared.cut.LayoutGroup.{LayoutGroup}
use Rattle.cla_tables.proofs.stats.stats_of_groups.Goals as goal

pub stats_of_group-requires : goal.stats_of_group-requires
stats_of_group-requires g c =
    let groups = c.args.groups.now in
    let i = c.loop-group.group-index in
    let there = c.loop-group-test.true in
    subst (AreColumns c.args.m.now.cols)
    (get_or-map (λ (x : LayoutGroup). x.columns.items) groups i c.group-item.result [] there
    ∙ ap (λ (x : LayoutGroup). x.columns.items) (sym c.group-item.is))
    (c.requires i there)
