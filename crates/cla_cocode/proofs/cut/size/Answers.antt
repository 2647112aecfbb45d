use Rattle.std.proofs.Common.{◌≡◌, refl, ap, ◌∙◌, arith, map, length, ◌<◌, get_or}
use Rattle.std.proofs.lemmas.List.{drop_all}
use Rattle.cla_grouping.specs.Grouping.{bytes_in}
use Rattle.cla_cocode.specs.Cuts.{group_seen}
use Rattle.cla_cocode.proofs.CutLemmas.{bytes_drop}
use Rattle.cla_cocode.proofs.cut.size.Goals as goal

pub loop-group-init : goal.loop-group-init
loop-group-init c = record { bytes = refl }

pub overflow_add-total : goal.overflow_add-total
overflow_add-total c =
    let groups = c.args.l.now.groups.items in
    let there : c.loop-group.group-index < length groups = omega
    (arith, c.loop-group-test.true, ap length c.deref-group-items.ensures.value) in
    let is : c.group-item.result ≡ get_or groups c.loop-group.group-index c.group-item.result =
    c.group-item.is ∙ ap (λ l. get_or l c.loop-group.group-index c.group-item.result) c.deref-group-items.ensures.value
    in
    omega (
      arith,
      c.loop-group.invariant.bytes,
      bytes_drop groups c.loop-group.group-index c.group-item.result there is,
      c.requires,
    )

pub loop-group-preserved : goal.loop-group-preserved
loop-group-preserved c =
    let groups = c.args.l.now.groups.items in
    let there : c.loop-group.group-index < length groups = omega
    (arith, c.loop-group-test.true, ap length c.deref-group-items.ensures.value) in
    let is : c.group-item.result ≡ get_or groups c.loop-group.group-index c.group-item.result =
    c.group-item.is ∙ ap (λ l. get_or l c.loop-group.group-index c.group-item.result) c.deref-group-items.ensures.value
    in
    let more = bytes_drop groups c.loop-group.group-index c.group-item.result there is in
    record { bytes = omega (arith, c.loop-group.invariant.bytes, more) }

pub returns : goal.returns
returns c =
    let groups = c.args.l.now.groups.items in
    let past = drop_all c.loop-group.group-index groups
    (omega (arith, c.loop-group-test.false, ap length c.deref-group-items.ensures.value)) in
    omega (arith, c.loop-group.invariant.bytes, ap (λ l. bytes_in (map group_seen l)) past)
