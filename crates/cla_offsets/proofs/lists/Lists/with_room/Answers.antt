use Rattle.std.proofs.Common.{sym, ◌∙◌}
use Rattle.cla_rows.proofs.Chains.{lists_none}
use Rattle.cla_offsets.proofs.lists.Lists.with_room.Goals as goal

pub returns : goal.returns
returns c = λ v. record {
  bases = c.in_ok-with_capacity.ensures.items ∙ sym (lists_none _);
  starts = c.in_ok-with_capacity-2.ensures.items ∙ sym (lists_none _);
  offsets = c.in_ok-with_capacity-3.ensures.items ∙ sym (lists_none _);
}
