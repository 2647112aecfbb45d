use Rattle.cla_meaning.proofs.Choices.{lesser_chosen, greater_chosen}
use Rattle.cla_meaning.proofs.laws.orders_choose.Goals as goal

pub returns : goal.returns
returns c = record { lesser = lesser_chosen; greater = greater_chosen }
