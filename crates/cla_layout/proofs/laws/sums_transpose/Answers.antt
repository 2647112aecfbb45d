use Rattle.cla_spec.proofs.Sums.{sum_to-swap}
use Rattle.cla_layout.proofs.laws.sums_transpose.Goals as goal

pub returns : goal.returns
returns c rows cols entry = sum_to-swap entry rows cols
