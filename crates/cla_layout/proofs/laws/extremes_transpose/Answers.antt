use Rattle.std.proofs.Common.{◌≡◌, true}
use Rattle.cla_layout.proofs.PartFirsts.{extreme_transposed}
use Rattle.cla_layout.proofs.laws.extremes_transpose.Goals as goal

pub returns : goal.returns
returns c before rows cols entry v is = extreme_transposed (λ x y. before x y ≡ true) rows cols entry v is
