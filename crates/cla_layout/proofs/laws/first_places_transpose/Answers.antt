use Rattle.std.proofs.Common.{◌≡◌, true}
use Rattle.cla_layout.proofs.PartFirsts.{first_transposed}
use Rattle.cla_layout.proofs.laws.first_places_transpose.Goals as goal

pub returns : goal.returns
returns c rows cols place fails first is = first_transposed rows cols place (λ i j. fails i j ≡ true) first is
