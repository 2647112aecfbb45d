use Rattle.std.proofs.Common.{◌≡◌, true}
use Rattle.cla_layout.proofs.PartFirsts.{extreme_by_parts}
use Rattle.cla_layout.proofs.laws.extremes_by_parts.Goals as goal

pub returns : goal.returns
returns c bits layout before f v whole = extreme_by_parts bits layout (λ x y. before x y ≡ true) f v whole
