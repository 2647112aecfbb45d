use Rattle.cla_layout.proofs.Loose.{loose_stands}
use Rattle.cla_layout.proofs.laws.loose_stands.Goals as goal

pub returns : goal.returns
returns c m shaped = loose_stands m shaped
