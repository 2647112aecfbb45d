use Rattle.std.proofs.Common.{◌≡◌, true}
use Rattle.cla_layout.proofs.PartFirsts.{first_by_parts}
use Rattle.cla_layout.proofs.laws.first_places_by_parts.Goals as goal

pub returns : goal.returns
returns c bits layout place fails firsts whole rises same each =
    first_by_parts bits layout place (λ j z. fails j z ≡ true) firsts whole rises same each
