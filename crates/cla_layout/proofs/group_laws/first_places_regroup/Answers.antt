use Rattle.std.proofs.Common.{◌≡◌, true}
use Rattle.cla_layout.proofs.Regroup.{first_places_regroup}
use Rattle.cla_layout.proofs.group_laws.first_places_regroup.Goals as goal

pub returns : goal.returns
returns c n width codes place fails p are rises = first_places_regroup n width codes place (λ k c. fails k c ≡ true) p
    are rises
