use Rattle.cla_packed_laws.proofs.Encoded.{one_layout}
use Rattle.cla_packed_laws.proofs.one_layout_is_encoded.Goals as goal

pub returns : goal.returns
returns c limit file fits none = one_layout limit file fits none
