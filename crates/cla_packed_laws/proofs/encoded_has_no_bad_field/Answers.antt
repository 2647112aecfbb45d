use Rattle.cla_packed_laws.proofs.Encoded.{no_bad_field}
use Rattle.cla_packed_laws.proofs.encoded_has_no_bad_field.Goals as goal

pub returns : goal.returns
returns c limit layout kinds canonical small = no_bad_field limit layout kinds canonical small
