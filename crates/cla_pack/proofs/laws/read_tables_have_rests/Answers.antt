use Rattle.cla_pack.proofs.Rests.{rests_of_forms}
use Rattle.cla_pack.proofs.laws.read_tables_have_rests.Goals as goal

pub returns : goal.returns
returns g c forms = rests_of_forms c.args.table.now forms
