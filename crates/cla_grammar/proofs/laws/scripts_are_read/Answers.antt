use Rattle.cla_grammar.proofs.FirstRefused.{script_read}
use Rattle.cla_grammar.proofs.laws.scripts_are_read.Goals as goal

pub returns : goal.returns
returns c bits items = script_read bits items
