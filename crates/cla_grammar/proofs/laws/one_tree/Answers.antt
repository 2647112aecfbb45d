use Rattle.cla_grammar.proofs.MachineComplete.{one_tree, one_statement}
use Rattle.cla_grammar.proofs.laws.one_tree.Goals as goal

pub returns : goal.returns
returns c = record { expression = λ ts x y a b. one_tree a b; statement = λ ts x y a b. one_statement a b }
