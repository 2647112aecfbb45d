use Rattle.cla_tokens.proofs.FormedTexts.{script_formed}
use Rattle.cla_tokens.proofs.StatementCount.{script_few}
use Rattle.cla_tokens.proofs.laws.scripts_are_formed.Goals as goal

pub returns : goal.returns
returns c = record {
  formed = λ bits text xs e. script_formed bits text xs e;
  few = λ bits text xs e. script_few bits text xs e;
}
