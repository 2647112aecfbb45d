use Rattle.cla_grammar.proofs.FirstRefused.{one_script, one_first_refused, not_both}
use Rattle.cla_grammar.proofs.laws.one_answer.Goals as goal

pub returns : goal.returns
returns c = record {
  script = λ bits items xs ys a b. one_script bits items xs ys a b;
  refused = λ bits items f g a b. one_first_refused bits items f g a b;
  not_both = λ bits items xs f a b. not_both bits items xs f a b;
}
