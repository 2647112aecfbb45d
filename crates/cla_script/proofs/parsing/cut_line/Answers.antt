use Rattle.std.proofs.Common.{ℕ, ◌+◌, List, drop, ap, ◌∙◌}
use Rattle.std.proofs.lemmas.List.{drop-drop}
use Rattle.cla_spec.specs.Lines.{after_line}
use Rattle.cla_script.proofs.parsing.cut_line.Goals as goal

pub returns-clause-back : goal.returns-clause-back
unfolding after_line
returns-clause-back c = c.behind.ensures
    ∙ (ap (λ (l : List ℕ). drop 1 l) c.split_at.ensures.back
    ∙ (drop-drop 1 c.line_len-n.result c.args.text.now
    ∙ ap (λ (k : ℕ). drop (k + 1) c.args.text.now) c.line_len-n.ensures.place))
