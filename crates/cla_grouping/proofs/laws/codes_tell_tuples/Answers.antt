use Rattle.std.proofs.Common.{sym, ◌∙◌, eqb-true, eq-eqb}
use Rattle.cla_grouping.specs.Tuples.{same_tuple}
use Rattle.cla_grouping.proofs.JoinLemmas.{same-code}
use Rattle.cla_grouping.proofs.TupleLemmas.{same_tuple-equiv}
use Rattle.cla_grouping.proofs.laws.codes_tell_tuples.Goals as goal

pub returns : goal.returns
returns c m columns i j hi hj =
    let told = same-code (same_tuple m columns) (same_tuple-equiv m columns) m.rows i j hi hj in
    (λ e. sym told ∙ eq-eqb _ _ e, λ e. eqb-true _ _ (told ∙ e))
