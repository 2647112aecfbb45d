use Rattle.cla_grouping.specs.Tuples.{same_tuple, is_zero_row}
use Rattle.cla_grouping.proofs.TupleLemmas.{class-code, same_tuple-equiv, zeros-class}
use Rattle.cla_grouping.proofs.laws.zeros_are_told.Goals as goal

pub returns : goal.returns
returns c m columns i row =
    class-code (same_tuple m columns) (is_zero_row m columns) (same_tuple-equiv m columns)
    (zeros-class m columns) m.rows i row
