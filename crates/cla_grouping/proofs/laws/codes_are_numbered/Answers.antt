use Rattle.cla_grouping.specs.Tuples.{same_tuple}
use Rattle.cla_grouping.proofs.FirstRows.{codes_by-numbered}
use Rattle.cla_grouping.proofs.laws.codes_are_numbered.Goals as goal

pub returns : goal.returns
returns c m columns = codes_by-numbered (same_tuple m columns) m.rows
