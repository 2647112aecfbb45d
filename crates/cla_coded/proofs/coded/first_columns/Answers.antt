use Rattle.cla_coded.proofs.Copies.{columns_more}
use Rattle.cla_coded.proofs.coded.first_columns.Goals as goal

pub loop-column-preserved : goal.loop-column-preserved
loop-column-preserved c = rw (c.in_ok-push.ensures.items, c.loop-column.invariant) (columns_more c.loop-column.column)
