use Rattle.std.proofs.Common.{◌≡◌, length}
use Rattle.cla_rows.specs.declared.renaming.TheConstants.{NO_NAME}
use Rattle.cla_rows.specs.Renaming.{AreNames}
use Rattle.cla_rows.proofs.Renamings.{AreRenamedTo}
use Rattle.cla_rows.proofs.renaming.renamed.Given as goal

-- the rows so far are renamed
abbrev pub invariant-loop-code : goal.invariant-loop-code
invariant-loop-code l = record {
  size : length l.fresh.items ≡ l.tuples;
  names : AreNames NO_NAME l.fresh.items l.order.items;
  rows : AreRenamedTo l.code-index l.codes l.names.items l.order.items;
}
