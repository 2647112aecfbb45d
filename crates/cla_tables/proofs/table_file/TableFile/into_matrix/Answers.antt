use Rattle.cla_tables.proofs.KeptLaws.{dense_of}
use Rattle.cla_tables.proofs.table_file.TableFile.into_matrix.Goals as goal

pub returns-in-Packed : goal.returns-in-Packed
returns-in-Packed g c =
    dense_of c.self.inside.kept c.in-Packed.packed c.args.self c.to_dense.result c.self.view_is c.in-Packed.is
    c.self.invariant (rw c.in-Packed.packed-is at c.to_dense.ensures)
