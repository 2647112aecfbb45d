use Rattle.cla_cli.proofs.NeededLaws.{table_read, table_refused}
use Rattle.cla_cli.proofs.needed.read_table.Goals as goal

pub returns-in-Ok-read_table-clause-reads : goal.returns-in-Ok-read_table-clause-reads
returns-in-Ok-read_table-clause-reads g c =
    let old = g.F.Files.state c.args.files.now in
    let opened = g.F.Files.state c.open.new.files in
    let made = c.in-Ok-new.ensures in
    table_read g.N.Number.BITS old.told opened.told opened.reading c.args.name.now c.in-Ok-read_table.table
    c.in-Ok-new.input.taken c.open.ensures.frame.told c.in-Ok.ensures.opens made.nothing_taken
    (rw made.same at c.in-Ok-read_table.ensures.reads)

pub returns-clause-reads : goal.returns-clause-reads
returns-clause-reads g c =
    let old = g.F.Files.state c.args.files.now in
    let opened = g.F.Files.state c.open.new.files in
    let made = c.in-Ok-new.ensures in
    table_refused g.N.Number.BITS old.told opened.told opened.reading c.args.name.now c.in-Err-read_table.fault
    c.unread_by.result c.in-Ok-new.input.taken c.open.ensures.frame.told c.in-Ok.ensures.opens made.nothing_taken
    (rw made.same at c.in-Err-read_table.ensures.reads) c.unread_by.ensures
