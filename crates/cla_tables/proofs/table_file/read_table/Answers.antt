use Rattle.std.proofs.Common.{rules, ◌≡◌, true, false, refl}
use Rattle.cla_io.specs.State.{left}
use Rattle.cla_io.specs.Lines.{ahead_of}
use Rattle.cla_tables.proofs.FormLaws.{is_packed, is_text}
use Rattle.cla_tables.proofs.table_file.read_table.Goals as goal

pub returns-in-Ok-true-clause-reads : goal.returns-in-Ok-true-clause-reads
returns-in-Ok-true-clause-reads g c =
    let old = c.args.input.now in
    let next = c.starts_with.new.self in
    let is : c.in-Ok-true.field-0 ≡ true = search rules in
    let start = rw is at c.in-Ok-true.ensures.begins in
    is_packed g.N.Number.BITS old.taken.limit next.taken.limit _
    (ahead_of old.taken (left (g.F.Files.state old.files.now)))
    (ahead_of next.taken (left (g.F.Files.state next.files.now))) c.packed_table.result refl
    c.in-Ok-true.ensures.kept.limit start c.packed_table.ensures.reads

pub returns-in-Ok-false-clause-reads : goal.returns-in-Ok-false-clause-reads
returns-in-Ok-false-clause-reads g c =
    let old = c.args.input.now in
    let next = c.starts_with.new.self in
    let is : c.in-Ok-false.field-0 ≡ false = search rules in
    let start = rw is at c.in-Ok-false.ensures.begins in
    is_text g.N.Number.BITS old.taken.limit next.taken.limit _
    (ahead_of old.taken (left (g.F.Files.state old.files.now)))
    (ahead_of next.taken (left (g.F.Files.state next.files.now))) c.text_table.result refl
    c.in-Ok-false.ensures.kept.limit start c.text_table.ensures.reads
