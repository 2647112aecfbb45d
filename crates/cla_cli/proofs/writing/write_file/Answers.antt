use Rattle.cla_cli.specs.Forms.{file_of}
use Rattle.cla_cli.proofs.FileLaws.{file_ended}
use Rattle.cla_cli.proofs.writing.write_file.Goals as goal

pub returns-clause-writes : goal.returns-clause-writes
returns-clause-writes g c =
    let old = g.F.Files.state c.args.files.now in
    let begun = g.F.Files.state c.begin_write.new.self in
    let put = c.put_table-put.new.files in
    let mid = g.F.Files.state put in
    let new = g.F.Files.state c.end_write.new.self in
    file_ended old.told begun mid new c.args.name.now (file_of c.args.form c.args.m.now) c.put_table-put.result
    c.end_write.result c.first_failure.result c.in-Ok.ensures.begins.0 c.in-Ok.ensures.begins.1
    c.put_table-put.ensures.kept (g.met.F.Files.written_there put) c.put_table-put.ensures.puts
    c.end_write.ensures.told c.first_failure.ensures
