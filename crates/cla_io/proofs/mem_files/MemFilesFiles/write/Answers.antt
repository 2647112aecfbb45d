use Rattle.std.proofs.Common.{◌≡◌, ◌++◌}
use Rattle.cla_spec.specs.Files.{bytes_at}
use Rattle.cla_io.specs.MemTold.{told_of}
use Rattle.cla_io.proofs.Growth.{there_still}
use Rattle.cla_io.proofs.mem_files.MemFilesFiles.write.Goals as goal

pub invariant_of-self-2-clause-written : goal.invariant_of-self-2-clause-written
invariant_of-self-2-clause-written c = λ x is.
    let old = told_of c.args.self.now.files.entries in
    let name = c.in-Some.name in
    let key : x ≡ name = cc in
    rw key (there_still old (told_of c.append.new.files.entries) name (bytes_at old name ++ c.args.piece.now)
    c.append.result c.append.ensures.told c.append.ensures.same (c.args.self.now.written name c.in-Some.is))
