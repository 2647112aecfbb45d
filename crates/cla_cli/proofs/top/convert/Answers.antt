use Rattle.std.proofs.Common.{ℕ, Err, subst, refl, ◌∙◌}
use Rattle.cla_spec.specs.Matrix.{Matrix}
use Rattle.cla_cli.specs.Forms.{file_of}
use Rattle.cla_cli.specs.Outcome.{Outcome, file_outcome, written_outcome}
use Rattle.cla_cli.specs.Writing.{HasFileCause}
use Rattle.cla_cli.proofs.EndLaws.{read_ends}
use Rattle.cla_cli.proofs.FileLaws.{file_written, file_unwritten}
use Rattle.cla_cli.proofs.top.convert.Goals as goal

pub returns-in-Err-clause-comes : goal.returns-in-Err-clause-comes
returns-in-Err-clause-comes g c out =
    let old = g.F.Files.state c.args.files.now in
    let new = g.F.Files.state c.read_matrix.new.files in
    let next : Matrix → Outcome = λ m. file_outcome c.args.to.now (file_of c.args.form m) in
    read_ends next (λ t. written_outcome c.args.form g.N.Number.BITS c.args.budget t c.args.from.now c.args.to.now)
    old.told new.told old new out c.in-Err.unfinished c.in-Err.ensures.frame.told
    (λ t there. c.in-Err.ensures.reads t next there) c.in-Err.ensures.ending

pub returns-clause-comes : goal.returns-clause-comes
returns-clause-comes g c out =
    let old = g.F.Files.state c.args.files.now in
    let mid = g.F.Files.state c.read_matrix.new.files in
    let new = g.F.Files.state c.write_file.new.files in
    let wrote = c.in-Err-write_file.ensures in
    let same = c.in-Ok.ensures.frame in
    file_unwritten
    (λ t. written_outcome c.args.form g.N.Number.BITS c.args.budget t c.args.from.now c.args.to.now) old.told
    new.told c.args.to.now (file_of c.args.form c.in-Ok.m) old new out c.in-Err-write_file.reason
    c.tell_unwritten.result
    (λ t there. c.in-Ok.ensures.reads t (λ m. file_outcome c.args.to.now (file_of c.args.form m)) there)
    (rw same.told at wrote.writes) (wrote.frame.read_faults ∙ c.in-Ok.ensures.ending.0.0)
    (subst (λ (n : ℕ). HasFileCause n new.write_faults (Err c.in-Err-write_file.reason)) same.write_faults wrote.cause)
    c.tell_unwritten.ensures

pub returns-in-Ok-write_file-clause-comes : goal.returns-in-Ok-write_file-clause-comes
returns-in-Ok-write_file-clause-comes g c out =
    let old = g.F.Files.state c.args.files.now in
    let new = g.F.Files.state c.write_file.new.files in
    let wrote = c.in-Ok-write_file.ensures in
    let same = c.in-Ok.ensures.frame in
    file_written
    (λ t. written_outcome c.args.form g.N.Number.BITS c.args.budget t c.args.from.now c.args.to.now) old.told
    new.told c.args.to.now (file_of c.args.form c.in-Ok.m) old new out
    (λ t there. c.in-Ok.ensures.reads t (λ m. file_outcome c.args.to.now (file_of c.args.form m)) there)
    (rw same.told at wrote.writes)
    (wrote.frame.read_faults ∙ c.in-Ok.ensures.ending.0.0, (wrote.cause ∙ same.write_faults, refl))
