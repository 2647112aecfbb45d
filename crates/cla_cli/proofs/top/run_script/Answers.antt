use Rattle.std.proofs.Common.{◌≡◌, [], Some, ap, ◌∙◌}
use Rattle.cla_spec.specs.Files.{Told}
use Rattle.cla_script.specs.declared.expr.Script.{Script}
use Rattle.cla_script.specs.Reads.{statements_of}
use Rattle.cla_check.specs.Checks.{script_of}
use Rattle.cla_cli.specs.Outcome.{script_outcome, statements_outcome}
use Rattle.cla_cli.specs.Statements.{trace_of, script_work}
use Rattle.cla_cli.specs.Run.{written}
use Rattle.cla_cli.specs.Parts.{Reaches}
use Rattle.cla_cli.proofs.EndLaws.{read_ends, statements_done, statements_halt, done_counted, halt_counted}
use Rattle.cla_cli.proofs.EndLaws.{needed_where_told}
use Rattle.cla_cli.proofs.InputsLaws.{reached_as}
use Rattle.cla_cli.proofs.top.run_script.Goals as goal

pub returns-in-Err-clause-comes : goal.returns-in-Err-clause-comes
returns-in-Err-clause-comes g c =
    let old = g.F.Files.state c.args.files.now in
    let new = g.F.Files.state c.read_inputs.new.files in
    read_ends (statements_outcome g.N.Number.BITS [])
    (λ t. script_outcome g.N.Number.BITS c.args.budget t c.args.name.now) old.told new.told old new
    (written (g.O.Sink.told c.args.out.now) (g.O.Sink.faults c.args.out.now)) c.in-Err.unfinished
    c.in-Err.ensures.frame.told
    (λ t there. c.in-Err.ensures.reads t there) c.in-Err.ensures.ending

pub returns-in-Ok-run_statements-clause-comes : goal.returns-in-Ok-run_statements-clause-comes
returns-in-Ok-run_statements-clause-comes g c =
    let statements = statements_of g.N.Number.value in
    let xs = statements c.deref.result.now in
    let ms = c.deref-2.result.now in
    let old = g.F.Files.state c.args.files.now in
    let new = g.F.Files.state c.read_inputs.new.files in
    let reaches : (t : Told) → old.told ≡ Some t →
    Reaches (script_outcome g.N.Number.BITS c.args.budget t c.args.name.now) (statements_outcome g.N.Number.BITS xs ms)
    =
    λ t there. reached_as g.N.Number.BITS c.args.budget t c.args.name.now
    (statements (script_of c.in-Ok.inputs.checked).statements.items) xs
    c.in-Ok.inputs.tables.items ms
    (ap statements (c.deref.ensures.value
    ∙ ap (λ (s : Script g.row.N.Denot). s.statements.items) c.script.ensures.same))
    c.deref-2.ensures.value (c.in-Ok.ensures.reads t there) in
    statements_done (λ t. script_outcome g.N.Number.BITS c.args.budget t c.args.name.now) old.told new.told
    (script_work [] xs ms) (trace_of g.N.Number.BITS [] xs ms) old new
    (written (g.O.Sink.told c.args.out.now) (g.O.Sink.faults c.args.out.now))
    (written (g.O.Sink.told c.run_statements.new.out) (g.O.Sink.faults c.run_statements.new.out))
    c.in-Ok.ensures.frame.told reaches c.in-Ok.ensures.ending.0.0
    c.in-Ok.ensures.frame.write_faults (λ t. c.in-Ok-run_statements.ensures.runs t)
    c.in-Ok-run_statements.ensures.cause

pub returns-in-Ok-run_statements-clause-counts : goal.returns-in-Ok-run_statements-clause-counts
returns-in-Ok-run_statements-clause-counts g c =
    let statements = statements_of g.N.Number.value in
    let xs = statements c.deref.result.now in
    let ms = c.deref-2.result.now in
    let old = g.F.Files.state c.args.files.now in
    let reaches : (t : Told) → old.told ≡ Some t →
    Reaches (script_outcome g.N.Number.BITS c.args.budget t c.args.name.now) (statements_outcome g.N.Number.BITS xs ms)
    =
    λ t there. reached_as g.N.Number.BITS c.args.budget t c.args.name.now
    (statements (script_of c.in-Ok.inputs.checked).statements.items) xs
    c.in-Ok.inputs.tables.items ms
    (ap statements (c.deref.ensures.value
    ∙ ap (λ (s : Script g.row.N.Denot). s.statements.items) c.script.ensures.same))
    c.deref-2.ensures.value (c.in-Ok.ensures.reads t there) in
    done_counted (λ t. script_outcome g.N.Number.BITS c.args.budget t c.args.name.now) old.told
    (script_work [] xs ms) (trace_of g.N.Number.BITS [] xs ms) c.args.meter.now c.run_statements.new.meter reaches
    c.in-Ok-run_statements.ensures.counts

pub returns-clause-comes : goal.returns-clause-comes
returns-clause-comes g c =
    let statements = statements_of g.N.Number.value in
    let xs = statements c.deref.result.now in
    let ms = c.deref-2.result.now in
    let old = g.F.Files.state c.args.files.now in
    let new = g.F.Files.state c.read_inputs.new.files in
    let reaches : (t : Told) → old.told ≡ Some t →
    Reaches (script_outcome g.N.Number.BITS c.args.budget t c.args.name.now) (statements_outcome g.N.Number.BITS xs ms)
    =
    λ t there. reached_as g.N.Number.BITS c.args.budget t c.args.name.now
    (statements (script_of c.in-Ok.inputs.checked).statements.items) xs
    c.in-Ok.inputs.tables.items ms
    (ap statements (c.deref.ensures.value
    ∙ ap (λ (s : Script g.row.N.Denot). s.statements.items) c.script.ensures.same))
    c.deref-2.ensures.value (c.in-Ok.ensures.reads t there) in
    statements_halt (λ t. script_outcome g.N.Number.BITS c.args.budget t c.args.name.now) old.told new.told
    (script_work [] xs ms) (trace_of g.N.Number.BITS [] xs ms) old new
    (written (g.O.Sink.told c.args.out.now) (g.O.Sink.faults c.args.out.now))
    (written (g.O.Sink.told c.run_statements.new.out) (g.O.Sink.faults c.run_statements.new.out))
    c.in-Err-run_statements.halted c.tell_halt.result c.in-Ok.ensures.frame.told reaches c.in-Ok.ensures.ending.0.0
    c.in-Ok.ensures.frame.write_faults (λ t. c.in-Err-run_statements.ensures.runs t)
    c.in-Err-run_statements.ensures.cause c.tell_halt.ensures

pub returns-clause-counts : goal.returns-clause-counts
returns-clause-counts g c =
    let statements = statements_of g.N.Number.value in
    let xs = statements c.deref.result.now in
    let ms = c.deref-2.result.now in
    let old = g.F.Files.state c.args.files.now in
    let reaches : (t : Told) → old.told ≡ Some t →
    Reaches (script_outcome g.N.Number.BITS c.args.budget t c.args.name.now) (statements_outcome g.N.Number.BITS xs ms)
    =
    λ t there. reached_as g.N.Number.BITS c.args.budget t c.args.name.now
    (statements (script_of c.in-Ok.inputs.checked).statements.items) xs
    c.in-Ok.inputs.tables.items ms
    (ap statements (c.deref.ensures.value
    ∙ ap (λ (s : Script g.row.N.Denot). s.statements.items) c.script.ensures.same))
    c.deref-2.ensures.value (c.in-Ok.ensures.reads t there) in
    halt_counted (λ t. script_outcome g.N.Number.BITS c.args.budget t c.args.name.now) old.told
    (script_work [] xs ms) (trace_of g.N.Number.BITS [] xs ms) c.args.meter.now c.run_statements.new.meter
    c.in-Err-run_statements.halted c.tell_halt.result reaches c.tell_halt.ensures c.in-Err-run_statements.ensures.counts

pub returns-clause-needed : goal.returns-clause-needed
returns-clause-needed g c =
    needed_where_told (λ t. script_outcome g.N.Number.BITS c.args.budget t c.args.name.now)
    (g.F.Files.state c.args.files.now).told
    (g.F.Files.state c.read_inputs.new.files).reading (λ t there. c.in-Ok.ensures.needed t there)
