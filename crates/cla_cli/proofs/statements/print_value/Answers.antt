use Rattle.std.proofs.Common.{ap, ◌∙◌}
use Rattle.cla_print.specs.Texts.{Scalar, Table}
use Rattle.cla_script.specs.View.{tree_of}
use Rattle.cla_cli.specs.Statements.{then_prints, value_of}
use Rattle.cla_cli.proofs.RunLaws.{value_printed, table_value, no_memory}
use Rattle.cla_cli.proofs.statements.print_value.Goals as goal

pub returns-in-Number-clause-prints : goal.returns-in-Number-clause-prints
returns-in-Number-clause-prints g c = λ told rest.
    let bits = g.N.Number.BITS in
    let view = g.N.Number.value in
    let names = c.args.names.now in
    value_printed told (value_of bits names (tree_of view c.args.value.now)) rest (Scalar (view c.in-Number.value))
    (g.O.Sink.told c.args.out.now) (g.O.Sink.told c.print_number.new.out) c.print_number.result c.halted_by.result
    (ap (λ e. value_of bits names (tree_of view e)) c.in-Number.is) c.halted_by.ensures c.print_number.ensures.puts

pub returns-in-Some-clause-prints : goal.returns-in-Some-clause-prints
returns-in-Some-clause-prints g c = λ told rest.
    let bits = g.N.Number.BITS in
    let view = g.N.Number.value in
    let names = c.args.names.now in
    let table = c.in-Some.table.now in
    value_printed told (value_of bits names (tree_of view c.args.value.now)) rest (Table table)
    (g.O.Sink.told c.args.out.now) (g.O.Sink.told c.print.new.out) c.print.result c.halted_by-in-Some.result
    (ap (λ e. value_of bits names (tree_of view e)) c.in-Named.is
    ∙ table_value bits names c.in-Named.place c.in-Named.name table c.in-Some.ensures)
    c.halted_by-in-Some.ensures c.print.ensures.puts

pub returns-in-Ok-Some-clause-prints : goal.returns-in-Ok-Some-clause-prints
returns-in-Ok-Some-clause-prints g c = λ told rest.
    let bits = g.N.Number.BITS in
    let view = g.N.Number.value in
    let names = c.args.names.now in
    let printed = rw (c.in-Ok-Some.field-0-is, c.deref.ensures) at c.in-Ok-Some.ensures.value in
    value_printed told (value_of bits names (tree_of view c.args.value.now)) rest (Scalar (view c.in-Ok-Some.n))
    (g.O.Sink.told c.args.out.now) (g.O.Sink.told c.print_number-in-Ok-Some.new.out) c.print_number-in-Ok-Some.result
    c.halted_by-in-Ok-Some.result (ap (λ e. value_of bits names (tree_of view e)) c.in-Call.is ∙ printed)
    c.halted_by-in-Ok-Some.ensures c.print_number-in-Ok-Some.ensures.puts

pub returns-in-Err-Memory-clause-prints : goal.returns-in-Err-Memory-clause-prints
returns-in-Err-Memory-clause-prints g c = λ told rest.
    let value = value_of g.N.Number.BITS c.args.names.now (tree_of g.N.Number.value c.args.value.now) in
    no_memory told (then_prints value rest) (g.O.Sink.told c.args.out.now)
