use Rattle.std.proofs.Common.{◌≡◌, ◌+◌, ◌-◌, ◌≤◌, ◌<◌, [], ◌∷◌, drop, length, length-drop, Ok, Err, refl, sym, ap}
use Rattle.std.proofs.Common.{subst, ◌∙◌, arith, rules}
use Rattle.std.proofs.lemmas.List.{drop_all, take_all, nil_from_length}
use Rattle.cla_script.specs.Reads.{statements_of}
use Rattle.cla_script.specs.View.{tree_of, statement_of}
use Rattle.cla_script.specs.declared.expr.Statement.TheVariants.{Print, Read}
use Rattle.cla_cli.specs.declared.statements.Halted.{Halted}
use Rattle.cla_cli.specs.declared.statements.Halted.TheVariants.{Memory}
use Rattle.cla_cli.specs.Statements.{value_of, work_of, then_prints, with_name, trace_of, script_work}
use Rattle.cla_cli.specs.Evaluate.{CountsTo, statement_most}
use Rattle.cla_cli.specs.Run.{RiseBy, RiseByAtMost}
use Rattle.cla_cli.specs.Runs.{Runs}
use Rattle.cla_cli.proofs.RunLaws.{nothing_left, no_memory, nothing_counted, nothing_more, counted_on, counted_last}
use Rattle.cla_cli.proofs.RunLaws.{few_same, few_more, left_at, none_traced, none_worked, one_traced, one_worked}
use Rattle.cla_cli.proofs.statements.run_statements.Goals as goal
use Rattle.cla_cli.proofs.statements.run_statements.Goals.{in-Read+in_default, in-Read+in-len1-up+else-is_err}
use Rattle.cla_cli.proofs.statements.run_statements.Goals.{in-Print+in-Ok, in-Let-1, in-Write-1, in-Pack-1}

pub returns-then-is_err-clause-runs : goal.returns-then-is_err-clause-runs
returns-then-is_err-clause-runs g c = λ told.
    let left = statements_of g.N.Number.value (drop c.loop-statement.statement-index c.args.statements.now) in
    let trace = trace_of g.N.Number.BITS c.loop-statement.names.items left c.loop-statement.tables.now in
    let out = g.O.Sink.told c.loop-statement.out in
    c.loop-statement.invariant.runs told out (Err Memory) (no_memory told trace out)

pub returns-then-is_err-clause-counts : goal.returns-then-is_err-clause-counts
returns-then-is_err-clause-counts g c =
    let left = statements_of g.N.Number.value (drop c.loop-statement.statement-index c.args.statements.now) in
    c.loop-statement.invariant.counts c.loop-statement.meter (Err Memory)
    (nothing_more (script_work c.loop-statement.names.items left c.loop-statement.tables.now) c.loop-statement.meter)

pub returns-in-Err-clause-runs : goal.returns-in-Err-clause-runs
returns-in-Err-clause-runs g c = λ told.
    let bits = g.N.Number.BITS in
    let view = g.N.Number.value in
    let statements = c.args.statements.now in
    let i = c.loop-statement.statement-index in
    let names = c.loop-statement.names.items in
    let tables = c.loop-statement.tables.now in
    let left = left_at statements i c.statement-item.result (Print c.in-Print.value) c.loop-statement-test.true
    c.statement-item.is c.in-Print.is in
    let rest = trace_of bits names (statements_of view (drop (i + 1) statements)) tables in
    let out' = g.O.Sink.told c.print_value.new.out in
    let prints =
    subst
    (λ names'. Runs {U = Unit {0}} told (then_prints (value_of bits names' (tree_of view c.in-Print.value)) rest)
    (g.O.Sink.told c.loop-statement.out) out' (Err c.in-Err.halted))
    c.deref.ensures.value (c.in-Err.ensures.prints told rest) in
    c.loop-statement.invariant.runs told out' (Err c.in-Err.halted)
    (subst (λ trace. Runs {U = Unit {0}} told trace (g.O.Sink.told c.loop-statement.out) out' (Err c.in-Err.halted))
    (sym (ap (λ xs. trace_of bits names (statements_of view xs) tables) left)) prints)

pub returns-in-Err-clause-counts : goal.returns-in-Err-clause-counts
returns-in-Err-clause-counts g c =
    let view = g.N.Number.value in
    let statements = c.args.statements.now in
    let i = c.loop-statement.statement-index in
    let names = c.loop-statement.names.items in
    let tables = c.loop-statement.tables.now in
    let left = left_at statements i c.statement-item.result (Print c.in-Print.value) c.loop-statement-test.true
    c.statement-item.is c.in-Print.is in
    let now = c.print_value.new.meter in
    let counts =
    subst (λ names'. RiseByAtMost (work_of names' (tree_of view c.in-Print.value)) c.loop-statement.meter now)
    c.deref.ensures.value
    c.in-Err.ensures.counts in
    c.loop-statement.invariant.counts now (Err c.in-Err.halted)
    (subst (λ work. CountsTo {T = Unit {0}} {E = Halted} work c.loop-statement.meter now (Err c.in-Err.halted))
    (sym (ap (λ xs. script_work names (statements_of view xs) tables) left))
    (counted_last (work_of names (tree_of view c.in-Print.value))
    (script_work names (statements_of view (drop (i + 1) statements)) tables)
    c.loop-statement.meter now counts))

pub returns-in-Err-clause-kept : goal.returns-in-Err-clause-kept
returns-in-Err-clause-kept g c = g.met.O.Sink.kept_on _ _ _ c.loop-statement.invariant.kept c.in-Err.ensures.kept

pub loop-statement-preserved : goal.loop-statement-preserved
loop-statement-preserved g c =
    let bits = g.N.Number.BITS in
    let view = g.N.Number.value in
    let statements = c.args.statements.now in
    let i = c.loop-statement.statement-index in
    let names = c.loop-statement.names.items in
    let tables = c.loop-statement.tables.now in
    let out = g.O.Sink.told c.loop-statement.out in
    let inv = c.loop-statement.invariant in
    let rest = statements_of view (drop (i + 1) statements) in
    elim c.match-statement.branch [
      | in-Read+in_default w ↦ rw (w.out-is, w.meter-is, w.names-is, w.tables-is)
          (let left = left_at statements i c.statement-item.result (Read w.in-Read.name w.in-Read.file)
          c.loop-statement-test.true c.statement-item.is
          w.in-Read.is in
          let empty : tables ≡ [] = nil_from_length tables (omega (arith, w.in_default.len_below)) in
          record {
            runs = λ told end result runs. inv.runs told end result
                (subst (λ trace. Runs told trace out end result)
                (sym (ap (λ xs. trace_of bits names (statements_of view xs) tables) left
                ∙ none_traced bits names w.in-Read.name w.in-Read.file rest tables empty)) runs);
            counts = λ now result counts. inv.counts now result
                (subst (λ work. CountsTo work c.loop-statement.meter now result)
                (sym (ap (λ xs. script_work names (statements_of view xs) tables) left
                ∙ none_worked names w.in-Read.name w.in-Read.file rest tables empty)) counts);
            few = few_same i statement_most c.args.meter.now c.loop-statement.meter inv.few;
            no_fault = inv.no_fault;
            steady = inv.steady;
            kept = inv.kept;
          })
      | in-Read+in-len1-up+else-is_err w ↦ rw (w.out-is, w.meter-is, w.names-is)
          (let left = left_at statements i c.statement-item.result (Read w.in-Read.name w.in-Read.file)
          c.loop-statement-test.true c.statement-item.is
          w.in-Read.is in
          let below : 0 < length tables = omega (arith, w.in-len1-up.len_at_least) in
          let others : c.match-statement.tables.now ≡ drop 1 tables = ap (λ t. t.now) w.tables-is
          ∙ take_all (length tables - 1) (drop 1 tables) (omega (arith, length-drop 1 tables)) in
          let next : tables ≡ w.table-item.result ∷ c.match-statement.tables.now =
          left_at tables 0 w.table-item.result w.table-item.result below w.table-item.is refl
          ∙ ap (λ ms. w.table-item.result ∷ ms) (sym others) in
          let named : w.push.new.self.items ≡ with_name names w.in-Read.name w.table-item.result =
          rw (w.if-is_err.ensures.negation, w.new.ensures) at w.push.ensures.items in
          record {
            runs = λ told end result runs. inv.runs told end result
                (subst (λ trace. Runs told trace out end result)
                (sym (ap (λ xs. trace_of bits names (statements_of view xs) tables) left
                ∙ one_traced bits names w.push.new.self.items w.in-Read.name w.in-Read.file rest w.table-item.result
                tables
                c.match-statement.tables.now named next)) runs);
            counts = λ now result counts. inv.counts now result
                (subst (λ work. CountsTo work c.loop-statement.meter now result)
                (sym (ap (λ xs. script_work names (statements_of view xs) tables) left
                ∙ one_worked names w.push.new.self.items w.in-Read.name w.in-Read.file rest w.table-item.result tables
                c.match-statement.tables.now named next)) counts);
            few = few_same i statement_most c.args.meter.now c.loop-statement.meter inv.few;
            no_fault = inv.no_fault;
            steady = inv.steady;
            kept = inv.kept;
          })
      | in-Print+in-Ok w ↦ rw (w.out-is, w.meter-is, w.names-is, w.tables-is)
          (let left = left_at statements i c.statement-item.result (Print w.in-Print.value) c.loop-statement-test.true
          c.statement-item.is w.in-Print.is in
          record {
            runs = λ told end result runs. inv.runs told end result
                (subst (λ trace. Runs told trace out end result)
                (sym (ap (λ xs. trace_of bits names (statements_of view xs) tables) left))
                (subst
                (λ names'. Runs told (then_prints (value_of bits names' (tree_of view w.in-Print.value))
                (trace_of bits names rest tables)) out end result)
                w.deref.ensures.value (w.in-Ok.ensures.prints told (trace_of bits names rest tables) end result runs)));
            counts = λ now result counts. inv.counts now result
                (subst (λ work. CountsTo work c.loop-statement.meter now result)
                (sym (ap (λ xs. script_work names (statements_of view xs) tables) left))
                (counted_on (work_of names (tree_of view w.in-Print.value)) (script_work names rest tables)
                c.loop-statement.meter
                w.print_value.new.meter now result
                (subst (λ names'. RiseBy (work_of names' (tree_of view w.in-Print.value)) c.loop-statement.meter
                w.print_value.new.meter)
                w.deref.ensures.value w.in-Ok.ensures.counts) counts));
            few = few_more i statement_most c.args.meter.now c.loop-statement.meter w.print_value.new.meter inv.few
                w.in-Ok.ensures.few;
            no_fault = w.in-Ok.ensures.cause ∙ inv.no_fault;
            steady = w.in-Ok.ensures.steady ∙ inv.steady;
            kept = g.met.O.Sink.kept_on _ _ _ inv.kept w.in-Ok.ensures.kept;
          })
      | in-Let-1 w ↦ rw (w.out-is, w.meter-is, w.names-is, w.tables-is)
          (let left = left_at statements i c.statement-item.result c.statement-item.result c.loop-statement-test.true
          c.statement-item.is refl in
          let traced : trace_of bits names (statement_of view c.statement-item.result ∷ rest) tables
          ≡ trace_of bits names rest tables = search rules in
          let worked : script_work names (statement_of view c.statement-item.result ∷ rest) tables
          ≡ script_work names rest tables = search rules in
          record {
            runs = λ told end result runs. inv.runs told end result
                (subst (λ trace. Runs told trace out end result)
                (sym (ap (λ xs. trace_of bits names (statements_of view xs) tables) left ∙ traced)) runs);
            counts = λ now result counts. inv.counts now result
                (subst (λ work. CountsTo work c.loop-statement.meter now result)
                (sym (ap (λ xs. script_work names (statements_of view xs) tables) left ∙ worked)) counts);
            few = few_same i statement_most c.args.meter.now c.loop-statement.meter inv.few;
            no_fault = inv.no_fault;
            steady = inv.steady;
            kept = inv.kept;
          })
      | in-Write-1 w ↦ rw (w.out-is, w.meter-is, w.names-is, w.tables-is)
          (let left = left_at statements i c.statement-item.result c.statement-item.result c.loop-statement-test.true
          c.statement-item.is refl in
          let traced : trace_of bits names (statement_of view c.statement-item.result ∷ rest) tables
          ≡ trace_of bits names rest tables = search rules in
          let worked : script_work names (statement_of view c.statement-item.result ∷ rest) tables
          ≡ script_work names rest tables = search rules in
          record {
            runs = λ told end result runs. inv.runs told end result
                (subst (λ trace. Runs told trace out end result)
                (sym (ap (λ xs. trace_of bits names (statements_of view xs) tables) left ∙ traced)) runs);
            counts = λ now result counts. inv.counts now result
                (subst (λ work. CountsTo work c.loop-statement.meter now result)
                (sym (ap (λ xs. script_work names (statements_of view xs) tables) left ∙ worked)) counts);
            few = few_same i statement_most c.args.meter.now c.loop-statement.meter inv.few;
            no_fault = inv.no_fault;
            steady = inv.steady;
            kept = inv.kept;
          })
      | in-Pack-1 w ↦ rw (w.out-is, w.meter-is, w.names-is, w.tables-is)
          (let left = left_at statements i c.statement-item.result c.statement-item.result c.loop-statement-test.true
          c.statement-item.is refl in
          let traced : trace_of bits names (statement_of view c.statement-item.result ∷ rest) tables
          ≡ trace_of bits names rest tables = search rules in
          let worked : script_work names (statement_of view c.statement-item.result ∷ rest) tables
          ≡ script_work names rest tables = search rules in
          record {
            runs = λ told end result runs. inv.runs told end result
                (subst (λ trace. Runs told trace out end result)
                (sym (ap (λ xs. trace_of bits names (statements_of view xs) tables) left ∙ traced)) runs);
            counts = λ now result counts. inv.counts now result
                (subst (λ work. CountsTo work c.loop-statement.meter now result)
                (sym (ap (λ xs. script_work names (statements_of view xs) tables) left ∙ worked)) counts);
            few = few_same i statement_most c.args.meter.now c.loop-statement.meter inv.few;
            no_fault = inv.no_fault;
            steady = inv.steady;
            kept = inv.kept;
          })
    ]

pub returns-clause-runs : goal.returns-clause-runs
returns-clause-runs g c = λ told.
    let statements = c.args.statements.now in
    let i = c.loop-statement.statement-index in
    let out = g.O.Sink.told c.loop-statement.out in
    let end : length statements ≤ i = omega (arith, c.loop-statement-test.false) in
    c.loop-statement.invariant.runs told out (Ok (tt {0}))
    (subst (λ trace. Runs {U = Unit {0}} told trace out out (Ok (tt {0})))
    (sym
    (ap (λ xs. trace_of g.N.Number.BITS c.loop-statement.names.items (statements_of g.N.Number.value xs)
    c.loop-statement.tables.now)
    (drop_all i statements end))) (nothing_left told out))

pub returns-clause-counts : goal.returns-clause-counts
returns-clause-counts g c =
    let statements = c.args.statements.now in
    let i = c.loop-statement.statement-index in
    let end : length statements ≤ i = omega (arith, c.loop-statement-test.false) in
    c.loop-statement.invariant.counts c.loop-statement.meter (Ok (tt {0}))
    (subst (λ work. CountsTo {T = Unit {0}} {E = Halted} work c.loop-statement.meter c.loop-statement.meter
    (Ok (tt {0})))
    (sym
    (ap (λ xs. script_work c.loop-statement.names.items (statements_of g.N.Number.value xs)
    c.loop-statement.tables.now)
    (drop_all i statements end))) (nothing_counted c.loop-statement.meter))
