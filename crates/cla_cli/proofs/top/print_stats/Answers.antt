use Rattle.std.proofs.Common.{◌≡◌, Some, ◌∙◌}
use Rattle.cla_spec.specs.Files.{Told}
use Rattle.cla_num.specs.Counts.{zero_counts}
use Rattle.cla_tables.specs.TableFiles.{TableFile}
use Rattle.cla_cli.specs.declared.unfinished.Unfinished.TheVariants as unfinished
use Rattle.cla_cli.specs.Limits.{most_budget}
use Rattle.cla_cli.specs.Stats.{stats_text}
use Rattle.cla_cli.specs.Statements.{printing}
use Rattle.cla_cli.specs.Outcome.{text_outcome, evaluated, stats_outcome}
use Rattle.cla_cli.specs.Run.{written}
use Rattle.cla_cli.specs.Parts.{Reaches}
use Rattle.cla_cli.proofs.EndLaws.{read_ends, statements_done, statements_halt, needed_where_told}
use Rattle.cla_cli.proofs.ReadLaws.{table_needed}
use Rattle.cla_cli.proofs.StatsLaws.{stats_reached}
use Rattle.cla_cli.proofs.top.print_stats.Goals as goal

pub returns-in-Err-clause-comes : goal.returns-in-Err-clause-comes
returns-in-Err-clause-comes g c =
    let old = g.F.Files.state c.args.files.now in
    let new = g.F.Files.state c.read_within.new.files in
    read_ends (λ (t : TableFile). text_outcome (stats_text t))
    (λ t. stats_outcome g.N.Number.BITS t c.args.name.now) old.told
    new.told old new
    (written (g.O.Sink.told c.args.out.now) (g.O.Sink.faults c.args.out.now)) c.in-Err.unfinished
    c.in-Err.ensures.frame.told
    (λ t there. c.in-Err.ensures.reads t (λ (t : TableFile). text_outcome (stats_text t)) there) c.in-Err.ensures.ending

pub returns-in-Err-clause-needed : goal.returns-in-Err-clause-needed
returns-in-Err-clause-needed g c =
    let old = g.F.Files.state c.args.files.now in
    let new = g.F.Files.state c.read_within.new.files in
    needed_where_told (λ t. stats_outcome g.N.Number.BITS t c.args.name.now) old.told new.reading
    (λ t there. table_needed g.N.Number.BITS most_budget t c.args.name.now
    (λ (t : TableFile). text_outcome (stats_text t)) new.reading c.in-Err.ensures.no_other)

pub returns-in_default-clause-comes : goal.returns-in_default-clause-comes
returns-in_default-clause-comes g c =
    let old = g.F.Files.state c.args.files.now in
    let new = g.F.Files.state c.read_within.new.files in
    read_ends (λ (t : TableFile). text_outcome (stats_text t))
    (λ t. stats_outcome g.N.Number.BITS t c.args.name.now) old.told
    new.told old new
    (written (g.O.Sink.told c.args.out.now) (g.O.Sink.faults c.args.out.now)) unfinished.Memory
    c.in-Ok.ensures.frame.told
    (λ t there. tt) tt

pub returns-in_default-clause-needed : goal.returns-in_default-clause-needed
returns-in_default-clause-needed g c =
    let old = g.F.Files.state c.args.files.now in
    let new = g.F.Files.state c.read_within.new.files in
    needed_where_told (λ t. stats_outcome g.N.Number.BITS t c.args.name.now) old.told new.reading
    (λ t there. table_needed g.N.Number.BITS most_budget t c.args.name.now
    (λ (t : TableFile). text_outcome (stats_text t)) new.reading c.in-Ok.ensures.no_other)

pub returns-in-Ok-put_text-clause-comes : goal.returns-in-Ok-put_text-clause-comes
returns-in-Ok-put_text-clause-comes g c =
    let old = g.F.Files.state c.args.files.now in
    let new = g.F.Files.state c.read_within.new.files in
    let text = c.bytes.result.now in
    let reaches : (t : Told) → old.told ≡ Some t
    → Reaches (stats_outcome g.N.Number.BITS t c.args.name.now) (evaluated zero_counts (printing text)) =
    λ t there. stats_reached (stats_outcome g.N.Number.BITS t c.args.name.now) c.in-Ok.table text
    (c.bytes.ensures ∙ c.in-Ok-stats_text.ensures)
    (c.in-Ok.ensures.reads t (λ (t : TableFile). text_outcome (stats_text t)) there) in
    statements_done (λ t. stats_outcome g.N.Number.BITS t c.args.name.now) old.told new.told zero_counts (printing text)
    old new
    (written (g.O.Sink.told c.args.out.now) (g.O.Sink.faults c.args.out.now))
    (written (g.O.Sink.told c.put_text.new.out) (g.O.Sink.faults c.put_text.new.out))
    c.in-Ok.ensures.frame.told reaches c.in-Ok.ensures.ending.0.0
    c.in-Ok.ensures.frame.write_faults (λ t. c.in-Ok-put_text.ensures.runs t)
    c.in-Ok-put_text.ensures.cause

pub returns-in-Ok-put_text-clause-needed : goal.returns-in-Ok-put_text-clause-needed
returns-in-Ok-put_text-clause-needed g c =
    let old = g.F.Files.state c.args.files.now in
    let new = g.F.Files.state c.read_within.new.files in
    needed_where_told (λ t. stats_outcome g.N.Number.BITS t c.args.name.now) old.told new.reading
    (λ t there. table_needed g.N.Number.BITS most_budget t c.args.name.now
    (λ (t : TableFile). text_outcome (stats_text t)) new.reading c.in-Ok.ensures.no_other)

pub returns-clause-comes : goal.returns-clause-comes
returns-clause-comes g c =
    let old = g.F.Files.state c.args.files.now in
    let new = g.F.Files.state c.read_within.new.files in
    let text = c.bytes.result.now in
    let reaches : (t : Told) → old.told ≡ Some t
    → Reaches (stats_outcome g.N.Number.BITS t c.args.name.now) (evaluated zero_counts (printing text)) =
    λ t there. stats_reached (stats_outcome g.N.Number.BITS t c.args.name.now) c.in-Ok.table text
    (c.bytes.ensures ∙ c.in-Ok-stats_text.ensures)
    (c.in-Ok.ensures.reads t (λ (t : TableFile). text_outcome (stats_text t)) there) in
    statements_halt (λ t. stats_outcome g.N.Number.BITS t c.args.name.now) old.told new.told zero_counts (printing text)
    old new
    (written (g.O.Sink.told c.args.out.now) (g.O.Sink.faults c.args.out.now))
    (written (g.O.Sink.told c.put_text.new.out) (g.O.Sink.faults c.put_text.new.out))
    c.in-Err-put_text.halted c.tell_halt.result c.in-Ok.ensures.frame.told reaches c.in-Ok.ensures.ending.0.0
    c.in-Ok.ensures.frame.write_faults (λ t. c.in-Err-put_text.ensures.runs t)
    c.in-Err-put_text.ensures.cause c.tell_halt.ensures

pub returns-clause-needed : goal.returns-clause-needed
returns-clause-needed g c =
    let old = g.F.Files.state c.args.files.now in
    let new = g.F.Files.state c.read_within.new.files in
    needed_where_told (λ t. stats_outcome g.N.Number.BITS t c.args.name.now) old.told new.reading
    (λ t there. table_needed g.N.Number.BITS most_budget t c.args.name.now
    (λ (t : TableFile). text_outcome (stats_text t)) new.reading c.in-Ok.ensures.no_other)
