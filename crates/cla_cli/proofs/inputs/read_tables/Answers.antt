use Rattle.std.proofs.Common.{◌∙◌, ◌+◌, refl, arith, drop}
use Rattle.cla_script.specs.Reads.{statements_of}
use Rattle.cla_cli.specs.Statements.{files_read}
use Rattle.cla_cli.proofs.ReadLaws.{none_read, all_read}
use Rattle.cla_cli.proofs.EndingLaws.{ending_after}
use Rattle.cla_cli.proofs.InputsLaws.{next_reads, next_reads_none, none_left, none_yet, one_more, reads_on}
use Rattle.cla_cli.proofs.InputsLaws.{reads_itself, table_comes, table_fails, table_is_needed}
use Rattle.cla_cli.proofs.inputs.read_tables.Goals.{in-Read+in-Ok+in-Ok-push, in_default}
use Rattle.cla_cli.proofs.inputs.read_tables.Goals as goal

pub loop-statement-init : goal.loop-statement-init
loop-statement-init g c = record {
  frame = record {
    told = refl;
    writing = refl;
    steady = refl;
    read_faults = omega arith;
    write_faults = refl;
    misses =
        omega arith;
  };
  no_fault = refl;
  no_miss = refl;
  one_each = none_yet c.new-tables.result.items _ c.new-tables.ensures.items;
  needed = λ told next there. reads_itself _ _;
  reached = λ told next there. rw c.new-tables.ensures.items (none_read g.N.Number.BITS c.args.budget told
      (files_read (statements_of g.N.Number.value c.args.statements.now)) next);
}

pub returns-in-Err-clause-ending : goal.returns-in-Err-clause-ending
returns-in-Err-clause-ending g c =
    ending_after (g.F.Files.state c.args.files.now) (g.F.Files.state c.loop-statement.files)
    (g.F.Files.state c.one_table.new.files) 0 0 c.in-Err.unfinished c.loop-statement.invariant.no_fault
    c.loop-statement.invariant.frame.write_faults c.loop-statement.invariant.no_miss c.in-Err.ensures.ending

pub returns-in-Err-clause-needed : goal.returns-in-Err-clause-needed
returns-in-Err-clause-needed g c told next there =
    let value = g.N.Number.value in
    let items = c.args.statements.now in
    let i = c.loop-statement.statement-index in
    let reads = next_reads value items i c.statement-item.result c.in-Read.name c.in-Read.file
    c.loop-statement-test.true
    c.statement-item.is c.in-Read.is in
    table_is_needed g.N.Number.BITS c.args.budget told (files_read (statements_of value items))
    (files_read (statements_of value (drop i items)))
    (files_read (statements_of value (drop (i + 1) items))) c.in-Read.file c.as_str.result.now
    c.loop-statement.tables.items next
    (g.F.Files.state c.args.files.now).reading (g.F.Files.state c.one_table.new.files).reading reads.0 c.as_str.ensures
    (c.loop-statement.invariant.reached told next there) c.in-Err.ensures.no_other

pub returns-in-Err-clause-reads : goal.returns-in-Err-clause-reads
returns-in-Err-clause-reads g c told next there =
    let value = g.N.Number.value in
    let items = c.args.statements.now in
    let i = c.loop-statement.statement-index in
    let reads = next_reads value items i c.statement-item.result c.in-Read.name c.in-Read.file
    c.loop-statement-test.true
    c.statement-item.is c.in-Read.is in
    table_fails g.N.Number.BITS c.args.budget told (files_read (statements_of value items))
    (files_read (statements_of value (drop i items)))
    (files_read (statements_of value (drop (i + 1) items))) c.in-Read.file c.as_str.result.now
    c.loop-statement.tables.items next
    c.in-Err.unfinished reads.0 c.as_str.ensures (c.loop-statement.invariant.reached told next there)
    (λ after. c.in-Err.ensures.reads told after (c.loop-statement.invariant.frame.told ∙ there))

pub returns-in_default-push-clause-needed : goal.returns-in_default-push-clause-needed
returns-in_default-push-clause-needed g c told next there =
    let value = g.N.Number.value in
    let items = c.args.statements.now in
    let i = c.loop-statement.statement-index in
    let reads = next_reads value items i c.statement-item.result c.in-Read.name c.in-Read.file
    c.loop-statement-test.true
    c.statement-item.is c.in-Read.is in
    table_is_needed g.N.Number.BITS c.args.budget told (files_read (statements_of value items))
    (files_read (statements_of value (drop i items)))
    (files_read (statements_of value (drop (i + 1) items))) c.in-Read.file c.as_str.result.now
    c.loop-statement.tables.items next
    (g.F.Files.state c.args.files.now).reading (g.F.Files.state c.one_table.new.files).reading reads.0 c.as_str.ensures
    (c.loop-statement.invariant.reached told next there) c.in-Ok.ensures.no_other

pub loop-statement-preserved : goal.loop-statement-preserved
loop-statement-preserved g c =
    let value = g.N.Number.value in
    let items = c.args.statements.now in
    let i = c.loop-statement.statement-index in
    let item = c.statement-item.result in
    let all = files_read (statements_of value items) in
    let left = files_read (statements_of value (drop i items)) in
    let rest = files_read (statements_of value (drop (i + 1) items)) in
    let so_far = c.loop-statement.invariant in
    let old = g.F.Files.state c.args.files.now in
    let mid = g.F.Files.state c.loop-statement.files in
    let done = c.loop-statement.tables.items in
    elim c.match-statement.branch [
      | in-Read+in-Ok+in-Ok-push w ↦
          let new = g.F.Files.state w.one_table.new.files in
          let reads = next_reads value items i item w.in-Read.name w.in-Read.file c.loop-statement-test.true
          c.statement-item.is
          w.in-Read.is in
          rw (w.files-is, w.tables-is) (record {
            frame = reads_on old mid new so_far.frame w.in-Ok.ensures.frame;
            no_fault = w.in-Ok.ensures.ending.0.0 ∙ so_far.no_fault;
            no_miss = w.in-Ok.ensures.ending.1 ∙ so_far.no_miss;
            one_each = rw w.in-Ok-push.ensures.items (one_more done w.in-Ok.table _ _ _ so_far.one_each reads.1);
            needed = λ told next there. table_is_needed g.N.Number.BITS c.args.budget told all left rest w.in-Read.file
                w.as_str.result.now done next
                old.reading new.reading reads.0 w.as_str.ensures (so_far.reached told next there)
                w.in-Ok.ensures.no_other;
            reached = λ told next there. table_comes g.N.Number.BITS c.args.budget told all left rest w.in-Read.file
                w.as_str.result.now done
                w.push.new.self.items w.in-Ok.table next reads.0 w.as_str.ensures w.in-Ok-push.ensures.items
                (so_far.reached told next there) (λ after. w.in-Ok.ensures.reads told after (so_far.frame.told
                ∙ there));
          })
      | in_default w ↦
          let reads = next_reads_none value items i item c.loop-statement-test.true c.statement-item.is
          w.in_default.not-Read in
          rw (w.files-is, w.tables-is) (record {
            frame = so_far.frame;
            no_fault = so_far.no_fault;
            no_miss = so_far.no_miss;
            one_each = rw reads.1 at so_far.one_each;
            needed = so_far.needed;
            reached = λ told next there. rw reads.0 at (so_far.reached told next there);
          })
    ]

pub returns-clause-reads : goal.returns-clause-reads
returns-clause-reads g c told next there =
    let value = g.N.Number.value in
    let items = c.args.statements.now in
    all_read g.N.Number.BITS c.args.budget told (files_read (statements_of value items)) c.loop-statement.tables.items
    next
    (rw (none_left value items c.loop-statement.statement-index c.loop-statement-test.false)
    at (c.loop-statement.invariant.reached told next there))
