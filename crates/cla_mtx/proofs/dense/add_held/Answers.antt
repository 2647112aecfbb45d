use Rattle.std.proofs.Common.{refl, ◌∙◌}
use Rattle.cla_mtx.proofs.HeldLaws.{no_lines, same_tables}
use Rattle.cla_mtx.proofs.dense.add_held.Goals as goal

pub returns-in-Ok-clause-reads : goal.returns-in-Ok-clause-reads
returns-in-Ok-clause-reads g c =
    let added = c.add_general-dense.result in
    same_tables g.N.Number.BITS c.args.entries.now added.0 c.args.bytes.now added.1.count added.1.width c.in-Ok.table
    c.of_dense.result (c.in-Ok.ensures ∙ c.replace.ensures.value) c.of_dense.ensures
    c.add_general-dense.ensures.reads

pub returns-in-Err-clause-reads : goal.returns-in-Err-clause-reads
returns-in-Err-clause-reads g c =
    let e = c.args.entries.now in
    let bytes = c.args.bytes.now in
    let table = e.table in
    same_tables g.N.Number.BITS e e bytes 0 0 table c.in-Err.table refl (c.in-Err.ensures ∙ c.replace.ensures.value)
    (no_lines g.N.Number.BITS e bytes)
