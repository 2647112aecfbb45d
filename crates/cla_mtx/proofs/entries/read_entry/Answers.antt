use Rattle.std.proofs.Common.{sym, ◌∙◌}
use Rattle.cla_text.specs.Words.{words_of}
use Rattle.cla_mtx.proofs.CellLaws.{next_is}
use Rattle.cla_mtx.proofs.EntryLaws.{array_entry_is}
use Rattle.cla_mtx.proofs.entries.read_entry.Goals as goal

pub returns-in-Array-default-clause-exact : goal.returns-in-Array-default-clause-exact
returns-in-Array-default-clause-exact g c =
    let e = c.args.entries.now in
    let array = c.in-Array-default.is-0 in
    let is = next_is e.banner.symmetry e.size e.count e.next (c.requires.ready.next array c.requires.more) in
    c.read_array_entry.ensures.exact
    ∙ sym (array_entry_is g.N.Number.BITS e.banner e.size e.count (words_of c.args.line.now) (e.next.row, e.next.col)
    array is)
