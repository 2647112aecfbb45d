use Rattle.std.proofs.Common.{◌<◌, arith}
use Rattle.cla_spec.specs.Lines.{first_line}
use Rattle.cla_text.specs.Words.{words_of}
use Rattle.cla_mtx.proofs.CellLaws.{next_is}
use Rattle.cla_mtx.proofs.EntryLaws.{array_entry_is}
use Rattle.cla_mtx.proofs.plain.plain_entry.Goals as goal

pub returns-in-Array-default-default-clause-exact : goal.returns-in-Array-default-default-clause-exact
returns-in-Array-default-default-clause-exact g c =
    let array = c.in-Array-default-default.is-0 in
    let more : c.args.count < c.args.size.entries = omega (arith, c.requires.few, c.if-count-size.false) in
    let is = next_is c.args.banner.symmetry c.args.size c.args.count c.args.next (c.requires.next array more) in
    let words = words_of (first_line c.args.bytes.now) in
    let same = array_entry_is g.N.Number.BITS c.args.banner c.args.size c.args.count words
    (c.args.next.row, c.args.next.col) array is in
    rw same c.plain_array.ensures.exact
