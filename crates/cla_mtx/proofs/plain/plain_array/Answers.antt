use Rattle.std.proofs.Common.{◌≡◌, [], ◌∷◌, map, Ok, sym}
use Rattle.cla_spec.specs.Lines.{first_line}
use Rattle.cla_text.specs.Integers.{int_of}
use Rattle.cla_text.specs.Words.{words_of}
use Rattle.cla_mtx.proofs.PlainLaws.{not_skipped, array_is}
use Rattle.cla_mtx.proofs.plain.plain_array.Goals as goal

pub returns-clause-some : goal.returns-clause-some
returns-clause-some g c = not_skipped (words_of (first_line c.args.bytes.now)) _ _ c.in_ok-minus.ensures.values_are

pub returns-clause-exact : goal.returns-clause-exact
returns-clause-exact g c =
    let value = c.in_ok-value.value in
    let words = words_of (first_line c.args.bytes.now) in
    let values : map int_of words ≡ Ok (g.N.Number.value value) ∷ []
    = rw c.in_ok-value.ensures c.in_ok-minus.ensures.values_are in
    sym (array_is g.N.Number.BITS (c.args.next.row, c.args.next.col) words (g.N.Number.value value) values
    (g.met.N.Number.in_range value))
