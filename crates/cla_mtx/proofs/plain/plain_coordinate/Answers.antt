use Rattle.std.proofs.Common.{◌≡◌, [], ◌∷◌, pos, map, Ok, sym, arith}
use Rattle.cla_spec.specs.Lines.{first_line}
use Rattle.cla_text.specs.Integers.{int_of}
use Rattle.cla_text.specs.Words.{words_of}
use Rattle.cla_mtx.proofs.PlainLaws.{not_skipped, coordinate_is}
use Rattle.cla_mtx.proofs.plain.plain_coordinate.Goals as goal

pub returns-clause-some : goal.returns-clause-some
returns-clause-some g c = not_skipped (words_of (first_line c.args.bytes.now)) _ _ c.in_ok-first.ensures.values_are

pub returns-clause-exact : goal.returns-clause-exact
returns-clause-exact g c =
    let value = c.in_ok-value.value in
    let words = words_of (first_line c.args.bytes.now) in
    let x = c.in_ok-first.first in
    let y = c.in_ok-first.second in
    let values : map int_of words ≡ Ok (pos x) ∷ Ok (pos y) ∷ Ok (g.N.Number.value value) ∷ []
    = rw c.in_ok-value.ensures c.in_ok-first.ensures.values_are in
    sym (coordinate_is g.N.Number.BITS c.args.rows c.args.cols x y words (g.N.Number.value value) values
    (omega arith) (omega arith) (omega arith) (omega arith) (g.met.N.Number.in_range value))
