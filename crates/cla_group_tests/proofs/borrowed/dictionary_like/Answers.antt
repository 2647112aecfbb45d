use Rattle.std.proofs.Common.{◌≡◌, ◌*◌, length, map, vec_len, rules, ap, ◌∙◌, arith}
use Rattle.cla_group.specs.Dictionaries.{DictionaryOf}
use Rattle.cla_layout.proofs.Cells.{values_few}
use Rattle.cla_layout.proofs.Tuples.{tuples_count}
use Rattle.cla_group_tests.proofs.borrowed.dictionary_like.Goals as goal

pub value-requires-clause-tuple : goal.value-requires-clause-tuple
value-requires-clause-tuple g c = let is =
    g.met.G.Group.laws c.args.g.now in omega (arith, is.in_tuples 0 (omega (arith, is.a_row)))

pub new-dictionary-requires : goal.new-dictionary-requires
new-dictionary-requires g c =
    let is = g.met.G.Group.laws c.args.g.now in
    let values = c.in_ok-values.values in
    let items : vec_len values ≡ length values.items = search rules in
    let count : length values.items ≡ c.tuples.result * c.width.result =
    omega (arith, items, c.in_ok-values.ensures.len) in
    let size : length values.items ≡ length (g.G.Group.dictionary c.args.g.now) * g.G.Group.columns c.args.g.now =
    rw (c.width.ensures, c.tuples.ensures) at count in
    rw (c.width-2.ensures, c.tuples-2.ensures)
    (record {
      a_column = is.a_column;
      a_tuple = omega (arith, is.in_tuples 0 (omega (arith, is.a_row)));
      whole = size;
      few = omega (arith, size, values_few _ _ _ _ is);
    })

pub returns-clause-count : goal.returns-clause-count
returns-clause-count g c =
    ap (λ (d : DictionaryOf). length d.tuples) c.new-dictionary.ensures
    ∙ tuples_count c.width-2.result c.tuples-2.result (map g.N.Number.value c.in_ok-values.values.items)
    ∙ c.tuples-2.ensures
