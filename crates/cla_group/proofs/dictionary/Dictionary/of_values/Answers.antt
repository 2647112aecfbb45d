use Rattle.std.proofs.Common.{◌≡◌, length, rules, arith}
use Rattle.std.specs.Prelude.{vec_len}
use Rattle.cla_layout.proofs.Tuples.{group_with_values}
use Rattle.cla_group.proofs.GroupsMade.{dictionary_values}
use Rattle.cla_group.proofs.dictionary.Dictionary.of_values.Goals as goal

pub overflow_cast-tuples-2 : goal.overflow_cast-tuples-2
overflow_cast-tuples-2 g c =
    let are = dictionary_values _ _ _ _ c.requires.1 in
    let whole : vec_len c.args.values ≡ length c.args.values.items = search rules in
    omega (arith, are.few, are.a_column, c.len.ensures, whole)

pub new-requires : goal.new-requires
new-requires g c =
    let whole : vec_len c.args.values ≡ length c.args.values.items = search rules in
    rw (c.len.ensures, whole) (dictionary_values _ _ _ _ c.requires.1)

pub returns-clause-group : goal.returns-clause-group
returns-clause-group g c = λ codes are.
    (let whole : vec_len c.args.values ≡ length c.args.values.items = search rules in
    rw (c.new.ensures, c.len.ensures, whole)
    (group_with_values g.N.Number.BITS g.N.Number.value g.met.N.Number.in_range c.args.width _ codes c.args.values.items
    are))
