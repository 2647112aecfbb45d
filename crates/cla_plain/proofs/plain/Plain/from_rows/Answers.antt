use Rattle.std.proofs.Common.{◌≡◌, ◌/◌, length, map, ap, rules}
use Rattle.std.specs.List.{range_with_len}
use Rattle.std.specs.Prelude.{vec_len}
use Rattle.cla_layout.proofs.Tuples.{tuples_count}
use Rattle.cla_group.proofs.Dictionaries.{tuples_are}
use Rattle.cla_plain.proofs.PlainGroups.{plain_group, rows_whole}
use Rattle.cla_plain.proofs.plain.Plain.from_rows.Goals as goal

pub invariant_of-result : goal.invariant_of-result
invariant_of-result g c =
    let whole : vec_len c.args.values ≡ length c.args.values.items = search rules in
    let are =
    tuples_are g.N.Number.BITS g.N.Number.value g.met.N.Number.in_range _ _ _
    (rows_whole c.args.width c.args.values.items c.requires.rows) in
    rw (c.new.ensures, c.len.ensures, whole) (record { is = plain_group _ _ _ are })

pub returns-clause-codes : goal.returns-clause-codes
returns-clause-codes g c =
    let whole : vec_len c.args.values ≡ length c.args.values.items = search rules in
    let n = length c.args.values.items / c.args.width in
    rw (c.new.ensures, c.len.ensures, whole)
    (ap (range_with_len 0) (tuples_count c.args.width n (map g.N.Number.value c.args.values.items)))
