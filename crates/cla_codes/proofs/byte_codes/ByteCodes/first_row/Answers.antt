use Rattle.std.proofs.Common.{◌≡◌, ◌∙◌, length, arith, rules}
use Rattle.std.specs.Prelude.{vec_len}
use Rattle.std.proofs.lemmas.List.{get_or_read}
use Rattle.cla_codes.proofs.CodeBytes.{used_below}
use Rattle.cla_codes.proofs.byte_codes.ByteCodes.first_row.Goals as goal

pub index-requires : goal.index-requires
index-requires g c =
    let found = c.self.inside.occurrences in
    let are = c.self.invariant in
    let whole : vec_len found.first_rows ≡ length found.first_rows.items = search rules in
    omega (
      arith,
      whole,
      are.counted.a_row_each,
      used_below _ _ c.args.k are.below (rw (← c.self.view_is) at c.requires),
    )

pub returns : goal.returns
returns g c =
    let found = c.self.inside.occurrences in
    let are = c.self.invariant in
    let there = used_below _ _ c.args.k are.below (rw (← c.self.view_is) at c.requires) in
    let read =
    get_or_read found.first_rows.items c.args.k c.index.result.now (omega (arith, there, are.counted.a_row_each))
    c.index.ensures 0 in
    rw (← c.self.view_is) (read ∙ are.counted.first_row c.args.k there)
