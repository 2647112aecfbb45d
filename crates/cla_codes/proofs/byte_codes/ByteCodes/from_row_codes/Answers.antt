use Rattle.std.proofs.Common.{◌≡◌, ◌≤◌, ◌/◌, length, arith, rules, ◌∙◌}
use Rattle.std.specs.Prelude.{vec_len}
use Rattle.cla_spec.specs.Matrix.{most_cells}
use Rattle.cla_codes.proofs.CodeBytes.{row_codes_are}
use Rattle.cla_codes.proofs.byte_codes.ByteCodes.from_row_codes.Goals as goal

pub overflow_cast-len : goal.overflow_cast-len
overflow_cast-len g c =
    let whole : vec_len c.into_bytes-bytes.result ≡ length c.into_bytes-bytes.result.items = search rules in
    let n = row_codes_are g.row.W c.args.codes.width c.len.result c.into_bytes-bytes.result.items c.args.codes.codes
    c.requires.width (c.len.ensures ∙ whole) c.into_bytes-bytes.ensures.codes c.into_bytes-bytes.ensures.whole in
    omega (arith, n.count, c.requires.few)

pub from_bytes-requires : goal.from_bytes-requires
from_bytes-requires g c =
    let whole : vec_len c.into_bytes-bytes.result ≡ length c.into_bytes-bytes.result.items = search rules in
    let n = row_codes_are g.row.W c.args.codes.width c.len.result c.into_bytes-bytes.result.items c.args.codes.codes
    c.requires.width (c.len.ensures ∙ whole) c.into_bytes-bytes.ensures.codes c.into_bytes-bytes.ensures.whole in
    let few : c.len.result / g.row.W ≤ most_cells = omega (arith, n.count, c.requires.few) in
    (omega arith, (n.size, (rw (n.are, n.count) c.requires.below, (few, c.requires.fits))))

pub returns : goal.returns
returns g c =
    let whole : vec_len c.into_bytes-bytes.result ≡ length c.into_bytes-bytes.result.items = search rules in
    let n = row_codes_are g.row.W c.args.codes.width c.len.result c.into_bytes-bytes.result.items c.args.codes.codes
    c.requires.width (c.len.ensures ∙ whole) c.into_bytes-bytes.ensures.codes c.into_bytes-bytes.ensures.whole in
    rw n.are at c.from_bytes.ensures
