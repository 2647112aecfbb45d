use Rattle.std.proofs.Common.{◌*◌, ◌≤◌, ℕ, List, ap, ◌∙◌, arith}
use Rattle.cla_pack_reader.specs.Bits.{marks_in}
use Rattle.cla_pack_reader.proofs.BitLaws.{none_marked}
use Rattle.cla_pack_reader.proofs.bits.Marks.none.Goals as goal

pub returns : goal.returns
returns c =
    let len = c.args.len in
    let words = c.div_ceil.result in
    let room : len ≤ 64 * words = omega (arith, c.div_ceil.ensures) in
    ap (λ (l : List ℕ). marks_in l len) (c.in_ok-words.ensures.items_if_clones_equal (λ y e. e))
    ∙ none_marked words len room
