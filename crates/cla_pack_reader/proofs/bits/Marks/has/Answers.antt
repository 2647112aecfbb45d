use Rattle.std.proofs.Common.{rules, ◌≡◌, ◌/◌, ◌%◌, ◌<◌, ◌==◌, ℕ, Bool, false, List, length, get_or, vec_len, sym, ap}
use Rattle.std.proofs.Common.{◌∙◌, arith}
use Rattle.std.specs.Int.{bit_at}
use Rattle.std.proofs.lemmas.List.{get_or_read}
use Rattle.cla_pack_reader.proofs.BitLaws.{marks_count, mark_at}
use Rattle.cla_pack_reader.proofs.bits.Marks.has.Goals as goal

pub index-requires : goal.index-requires
index-requires c =
    let words = c.self.inside.words in
    let whole : vec_len words ≡ length words.items = search rules in
    let count = marks_count words.items c.self.inside.len in
    omega (arith, c.requires, c.self.invariant, whole, count, ap (λ (l : List Bool). length l) c.self.view_is)

pub returns : goal.returns
returns c =
    let words = c.self.inside.words.items in
    let len = c.self.inside.len in
    let item = c.args.item in
    let same = ap (λ (l : List Bool). length l) c.self.view_is in
    let lt : item < len = omega (arith, c.requires, marks_count words len, same) in
    let place : item / 64 < length words = omega (arith, lt, c.self.invariant) in
    c.has_bit.ensures
    ∙ ap (λ (w : ℕ). bit_at w (item % 64) == 1)
    (get_or_read words (item / 64) c.index.result.now place c.index.ensures 0)
    ∙ sym (mark_at words len item lt) ∙ ap (λ (l : List Bool). get_or l item false) c.self.view_is
