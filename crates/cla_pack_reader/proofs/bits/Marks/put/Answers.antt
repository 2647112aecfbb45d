use Rattle.std.proofs.Common.{rules, ◌≡◌, ◌/◌, ◌<◌, ℕ, Bool, true, List, length, set, vec_len, ap, ◌∙◌, arith}
use Rattle.std.specs.Int.{bit_at}
use Rattle.std.proofs.lemmas.List.{get_or_read}
use Rattle.cla_pack_reader.proofs.BitLaws.{marks_count, one_marked}
use Rattle.cla_pack_reader.proofs.bits.Marks.put.Goals as goal

pub index-requires : goal.index-requires
index-requires c =
    let words = c.self.inside.words in
    let whole : vec_len words ≡ length words.items = search rules in
    let count = marks_count words.items c.self.inside.len in
    omega (arith, c.requires, c.self.invariant, whole, count, ap (λ (l : List Bool). length l) c.self.view_is)

pub index_mut-requires : goal.index_mut-requires
index_mut-requires c =
    let words = c.self.inside.words in
    let whole : vec_len words ≡ length words.items = search rules in
    let count = marks_count words.items c.self.inside.len in
    omega (arith, c.requires, c.self.invariant, whole, count, ap (λ (l : List Bool). length l) c.self.view_is)

pub returns : goal.returns
returns c =
    let words = c.self.inside.words.items in
    let len = c.self.inside.len in
    let item = c.args.item in
    let same = ap (λ (l : List Bool). length l) c.self.view_is in
    let lt : item < len = omega (arith, c.requires, marks_count words len, same) in
    let place : item / 64 < length words = omega (arith, lt, c.self.invariant) in
    let word = get_or_read words (item / 64) c.index.result.now place c.index.ensures 0 in
    one_marked words len item c.with_bit.result c.self.invariant lt c.with_bit.ensures.set
    (λ i other. c.with_bit.ensures.others i other ∙ ap (λ (w : ℕ). bit_at w i) word)
    ∙ ap (λ (l : List Bool). set l item true) c.self.view_is
