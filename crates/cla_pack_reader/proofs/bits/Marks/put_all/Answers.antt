use Rattle.std.proofs.Common.{◌≡◌, ◌*◌, ◌<◌, ℕ, Bool, false, List, length, get_or, sym, ap, ◌∙◌, arith}
use Rattle.std.specs.Prelude.{nat_le, nat_lt, ◌||◌, ◌&&◌}
use Rattle.std.specs.Vec.{with_items}
use Rattle.std.proofs.lemmas.List.{with_items_is}
use Rattle.cla_pack_reader.specs.Bits.{mark_in}
use Rattle.cla_pack_reader.proofs.BitLaws.{marks_count, mark_at}
use Rattle.cla_pack_reader.proofs.bits.Marks.put_all.Goals as goal

pub put_all-requires-clause-within : goal.put_all-requires-clause-within
put_all-requires-clause-within c =
    let count = marks_count c.self.inside.words.items c.self.inside.len in
    let all = ap (λ (l : List ℕ). length l) c.deref_mut.ensures.value in
    omega (arith, c.requires.within, c.self.invariant, count, all, ap (λ (l : List Bool). length l) c.self.view_is)

pub returns-clause-marks : goal.returns-clause-marks
returns-clause-marks c i lt =
    let words = c.self.inside.words in
    let len = c.self.inside.len in
    let new = c.put_all.new.words in
    let kept : length new ≡ words.len = c.put_all.ensures.size ∙ c.deref_mut.ensures.len in
    let all = ap (λ (l : List ℕ). length l) c.deref_mut.ensures.value in
    let there : i < len = omega (
      arith,
      lt,
      marks_count words.items len,
      ap (λ (l : List Bool). length l) c.self.view_is,
    ) in
    let known : i < 64 * length c.deref_mut.result.now = omega (arith, there, c.self.invariant, all) in
    mark_at (with_items words new).items len i there ∙ ap (λ (l : List ℕ). mark_in l i) (with_items_is words new kept)
    ∙ c.put_all.ensures.marks i known
    ∙ ap (λ (l : List ℕ). mark_in l i || nat_le c.args.begin i && nat_lt i c.args.end) c.deref_mut.ensures.value
    ∙ ap (λ (b : Bool). b || nat_le c.args.begin i && nat_lt i c.args.end)
    (sym (mark_at words.items len i there) ∙ ap (λ (l : List Bool). get_or l i false) c.self.view_is)
