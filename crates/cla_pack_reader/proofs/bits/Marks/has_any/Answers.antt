use Rattle.std.proofs.Common.{◌<◌, ℕ, Bool, false, List, length, get_or, sym, ap, ◌∙◌, arith}
use Rattle.cla_pack_reader.specs.Bits.{mark_in}
use Rattle.cla_pack_reader.proofs.BitLaws.{marks_count, mark_at}
use Rattle.cla_pack_reader.proofs.bits.Marks.has_any.Goals as goal

pub has_any-requires-clause-within : goal.has_any-requires-clause-within
has_any-requires-clause-within c =
    let count = marks_count c.self.inside.words.items c.self.inside.len in
    let all = ap (λ (l : List ℕ). length l) c.deref.ensures.value in
    omega (arith, c.requires.within, c.self.invariant, count, all, ap (λ (l : List Bool). length l) c.self.view_is)

pub returns-clause-some : goal.returns-clause-some
returns-clause-some c h =
    let words = c.self.inside.words.items in
    let len = c.self.inside.len in
    let s = c.has_any.ensures.some h in
    let i = s.0 in
    let there : i < len = omega (
      arith,
      s.2,
      c.requires.within,
      marks_count words len,
      ap (λ (l : List Bool). length l) c.self.view_is,
    ) in (
      i,
      s.1,
      s.2,
      sym (ap (λ (l : List Bool). get_or l i false) c.self.view_is) ∙ mark_at words len i there
          ∙ ap (λ (l : List ℕ). mark_in l i) (sym c.deref.ensures.value) ∙ s.3,
    )

pub returns-clause-none : goal.returns-clause-none
returns-clause-none c h i ge lt =
    let words = c.self.inside.words.items in
    let len = c.self.inside.len in
    let there : i < len = omega (
      arith,
      lt,
      c.requires.within,
      marks_count words len,
      ap (λ (l : List Bool). length l) c.self.view_is,
    ) in
    sym (ap (λ (l : List Bool). get_or l i false) c.self.view_is) ∙ mark_at words len i there
    ∙ ap (λ (l : List ℕ). mark_in l i) (sym c.deref.ensures.value) ∙ c.has_any.ensures.none h i ge lt
