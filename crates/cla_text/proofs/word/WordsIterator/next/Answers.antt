use Rattle.std.proofs.Common.{◌≡◌, ◌+◌, ◌<◌, length, ap, sym, ◌∙◌, arith}
use Rattle.std.proofs.lemmas.Bool.{eqb-true, eqb-false}
use Rattle.std.proofs.lemmas.List.{nil_from_length}
use Rattle.cla_text.specs.Words.{is_blank, words_of}
use Rattle.cla_text.proofs.WordLaws.{no_word, first_word, few_pieces}
use Rattle.cla_text.proofs.word.WordsIterator.next.Goals as goal

pub returns-then-is_empty-clause-steps : goal.returns-then-is_empty-clause-steps
returns-then-is_empty-clause-steps c =
    let none : length c.split_at.result.1.now ≡ 0 = eqb-true _ _ (sym c.is_empty.ensures ∙ c.if-is_empty.true) in (
      no_word is_blank _ c.split_at.result.1.now _ c.word_start.ensures.place c.split_at.ensures.back none,
      nil_from_length _ (omega (arith, few_pieces is_blank c.split_at.result.1.now)),
    )

pub returns-clause-steps : goal.returns-clause-steps
returns-clause-steps c =
    let apart : length c.split_at.result.1.now ≡ 0
    → ⊥ = eqb-false _ _ (sym c.is_empty.ensures ∙ c.if-is_empty.false) in
    let some : 0 < length c.split_at.result.1.now = omega (arith, apart) in
    first_word is_blank _ c.split_at.result.1.now _ _ _ _ c.word_start.ensures.place c.split_at.ensures.back some
    c.word_end.ensures.place c.split_at-2.ensures.front c.split_at-2.ensures.back

pub returns-clause-goes : goal.returns-clause-goes
returns-clause-goes c =
    let apart : length c.split_at.result.1.now ≡ 0
    → ⊥ = eqb-false _ _ (sym c.is_empty.ensures ∙ c.if-is_empty.false) in
    let some : 0 < length c.split_at.result.1.now = omega (arith, apart) in
    let first = first_word is_blank c.args.self.now.rest.now c.split_at.result.1.now _ c.split_at-2.result.1.now _ _
    c.word_start.ensures.place c.split_at.ensures.back some c.word_end.ensures.place c.split_at-2.ensures.front
    c.split_at-2.ensures.back in
    let fewer : length (words_of c.args.self.now.rest.now) ≡ 1 + length (words_of c.split_at-2.result.1.now)
    = ap length first ∙ omega arith in
    record { on = λ _. (tt, tt, omega (arith, fewer)); keeps = tt; rests = λ _. tt }
