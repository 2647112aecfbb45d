use Rattle.std.proofs.Common.{sym, arith, ◌∙◌}
use Rattle.cla_text.proofs.WordLaws.{same_letters, other_length, other_letter}
use Rattle.cla_text.proofs.word.same_word.Goals as goal

pub returns-then-to_ascii_lowercase-lower : goal.returns-then-to_ascii_lowercase-lower
returns-then-to_ascii_lowercase-lower c = sym
    (other_letter c.args.word.now c.args.lower.now c.loop-i.i c.loop-i-test.true
    (λ e. c.if-to_ascii_lowercase-lower.true (c.to_ascii_lowercase.ensures.value ∙ e)))

pub returns-then-word-lower : goal.returns-then-word-lower
returns-then-word-lower c = sym (other_length c.args.word.now c.args.lower.now c.if-word-lower.true)

pub returns : goal.returns
returns c = sym (same_letters c.args.word.now c.args.lower.now c.if-word-lower.false
    (λ k lt. c.loop-i.invariant k (omega (arith, lt, c.loop-i-test.false))))
