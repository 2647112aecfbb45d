use Rattle.std.proofs.Common.{◌≡◌, true, sym, ◌∙◌}
use Rattle.std.specs.Int.{w128}
use Rattle.std.proofs.lemmas.Int.{to_z-of_z}
use Rattle.std.proofs.lemmas.Str.{IsUtf8-from_ascii}
use Rattle.cla_text.specs.Integers.{is_int_word}
use Rattle.cla_text.proofs.IntWords.{int_word_ascii, int_ok, int_wide, int_form}
use Rattle.cla_text.proofs.integer.read_any.Goals as goal

pub returns-then-not-is_int_word : goal.returns-then-not-is_int_word
returns-then-not-is_int_word c = sym (int_form c.args.word.now (sym c.is_int_word.ensures ∙ c.if-not-is_int_word.true))

pub returns-in-Ok-parse : goal.returns-in-Ok-parse
returns-in-Ok-parse c =
    let so : is_int_word c.args.word.now ≡ true = sym c.is_int_word.ensures ∙ c.if-not-is_int_word.false in
    let parsed = rw c.in-Ok.ensures.cases.0 at c.in-Ok-parse.ensures.value.0 in
    rw (to_z-of_z w128 c.in-Ok-parse.v (rw (← parsed.1) at parsed.0.1))
    (sym (int_ok c.args.word.now c.in-Ok-parse.v so parsed.0.1 parsed.1))

pub returns-in-Err-parse : goal.returns-in-Err-parse
returns-in-Err-parse c =
    let so : is_int_word c.args.word.now ≡ true = sym c.is_int_word.ensures ∙ c.if-not-is_int_word.false in
    let parsed = rw c.in-Ok.ensures.cases.0 at c.in-Err-parse.ensures.value.0 in
    sym (int_wide c.args.word.now so parsed)

pub returns-in-Err : goal.returns-in-Err
returns-in-Err c =
    let so : is_int_word c.args.word.now ≡ true = sym c.is_int_word.ensures ∙ c.if-not-is_int_word.false in
    absurd (c.in-Err.ensures.cases.0 (IsUtf8-from_ascii c.args.word.now (int_word_ascii c.args.word.now so)))
