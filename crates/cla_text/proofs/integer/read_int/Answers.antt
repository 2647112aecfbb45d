use Rattle.std.proofs.Common.{◌≡◌, true, rules, sym}
use Rattle.std.specs.Int.{w128}
use Rattle.std.specs.Int.RustNames.{FitsSigned}
use Rattle.std.specs.Str.Parse.{signed_digits_value}
use Rattle.std.proofs.lemmas.Int.{to_z-of_z}
use Rattle.cla_text.specs.Integers.{is_int_word}
use Rattle.cla_text.proofs.IntWords.{word_is, int_ok}
use Rattle.cla_text.proofs.integer.read_int.Goals as goal

pub returns-in-Some : goal.returns-in-Some
returns-in-Some c =
    let so : is_int_word c.args.word.now ≡ true =
    word_is c.args.word.now (rw c.without_sign.ensures at c.in-Some.ensures.0) in
    let value : c.with_sign.result ≡ signed_digits_value 10 c.args.word.now = c.with_sign.ensures in
    let fits : FitsSigned w128 c.with_sign.result = search rules in
    rw (to_z-of_z w128 c.with_sign.result fits)
    (sym (int_ok c.args.word.now c.with_sign.result so (rw value at fits) value))
