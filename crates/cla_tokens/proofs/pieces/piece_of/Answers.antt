use Rattle.std.proofs.Common.{arith, sym}
use Rattle.std.specs.Char.{is_ascii_digit}
use Rattle.std.proofs.lemmas.Str.{IsUtf8-from_ascii}
use Rattle.cla_tokens.specs.Pieces.{is_word_byte}
use Rattle.cla_tokens.proofs.AsciiWords.{ascii_prefix, word_small}
use Rattle.cla_tokens.proofs.FirstBytes.{first_passes}
use Rattle.cla_tokens.proofs.pieces.piece_of.Goals as goal

pub returns-then-is_ascii_digit-clause-within : goal.returns-then-is_ascii_digit-clause-within
returns-then-is_ascii_digit-clause-within c = rw c.digits_len-n.ensures
    (first_passes is_ascii_digit c.args.bytes.now (omega (arith, c.in-len1-up.len_at_least))
    (sym c.if-is_ascii_digit.ensures.value))

pub returns-in-Err-clause-value : goal.returns-in-Err-clause-value
returns-in-Err-clause-value c =
    absurd (c.in-Err.ensures.cases.0
    (IsUtf8-from_ascii _ (rw c.word_len-n.ensures (ascii_prefix is_word_byte word_small c.args.bytes.now))))
