use Rattle.std.proofs.lemmas.Str.{IsUtf8-from_ascii}
use Rattle.cla_tokens.specs.Pieces.{is_text_byte}
use Rattle.cla_tokens.proofs.AsciiWords.{ascii_prefix, text_small}
use Rattle.cla_tokens.proofs.pieces.text_of.Goals as goal

pub returns-in-Err-clause-value : goal.returns-in-Err-clause-value
returns-in-Err-clause-value c =
    absurd (c.in-Err.ensures.cases.0
    (IsUtf8-from_ascii _ (rw c.text_len-n.ensures (ascii_prefix is_text_byte text_small c.args.bytes.now))))
