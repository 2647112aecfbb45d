-- The forms of a table's file.
use Rattle.std.specs.Prelude.{ℕ, List}
use Rattle.cla_spec.specs.Matrix.{Matrix}
use Rattle.cla_market.specs.Texts.{matrix_market_text}
use Rattle.cla_pack.specs.Packing.{packed_file_of}
use Rattle.cla_cli.specs.declared.writing.Form.{Form}
use Rattle.cla_cli.specs.declared.writing.Form.TheVariants.{Market, Packed}

-- the file of a matrix in this form
abbrev pub file_of : Form → Matrix → List ℕ
file_of Market m = matrix_market_text m
file_of Packed m = packed_file_of m
