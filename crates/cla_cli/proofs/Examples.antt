-- Worked examples of what is printed, computed.
use Rattle.std.specs.Prelude.{◌≡◌, pos, negsuc, [], ◌∷◌, codes, Some, None, Ok, refl}
use Rattle.std.specs.Fmt.{digits}
use Rattle.cla_spec.specs.Matrix.{Matrix}
use Rattle.cla_grammar.specs.declared.words.Call.TheVariants as call
use Rattle.cla_grammar.specs.Tree.{Named, Apply}
use Rattle.cla_cli.specs.Outcome.{place_at}
use Rattle.cla_print.specs.Texts.{Scalar, Table, printed}
use Rattle.cla_market.specs.declared.fault.MtxFault.TheVariants as mtx
use Rattle.cla_packed.specs.declared.fault.FieldName.TheVariants as field
use Rattle.cla_packed.specs.declared.fault.PackFault.TheVariants as pack
use Rattle.cla_tables.specs.declared.fault.FileFault.TheVariants as file
use Rattle.cla_cli.specs.Texts.{table_line, budget_line}
use Rattle.cla_cli.specs.Statements.{value_of}

abbrev square : Matrix
square = record { rows = 2; cols = 2; cells = pos 1 ∷ negsuc 1 ∷ pos 3 ∷ pos 4 ∷ [] }

pub table_is : printed (Table square) ≡ codes "1 -2\n3 4\n"
unfolding digits
table_is = refl

pub sum_is : value_of 47 ((codes "X", square) ∷ []) (Apply (place_at 2 7) call.Sum (Named (place_at 2 11) (codes "X")))
    ≡ Some
    (Ok (Scalar (pos 6)))
sum_is = refl

pub transpose_does_not_run : value_of 47 ((codes "X", square) ∷ [])
    (Apply (place_at 2 7) call.Transpose (Named (place_at 2 9) (codes "X"))) ≡ None
transpose_does_not_run = refl

pub too_long_is : table_line (codes "x.mtx") (file.Mtx mtx.TooLong) ≡ codes "limit x.mtx: more than 4294967296 bytes\n"
unfolding digits
too_long_is = refl

pub bad_field_is : table_line (codes "x.mtx") (file.Pack (pack.Field 1 field.Code 43))
    ≡ codes "bad file x.mtx: group 1 code at 43\n"
unfolding digits
bad_field_is = refl

pub trailing_is : table_line (codes "x.mtx") (file.Pack (pack.Trailing 44))
    ≡ codes "bad file x.mtx: trailing byte at 44\n"
unfolding digits
trailing_is = refl

pub over_is : budget_line (codes "x.mtx") 34 33 ≡ codes "budget x.mtx: needs 34, has 33\n"
unfolding digits
over_is = refl
