-- The texts that the program writes.
use Rattle.std.specs.Prelude.{ℕ, pos, List, ◌++◌, codes}
use Rattle.cla_spec.specs.Numbers.{decimal_of}
use Rattle.cla_spec.specs.Effects.{Effect, Out, File}
use Rattle.cla_num.specs.declared.fault.What.{What}
use Rattle.cla_num.specs.declared.fault.What.TheVariants.{Range, Zero}
use Rattle.cla_num.specs.declared.fault.OpFault.{OpFault}
use Rattle.cla_grammar.specs.declared.place.Place.{Place}
use Rattle.cla_grammar.specs.declared.words.ScriptKind.{ScriptKind}
use Rattle.cla_grammar.specs.declared.words.ScriptKind.TheVariants as kind
use Rattle.cla_check.specs.declared.fault.ShapeKind.{ShapeKind}
use Rattle.cla_check.specs.declared.fault.ShapeKind.TheVariants as shape
use Rattle.cla_market.specs.declared.fault.MtxFault.{MtxFault}
use Rattle.cla_market.specs.declared.fault.MtxFault.TheVariants as mtx
use Rattle.cla_packed.specs.declared.fault.FieldName.{FieldName}
use Rattle.cla_packed.specs.declared.fault.FieldName.TheVariants as field
use Rattle.cla_packed.specs.declared.fault.PackFault.{PackFault}
use Rattle.cla_packed.specs.declared.fault.PackFault.TheVariants as pack
use Rattle.cla_tables.specs.declared.fault.FileFault.{FileFault}
use Rattle.cla_tables.specs.declared.fault.FileFault.TheVariants as file
use Rattle.cla_cli.specs.declared.status.BadKind.{BadKind}
use Rattle.cla_cli.specs.declared.status.BadKind.TheVariants.{Script, Shape, Unbuilt}
use Rattle.cla_cli.specs.Limits.{table_limit}

abbrev pub memory_line : List ℕ
memory_line = codes "out of memory\n"

abbrev pub usage_line : List ℕ
usage_line = codes "usage: cla COMMAND WORDS\n"

abbrev pub missing_line : List ℕ → List ℕ
missing_line name = codes "missing file " ++ name ++ codes "\n"

abbrev pub unreadable_line : List ℕ → List ℕ
unreadable_line name = codes "cannot read " ++ name ++ codes "\n"

-- the line of an effect that can't be written
abbrev pub unwritable_line : Effect → List ℕ
unwritable_line (Out text) = codes "cannot write output\n"
unwritable_line (File name bytes) = codes "cannot write " ++ name ++ codes "\n"

abbrev pub more_bytes_text : ℕ → List ℕ
more_bytes_text limit = codes "more than " ++ decimal_of (pos limit) ++ codes " bytes"

abbrev pub limit_line : List ℕ → ℕ → List ℕ
limit_line name limit = codes "limit " ++ name ++ codes ": " ++ more_bytes_text limit ++ codes "\n"

-- what is wrong with a line of a table
abbrev pub bad_line_text : ℕ → List ℕ → List ℕ
bad_line_text n kind = codes "line " ++ decimal_of (pos n) ++ codes ": " ++ kind

-- the shape of a table that passes the limit of cells
abbrev pub shape_text : ℕ → ℕ → List ℕ
shape_text rows cols = decimal_of (pos rows) ++ codes " by " ++ decimal_of (pos cols)

-- what is wrong with a text: its first bad line, or the limit that it passes. A text has no fault of the last two
-- kinds.
abbrev pub line_fault_text : MtxFault → List ℕ
line_fault_text (mtx.Banner n) = bad_line_text n (codes "Banner")
line_fault_text (mtx.Unsupported place) = codes "line 1: unsupported word " ++ decimal_of (pos place)
line_fault_text (mtx.Size n) = bad_line_text n (codes "Size")
line_fault_text (mtx.Entry n) = bad_line_text n (codes "Entry")
line_fault_text (mtx.Index n) = bad_line_text n (codes "Index")
line_fault_text (mtx.Diagonal n) = bad_line_text n (codes "Diagonal")
line_fault_text (mtx.Range n) = bad_line_text n (codes "Range")
line_fault_text (mtx.TooFew n) = bad_line_text n (codes "TooFew")
line_fault_text (mtx.TooMany n) = bad_line_text n (codes "TooMany")
line_fault_text (mtx.TooLarge rows cols) = shape_text rows cols
line_fault_text mtx.TooLong = more_bytes_text table_limit
line_fault_text mtx.Read = codes "Read"
line_fault_text mtx.Memory = codes "Memory"

-- the name of a field of a packed file
abbrev pub field_text : FieldName → List ℕ
field_text field.Magic = codes "magic"
field_text field.Rows = codes "rows"
field_text field.Columns = codes "columns"
field_text field.Groups = codes "groups"
field_text field.Kind = codes "kind"
field_text field.Width = codes "width"
field_text field.Column = codes "column"
field_text field.Tuples = codes "tuples"
field_text field.Rest = codes "rest"
field_text field.Value = codes "value"
field_text field.Code = codes "code"
field_text field.Count = codes "count"
field_text field.Offset = codes "offset"
field_text field.Runs = codes "runs"
field_text field.Gap = codes "gap"
field_text field.Length = codes "length"
field_text field.Cover = codes "cover"

-- what is wrong with a field of a group, or of the header, at an offset
abbrev pub bad_field_text : ℕ → FieldName → ℕ → List ℕ
bad_field_text group field at =
    codes "group " ++ decimal_of (pos group) ++ codes " " ++ field_text field ++ codes " at " ++ decimal_of (pos at)

-- what is wrong with a packed file: its first bad field, a byte behind it, or the limit that it passes. A packed file
-- has no fault of the last two kinds.
abbrev pub packed_fault_text : PackFault → List ℕ
packed_fault_text (pack.Field group field at) = bad_field_text group field at
packed_fault_text (pack.Trailing at) = codes "trailing byte at " ++ decimal_of (pos at)
packed_fault_text (pack.TooLarge rows cols) = shape_text rows cols
packed_fault_text pack.TooLong = more_bytes_text table_limit
packed_fault_text pack.Read = codes "Read"
packed_fault_text pack.Memory = codes "Memory"

abbrev pub table_fault_text : FileFault → List ℕ
table_fault_text (file.Mtx fault) = line_fault_text fault
table_fault_text (file.Pack fault) = packed_fault_text fault

-- a table passes a limit, or is bad
abbrev pub table_word : FileFault → List ℕ
table_word (file.Mtx (mtx.TooLarge rows cols)) = codes "limit "
table_word (file.Mtx mtx.TooLong) = codes "limit "
table_word (file.Pack (pack.TooLarge rows cols)) = codes "limit "
table_word (file.Pack pack.TooLong) = codes "limit "
table_word fault = codes "bad file "

abbrev pub table_line : List ℕ → FileFault → List ℕ
table_line name fault = table_word fault ++ name ++ codes ": " ++ table_fault_text fault ++ codes "\n"

-- the name of a kind
abbrev pub script_kind_text : ScriptKind → List ℕ
script_kind_text kind.Char = codes "Char"
script_kind_text kind.Text = codes "Text"
script_kind_text kind.Long = codes "Long"
script_kind_text kind.Literal = codes "Literal"
script_kind_text kind.Exponent = codes "Exponent"
script_kind_text kind.Syntax = codes "Syntax"
script_kind_text kind.Clash = codes "Clash"

abbrev pub shape_kind_text : ShapeKind → List ℕ
shape_kind_text shape.Unknown = codes "Unknown"
shape_kind_text shape.Operand = codes "Operand"
shape_kind_text shape.Shapes = codes "Shapes"
shape_kind_text shape.Bounds = codes "Bounds"
shape_kind_text shape.TooLarge = codes "TooLarge"

abbrev pub bad_kind_text : BadKind → List ℕ
bad_kind_text (Script kind) = script_kind_text kind
bad_kind_text (Shape kind) = shape_kind_text kind
bad_kind_text Unbuilt = codes "Unbuilt"

abbrev pub script_line : Place → BadKind → List ℕ
script_line place kind = codes "script " ++ decimal_of (pos place.line) ++ codes ":" ++ decimal_of (pos place.col)
    ++ codes ": " ++
    bad_kind_text kind ++ codes "\n"

-- what is wrong with an entry
abbrev pub reason_text : What → List ℕ
reason_text (Range v) = codes ") is " ++ decimal_of v
reason_text Zero = codes ") divides by zero"

-- the line that tells an operator's fault: its place, and its first faulty entry
abbrev pub operator_line : Place → OpFault → List ℕ
operator_line place fault =
    codes "operator " ++ decimal_of (pos place.line) ++ codes ":" ++ decimal_of (pos place.col) ++ codes ": entry ("
    ++ decimal_of
    (pos fault.row) ++ codes ", " ++ decimal_of (pos fault.col) ++ reason_text fault.what ++ codes "\n"

-- the line that tells that a table takes more bytes than its budget
abbrev pub budget_line : List ℕ → ℕ → ℕ → List ℕ
budget_line name needed budget =
    codes "budget " ++ name ++ codes ": needs " ++ decimal_of (pos needed) ++ codes ", has " ++ decimal_of (pos budget)
    ++ codes "\n"
