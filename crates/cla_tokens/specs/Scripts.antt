-- The script of a text, and its first refused token.
use Rattle.std.specs.Prelude.{ℕ, List, Result, Ok, Err}
use Rattle.cla_grammar.specs.Tree.{Statement}
use Rattle.cla_grammar.specs.Faults.{Fault}
use Rattle.cla_grammar.specs.Reader.{Reading, read_script}
use Rattle.cla_tokens.specs.Items.{items_of_text}

abbrev pub statements_read : Result Reading Fault → Result (List Statement) Fault
statements_read (Ok r) = Ok r.statements
statements_read (Err f) = Err f

-- the statements of a text, or the place and kind of its first refused token
abbrev pub script_in : ℕ → List ℕ → Result (List Statement) Fault
script_in bits text = statements_read (read_script bits (items_of_text text))
