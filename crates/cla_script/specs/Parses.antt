-- What the parser answers.
use Rattle.std.specs.Prelude.{◌≡◌, ℕ, ℤ, List, Result, Ok, Err}
use Rattle.cla_grammar.specs.Faults.{Fault, IsScript, IsFirstRefused}
use Rattle.cla_grammar.specs.Tree as tree
use Rattle.cla_tokens.specs.Items.{items_of_text}
use Rattle.cla_script.specs.Reads.{statements_of}
use Rattle.cla_script.specs.declared.expr.Script.{Script}
use Rattle.cla_script.specs.declared.fault.ScriptFault.{ScriptFault}
use Rattle.cla_script.specs.declared.fault.ScriptFault.TheVariants.{At, Memory}

-- the script of the text by the grammar, or its first refused token; memory may be wanting
abbrev pub Parses : {N : Type 0} → ℕ → (N → ℤ) → List ℕ → Result (Script N) ScriptFault → Type 0
Parses bits value text (Ok s) = IsScript bits (items_of_text text) (statements_of value s.statements.items)
Parses bits value text (Err Memory) = Unit {0}
Parses bits value text (Err (At p k)) = IsFirstRefused bits (items_of_text text) (record { place = p; kind = k })

-- the same as a function of the text computes it
abbrev pub Gives : {N : Type 0} → (N → ℤ) → Result (Script N) ScriptFault → Result (List tree.Statement) Fault
    → Type 0
Gives value (Ok s) t = t ≡ Ok (statements_of value s.statements.items)
Gives value (Err Memory) t = Unit {0}
Gives value (Err (At p k)) t = t ≡ Err (record { place = p; kind = k })
