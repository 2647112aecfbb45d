-- What the reader of items gives.
use Rattle.std.specs.Prelude.{◌≡◌, ℤ, List, map, Result, Ok, Err}
use Rattle.cla_grammar.specs.Reader.{Reading}
use Rattle.cla_grammar.specs.Tree as tree
use Rattle.cla_grammar.specs.Faults as faults
use Rattle.cla_script.specs.View.{statement_of}
use Rattle.cla_script.specs.Takes.{state_of}
use Rattle.cla_script.specs.declared.expr.Statement.{Statement}
use Rattle.cla_script.specs.declared.reader.Reader.{Reader}
use Rattle.cla_script.specs.declared.fault.ScriptFault.{ScriptFault}
use Rattle.cla_script.specs.declared.fault.ScriptFault.TheVariants.{At, Memory}

abbrev pub statements_of : {N : Type 0} → (N → ℤ) → List (Statement N) → List tree.Statement
statements_of value xs = map (statement_of value) xs

abbrev pub reading_of : {N : Type 0} → (N → ℤ) → Reader N → Reading
reading_of value r = record {
  count = r.count;
  state = state_of value r.builder;
  statements =
      statements_of value r.statements.items;
}

abbrev pub Reads : {N : Type 0} → (N → ℤ) → Result (Reader N) ScriptFault → Result Reading faults.Fault → Type 0
Reads value (Ok r) t = t ≡ Ok (reading_of value r)
Reads value (Err Memory) t = Unit {0}
Reads value (Err (At p k)) t = t ≡ Err (record { place = p; kind = k })
