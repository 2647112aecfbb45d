-- What holds of the grammar and of the first refused item.
use Rattle.std.specs.Prelude.{◌≡◌, ℕ, List, Result, Ok, Err}
use Rattle.cla_grammar.specs.Tokens.{Placed}
use Rattle.cla_grammar.specs.Tree.{Tree, Statement}
use Rattle.cla_grammar.specs.Grammar.{Derives, Reads}
use Rattle.cla_grammar.specs.Faults.{Item, Fault, IsScript, IsFirstRefused}
use Rattle.cla_grammar.specs.Reader.{Reading, read_script}

-- tokens are one expression and one statement at most
pub record OneTree : Type 0 where
  pub expression : (ts : List Placed) (x y : Tree) → Derives 1 ts x → Derives 1 ts y → x ≡ y
  pub statement : (ts : List Placed) (x y : Statement) → Reads ts x → Reads ts y → x ≡ y

-- what the reader answers: the script, or the first refused item
abbrev pub Answers : ℕ → List Item → Result Reading Fault → Type 0
Answers bits items (Ok r) = IsScript bits items r.statements
Answers bits items (Err f) = IsFirstRefused bits items f

abbrev pub ScriptsAreRead : Type 0
ScriptsAreRead = (bits : ℕ) (items : List Item) → Answers bits items (read_script bits items)

-- items are one script, or have one first refused item, and never both
pub record OneAnswer : Type 0 where
  pub script : (bits : ℕ) (items : List Item) (xs ys : List Statement)
      → IsScript bits items xs → IsScript bits items ys → xs ≡ ys
  pub refused : (bits : ℕ) (items : List Item) (f g : Fault)
      → IsFirstRefused bits items f → IsFirstRefused bits items g → f ≡ g
  pub not_both : (bits : ℕ) (items : List Item) (xs : List Statement) (f : Fault)
      → IsScript bits items xs → IsFirstRefused bits items f → ⊥
