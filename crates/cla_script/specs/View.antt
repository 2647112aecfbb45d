-- What is said of expressions, frames and tokens.
use Rattle.std.specs.Prelude.{ℤ, List, map, reverse}
use Rattle.cla_grammar.specs.Tree as tree
use Rattle.cla_grammar.specs.Tree.{Tree}
use Rattle.cla_grammar.specs.Machine as machine
use Rattle.cla_grammar.specs.declared.words.SaveWord.TheVariants as save_word
use Rattle.cla_script.specs.declared.expr.Span.{Span}
use Rattle.cla_script.specs.declared.expr.Span.TheVariants.{All, One, Pair}
use Rattle.cla_script.specs.declared.expr.Expr.{Expr}
use Rattle.cla_script.specs.declared.expr.Expr.TheVariants.{Number, Named, Neg', Square', Binary', Call', Bind'}
use Rattle.cla_script.specs.declared.expr.Expr.TheVariants.{Slice'}
use Rattle.cla_script.specs.declared.expr.Statement.{Statement}
use Rattle.cla_script.specs.declared.expr.Statement.TheVariants.{Read, Let, Print, Write, Pack}
use Rattle.cla_script.specs.declared.frame.Frame.{Frame}
use Rattle.cla_script.specs.declared.frame.Frame.TheVariants.{Left, Minus, Paren, Argument, First, Second, Letting}
use Rattle.cla_script.specs.declared.frame.Frame.TheVariants.{Printing, Saving}

abbrev pub span_of : Span → tree.Span
span_of All = tree.Every
span_of (One n) = tree.One n
span_of (Pair a b) = tree.Pair a b

abbrev pub tree_of : {N : Type 0} → (N → ℤ) → Expr N → Tree
tree_of value (Number n) = tree.Constant (value n)
tree_of value (Named p n) = tree.Named p n
tree_of value (Neg' p q a) = tree.Negative p (tree_of value a)
tree_of value (Square' p q a) = tree.Square p (tree_of value a)
tree_of value (Binary' p o q a r b) = tree.Binary p o (tree_of value a) (tree_of value b)
tree_of value (Call' p f q a) = tree.Apply p f (tree_of value a)
tree_of value (Bind' p f q a r b) = tree.Join p f (tree_of value a) (tree_of value b)
tree_of value (Slice' p q a rows cols) = tree.Slice p (tree_of value a) (span_of rows) (span_of cols)

abbrev pub statement_of : {N : Type 0} → (N → ℤ) → Statement N → tree.Statement
statement_of value (Read n f) = tree.ReadOf n f
statement_of value (Let n e) = tree.LetOf n (tree_of value e)
statement_of value (Print e) = tree.PrintOf (tree_of value e)
statement_of value (Write e p f q) = tree.SaveOf save_word.Write p (tree_of value e) q f
statement_of value (Pack e p f q) = tree.SaveOf save_word.Pack p (tree_of value e) q f

abbrev pub frame_of : {N : Type 0} → (N → ℤ) → Frame N → machine.Frame
frame_of value (Left p o a) = machine.Left p o (tree_of value a)
frame_of value (Minus p) = machine.Minus p
frame_of value Paren = machine.Paren
frame_of value (Argument p f) = machine.Argument p f
frame_of value (First p f) = machine.First p f
frame_of value (Second p f a) = machine.Second p f (tree_of value a)
frame_of value (Letting n) = machine.Letting n
frame_of value Printing = machine.Printing
frame_of value (Saving k p) = machine.Saving k p

-- the last frame first
abbrev pub stack_of : {N : Type 0} → (N → ℤ) → List (Frame N) → List machine.Frame
stack_of value fs = reverse (map (frame_of value) fs)
