-- The trees of expressions and statements.
use Rattle.std.specs.Prelude.{ℕ, ℤ, List}
use Rattle.cla_grammar.specs.declared.place.Place.{Place}
use Rattle.cla_grammar.specs.declared.words.BinOp.{BinOp}
use Rattle.cla_grammar.specs.declared.words.Call.{Call}
use Rattle.cla_grammar.specs.declared.words.Bind.{Bind}
use Rattle.cla_grammar.specs.declared.words.SaveWord.{SaveWord}

-- which rows or columns
pub data Span : Type 0 where
  Every : Span
  One : ℕ → Span
  Pair : ℕ → ℕ → Span

pub data Tree : Type 0 where
  Constant : ℤ → Tree
  Named : Place → List ℕ → Tree
  Negative : Place → Tree → Tree
  Square : Place → Tree → Tree
  Binary : Place → BinOp → Tree → Tree → Tree
  Apply : Place → Call → Tree → Tree
  Join : Place → Bind → Tree → Tree → Tree
  Slice : Place → Tree → Span → Span → Tree

pub data Statement : Type 0 where
  ReadOf : List ℕ → List ℕ → Statement
  LetOf : List ℕ → Tree → Statement
  PrintOf : Tree → Statement
  SaveOf : SaveWord → Place → Tree → Place → List ℕ → Statement
