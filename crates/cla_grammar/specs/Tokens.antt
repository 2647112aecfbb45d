-- The tokens of a statement.
use Rattle.std.specs.Prelude.{ℕ, List}
use Rattle.cla_grammar.specs.declared.place.Place.{Place}
use Rattle.cla_num.specs.declared.cell_op.CellOp.{CellOp}
use Rattle.cla_num.specs.declared.cell_op.CellOp.TheVariants.{Add, Sub, Mul, Div, Mod, Lt, Le, Gt, Ge, Eq, Ne, Neg}
use Rattle.cla_grammar.specs.declared.words.BinOp.{BinOp}
use Rattle.cla_grammar.specs.declared.words.BinOp.TheVariants.{Cell, Product}
use Rattle.cla_grammar.specs.declared.words.Call.{Call}
use Rattle.cla_grammar.specs.declared.words.Bind.{Bind}
use Rattle.cla_grammar.specs.declared.words.SaveWord.{SaveWord}

pub data Token : Type 0 where
  Number : ℕ → Token
  Name : List ℕ → Token
  Text : List ℕ → Token
  Sign : BinOp → Token
  Assign : Token
  Power : Token
  Open : Token
  Close : Token
  OpenSquare : Token
  CloseSquare : Token
  Comma : Token
  Colon : Token
  Function : Call → Token
  Binder : Bind → Token
  Read : Token
  Print : Token
  Save : SaveWord → Token
  Reserved : Token

-- a token and where it stands
pub record Placed : Type 0 where
  pub place : Place
  pub token : Token

abbrev pub cell_level : CellOp → ℕ
cell_level Add = 2
cell_level Sub = 2
cell_level Mul = 3
cell_level Div = 4
cell_level Mod = 4
cell_level Lt = 1
cell_level Le = 1
cell_level Gt = 1
cell_level Ge = 1
cell_level Eq = 1
cell_level Ne = 1
cell_level Neg = 4

abbrev pub level : BinOp → ℕ
level (Cell o) = cell_level o
level Product = 4
