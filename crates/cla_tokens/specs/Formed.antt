-- Statements that a script can hold: each is the tree of its canonical text.
use Rattle.std.specs.Prelude.{◌≡◌, ◌≢◌, ℕ, pos, negsuc, ◌<◌, ◌≤◌, ◌^◌, true, length, List, [], ◌∷◌}
use Rattle.std.specs.List.{AllPass}
use Rattle.std.specs.Char.{is_ascii_alphabetic}
use Rattle.cla_num.specs.declared.cell_op.CellOp.TheVariants.{Neg}
use Rattle.cla_grammar.specs.declared.words.BinOp.TheVariants.{Cell}
use Rattle.cla_grammar.specs.Tokens.{Name}
use Rattle.cla_grammar.specs.Tree.{Tree, Span, Every, One, Pair, Constant, Named, Negative, Square, Binary}
use Rattle.cla_grammar.specs.Tree.{Apply, Join, Slice, Statement, ReadOf, LetOf, PrintOf, SaveOf}
use Rattle.cla_grammar.specs.Canonical.{statement_tokens}
use Rattle.cla_tokens.specs.Words.{word_of}
use Rattle.cla_tokens.specs.Pieces.{is_word_byte, is_text_byte}

-- a word that isn't reserved
abbrev pub IsName : List ℕ → Type 0
IsName [] = ⊥
IsName (c ∷ w) = (is_ascii_alphabetic c ≡ true) × (AllPass is_word_byte w × (word_of (c ∷ w) ≡ Name (c ∷ w)))

-- what may stand between quotes
pub record IsText (f : List ℕ) : Type 0 where
  pub some : 1 ≤ length f
  pub short : length f ≤ 255
  pub printable : AllPass is_text_byte f

abbrev pub IsFormedSpan : Span → Type 0
IsFormedSpan Every = Unit {0}
IsFormedSpan (One n) = n < 2 ^ 31
IsFormedSpan (Pair n m) = (n < 2 ^ 31) × (m < 2 ^ 31)

-- numbers aren't negative, names are names, spans are below 2^31, and no sign stands for `Neg`
abbrev pub IsFormedTree : Tree → Type 0
IsFormedTree (Constant (pos n)) = Unit {0}
IsFormedTree (Constant (negsuc n)) = ⊥
IsFormedTree (Named p n) = IsName n
IsFormedTree (Negative p a) = IsFormedTree a
IsFormedTree (Square p a) = IsFormedTree a
IsFormedTree (Binary p o a b) = (o ≢ Cell Neg) × (IsFormedTree a × IsFormedTree b)
IsFormedTree (Apply p f a) = IsFormedTree a
IsFormedTree (Join p f a b) = IsFormedTree a × IsFormedTree b
IsFormedTree (Slice p a rows cols) = IsFormedTree a × (IsFormedSpan rows × IsFormedSpan cols)

abbrev pub HasFormedParts : Statement → Type 0
HasFormedParts (ReadOf n f) = IsName n × IsText f
HasFormedParts (LetOf n e) = IsName n × IsFormedTree e
HasFormedParts (PrintOf e) = IsFormedTree e
HasFormedParts (SaveOf w p e q f) = IsFormedTree e × IsText f

-- the parts are formed, and the canonical text has at most 256 tokens
pub record IsFormed (x : Statement) : Type 0 where
  pub parts : HasFormedParts x
  pub short : length (statement_tokens x) ≤ 256

abbrev pub AllFormed : List Statement → Type 0
AllFormed [] = Unit {0}
AllFormed (x ∷ xs) = IsFormed x × AllFormed xs
