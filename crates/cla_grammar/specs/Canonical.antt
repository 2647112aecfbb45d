-- The canonical tokens and the canonical text of expressions and statements: one blank round each binary sign and `=`,
-- none after unary minus, and parentheses exactly where a level needs them.
use Rattle.std.specs.Prelude.{pos, negsuc, ℕ, ℤ, suc, nat_lt, Bool, if◌then◌else◌, List, [], ◌∷◌, ◌++◌, codes}
use Rattle.std.specs.Fmt.{signed_decimal}
use Rattle.cla_grammar.specs.Tokens.{Token, Number, Name, Text, Sign, Assign, Power, Open, Close, OpenSquare}
use Rattle.cla_grammar.specs.Tokens.{CloseSquare, Comma, Colon, Function, Binder, Read, Print, Save, level}
use Rattle.cla_grammar.specs.Tree.{Tree, Slice, Span, Every, One, Pair, Constant, Named, Negative, Square, Binary}
use Rattle.cla_grammar.specs.Tree.{Apply, Join, Statement, ReadOf, LetOf, PrintOf, SaveOf}
use Rattle.cla_grammar.specs.declared.words.BinOp.{BinOp}
use Rattle.cla_grammar.specs.declared.words.BinOp.TheVariants.{Cell, Product}
use Rattle.cla_num.specs.declared.cell_op.CellOp.TheVariants.{Add, Sub, Mul, Div, Mod, Lt, Le, Gt, Ge, Eq, Ne, Neg}
use Rattle.cla_grammar.specs.declared.words.Call.{Call}
use Rattle.cla_grammar.specs.declared.words.Call.TheVariants as call
use Rattle.cla_grammar.specs.declared.words.Bind.{Bind}
use Rattle.cla_grammar.specs.declared.words.Bind.TheVariants as bind
use Rattle.cla_grammar.specs.declared.words.SaveWord.{SaveWord}
use Rattle.cla_grammar.specs.declared.words.SaveWord.TheVariants as save_word

-- the level of the tree's last operator, as in the grammar
abbrev pub own_level : Tree → ℕ
own_level (Constant n) = 8
own_level (Named p n) = 8
own_level (Negative p a) = 5
own_level (Square p a) = 6
own_level (Binary p o a b) = level o
own_level (Apply p f a) = 8
own_level (Join p f a b) = 8
own_level (Slice p a rows cols) = 7

-- in parentheses where this holds
abbrev pub bracketed : Bool → List Token → List Token
bracketed b ts = if b then Open ∷ (ts ++ (Close ∷ [])) else ts

abbrev pub number_token : ℤ → Token
number_token (pos n) = Number n
number_token (negsuc n) = Number n

abbrev pub span_tokens : Span → List Token
span_tokens Every = []
span_tokens (One n) = Number n ∷ []
span_tokens (Pair n m) = Number n ∷ (Colon ∷ (Number m ∷ []))

-- the tokens of the canonical text of an expression
abbrev pub canonical_tokens : Tree → List Token
canonical_tokens (Constant n) = number_token n ∷ []
canonical_tokens (Named p n) = Name n ∷ []
canonical_tokens (Negative p a) = Sign (Cell Sub) ∷ bracketed (nat_lt (own_level a) 5) (canonical_tokens a)
canonical_tokens (Square p a) = bracketed (nat_lt (own_level a) 6) (canonical_tokens a) ++ (Power ∷ (Number 2 ∷ []))
canonical_tokens (Binary p o a b) = bracketed (nat_lt (own_level a) (level o)) (canonical_tokens a) ++
    (Sign o ∷ bracketed (nat_lt (own_level b) (suc (level o))) (canonical_tokens b))
canonical_tokens (Apply p f a) = Function f ∷ (Open ∷ (canonical_tokens a ++ (Close ∷ [])))
canonical_tokens (Join p f a b) =
    Binder f ∷ (Open ∷ (canonical_tokens a ++ (Comma ∷ (canonical_tokens b ++ (Close ∷ [])))))
canonical_tokens (Slice p a rows cols) = bracketed (nat_lt (own_level a) 7) (canonical_tokens a) ++
    (OpenSquare ∷ (span_tokens rows ++ (Comma ∷ (span_tokens cols ++ (CloseSquare ∷ [])))))

-- a sign with a blank on each side
abbrev pub sign_text : BinOp → List ℕ
sign_text (Cell Add) = codes " + "
sign_text (Cell Sub) = codes " - "
sign_text (Cell Mul) = codes " * "
sign_text (Cell Div) = codes " %/% "
sign_text (Cell Mod) = codes " %% "
sign_text (Cell Lt) = codes " < "
sign_text (Cell Le) = codes " <= "
sign_text (Cell Gt) = codes " > "
sign_text (Cell Ge) = codes " >= "
sign_text (Cell Eq) = codes " == "
sign_text (Cell Ne) = codes " != "
sign_text (Cell Neg) = []
sign_text Product = codes " %*% "

-- a function's word and its bracket
abbrev pub call_text : Call → List ℕ
call_text call.Transpose = codes "t("
call_text call.Sum = codes "sum("
call_text call.RowSums = codes "rowSums("
call_text call.ColSums = codes "colSums("
call_text call.Min = codes "min("
call_text call.Max = codes "max("
call_text call.RowMins = codes "rowMins("
call_text call.RowMaxs = codes "rowMaxs("
call_text call.ColMins = codes "colMins("
call_text call.ColMaxs = codes "colMaxs("
call_text call.Nrow = codes "nrow("
call_text call.Ncol = codes "ncol("

abbrev pub bind_text : Bind → List ℕ
bind_text bind.Columns = codes "cbind("
bind_text bind.Rows = codes "rbind("

abbrev pub span_text : Span → List ℕ
span_text Every = []
span_text (One n) = signed_decimal (pos n)
span_text (Pair n m) = signed_decimal (pos n) ++ (58 ∷ signed_decimal (pos m))

abbrev pub in_brackets : Bool → List ℕ → List ℕ
in_brackets b text = if b then 40 ∷ (text ++ (41 ∷ [])) else text

-- the canonical text of an expression
abbrev pub expression_text : Tree → List ℕ
expression_text (Constant n) = signed_decimal n
expression_text (Named p n) = n
expression_text (Negative p a) = 45 ∷ in_brackets (nat_lt (own_level a) 5) (expression_text a)
expression_text (Square p a) = in_brackets (nat_lt (own_level a) 6) (expression_text a) ++ codes " ^ 2"
expression_text (Binary p o a b) = in_brackets (nat_lt (own_level a) (level o)) (expression_text a) ++
    (sign_text o ++ in_brackets (nat_lt (own_level b) (suc (level o))) (expression_text b))
expression_text (Apply p f a) = call_text f ++ (expression_text a ++ codes ")")
expression_text (Join p f a b) = bind_text f ++
    (expression_text a ++ (codes ", " ++ (expression_text b ++ codes ")")))
expression_text (Slice p a rows cols) = in_brackets (nat_lt (own_level a) 7) (expression_text a) ++
    (codes "[" ++ (span_text rows ++ (codes ", " ++ (span_text cols ++ codes "]"))))

-- a file's name in quotes
abbrev pub quoted : List ℕ → List ℕ
quoted f = 34 ∷ (f ++ (34 ∷ []))

abbrev pub save_text : SaveWord → List ℕ
save_text save_word.Write = codes "write("
save_text save_word.Pack = codes "pack("

-- the tokens of the canonical text of a statement
abbrev pub statement_tokens : Statement → List Token
statement_tokens (ReadOf n f) = Name n ∷ (Assign ∷ (Read ∷ (Open ∷ (Text f ∷ (Close ∷ [])))))
statement_tokens (LetOf n e) = Name n ∷ (Assign ∷ canonical_tokens e)
statement_tokens (PrintOf e) = Print ∷ (Open ∷ (canonical_tokens e ++ (Close ∷ [])))
statement_tokens (SaveOf w p e q f) = Save w ∷ (Open ∷ (canonical_tokens e ++ (Comma ∷ (Text f ∷ (Close ∷ [])))))

-- the canonical text of a statement
abbrev pub canonical_text : Statement → List ℕ
canonical_text (ReadOf n f) = n ++ (codes " = read(" ++ (quoted f ++ codes ")"))
canonical_text (LetOf n e) = n ++ (codes " = " ++ expression_text e)
canonical_text (PrintOf e) = codes "print(" ++ (expression_text e ++ codes ")")
canonical_text (SaveOf w p e q f) = save_text w ++ (expression_text e ++ (codes ", " ++ (quoted f ++ codes ")")))
