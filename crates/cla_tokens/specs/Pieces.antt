-- What stands at the front of the rest of a line.
use Rattle.std.specs.Prelude.{codes, ℕ, ◌+◌, ◌==◌, ◌&&◌, ◌||◌, Bool, true, false, List, []}
use Rattle.std.specs.Prelude.{◌∷◌, length, take, nat_lt, nat_le, if◌then◌else◌, slice_index}
use Rattle.std.specs.List.{prefix_len}
use Rattle.std.specs.Char.{is_ascii_digit, is_ascii_alphabetic, is_ascii_alphanumeric}
use Rattle.cla_grammar.specs.Tokens.{Token, Number, Text, Sign, Assign, Power, Open, Close, OpenSquare, CloseSquare}
use Rattle.cla_grammar.specs.Tokens.{Comma, Colon}
use Rattle.cla_grammar.specs.declared.words.BinOp.TheVariants.{Cell, Product}
use Rattle.cla_num.specs.declared.cell_op.CellOp.TheVariants.{Add, Sub, Mul, Div, Mod, Lt, Le, Gt, Ge, Eq, Ne}
use Rattle.cla_tokens.specs.Values.{value}
use Rattle.cla_tokens.specs.Words.{word_of}

-- a token and its length, or what else
pub data Piece : Type 0 where
  LineEnd : Piece
  Blank : Piece
  Semicolon : Piece
  Found : Token → ℕ → Piece
  BadByte : Piece
  BadText : Piece

-- the bytes begin so
abbrev pub begins : List ℕ → List ℕ → Bool
begins [] bs = true
begins (c ∷ cs) [] = false
begins (c ∷ cs) (b ∷ bs) = (b == c) && begins cs bs

-- the signs, longer ones first
abbrev pub signs : List (List ℕ × Token)
signs =
    (codes "%*%", Sign Product)
    ∷ (codes "%/%", Sign (Cell Div))
    ∷ (codes "%%", Sign (Cell Mod))
    ∷ (codes "==", Sign (Cell Eq))
    ∷ (codes "!=", Sign (Cell Ne))
    ∷ (codes "<=", Sign (Cell Le))
    ∷ (codes ">=", Sign (Cell Ge))
    ∷ (codes "=", Assign)
    ∷ (codes "<", Sign (Cell Lt))
    ∷ (codes ">", Sign (Cell Gt))
    ∷ (codes "+", Sign (Cell Add))
    ∷ (codes "-", Sign (Cell Sub))
    ∷ (codes "*", Sign (Cell Mul))
    ∷ (codes "^", Power)
    ∷ (codes "(", Open)
    ∷ (codes ")", Close)
    ∷ (codes "[", OpenSquare)
    ∷ (codes "]", CloseSquare)
    ∷ (codes ",", Comma)
    ∷ (codes ":", Colon)
    ∷ []

abbrev pub first_sign : List (List ℕ × Token) → List ℕ → Piece
first_sign [] bs = BadByte
first_sign (s ∷ rest) bs = if begins s.0 bs then Found s.1 (length s.0) else first_sign rest bs

abbrev pub is_blank : ℕ → Bool
is_blank b = (b == 32) || (b == 9)

abbrev pub is_word_byte : ℕ → Bool
is_word_byte b = is_ascii_alphanumeric b || (b == 95)

-- a byte within a text
abbrev pub is_text_byte : ℕ → Bool
is_text_byte b = nat_le 32 b && (nat_le b 126 && (if b == 34 then false else true))

-- after the opening quote
unfoldable pub text_at : List ℕ → Piece
text_at bs =
    let n = prefix_len is_text_byte bs in
    if (nat_lt 0 n && nat_le n 255) && (slice_index bs n == 34) then Found (Text (take n bs)) (n + 2) else BadText

unfoldable pub sign_at : List ℕ → Piece
sign_at bs = first_sign signs bs

unfoldable pub piece_at : List ℕ → Piece
piece_at [] = LineEnd
piece_at (b ∷ bs) =
    if is_blank b then Blank
    else if b == 35 then LineEnd
    else if b == 59 then Semicolon
    else if is_ascii_digit b then Found (Number (value (take (prefix_len is_ascii_digit (b ∷ bs)) (b ∷ bs))))
    (prefix_len is_ascii_digit (b ∷ bs))
    else if is_ascii_alphabetic b then Found (word_of (take (prefix_len is_word_byte (b ∷ bs)) (b ∷ bs)))
    (prefix_len is_word_byte (b ∷ bs))
    else if b == 34 then text_at bs
    else sign_at (b ∷ bs)
