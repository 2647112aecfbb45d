-- The items of a script.
use Rattle.std.specs.Prelude.{ℕ, zero, suc, ◌+◌, ◌-◌, ◌≤◌, List, [], ◌∷◌, ◌++◌, length}
use Rattle.cla_grammar.specs.declared.place.Place.{Place}
use Rattle.cla_grammar.specs.Grammar.{at}
use Rattle.cla_grammar.specs.Faults as faults
use Rattle.cla_grammar.specs.Faults.{Item, Tok, End}
use Rattle.cla_spec.specs.Lines.{lines_of}
use Rattle.cla_tokens.specs.Pieces as piece
use Rattle.cla_tokens.specs.Pieces.{Piece, LineEnd, Blank, Semicolon, Found, piece_at}
use Rattle.cla_tokens.specs.View.{kind_of}
use Rattle.cla_tokens.specs.declared.pieces.Piece as rust
use Rattle.cla_tokens.specs.declared.pieces.Piece.TheVariants as found

abbrev pub place_at : ℕ → ℕ → Place
place_at line col = record { line = line; col = col }

-- a piece adds these items
abbrev pub items_of : Piece → Place → List Item → List Item
items_of LineEnd p more = []
items_of Blank p more = more
items_of Semicolon p more = End p ∷ more
items_of (Found k n) p more = Tok (at p k) ∷ more
items_of piece.BadByte p more = faults.BadByte p ∷ []
items_of piece.BadText p more = faults.BadText p ∷ []

-- this many bytes after the first belong to the piece
abbrev pub after_first : Piece → ℕ
after_first (Found k n) = n - 1
after_first _ = 0

-- the items of a line from this column on, where its first bytes, so many, belong to the item before
abbrev pub items_from : ℕ → ℕ → ℕ → List ℕ → List Item
items_from line skip col [] = []
items_from line (suc skip) col (b ∷ bs) = items_from line skip (col + 1) bs
items_from line zero col (b ∷ bs) = items_of (piece_at (b ∷ bs)) (place_at line col)
    (items_from line (after_first (piece_at (b ∷ bs))) (col + 1) bs)

-- the items of a line, with its end
abbrev pub line_items : ℕ → List ℕ → List Item
line_items line bytes = items_from line 0 1 bytes ++ End (place_at line (length bytes + 1)) ∷ []

-- the items of lines that are numbered from this number on
abbrev pub items_of_lines : ℕ → List (List ℕ) → List Item
items_of_lines n [] = []
items_of_lines n (line ∷ lines) = line_items n line ++ items_of_lines (n + 1) lines

abbrev pub items_of_text : List ℕ → List Item
items_of_text text = items_of_lines 1 (lines_of text)

-- a token has a byte and lies within so many
abbrev pub IsWithin : Piece → ℕ → Type 0
IsWithin LineEnd n = Unit {0}
IsWithin Blank n = 1 ≤ n
IsWithin Semicolon n = 1 ≤ n
IsWithin (Found k len) n = (1 ≤ len) × (len ≤ n)
IsWithin piece.BadByte n = Unit {0}
IsWithin piece.BadText n = Unit {0}

abbrev pub piece_of : rust.Piece → Piece
piece_of found.LineEnd = LineEnd
piece_of found.Blank = Blank
piece_of found.Semicolon = Semicolon
piece_of (found.Found k n) = Found (kind_of k) n
piece_of found.BadByte = piece.BadByte
piece_of found.BadText = piece.BadText
