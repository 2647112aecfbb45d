-- The tokens of a text are formed, and so are its statements.
use Rattle.std.proofs.Common.{◌≡◌, ℕ, zero, suc, ◌+◌, ◌≤◌, List, [], ◌∷◌, ◌++◌, length, take, refl, sym, ap, inl, inr}
use Rattle.std.proofs.Common.{arith}
use Rattle.std.proofs.Common.{Bool, true, false, Result, Ok, Err, ◌⊎◌, subst}
use Rattle.std.specs.Prelude.{nat_le, nat_lt, ◌==◌, ◌&&◌, slice_index}
use Rattle.std.specs.List.{prefix_len, AllPass}
use Rattle.std.specs.Char.{is_ascii_digit, is_ascii_alphabetic}
use Rattle.std.proofs.lemmas.Bool.{cases_Bool, and_parts}
use Rattle.std.proofs.lemmas.Bool.Decides.{nat_tests}
use Rattle.std.proofs.lemmas.List.Folds.{length-prefix_len}
use Rattle.cla_grammar.specs.declared.place.Place.{Place}
use Rattle.cla_num.specs.declared.cell_op.CellOp.TheVariants.{Neg}
use Rattle.cla_grammar.specs.declared.words.BinOp.TheVariants.{Cell}
use Rattle.cla_grammar.specs.Tokens.{Token, Number, Name, Text, Sign}
use Rattle.cla_grammar.specs.Faults.{Item, Tok, BadByte, BadText, End}
use Rattle.cla_tokens.specs.Words.{words, found_word, word_of, is_same}
use Rattle.cla_tokens.specs.Pieces as piece
use Rattle.cla_tokens.specs.Pieces.{Piece, LineEnd, Blank, Semicolon, Found, begins, signs, first_sign, is_blank}
use Rattle.cla_tokens.specs.Pieces.{is_word_byte}
use Rattle.cla_tokens.specs.Pieces.{is_text_byte}
use Rattle.cla_tokens.specs.Pieces.{text_at, sign_at, piece_at}
use Rattle.cla_tokens.specs.Items.{items_of, after_first, items_from, line_items, items_of_lines, place_at}
use Rattle.cla_tokens.specs.Formed.{IsText}
use Rattle.cla_grammar.specs.Tree.{Statement}
use Rattle.cla_grammar.specs.Faults.{Fault}
use Rattle.cla_grammar.specs.Reader.{Reading, fresh, read_script}
use Rattle.cla_spec.specs.Lines.{lines_of}
use Rattle.cla_tokens.specs.Formed.{AllFormed}
use Rattle.cla_tokens.specs.Items.{items_of_text}
use Rattle.cla_tokens.specs.Scripts.{script_in, statements_read}
use Rattle.std.proofs.lemmas.List.Elements.{All-nil, All-cons}
use Rattle.cla_tokens.proofs.FormedMachine.{IsFormedToken, AreFormedItems, AreFormedResults, fresh_formed, items_formed}

-- the tokens of the tables
abbrev is_plain : Token → Bool
is_plain (Number n) = true
is_plain (Name n) = false
is_plain (Text f) = false
is_plain (Sign (Cell Neg)) = false
is_plain _ = true

plain_formed : (k : Token) → is_plain k ≡ true → IsFormedToken k
plain_formed (Name n) h = let no : ⊥ = cc in absurd no
plain_formed (Text f) h = let no : ⊥ = cc in absurd no
plain_formed (Sign o) h =
    λ e. (let a : is_plain (Sign o) ≡ false = ap (λ (x : _). is_plain (Sign x)) e in let no : ⊥ = cc in no)
plain_formed _ h = tt

abbrev all_plain : List (List ℕ × Token) → Bool
all_plain [] = true
all_plain (e ∷ rest) = is_plain e.1 && all_plain rest

abbrev Found_or : List ℕ → Token → Type 0
Found_or word k = (k ≡ Name word) ⊎ IsFormedToken k

found_formed : (table : List (List ℕ × Token)) (word : List ℕ) → all_plain table ≡ true
    → Found_or word (found_word table word)
found_formed [] word h = inl refl
found_formed (e ∷ rest) word h =
    let p = and_parts (is_plain e.1) (all_plain rest) h in
    elim (cases_Bool (is_same e.0 word)) [
      | inl is ↦ rw is (inr (plain_formed e.1 p.0))
      | inr other ↦ rw other (found_formed rest word p.1)
    ]

one_more : (k : ℕ) → 1 + k ≡ suc k
one_more k = omega arith

prefix_passes : (p : ℕ → Bool) (bs : List ℕ) → AllPass p (take (prefix_len p bs) bs)
prefix_passes p [] = All-nil (λ x. p x ≡ true)
prefix_passes p (b ∷ bs) = elim (cases_Bool (p b)) [
  | inl is ↦ rw (is, one_more) (All-cons (λ x. p x ≡ true) b (take (prefix_len p bs) bs) is (prefix_passes p bs))
  | inr other ↦ rw other (All-nil (λ x. p x ≡ true))
]

-- a word's token
word_formed : (b : ℕ) (w : List ℕ) → is_ascii_alphabetic b ≡ true → AllPass is_word_byte w
    → IsFormedToken (word_of (b ∷ w))
unfolding word_of
word_formed b w letter all = elim (found_formed words (b ∷ w) refl) [
  | inl e ↦ subst (λ (k : Token). IsFormedToken k) (sym e) (letter, (all, e))
  | inr f ↦ f
]

abbrev IsFormedPiece : Piece → Type 0
IsFormedPiece (Found k n) = IsFormedToken k
IsFormedPiece _ = Unit {0}

first_formed : (table : List (List ℕ × Token)) (bs : List ℕ) → all_plain table ≡ true
    → IsFormedPiece (first_sign table bs)
first_formed [] bs h = tt
first_formed (e ∷ rest) bs h =
    let p = and_parts (is_plain e.1) (all_plain rest) h in
    elim (cases_Bool (begins e.0 bs)) [
      | inl is ↦ rw is (plain_formed e.1 p.0)
      | inr other ↦ rw other (first_formed rest bs p.1)
    ]

sign_formed : (bs : List ℕ) → IsFormedPiece (sign_at bs)
unfolding sign_at
sign_formed bs = first_formed signs bs refl

text_is : (bs : List ℕ) (q : Bool)
    → ((nat_lt 0 (prefix_len is_text_byte bs) && nat_le (prefix_len is_text_byte bs) 255) && q) ≡ true
    → IsText (take (prefix_len is_text_byte bs) bs)
text_is bs q h =
    let sides = and_parts (nat_lt 0 (prefix_len is_text_byte bs)) (nat_le (prefix_len is_text_byte bs) 255)
    (and_parts (nat_lt 0 (prefix_len is_text_byte bs) && nat_le (prefix_len is_text_byte bs) 255) q h).0 in
    let low = sides.0 in
    let high = sides.1 in
    let len = length-prefix_len is_text_byte bs in
    record {
      some = (let a : 1 ≤ length (take (prefix_len is_text_byte bs) bs) = grind (arith, nat_tests) in a);
      short = (let a : length (take (prefix_len is_text_byte bs) bs) ≤ 255 = grind (arith, nat_tests) in a);
      printable = prefix_passes is_text_byte bs;
    }

text_formed : (bs : List ℕ) → IsFormedPiece (text_at bs)
unfolding text_at
text_formed bs =
    elim (cases_Bool ((nat_lt 0 (prefix_len is_text_byte bs) && nat_le (prefix_len is_text_byte bs) 255) &&
    (slice_index bs (prefix_len is_text_byte bs) == 34))) [
      | inl is ↦ rw is (text_is bs (slice_index bs (prefix_len is_text_byte bs) == 34) is)
      | inr other ↦ rw other tt
    ]

piece_formed : (bs : List ℕ) → IsFormedPiece (piece_at bs)
unfolding piece_at
piece_formed [] = tt
piece_formed (b ∷ bs) = elim (cases_Bool (is_blank b)) [
  | inl is ↦ rw is tt
  | inr other ↦ rw other (elim (cases_Bool (b == 35)) [
    | inl is ↦ rw is tt
    | inr other ↦ rw other (elim (cases_Bool (b == 59)) [
      | inl is ↦ rw is tt
      | inr other ↦ rw other (elim (cases_Bool (is_ascii_digit b)) [
        | inl is ↦ rw is tt
        | inr other ↦ rw other (elim (cases_Bool (is_ascii_alphabetic b)) [
          | inl is ↦ rw (is, one_more)
              (word_formed b (take (prefix_len is_word_byte bs) bs) is (prefix_passes is_word_byte bs))
          | inr other ↦ rw other (elim (cases_Bool (b == 34)) [
            | inl is ↦ rw is (text_formed bs)
            | inr other ↦ rw other (sign_formed (b ∷ bs))
          ])
        ])
      ])
    ])
  ])
]

added_formed : (p : Piece) (q : Place) (more : List Item) → IsFormedPiece p → AreFormedItems more
    → AreFormedItems (items_of p q more)
added_formed LineEnd q more h m = tt
added_formed Blank q more h m = m
added_formed Semicolon q more h m = m
added_formed (Found k n) q more h m = (h, m)
added_formed piece.BadByte q more h m = tt
added_formed piece.BadText q more h m = tt

from_formed : (line skip col : ℕ) (bs : List ℕ) → AreFormedItems (items_from line skip col bs)
from_formed line skip col [] = tt
from_formed line (suc skip) col (b ∷ bs) = from_formed line skip (col + 1) bs
from_formed line zero col (b ∷ bs) = added_formed (piece_at (b ∷ bs)) (place_at line col) _ (piece_formed (b ∷ bs))
    (from_formed line (after_first (piece_at (b ∷ bs))) (col + 1) bs)

both_formed : (a b : List Item) → AreFormedItems a → AreFormedItems b → AreFormedItems (a ++ b)
both_formed [] b f g = g
both_formed (Tok k ∷ a) b f g = (f.0, both_formed a b f.1 g)
both_formed (BadByte p ∷ a) b f g = both_formed a b f g
both_formed (BadText p ∷ a) b f g = both_formed a b f g
both_formed (End p ∷ a) b f g = both_formed a b f g

lines_formed : (n : ℕ) (lines : List (List ℕ)) → AreFormedItems (items_of_lines n lines)
lines_formed n [] = tt
lines_formed n (line ∷ lines) =
    both_formed (line_items n line) (items_of_lines (n + 1) lines)
    (both_formed (items_from n 0 1 line) (End (place_at n (length line + 1)) ∷ []) (from_formed n 0 1 line) tt)
    (lines_formed (n + 1) lines)

read_formed : (res : Result Reading Fault) (xs : List Statement) → AreFormedResults res → statements_read res ≡ Ok xs
    → AllFormed xs
read_formed (Ok r) xs h e = let same : r.statements ≡ xs =
    cc in subst (λ (l : List Statement). AllFormed l) same h.statements
read_formed (Err f) xs h e = let no : ⊥ = cc in absurd no

-- the statements of a text are formed
pub script_formed : (bits : ℕ) (text : List ℕ) (xs : List Statement) → script_in bits text ≡ Ok xs → AllFormed xs
script_formed bits text xs e =
    read_formed (read_script bits (items_of_text text)) xs
    (items_formed bits (items_of_text text) (fresh []) (fresh_formed [] tt) (lines_formed 1 (lines_of text))) e
