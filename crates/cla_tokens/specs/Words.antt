-- The reserved words.
use Rattle.std.specs.Prelude.{codes, ℕ, List, [], ◌∷◌, Bool, true, false, ◌&&◌, ◌==◌, if◌then◌else◌}
use Rattle.cla_grammar.specs.Tokens.{Token, Name, Function, Binder, Read, Print, Save, Reserved}
use Rattle.cla_grammar.specs.declared.words.SaveWord.TheVariants as save_word
use Rattle.cla_grammar.specs.declared.words.Call.TheVariants as call
use Rattle.cla_grammar.specs.declared.words.Bind.TheVariants as bind

abbrev pub is_same : List ℕ → List ℕ → Bool
is_same [] [] = true
is_same [] (b ∷ bs) = false
is_same (a ∷ xs) [] = false
is_same (a ∷ xs) (b ∷ bs) = (a == b) && is_same xs bs

abbrev pub words : List (List ℕ × Token)
words =
    (codes "read", Read)
    ∷ (codes "print", Print)
    ∷ (codes "write", Save save_word.Write)
    ∷ (codes "pack", Save save_word.Pack)
    ∷ (codes "t", Function call.Transpose)
    ∷ (codes "sum", Function call.Sum)
    ∷ (codes "rowSums", Function call.RowSums)
    ∷ (codes "colSums", Function call.ColSums)
    ∷ (codes "min", Function call.Min)
    ∷ (codes "max", Function call.Max)
    ∷ (codes "rowMins", Function call.RowMins)
    ∷ (codes "rowMaxs", Function call.RowMaxs)
    ∷ (codes "colMins", Function call.ColMins)
    ∷ (codes "colMaxs", Function call.ColMaxs)
    ∷ (codes "nrow", Function call.Nrow)
    ∷ (codes "ncol", Function call.Ncol)
    ∷ (codes "cbind", Binder bind.Columns)
    ∷ (codes "rbind", Binder bind.Rows)
    ∷ (codes "for", Reserved)
    ∷ (codes "in", Reserved)
    ∷ (codes "if", Reserved)
    ∷ (codes "else", Reserved)
    ∷ (codes "while", Reserved)
    ∷ (codes "function", Reserved)
    ∷ (codes "table", Reserved)
    ∷ (codes "groupSums", Reserved)
    ∷ (codes "frame", Reserved)
    ∷ (codes "decode", Reserved)
    ∷ (codes "append", Reserved)
    ∷ []

abbrev pub found_word : List (List ℕ × Token) → List ℕ → Token
found_word [] word = Name word
found_word (e ∷ rest) word = if is_same e.0 word then e.1 else found_word rest word

-- the token of a word
unfoldable pub word_of : List ℕ → Token
word_of word = found_word words word
