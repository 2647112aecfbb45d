-- A front that has a byte.
use Rattle.std.proofs.Common.{◌≡◌, ℕ, ◌+◌, ◌≤◌, List, [], ◌∷◌, length, arith, Bool, true, false, cond}
use Rattle.std.specs.Prelude.{slice_index}
use Rattle.std.specs.List.{prefix_len}
use Rattle.std.specs.Char.{is_ascii_alphabetic}
use Rattle.std.proofs.lemmas.List.Sums.{prefix_len-le-length}
use Rattle.std.proofs.lemmas.Bool.Decides.{nat_tests}
use Rattle.cla_tokens.specs.Pieces.{is_word_byte}

first_one : (t : Bool) (n : ℕ) → t ≡ true → 1 ≤ cond t (1 + n) 0
first_one true n h = omega arith
first_one false n h = let no : ⊥ = cc in absurd no

pub first_passes : (q : ℕ → Bool) (bs : List ℕ) → 1 ≤ length bs → q (slice_index bs 0) ≡ true → (1 ≤ prefix_len q bs)
    × (prefix_len q bs ≤ length bs)
first_passes q [] h t = absurd (omega arith)
first_passes q (b ∷ bs) h t = (first_one (q b) (prefix_len q bs) t, prefix_len-le-length q (b ∷ bs))

pub letter_in_word : (b : ℕ) → is_ascii_alphabetic b ≡ true → is_word_byte b ≡ true
letter_in_word b h = grind (arith, nat_tests)
