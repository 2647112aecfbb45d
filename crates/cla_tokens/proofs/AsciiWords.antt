-- Words and texts are ASCII.
use Rattle.std.proofs.Common.{◌≡◌, ℕ, suc, ◌+◌, ◌<◌, List, [], ◌∷◌, take, Bool, true, inl, inr, arith}
use Rattle.std.specs.Str.{IsAscii}
use Rattle.std.specs.List.{prefix_len}
use Rattle.std.proofs.lemmas.Bool.{cases_Bool}
use Rattle.std.proofs.lemmas.Bool.Decides.{nat_tests}
use Rattle.std.proofs.lemmas.Str.Ascii.{IsAscii-nil, IsAscii-cons}
use Rattle.cla_tokens.specs.Pieces.{is_word_byte, is_text_byte}

one_more : (k : ℕ) → 1 + k ≡ suc k
one_more k = omega arith

pub word_small : (b : ℕ) → is_word_byte b ≡ true → b < 128
word_small b h = grind (arith, nat_tests)

pub text_small : (b : ℕ) → is_text_byte b ≡ true → b < 128
text_small b h = grind (arith, nat_tests)

pub ascii_prefix : (p : ℕ → Bool) → ((b : ℕ) → p b ≡ true → b < 128) → (bs : List ℕ)
    → IsAscii (take (prefix_len p bs) bs)
ascii_prefix p small [] = IsAscii-nil
ascii_prefix p small (b ∷ bs) = elim (cases_Bool (p b)) [
  | inl is ↦ rw (is, one_more) (IsAscii-cons b _ (small b is) (ascii_prefix p small bs))
  | inr other ↦ rw other IsAscii-nil
]
