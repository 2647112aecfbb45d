-- How the words of a line follow one another.
use Rattle.std.proofs.Common.{◌≡◌, ℕ, suc, ◌+◌, ◌<◌, ◌≤◌, List, [], ◌∷◌, length, take, drop, map, get_or, Bool, true}
use Rattle.std.proofs.Common.{false, refl, sym, ap, ◌∙◌, arith, inl, inr, filter}
use Rattle.std.proofs.lemmas.Bool.{cases_Bool, lt-ltb, false_from_ne_true}
use Rattle.std.proofs.lemmas.List.{nil_from_length, ext_get_or, get_or-map, length-map}
use Rattle.std.specs.List.{slice_split, onto_first, prefix_len, position_or_len}
use Rattle.std.specs.Char.{to_ascii_lowercase}
use Rattle.std.specs.Cmp.Lexicographic.{bytes_decides}
use Rattle.cla_text.specs.Words.{is_word, pieces_of, is_same_word}

one_more : (k : ℕ) → 1 + k ≡ suc k
one_more k = omega arith

-- the blanks before the first word don't matter
skip : (p : ℕ → Bool) (s : List ℕ) → pieces_of p (drop (prefix_len p s) s) ≡ pieces_of p s
unfolding pieces_of
skip p [] = refl
skip p (b ∷ bs) = elim (cases_Bool (p b)) [
  | inl blank ↦ rw (blank, one_more) (skip p bs)
  | inr other ↦ rw other (rw other refl)
]

-- the pieces after the first
abbrev pub later : (ℕ → Bool) → List ℕ → List (List ℕ)
later p [] = []
later p (b ∷ bs) = slice_split p bs

abbrev IsAtBlank : (ℕ → Bool) → List ℕ → Type 0
IsAtBlank p [] = Unit {0}
IsAtBlank p (b ∷ bs) = p b ≡ true

pub split_head : (p : ℕ → Bool) (s : List ℕ)
    → slice_split p s ≡ take (position_or_len p s) s ∷ later p (drop (position_or_len p s) s)
split_head p [] = refl
split_head p (b ∷ bs) = elim (cases_Bool (p b)) [
  | inl blank ↦ rw blank refl
  | inr other ↦ rw (other, one_more, split_head p bs) refl
]

at_blank : (p : ℕ → Bool) (s : List ℕ) → IsAtBlank p (drop (position_or_len p s) s)
at_blank p [] = tt
at_blank p (b ∷ bs) = elim (cases_Bool (p b)) [
  | inl blank ↦ rw blank blank
  | inr other ↦ rw (other, one_more) (at_blank p bs)
]

later_words : (p : ℕ → Bool) (r : List ℕ) → IsAtBlank p r → filter is_word (later p r) ≡ pieces_of p r
unfolding pieces_of
later_words p [] h = refl
later_words p (b ∷ bs) h = rw h refl

-- what stands after the blanks begins with a word
begins : (p : ℕ → Bool) (s : List ℕ) → 0 < length (drop (prefix_len p s) s)
    → 0 < position_or_len p (drop (prefix_len p s) s)
begins p [] h = absurd (omega arith)
begins p (b ∷ bs) h = elim (cases_Bool (p b)) [
  | inl blank ↦ rw (blank, one_more) (begins p bs (rw (blank, one_more) at h))
  | inr other ↦ rw other (rw other (omega arith))
]

word_long : (p : ℕ → Bool) (s : List ℕ) → 0 < position_or_len p s → is_word (take (position_or_len p s) s) ≡ true
word_long p [] h = absurd (omega arith)
word_long p (b ∷ bs) h = elim (cases_Bool (p b)) [
  | inl blank ↦ absurd (omega (arith, rw blank at h))
  | inr other ↦ rw (other, one_more) (lt-ltb _ _ (omega arith))
]

first_piece : (p : ℕ → Bool) (s : List ℕ) → 0 < position_or_len p s
    → pieces_of p s ≡ take (position_or_len p s) s ∷ pieces_of p (drop (position_or_len p s) s)
unfolding pieces_of
first_piece p s h =
    let k = position_or_len p s in
    rw (split_head p s, word_long p s h)
    (ap (λ (ws : List (List ℕ)). take k s ∷ ws) (later_words p (drop k s) (at_blank p s)))

-- the first word, and what is left behind it
pub first_word : (p : ℕ → Bool) (s t w r : List ℕ) (n k : ℕ) → n ≡ prefix_len p s → t ≡ drop n s → 0 < length t
    → k ≡ position_or_len p t → w ≡ take k t → r ≡ drop k t → pieces_of p s ≡ w ∷ pieces_of p r
first_word p s t w r n k n-is t-is some k-is w-is r-is =
    let at : t ≡ drop (prefix_len p s) s = cc in
    let long : 0 < position_or_len p t = rw at (begins p s (rw at at some)) in
    sym (skip p s) ∙ rw (← at) (first_piece p t long ∙ cc)

pub no_word : (p : ℕ → Bool) (s t : List ℕ) (n : ℕ) → n ≡ prefix_len p s → t ≡ drop n s → length t ≡ 0
    → pieces_of p s ≡ []
unfolding pieces_of
no_word p s t n n-is t-is none =
    let at : drop (prefix_len p s) s ≡ [] = nil_from_length _ (rw (← n-is, ← t-is) none) in
    sym (skip p s) ∙ rw at refl

onto_few : (b : ℕ) (parts : List (List ℕ))
    → length (filter is_word (onto_first b parts)) ≤ suc (length (filter is_word parts))
onto_few b [] = omega arith
onto_few b (part ∷ parts) =
    let long : is_word (b ∷ part) ≡ true = lt-ltb _ _ (omega arith) in
    rw long (elim (cases_Bool (is_word part)) [
      | inl some ↦ rw some (omega arith)
      | inr none ↦ rw none (omega arith)
    ])

-- a line has no more words than bytes
pub few_pieces : (p : ℕ → Bool) (s : List ℕ) → length (pieces_of p s) ≤ length s
unfolding pieces_of
few_pieces p [] = omega arith
few_pieces p (b ∷ bs) = elim (cases_Bool (p b)) [
  | inl blank ↦ rw blank (omega (arith, few_pieces p bs))
  | inr other ↦ rw other (omega (arith, few_pieces p bs, onto_few b (slice_split p bs)))
]

pub same_letters : (word lower : List ℕ) → length word ≡ length lower
    → ((k : ℕ) → k < length word → to_ascii_lowercase (get_or word k 0) ≡ get_or lower k 0)
    → is_same_word word lower ≡ true
same_letters word lower len h =
    let long : length (map to_ascii_lowercase word) ≡ length word = length-map word to_ascii_lowercase in
    (bytes_decides (map to_ascii_lowercase word) lower).1
    (ext_get_or 0 (map to_ascii_lowercase word) lower (long ∙ len) (λ i lt.
    let below : i < length word = omega (arith, lt, long) in
    get_or-map to_ascii_lowercase word i 0 0 below ∙ h i below))

pub other_length : (word lower : List ℕ) → (length word ≡ length lower → ⊥) → is_same_word word lower ≡ false
other_length word lower apart = false_from_ne_true _ (λ e.
    apart (sym (length-map word to_ascii_lowercase)
    ∙ ap (λ (l : List ℕ). length l) ((bytes_decides (map to_ascii_lowercase word) lower).0 e)))

pub other_letter : (word lower : List ℕ) (k : ℕ) → k < length word
    → (to_ascii_lowercase (get_or word k 0) ≡ get_or lower k 0 → ⊥)
    → is_same_word word lower ≡ false
other_letter word lower k lt apart = false_from_ne_true _ (λ e.
    apart (sym (get_or-map to_ascii_lowercase word k 0 0 lt)
    ∙ ap (λ (l : List ℕ). get_or l k 0) ((bytes_decides (map to_ascii_lowercase word) lower).0 e)))
