-- Words that are made of bytes of one kind, and lines of such words.
use Rattle.std.proofs.Common.{◌≡◌, ℕ, suc, zero, ◌+◌, ◌-◌, ◌<◌, ◌==◌, List, [], ◌∷◌, ◌++◌, length, get_or, true}
use Rattle.std.proofs.Common.{false, Bool, refl, arith, rules}
use Rattle.std.proofs.lemmas.Bool.{and_parts, lt-ltb}
use Rattle.std.specs.List.{list_all, slice_split, position_or_len}
use Rattle.cla_spec.specs.Lines.{without_cr}
use Rattle.cla_text.specs.Words.{pieces_of}

-- none of these bytes passes p
abbrev pub NonePasses : (ℕ → Bool) → List ℕ → Type 0
NonePasses p [] = Unit {0}
NonePasses p (b ∷ bs) = (p b ≡ false) × NonePasses p bs

pub none_on : (p : ℕ → Bool) (xs ys : List ℕ) → NonePasses p xs → NonePasses p ys → NonePasses p (xs ++ ys)
none_on p [] ys a b = b
none_on p (x ∷ xs) ys a b = (a.0, none_on p xs ys a.1 b)

pub none_of : (p q : ℕ → Bool) → ((b : ℕ) → q b ≡ true → p b ≡ false) → (xs : List ℕ) → list_all q xs ≡ true
    → NonePasses p xs
none_of p q apart [] h = tt
none_of p q apart (x ∷ xs) h = let parts = and_parts (q x) (list_all q xs) h in
    (apart x parts.0, none_of p q apart xs parts.1)

pub none_at : (p : ℕ → Bool) (xs : List ℕ) (k : ℕ) → NonePasses p xs → k < length xs → p (get_or xs k 0) ≡ false
none_at p [] k h lt = absurd (omega (arith, lt))
none_at p (x ∷ xs) zero h lt = h.0
none_at p (x ∷ xs) (suc k) h lt = none_at p xs k h.1 (omega (arith, lt))

one_more : (k : ℕ) → 1 + k ≡ suc k
one_more k = omega arith

-- what stands before a byte that passes p is the first piece
pub split_plain : (p : ℕ → Bool) (w more : List ℕ) (x : ℕ) → NonePasses p w → p x ≡ true
    → slice_split p (w ++ x ∷ more) ≡ w ∷ slice_split p more
split_plain p [] more x none stop = rw stop refl
split_plain p (b ∷ bs) more x none stop = rw (none.0, split_plain p bs more x none.1 stop) refl

pub split_last : (p : ℕ → Bool) (w : List ℕ) → NonePasses p w → slice_split p w ≡ w ∷ []
split_last p [] none = refl
split_last p (b ∷ bs) none = rw (none.0, split_last p bs none.1) refl

pub place_plain : (p : ℕ → Bool) (w more : List ℕ) (x : ℕ) → NonePasses p w → p x ≡ true
    → position_or_len p (w ++ x ∷ more) ≡ length w
place_plain p [] more x none stop = rw stop refl
place_plain p (b ∷ bs) more x none stop = rw (none.0, one_more, place_plain p bs more x none.1 stop) refl

pub first_word : (p : ℕ → Bool) (w more : List ℕ) (x : ℕ) → NonePasses p w → p x ≡ true → 0 < length w
    → pieces_of p (w ++ x ∷ more) ≡ w ∷ pieces_of p more
unfolding pieces_of
first_word p w more x none stop some = rw (split_plain p w more x none stop, lt-ltb 0 (length w) some) refl

pub last_word : (p : ℕ → Bool) (w : List ℕ) → NonePasses p w → 0 < length w → pieces_of p w ≡ w ∷ []
unfolding pieces_of
last_word p w none some = rw (split_last p w none, lt-ltb 0 (length w) some) refl

abbrev pub is_cr : ℕ → Bool
is_cr b = b == 13

pub keeps_all : (line : List ℕ) → NonePasses is_cr line → without_cr line ≡ line
keeps_all [] none = refl
keeps_all (b ∷ bs) none = let n = none_at is_cr (b ∷ bs) (length (b ∷ bs) - 1) none (omega arith) in rw n
    (search rules)
