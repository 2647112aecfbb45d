-- No sign that begins the bytes is longer than the one that is found.
use Rattle.std.proofs.Common.{◌≡◌, ℕ, List, [], ◌∷◌, length, refl, subst, inl, inr, arith, Bool, true, false}
use Rattle.std.specs.Prelude.{nat_le, nat_lt, ◌&&◌, ◌||◌}
use Rattle.std.proofs.lemmas.Bool.{cases_Bool, and_parts}
use Rattle.std.proofs.lemmas.Bool.Decides.{nat_tests}
use Rattle.cla_grammar.specs.Tokens.{Token}
use Rattle.cla_tokens.specs.Pieces.{Found, begins, signs, first_sign, sign_at}
use Rattle.cla_tokens.specs.Laws.{begins_longer}

abbrev none_above : ℕ → List (List ℕ × Token) → Bool
none_above n [] = true
none_above n (s ∷ rest) = nat_le (length s.0) n && none_above n rest

abbrev falls : List (List ℕ × Token) → Bool
falls [] = true
falls (s ∷ rest) = none_above (length s.0) rest && falls rest

neither : (a b c : Bool) → b ≡ false → c ≡ false → ((a && b) || c) ≡ false
neither true b c f g = rw (f, g) refl
neither false b c f g = g

not_longer : (n m : ℕ) → nat_le m n ≡ true → nat_lt n m ≡ false
not_longer n m h = grind (arith, nat_tests)

same_len : (n : ℕ) → nat_lt n n ≡ false
same_len n = grind (arith, nat_tests)

none_longer : (n : ℕ) (bs : List ℕ) (table : List (List ℕ × Token)) → none_above n table ≡ true
    → begins_longer n bs table ≡ false
none_longer n bs [] h = refl
none_longer n bs (s ∷ rest) h =
    let p = and_parts (nat_le (length s.0) n) (none_above n rest) h in
    neither (begins s.0 bs) (nat_lt n (length s.0)) (begins_longer n bs rest) (not_longer n (length s.0) p.0)
    (none_longer n bs rest p.1)

first_longest : (table : List (List ℕ × Token)) (bs : List ℕ) (k : Token) (n : ℕ) → falls table ≡ true
    → first_sign table bs ≡ Found k n
    → begins_longer n bs table ≡ false
first_longest [] bs k n h e = let no : ⊥ = cc in absurd no
first_longest (s ∷ rest) bs k n h e =
    let p = and_parts (none_above (length s.0) rest) (falls rest) h in
    elim (cases_Bool (begins s.0 bs)) [
      | inl is ↦
          let found : Found s.1 (length s.0) ≡ Found k n = rw is at e in
          let len : length s.0 ≡ n = cc in
          subst (λ (m : ℕ). begins_longer m bs (s ∷ rest) ≡ false) len
          (neither (begins s.0 bs) (nat_lt (length s.0) (length s.0)) (begins_longer (length s.0) bs rest)
          (same_len (length s.0))
          (none_longer (length s.0) bs rest p.0))
      | inr other ↦ rw other (first_longest rest bs k n p.1 (rw other at e))
    ]

pub longest_sign : (bs : List ℕ) (k : Token) (n : ℕ) → sign_at bs ≡ Found k n → begins_longer n bs signs ≡ false
unfolding sign_at
longest_sign bs k n e = first_longest signs bs k n refl e
