-- A word that is none of the table is a name.
use Rattle.std.proofs.Common.{◌≡◌, ℕ, List, [], ◌∷◌, true, refl, inl, inr}
use Rattle.std.specs.Prelude.{◌==◌}
use Rattle.std.proofs.lemmas.Bool.{cases_Bool, eqb-true, and_parts}
use Rattle.cla_grammar.specs.Tokens.{Token, Name}
use Rattle.cla_tokens.specs.Words.{is_same, found_word}

same_is : (a b : List ℕ) → is_same a b ≡ true → b ≡ a
same_is [] [] h = refl
same_is [] (y ∷ b) h = let no : ⊥ = cc in absurd no
same_is (x ∷ a) [] h = let no : ⊥ = cc in absurd no
same_is (x ∷ a) (y ∷ b) h =
    let p = and_parts (x == y) (is_same a b) h in
    let head : x ≡ y = eqb-true x y p.0 in
    let tail = same_is a b p.1 in
    cc

abbrev pub AllApart : List (List ℕ × Token) → List ℕ → Type 0
AllApart [] word = Unit {0}
AllApart (e ∷ rest) word = (word ≡ e.0 → ⊥) × AllApart rest word

pub none_found : (table : List (List ℕ × Token)) (word : List ℕ) → AllApart table word
    → found_word table word ≡ Name word
none_found [] word h = refl
none_found (e ∷ rest) word h = elim (cases_Bool (is_same e.0 word)) [
  | inl is ↦ absurd (h.0 (same_is e.0 word is))
  | inr other ↦ rw other (none_found rest word h.1)
]
