-- The least place of a set of places, each with something that is so there.
use Rattle.std.proofs.Common.{◌≡◌, ◌⊎◌, ℕ, zero, suc, ◌<◌, ◌≤◌, List, [], ◌∷◌, length, get_or, Option, None, Some}
use Rattle.std.proofs.Common.{refl, ap, ◌∙◌, arith}
use Rattle.std.proofs.Common.{inl, inr}
use Rattle.std.proofs.lemmas.Bool.{cases_lt, le-leb, lt-leb}
use Rattle.cla_layout.specs.Firsts.{lesser, least_of, earlier_fault, earliest_fault}

-- the first is of the set, and no place is before it; or the set has none
abbrev pub IsLeast : {W : Type 0} → (ℕ → W → Type 0) → Option (ℕ × W) → Type 0
IsLeast {W} F None = (p : ℕ) (w : W) → F p w → ⊥
IsLeast {W} F (Some first) = F first.0 first.1 × ((p : ℕ) (w : W) → F p w → first.0 ≤ p)

-- of two sets
least_either : {W : Type 0} (F G H : ℕ → W → Type 0) (first other : Option (ℕ × W)) → ((p : ℕ) (w : W) → F p w → H p w)
    → ((p : ℕ) (w : W) → G p w → H p w)
    → ((p : ℕ) (w : W) → H p w → F p w ⊎ G p w) → IsLeast F first → IsLeast G other →
    IsLeast H (earlier_fault first other)
least_either F G H None None from_f from_g split none neither = λ p w at. elim (split p w at) [
  | inl f ↦ none p w f
  | inr g ↦ neither p w g
]
least_either F G H None (Some b) from_f from_g split none least = (
  from_g b.0 b.1 least.0,
  λ p w at. elim (split p w at) [
    | inl f ↦ absurd (none p w f)
    | inr g ↦ least.1 p w g
  ],
)
least_either F G H (Some a) None from_f from_g split least none = (
  from_f a.0 a.1 least.0,
  λ p w at. elim (split p w at) [
    | inl f ↦ least.1 p w f
    | inr g ↦ absurd (none p w g)
  ],
)
least_either F G H (Some a) (Some b) from_f from_g split least also = elim (cases_lt b.0 a.0) [
  | inl after ↦ rw (lt-leb a.0 b.0 after) (
    from_g b.0 b.1 also.0,
    λ p w at. elim (split p w at) [
      | inl f ↦ (let le = least.1 p w f in omega (arith, le, after))
      | inr g ↦ also.1 p w g
    ],
  )
  | inr before ↦ rw (le-leb a.0 b.0 before) (
    from_f a.0 a.1 least.0,
    λ p w at. elim (split p w at) [
      | inl f ↦ least.1 p w f
      | inr g ↦ (let le = also.1 p w g in omega (arith, le, before))
    ],
  )
]

-- of the same set, told in other words
pub least_same : {W : Type 0} (F G : ℕ → W → Type 0) (first : Option (ℕ × W)) → ((p : ℕ) (w : W) → F p w → G p w)
    → ((p : ℕ) (w : W) → G p w → (q : ℕ) × F q w × (q ≤ p)) → IsLeast F first → IsLeast G first
least_same F G None there back none = λ p w at. (let f = back p w at in none f.0 w f.1)
least_same F G (Some a) there back least = (
  there a.0 a.1 least.0,
  λ p w at.
      (let f = back p w at in let le = least.1 f.0 w f.1 in omega (arith, le, f.2)),
)

-- of many sets
abbrev pub OfAny : {X W : Type 0} → (X → ℕ → W → Type 0) → X → List X → ℕ → W → Type 0
OfAny F d xs p w = (q : ℕ) × (q < length xs) × F (get_or xs q d) p w

one_of : {X W : Type 0} (F : X → ℕ → W → Type 0) (d x : X) (xs : List X) (p : ℕ) (w : W) → OfAny F d (x ∷ xs) p w
    → F x p w ⊎ OfAny F d xs p w
one_of F d x xs p w (zero, there, at) = inl at
one_of F d x xs p w (suc q, there, at) = inr (q, omega (arith, there), at)

pub least_of_all : {X W : Type 0} (F : X → ℕ → W → Type 0) (d : X) (xs : List X) (firsts : List (Option (ℕ × W))) →
    length firsts
    ≡ length xs
    → ((q : ℕ) → q < length xs → IsLeast (F (get_or xs q d)) (get_or firsts q None)) →
    IsLeast (OfAny F d xs) (earliest_fault firsts)
least_of_all F d [] [] same each = λ p w at. absurd (omega (arith, at.1))
least_of_all F d [] (first ∷ firsts) same each = absurd (omega (arith, same))
least_of_all F d (x ∷ xs) [] same each = absurd (omega (arith, same))
least_of_all F d (x ∷ xs) (first ∷ firsts) same each =
    least_either (F x) (OfAny F d xs) (OfAny F d (x ∷ xs)) first (earliest_fault firsts)
    (λ p w at. (zero, omega arith, at)) (λ p w at. (suc at.0, omega (arith, at.1), at.2)) (one_of F d x xs)
    (each zero (omega arith))
    (least_of_all F d xs firsts (omega (arith, same)) (λ q lt. each (suc q) (omega (arith, lt))))

-- places with nothing to say
abbrev pub alone : Option ℕ → Option (ℕ × Unit {0})
alone None = None
alone (Some p) = Some (p, tt)

lesser_alone : (first other : Option ℕ) → earlier_fault (alone first) (alone other) ≡ alone (lesser first other)
lesser_alone None other = refl
lesser_alone (Some a) None = refl
lesser_alone (Some a) (Some b) = elim (cases_lt b a) [
  | inl after ↦ rw (lt-leb a b after) refl
  | inr before ↦ rw (le-leb a b before) refl
]

abbrev pub all_alone : List (Option ℕ) → List (Option (ℕ × Unit {0}))
all_alone [] = []
all_alone (first ∷ firsts) = alone first ∷ all_alone firsts

pub least_alone : (firsts : List (Option ℕ)) → earliest_fault (all_alone firsts) ≡ alone (least_of firsts)
least_alone [] = refl
least_alone (first ∷ firsts) = ap (earlier_fault (alone first)) (least_alone firsts)
    ∙ lesser_alone first (least_of firsts)

pub length-all_alone : (firsts : List (Option ℕ)) → length (all_alone firsts) ≡ length firsts
length-all_alone [] = refl
length-all_alone (first ∷ firsts) = omega (arith, length-all_alone firsts)

pub get_or-all_alone : (firsts : List (Option ℕ)) (q : ℕ) → get_or (all_alone firsts) q None
    ≡ alone (get_or firsts q None)
get_or-all_alone [] q = refl
get_or-all_alone (first ∷ firsts) zero = refl
get_or-all_alone (first ∷ firsts) (suc q) = get_or-all_alone firsts q
