-- Lists that stand one after the other.
use Rattle.std.proofs.Common.{◌≡◌, ℕ, zero, suc, ◌+◌, ◌*◌, ◌<◌, ◌≤◌, List, [], ◌∷◌, ◌++◌, length, take, drop}
use Rattle.std.proofs.Common.{refl, ap, sym, ◌∙◌, arith, inl, inr}
use Rattle.std.proofs.Math.Seq.{drop-append-add}
use Rattle.std.proofs.lemmas.Bool.{cases_eq}
use Rattle.std.proofs.lemmas.List.{length-append, length-drop, drop-append-le, take-append-le, get_or-take, get_or-drop}
use Rattle.cla_layout.specs.Groups.{code_of}
use Rattle.cla_rows.specs.Chains.{lists_to, begins_to}

pub lists_none : (f : ℕ → List ℕ) → lists_to f 0 ≡ []
unfolding lists_to
lists_none f = refl

pub lists_more : (f : ℕ → List ℕ) (n : ℕ) → lists_to f (n + 1) ≡ lists_to f n ++ f n
unfolding lists_to
lists_more f n = let next : n + 1 ≡ suc n = omega arith in ap (lists_to f) next

-- lists of one length
pub lists_size : (f : ℕ → List ℕ) (w n : ℕ) → ((i : ℕ) → length (f i) ≡ w) → length (lists_to f n) ≡ n * w
unfolding lists_to
lists_size f w zero each = omega arith
lists_size f w (suc n) each = omega (arith, length-append (lists_to f n) (f n), lists_size f w n each, each n)

-- each list lies within all of them
pub list_within_all : (f : ℕ → List ℕ) (i n : ℕ) → i < n → length (lists_to f i) + length (f i) ≤ length (lists_to f n)
unfolding lists_to
list_within_all f i zero there = absurd (omega (arith, there))
list_within_all f i (suc n) there = elim (cases_eq i n) [
  | inl same ↦
      let equal = ap (λ (m : ℕ). length (lists_to f m) + length (f m)) same in
      omega (arith, length-append (lists_to f n) (f n), equal)
  | inr other ↦ omega (arith, length-append (lists_to f n) (f n), list_within_all f i n (omega (arith, there, other)))
]

-- the items from place j on of list i, among all of them
pub list_part : (f : ℕ → List ℕ) (i n j m : ℕ) → i < n → j + m ≤ length (f i) →
    take m (drop (length (lists_to f i) + j) (lists_to f n)) ≡ take m (drop j (f i))
unfolding lists_to
list_part f i zero j m there within = absurd (omega (arith, there))
list_part f i (suc n) j m there within = elim (cases_eq i n) [
  | inl same ↦
      ap (λ (x : ℕ). take m (drop (length (lists_to f x) + j) (lists_to f n ++ f n))) same
      ∙ ap (take m) (drop-append-add (lists_to f n) (f n) j) ∙ ap (λ (x : ℕ). take m (drop j (f x))) (sym same)
  | inr other ↦
      let before : i < n = omega (arith, there, other) in
      let all = lists_to f n in
      let p = length (lists_to f i) + j in
      let fits : p + m ≤ length all = omega (arith, list_within_all f i n before, within) in
      ap (take m) (drop-append-le p all (f n) (omega (arith, fits)))
      ∙ take-append-le m (drop p all) (f n) (omega (arith, length-drop p all, fits))
      ∙ list_part f i n j m before within
]

-- one item
first_item : (xs : List ℕ) (p : ℕ) → code_of (take 1 (drop p xs)) 0 ≡ code_of xs p
first_item xs p =
    let here : p + 0 ≡ p = omega arith in
    get_or-take 1 (drop p xs) 0 0 (omega arith) ∙ get_or-drop p xs 0 0 ∙ ap (code_of xs) here

pub list_item : (f : ℕ → List ℕ) (i n j : ℕ) → i < n → j < length (f i) →
    code_of (lists_to f n) (length (lists_to f i) + j) ≡ code_of (f i) j
list_item f i n j there within =
    let all = lists_to f n in
    let p = length (lists_to f i) + j in
    let part = list_part f i n j 1 there (omega (arith, within)) in
    sym (first_item all p) ∙ ap (λ (xs : List ℕ). code_of xs 0) part ∙ first_item (f i) j

-- where list i begins
pub begins_count : (f : ℕ → List ℕ) (n : ℕ) → length (begins_to f n) ≡ n
begins_count f n = omega (arith, lists_size (λ i. length (lists_to f i) ∷ []) 1 n (λ i. refl))

pub begin_at : (f : ℕ → List ℕ) (i n : ℕ) → i < n → code_of (begins_to f n) i ≡ length (lists_to f i)
begin_at f i n there =
    let place : length (begins_to f i) + 0 ≡ i = omega (arith, begins_count f i) in
    ap (code_of (begins_to f n)) (sym place) ∙ list_item (λ i. length (lists_to f i) ∷ []) i n 0 there (omega arith)

pub begins_more : (f : ℕ → List ℕ) (n : ℕ) → begins_to f (n + 1) ≡ begins_to f n ++ length (lists_to f n) ∷ []
begins_more f n = lists_more (λ i. length (lists_to f i) ∷ []) n
