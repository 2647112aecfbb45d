-- The rows of all codes but the rest, and their codes.
use Rattle.std.proofs.Common.{◌≡◌, true, false, Bool, ℕ, zero, suc, ◌+◌, ◌<◌, ◌≤◌, List, [], ◌∷◌, ◌++◌, length, map}
use Rattle.std.proofs.Common.{take, set, take-suc-set, cond, eqb, refl, subst, ap, sym, ◌∙◌, arith, inl, inr}
use Rattle.std.specs.Prelude.{not}
use Rattle.std.proofs.lemmas.Bool.{cases_eq, eq-eqb, ne_eqb, both_ways}
use Rattle.std.proofs.lemmas.List.{map-append, length-map, get_or-map, length_push}
use Rattle.cla_layout.specs.Groups.{code_of}
use Rattle.cla_layout.specs.Listed.{rows_where, rows_of}
use Rattle.cla_layout.proofs.Listings.{are_rows_where, row_place, rows_where_more, rows_where_yes, rows_where_no}
use Rattle.cla_layout.proofs.Listings.{rows_where_none, rows_where_few}
use Rattle.cla_offsets.specs.Segments.{listed, listed_rows, AreListedRows}

-- whether a row isn't of the rest
abbrev is_listed : List ℕ → ℕ → ℕ → Bool
is_listed codes rest i = not (eqb (code_of codes i) rest)

mapped_if : (f : ℕ → ℕ) (b : Bool) (m : ℕ) → map f (cond b (m ∷ []) []) ≡ cond b (f m ∷ []) []
mapped_if f true m = refl
mapped_if f false m = refl

not_both : (b : Bool) → not b ≡ true → b ≡ false
not_both true holds = absurd (both_ways true (sym holds) refl)
not_both false holds = refl

-- row by row: the rows of code k before row n are those that stand at the places of the key, among the keys before it
rows_to : (codes : List ℕ) (rest k : ℕ) (keys : List ℕ) → keys ≡ map (code_of codes) (listed_rows codes rest)
    → (k ≡ rest → ⊥) → (n : ℕ) → n ≤ length codes → rows_where (λ i. eqb (code_of codes i) k) n
    ≡ map (code_of (listed_rows codes rest))
    (rows_where (λ m. eqb (code_of keys m) k) (length (rows_where (is_listed codes rest) n)))
rows_to codes rest k keys are other zero within = refl
rows_to codes rest k keys are other (suc n) within =
    let has = λ (i : ℕ). eqb (code_of codes i) k in
    let has_key = λ (m : ℕ). eqb (code_of keys m) k in
    let all = listed_rows codes rest in
    let place = length (rows_where (is_listed codes rest) n) in
    let so_far = rows_to codes rest k keys are other n (omega (arith, within)) in
    let next : n + 1 ≡ suc n = omega arith in
    subst (λ (j : ℕ). rows_where has j
    ≡ map (code_of all) (rows_where has_key (length (rows_where (is_listed codes rest) j)))) next
    (elim (cases_eq (code_of codes n) rest) [
      | inl unlisted ↦
          let hasn't : has n ≡ false = ne_eqb (code_of codes n) k (λ is. other (sym is ∙ unlisted)) in
          let still = rows_where_no (is_listed codes rest) n (ap not (eq-eqb (code_of codes n) rest unlisted)) in
          rows_where_no has n hasn't ∙ so_far
          ∙ ap (λ (xs : List ℕ). map (code_of all) (rows_where has_key (length xs))) (sym still)
      | inr differs ↦
          let lists : is_listed codes rest n ≡ true = ap not (ne_eqb (code_of codes n) rest differs) in
          let there = row_place (is_listed codes rest) (length codes) n (omega (arith, within)) lists in
          let key : code_of keys place ≡ code_of codes n =
          ap (λ (xs : List ℕ). code_of xs place) are ∙ get_or-map (code_of codes) all place 0 0 there.0
          ∙ ap (code_of codes) there.1 in
          let longer : length (rows_where (is_listed codes rest) (n + 1)) ≡ place + 1 =
          ap (λ (xs : List ℕ). length xs) (rows_where_yes (is_listed codes rest) n lists)
          ∙ length_push (rows_where (is_listed codes rest) n) n in
          let more : map (code_of all) (rows_where has_key (place + 1))
          ≡ map (code_of all) (rows_where has_key place) ++ cond (has n) (n ∷ []) [] =
          ap (map (code_of all)) (rows_where_more has_key place)
          ∙ map-append (code_of all) (rows_where has_key place) (cond (has_key place) (place ∷ []) [])
          ∙ ap (λ (xs : List ℕ). map (code_of all) (rows_where has_key place) ++ xs)
          (mapped_if (code_of all) (has_key place) place)
          ∙ ap (λ (j : ℕ). map (code_of all) (rows_where has_key place) ++ cond (has_key place) (j ∷ []) []) there.1
          ∙ ap (λ (j : ℕ). map (code_of all) (rows_where has_key place) ++ cond (eqb j k) (n ∷ []) []) key in
          rows_where_more has n ∙ ap (λ (xs : List ℕ). xs ++ cond (has n) (n ∷ []) []) so_far ∙ sym more
          ∙ ap (λ (m : ℕ). map (code_of all) (rows_where has_key m)) (sym longer)
    ])

-- no key is the rest
no_rest : (codes : List ℕ) (rest : ℕ) (keys : List ℕ) → keys ≡ map (code_of codes) (listed_rows codes rest)
    → rows_of keys rest ≡ []
no_rest codes rest keys are =
    let all = listed_rows codes rest in
    let size : length keys ≡ length all = ap (λ (xs : List ℕ). length xs) are ∙ length-map all (code_of codes) in
    rows_where_none (λ m. eqb (code_of keys m) rest) (length keys) (λ m there.
    (let within : m < length all = omega (arith, there, size) in
    let key : code_of keys m ≡ code_of codes (code_of all m) =
    ap (λ (xs : List ℕ). code_of xs m) are ∙ get_or-map (code_of codes) all m 0 0 within in
    ap (λ (j : ℕ). eqb j rest) key
    ∙ not_both (eqb (code_of codes (code_of all m)) rest)
    ((are_rows_where (is_listed codes rest) (length codes)).passes m within)))

-- the rows that are listed of a code stand at the places of the key
pub listed_by_key : (codes : List ℕ) (rest k : ℕ) (rows keys : List ℕ) → AreListedRows codes rest rows keys
    → listed codes rest k ≡ map (code_of rows) (rows_of keys k)
listed_by_key codes rest k rows keys are =
    let all = listed_rows codes rest in
    let keys_are : keys ≡ map (code_of codes) all = are.keys_are ∙ ap (map (code_of codes)) are.rows_are in
    let size : length keys ≡ length all =
    ap (λ (xs : List ℕ). length xs) keys_are ∙ length-map all (code_of codes) in
    let by = λ (xs : List ℕ). map (code_of xs) (rows_of keys k) in
    elim (cases_eq k rest) [
      | inl same ↦
          ap (λ (b : Bool). cond b [] (rows_of codes k)) (eq-eqb k rest same)
          ∙ sym (ap (map (code_of rows)) (ap (rows_of keys) same ∙ no_rest codes rest keys keys_are))
      | inr other ↦
          ap (λ (b : Bool). cond b [] (rows_of codes k)) (ne_eqb k rest other)
          ∙ rows_to codes rest k keys keys_are other (length codes) (omega arith)
          ∙ ap (λ (n : ℕ). map (code_of all) (rows_where (λ m. eqb (code_of keys m) k) n)) (sym size)
          ∙ ap by (sym are.rows_are)
    ]

-- one more item is written and counted
pub take_more : (xs : List ℕ) (n x : ℕ) → n < length xs → take (n + 1) (set xs n x) ≡ take n xs ++ x ∷ []
take_more xs n x there =
    let next : n + 1 ≡ suc n = omega arith in
    ap (λ (m : ℕ). take m (set xs n x)) next ∙ take-suc-set xs n x there

-- the rows that are listed before row i
pub record AreListedTo (i : ℕ) (codes : List ℕ) (rest : ℕ) (rows keys : List ℕ) : Type 0 where
  pub rows_are : rows ≡ rows_where (is_listed codes rest) i
  pub keys_are : keys ≡ map (code_of codes) rows

pub listed_yes : (i : ℕ) (codes : List ℕ) (rest : ℕ) (rows keys : List ℕ) → AreListedTo i codes rest rows keys
    → (code_of codes i ≡ rest → ⊥) → AreListedTo (i + 1) codes rest (rows ++ i ∷ []) (keys ++ code_of codes i ∷ [])
listed_yes i codes rest rows keys are other = record {
  rows_are = ap (λ (xs : List ℕ). xs ++ i ∷ []) are.rows_are
      ∙ sym (rows_where_yes (is_listed codes rest) i (ap not (ne_eqb (code_of codes i) rest other)));
  keys_are = ap (λ (xs : List ℕ). xs ++ code_of codes i ∷ []) are.keys_are
      ∙ sym (map-append (code_of codes) rows (i ∷ []));
}

pub listed_no : (i : ℕ) (codes : List ℕ) (rest : ℕ) (rows keys : List ℕ) → AreListedTo i codes rest rows keys
    → code_of codes i ≡ rest → AreListedTo (i + 1) codes rest rows keys
listed_no i codes rest rows keys are is = record {
  rows_are = are.rows_are ∙ sym (rows_where_no (is_listed codes rest) i (ap not (eq-eqb (code_of codes i) rest is)));
  keys_are = are.keys_are;
}

pub listed_all : (i : ℕ) (codes : List ℕ) (rest : ℕ) (rows keys : List ℕ) → AreListedTo i codes rest rows keys
    → i ≡ length codes → AreListedRows codes rest rows keys
listed_all i codes rest rows keys are is = record {
  rows_are = are.rows_are ∙ ap (rows_where (is_listed codes rest)) is;
  keys_are = are.keys_are;
}

-- listed rows are rows, and each of their keys is the code of one
module _ (codes : List ℕ) (rest : ℕ) (rows keys : List ℕ) (are : AreListedRows codes rest rows keys) where
  pub keys_size : length keys ≡ length rows
  keys_size = ap (λ (xs : List ℕ). length xs) are.keys_are ∙ length-map rows (code_of codes)

  pub row_within : (n : ℕ) → n < length rows → code_of rows n < length codes
  row_within n there =
      let size : length rows ≡ length (listed_rows codes rest) = ap (λ (xs : List ℕ). length xs) are.rows_are in
      let item : code_of rows n ≡ code_of (listed_rows codes rest) n =
      ap (λ (xs : List ℕ). code_of xs n) are.rows_are in
      omega (
        arith,
        item,
        (are_rows_where (is_listed codes rest) (length codes)).below n (omega (arith, there, size)),
      )

  pub key_is : (n : ℕ) → n < length keys → code_of keys n ≡ code_of codes (code_of rows n)
  key_is n there =
      ap (λ (xs : List ℕ). code_of xs n) are.keys_are
      ∙ get_or-map (code_of codes) rows n 0 0 (omega (arith, there, keys_size))

  pub keys_few : length keys ≤ length codes
  keys_few =
      let size : length rows ≡ length (listed_rows codes rest) = ap (λ (xs : List ℕ). length xs) are.rows_are in
      omega (arith, keys_size, size, rows_where_few (is_listed codes rest) (length codes))

  -- the places of a key are places of rows
  pub place_within : (k n : ℕ) → n < length (rows_of keys k) → code_of (rows_of keys k) n < length rows
  place_within k n there =
      omega (arith, keys_size, (are_rows_where (λ i. eqb (code_of keys i) k) (length keys)).below n there)
