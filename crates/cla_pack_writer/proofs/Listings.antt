-- The lists of all codes but the rest.
use Rattle.std.proofs.Common.{◌≡◌, ℕ, ◌+◌, ◌-◌, ◌<◌, ◌≤◌, eqb, List, [], ◌∷◌, ◌++◌, map, refl, sym, ap, ◌∙◌, arith}
use Rattle.std.proofs.Common.{inl, inr}
use Rattle.std.specs.List.{flat_map, range_with_len}
use Rattle.std.proofs.lemmas.Bool.{cases_lt, cases_eq, eq-eqb, ne_eqb, lt-ltb, le-ltb}
use Rattle.std.proofs.lemmas.List.Concat.{flat_map-append}
use Rattle.std.proofs.lemmas.List.Folds.{flat_map-map}
use Rattle.cla_packed.specs.Lists.{rows_from, lists_of}
use Rattle.cla_packed.specs.Rests.{without_rest}
use Rattle.cla_pack_writer.proofs.Ranges.{range_parts, pieces_moved}

-- rows of codes under other names
rows_renamed : (f : ℕ → ℕ) (a j k : ℕ) (codes : List ℕ) → ((c : ℕ) → eqb (f c) j ≡ eqb c k)
    → rows_from a (map f codes) j ≡ rows_from a codes k
rows_renamed f a j k [] same = refl
rows_renamed f a j k (c ∷ codes) same = rw (same c, rows_renamed f (a + 1) j k codes same) refl

-- codes below the rest keep their names, and those above it are one lower
below : (d r j c : ℕ) → j < r → r ≤ d → eqb (without_rest d r c) j ≡ eqb c j
below d r j c lt le = elim (cases_eq c r) [
  | inl e ↦ rw (eq-eqb c r e) (ne_eqb d j (λ x. omega (arith, x, lt, le))
      ∙ sym (ne_eqb c j (λ x. omega (arith, x, e, lt))))
  | inr ne ↦ rw (ne_eqb c r ne) (elim (cases_lt c r) [
    | inl before ↦ rw (lt-ltb c r before) refl
    | inr behind ↦ rw (le-ltb c r behind)
        (ne_eqb (c - 1) j (λ x. omega (arith, x, lt, behind, ne))
        ∙ sym (ne_eqb c j (λ x. omega (arith, x, lt, behind))))
  ])
]

one_lower : (c k : ℕ) → 0 < c → eqb (c - 1) k ≡ eqb c (k + 1)
one_lower c k some = elim (cases_eq c (k + 1)) [
  | inl e ↦ eq-eqb (c - 1) k (omega (arith, e)) ∙ sym (eq-eqb c (k + 1) e)
  | inr ne ↦ ne_eqb (c - 1) k (λ x. ne (omega (arith, x, some))) ∙ sym (ne_eqb c (k + 1) ne)
]

above : (d r j c : ℕ) → r ≤ j → j < d → eqb (without_rest d r c) j ≡ eqb c (j + 1)
above d r j c le lt = elim (cases_eq c r) [
  | inl e ↦ rw (eq-eqb c r e) (ne_eqb d j (λ x. omega (arith, x, lt))
      ∙ sym (ne_eqb c (j + 1) (λ x. omega (arith, x, e, le))))
  | inr ne ↦ rw (ne_eqb c r ne) (elim (cases_lt c r) [
    | inl before ↦ rw (lt-ltb c r before)
        (ne_eqb c j (λ x. omega (arith, x, before, le)) ∙ sym (ne_eqb c (j + 1) (λ x. omega (arith, x, before, le))))
    | inr behind ↦ rw (le-ltb c r behind) (one_lower c j (omega (arith, behind, ne)))
  ])
]

pub lists_without : (bytes : List ℕ → List ℕ) (d r : ℕ) (codes : List ℕ) → r ≤ d
    → flat_map bytes (lists_of d (map (without_rest d r) codes))
    ≡ flat_map (λ k. bytes (rows_from 0 codes k)) (range_with_len 0 r) ++ flat_map (λ k. bytes (rows_from 0 codes k))
    (range_with_len (r + 1) (d - r))
lists_without bytes d r codes le =
    let owners = map (without_rest d r) codes in
    let f = λ (k : ℕ). bytes (rows_from 0 owners k) in
    let g = λ (k : ℕ). bytes (rows_from 0 codes k) in
    let whole : d ≡ r + (d - r) = omega (arith, le) in
    let lower = pieces_moved f g 0 0 r (λ i lt. ap bytes (rows_renamed (without_rest d r) 0 (0 + i) (0 + i) codes
    (λ c. below d r (0 + i) c (omega (arith, lt)) le))) in
    let upper = pieces_moved f g (0 + r) (r + 1) (d - r) (λ i lt.
    let next : (0 + r) + i + 1 ≡ (r + 1) + i = omega arith in
    ap bytes (rows_renamed (without_rest d r) 0 ((0 + r) + i) ((0 + r) + i + 1) codes
    (λ c. above d r ((0 + r) + i) c (omega arith) (omega (arith, lt, le)))) ∙ ap g next) in
    flat_map-map bytes (rows_from 0 owners) (range_with_len 0 d)
    ∙ ap (λ (n : ℕ). flat_map f (range_with_len 0 n)) whole
    ∙ ap (flat_map f) (range_parts 0 r (d - r))
    ∙ flat_map-append f (range_with_len 0 r) (range_with_len (0 + r) (d - r))
    ∙ ap (λ (t : List ℕ). t ++ flat_map f (range_with_len (0 + r) (d - r))) lower
    ∙ ap (λ (t : List ℕ). flat_map g (range_with_len 0 r) ++ t) upper
