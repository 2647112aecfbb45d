-- Codes number the tuples by first row.
use Rattle.std.proofs.Common.{◌≡◌, ℕ, suc, ◌+◌, ◌<◌, ◌≤◌, Bool, true, false, cond, not, ◌==◌, eq-eqb, List, [], ◌∷◌}
use Rattle.std.proofs.Common.{◌++◌, length, refl, sym, ap, ◌∙◌, subst, arith, length-append, inl, inr}
use Rattle.std.specs.List.{position_or_len, list_any, range_with_len}
use Rattle.std.proofs.lemmas.Bool.{cases_eq, ne_eqb}
use Rattle.cla_layout.specs.Groups.{AreNumbered, first_row_of}
use Rattle.cla_grouping.specs.Numbering.{with_item, codes_from, firsts_from, codes_by, first_rows_by}
use Rattle.cla_grouping.proofs.CodeLemmas.{position-within}
use Rattle.cla_grouping.proofs.Used.{position-none}

-- the place of k behind an item that isn't k
behind : (code k : ℕ) (codes : List ℕ) → (code ≡ k → ⊥) → first_row_of (code ∷ codes) k ≡ 1 + first_row_of codes k
behind code k codes other = ap (λ b. cond (not b) (1 + first_row_of codes k) 0) (ne_eqb code k other)

-- and in front
in_front : (code k : ℕ) (codes : List ℕ) → code ≡ k → first_row_of (code ∷ codes) k ≡ 0
in_front code k codes same = ap (λ b. cond (not b) (1 + first_row_of codes k) 0) (eq-eqb code k same)

numbered-from : {A : Type 0} (eq : A → A → Bool) (seen xs : List A) (k : ℕ) → length seen ≤ k
    → k + 1 < length (firsts_from eq seen xs)
    → first_row_of (codes_from eq seen xs) k < first_row_of (codes_from eq seen xs) (k + 1)
numbered-from eq seen [] k low there = absurd (omega (arith, low, there))
numbered-from {A} eq seen (x ∷ xs) k low there =
    by (λ more. numbered-from eq (with_item eq seen x) xs k more there) (list_any (eq x) seen) refl
  where
    code : ℕ
    code = position_or_len (eq x) seen

    rest : List ℕ
    rest = codes_from eq (with_item eq seen x) xs

    -- where the item's code is neither, the others decide
    others : first_row_of rest k < first_row_of rest (k + 1) → (code ≡ k → ⊥) → (code ≡ k + 1 → ⊥)
        → first_row_of (code ∷ rest) k < first_row_of (code ∷ rest) (k + 1)
    others later a b = omega (arith, behind code k rest a, behind code (k + 1) rest b, later)

    by : (length (with_item eq seen x) ≤ k → first_row_of rest k < first_row_of rest (k + 1)) → (b : Bool)
        → list_any (eq x) seen ≡ b
        → first_row_of (code ∷ rest) k < first_row_of (code ∷ rest) (k + 1)
    by go true e =
        let below = position-within (eq x) seen e in
        others (go (omega (arith, low, ap (λ b. length (cond b seen (seen ++ x ∷ []))) e)))
        (λ s. omega (arith, s, below, low)) (λ s. omega (arith, s, below, low))
    by go false e =
        let last : code ≡ length seen = position-none (eq x) seen e in
        let more = ap (λ b. length (cond b seen (seen ++ x ∷ []))) e in
        elim (cases_eq k (length seen)) [
          | inl same ↦ omega (
            arith,
            in_front code k rest (last ∙ sym same),
            behind code (k + 1) rest (λ s. omega (arith, s, last, same)),
          )
          | inr other ↦ others (go (omega (arith, low, other, more, length-append seen (x ∷ []))))
              (λ s. other (sym s ∙ last)) (λ s. omega (arith, s, last, low))
        ]

pub codes_by-numbered : (same : ℕ → ℕ → Bool) (n : ℕ) → AreNumbered (codes_by same n) (length (first_rows_by same n))
codes_by-numbered same n k there = numbered-from same [] (range_with_len 0 n) k (omega arith) there
