-- Sums that are kept by place.
use Rattle.std.proofs.Common.{inl, inr, zero, suc, ◌≡◌, ◌<◌, ℕ, ℤ, pos, ◌==◌, nat_eq, false, take, slice_get, cond}
use Rattle.std.proofs.Common.{List, [], ◌∷◌, Option, Some, None, refl, sym, ◌∙◌}
use Rattle.std.proofs.lemmas.Bool.{cases_eq, eq-eqb, ne_eqb}
use Rattle.std.specs.Map.{lookup, keys_of}
use Rattle.std.specs.List.{IsDistinct, AllByRecursion}
use Rattle.std.proofs.lemmas.Map.Keys.{IsDistinct-head, IsDistinct-tail}
use Rattle.indexmap.specs.IndexMap.{insert_entry}
use Rattle.cla_table.specs.Kept.{sum_among, Keeps, AreWithin}

-- the value of a number, and 0 where there is none
abbrev pub value_or_zero : {N : Type 0} → (N → ℤ) → Option N → ℤ
value_or_zero value None = pos 0
value_or_zero value (Some n) = value n

module _ {N : Type 0} (value : N → ℤ) where
  -- the sums after one is kept
  pub keeps : (es : List (ℕ × N)) (place : ℕ) (n : N)
      → Keeps value es (insert_entry nat_eq es place n) place (value n)
  keeps [] place n k = refl
  keeps (e ∷ es) place n k = elim (cases_eq place e.0) [
    | inl same ↦ elim (cases_eq k e.0) [
      | inl here ↦ rw (eq-eqb place e.0 same, eq-eqb k e.0 here, eq-eqb k place (here ∙ sym same)) refl
      | inr there ↦ rw (eq-eqb place e.0 same, ne_eqb k e.0 there, ne_eqb k place (λ h. there (h ∙ same))) refl
    ]
    | inr other ↦ elim (cases_eq k e.0) [
      | inl here ↦ rw (ne_eqb place e.0 other, eq-eqb k e.0 here, ne_eqb k place (λ h. other (sym h ∙ here))) refl
      | inr there ↦ rw (ne_eqb place e.0 other, ne_eqb k e.0 there) (keeps es place n k)
    ]
  ]

  pub found : (es : List (ℕ × N)) (k : ℕ) → value_or_zero value (lookup (nat_eq k) es) ≡ sum_among value es k
  found [] k = refl
  found (e ∷ es) k = elim (cases_eq k e.0) [
    | inl here ↦ rw (eq-eqb k e.0 here) refl
    | inr there ↦ rw (ne_eqb k e.0 there) (found es k)
  ]

  -- a place stays within
  pub stay_within : (m : ℕ) (es : List (ℕ × N)) (place : ℕ) (n : N) → place < m → AreWithin m es
      → AreWithin m (insert_entry nat_eq es place n)
  stay_within m [] place n lt all = (lt, tt)
  stay_within m (e ∷ es) place n lt all = elim (cases_eq place e.0) [
    | inl same ↦ rw (eq-eqb place e.0 same) all
    | inr other ↦ rw (ne_eqb place e.0 other) (all.0, stay_within m es place n lt all.1)
  ]

  pub within_at : (m : ℕ) (es : List (ℕ × N)) (i : ℕ) (e : ℕ × N) → AreWithin m es → slice_get es i ≡ Some e → e.0 < m
  within_at m [] i e all at = absurd cc
  within_at m (x ∷ xs) zero e all at = let same : x ≡ e = cc in rw (← same) all.0
  within_at m (x ∷ xs) (suc i) e all at = within_at m xs i e all.1 at

  -- the sum at a place, once these entries were written one after the other
  unfoldable pub written : List (ℕ × N) → ℤ → ℕ → ℤ
  written [] base k = base
  written (e ∷ es) base k = written es (cond (k == e.0) (value e.1) base) k

  pub written_none : (base : ℤ) (k : ℕ) → written [] base k ≡ base
  unfolding written
  written_none base k = refl

  pub written_more : (es : List (ℕ × N)) (i : ℕ) (e : ℕ × N) (base : ℤ) (k : ℕ) → slice_get es i ≡ Some e
      → written (take (suc i) es) base k ≡ cond (k == e.0) (value e.1) (written (take i es) base k)
  unfolding written
  written_more [] i e base k at = absurd cc
  written_more (x ∷ xs) zero e base k at = let same : x ≡ e = cc in rw same refl
  written_more (x ∷ xs) (suc i) e base k at = written_more xs i e (cond (k == x.0) (value x.1) base) k at

  written_nowhere : (es : List (ℕ × N)) (p : ℕ) (base : ℤ) → AllByRecursion (λ q. nat_eq p q ≡ false) (keys_of es)
      → written es base p ≡ base
  unfolding written
  written_nowhere [] p base none = refl
  written_nowhere (e ∷ es) p base none = rw (none.0) (written_nowhere es p base none.1)

  -- of entries that have each place once, the last is the first
  pub written_once : (es : List (ℕ × N)) (k : ℕ) → IsDistinct nat_eq (keys_of es)
      → written es (pos 0) k ≡ sum_among value es k
  unfolding written
  written_once [] k once = refl
  written_once (e ∷ es) k once = elim (cases_eq k e.0) [
    | inl here ↦ rw (eq-eqb k e.0 here, here)
        (written_nowhere es e.0 (value e.1) (IsDistinct-head nat_eq e.0 (keys_of es) once))
    | inr there ↦ rw (ne_eqb k e.0 there) (written_once es k (IsDistinct-tail nat_eq e.0 (keys_of es) once))
  ]
