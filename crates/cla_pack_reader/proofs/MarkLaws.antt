-- Marks of columns that are taken.
use Rattle.std.proofs.Common.{◌≡◌, ℕ, suc, ◌<◌, ◌≤◌, Bool, true, false, List, [], ◌∷◌, ◌++◌, length, set, refl, sym}
use Rattle.std.proofs.Common.{◌∙◌, arith, inl, inr}
use Rattle.std.specs.Prelude.{◌||◌}
use Rattle.std.proofs.lemmas.Bool.{cases_eq, eq-eqb, ne_eqb}
use Rattle.std.proofs.lemmas.Grind.{get_or-set_at}
use Rattle.std.proofs.lemmas.List.{get_or-set_other}
use Rattle.cla_layout.specs.Groups.{code_of}
use Rattle.cla_packed.specs.Codes.{has}
use Rattle.cla_pack_reader.specs.Marks.{AreMarks}
use Rattle.cla_pack_reader.proofs.OwnerLaws.{has_push, or_false}

or_true : (b : Bool) → (b || true) ≡ true
or_true true = refl
or_true false = refl

-- one column more has a mark
pub mark_more : (cols : ℕ) (taken : List ℕ) (marks : List Bool) (k : ℕ) → length marks ≡ cols → k < cols
    → AreMarks cols taken marks → AreMarks cols (taken ++ k ∷ []) (set marks k true)
mark_more cols taken marks k size lt are c there = elim (cases_eq k c) [
  | inl same ↦ get_or-set_at marks k c true false (sym same) (omega (arith, lt, size))
      ∙ sym (has_push taken k c ∙ rw (eq-eqb k c same) (or_true (has taken c)))
  | inr other ↦ get_or-set_other marks k c true false (λ e. other (sym e)) ∙ are c there
      ∙ sym (has_push taken k c ∙ rw (ne_eqb k c other) (or_false (has taken c)))
]

-- of numbers below a bound none is above it
pub has_none : (ks : List ℕ) (n c : ℕ) → ((i : ℕ) → i < length ks → code_of ks i < n) → n ≤ c → has ks c ≡ false
has_none [] n c h le = refl
has_none (k ∷ ks) n c h le =
    let first : k < n = h 0 (omega arith) in
    rw (ne_eqb k c (λ e. omega (arith, e, first, le)))
    (has_none ks n c (λ i lt. h (suc i) (omega (arith, lt))) le)
