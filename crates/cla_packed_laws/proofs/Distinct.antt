-- Tuples that each differ from all before are distinct.
use Rattle.std.proofs.Common.{◌≡◌, ℕ, ℤ, suc, ◌<◌, true, false, List, [], ◌∷◌, ◌++◌, length, get_or, refl, sym, ap}
use Rattle.std.proofs.Common.{◌∙◌, arith, inl, inr}
use Rattle.std.specs.Prelude.{not}
use Rattle.std.specs.Ordering.{int_eq}
use Rattle.std.specs.Cmp.Lexicographic.{pointwise}
use Rattle.std.specs.Cmp.Rules.{signed_items}
use Rattle.std.proofs.lemmas.Bool.{cases_lt, cases_Bool, false_from_ne_true, not-true, not_from_false, false≢true}
use Rattle.std.proofs.lemmas.List.{length-append, length_push, get_or_append_left, get_or_at}
use Rattle.std.proofs.lemmas.List.Folds.{list_any_at}
use Rattle.cla_packed.specs.Fields.{EachIs}
use Rattle.cla_layout.specs.Canonical.{AreDistinct}
use Rattle.cla_packed.specs.Values.{is_among}
use Rattle.cla_packed_laws.proofs.Tests.{each_to, each_from}

same_values : (a b : List ℤ) → pointwise int_eq a b ≡ true → a ≡ b
same_values a b h = (signed_items a b).0 h

equal_values : (a b : List ℤ) → a ≡ b → pointwise int_eq a b ≡ true
equal_values a b e = (signed_items a b).1 e

among_place : (ts : List (List ℤ)) (t : List ℤ) → is_among ts t ≡ true → (i : ℕ) × (i < length ts)
    × (get_or ts i [] ≡ t)
among_place [] t h = absurd (false≢true h)
among_place (u ∷ ts) t h = elim (cases_Bool (pointwise int_eq t u)) [
  | inl here ↦ (0, omega arith, sym (same_values t u here))
  | inr other ↦
      let more = among_place ts t (rw other at h) in
      (suc more.0, omega (arith, more.1), more.2)
]

pub differs : (ts : List (List ℤ)) (t : List ℤ) (i : ℕ) → is_among ts t ≡ false → i < length ts → get_or ts i [] ≡ t
    → ⊥
differs ts t i h lt e = false≢true (sym h
    ∙ list_any_at (pointwise int_eq t) ts i [] lt (equal_values t (get_or ts i []) (sym e)))

distinct_push : (ts : List (List ℤ)) (t : List ℤ) → is_among ts t ≡ false → AreDistinct ts
    → AreDistinct (ts ++ t ∷ [])
distinct_push ts t new h k l klt llt e =
    let longer = length_push ts t in
    elim (cases_lt k (length ts)) [
      | inl k_old ↦ elim (cases_lt l (length ts)) [
        | inl l_old ↦ h k l k_old l_old (sym (get_or_append_left ts (t ∷ []) [] k k_old) ∙ e
            ∙ get_or_append_left ts (t ∷ []) [] l l_old)
        | inr l_new ↦ absurd (differs ts t k new k_old (sym (get_or_append_left ts (t ∷ []) [] k k_old) ∙ e
            ∙ get_or_at ts t [] [] l (omega (arith, longer, llt, l_new))))
      ]
      | inr k_new ↦ elim (cases_lt l (length ts)) [
        | inl l_old ↦ absurd (differs ts t l new l_old (sym (get_or_append_left ts (t ∷ []) [] l l_old) ∙ sym e
            ∙ get_or_at ts t [] [] k (omega (arith, longer, klt, k_new))))
        | inr l_new ↦ omega (arith, longer, klt, llt, k_new, l_new)
      ]
    ]

pub distinct_from : (ts : List (List ℤ)) → EachIs (λ left before t. not (is_among before t) ≡ true) [] ts
    → AreDistinct ts
distinct_from ts h = each_to (λ left before t. not (is_among before t) ≡ true) AreDistinct (λ left before t g d.
    distinct_push before t (not-true (is_among before t) g) d) [] ts h (λ k l klt llt e. absurd (omega (arith, klt)))

pub distinct_each : (ts : List (List ℤ)) → AreDistinct ts → EachIs (λ left before t. not (is_among before t)
    ≡ true) [] ts
distinct_each ts d = each_from (λ left before t. not (is_among before t) ≡ true) (λ so_far. Unit {0}) ts
    (λ before t items e h. (
      not_from_false (is_among before t) (false_from_ne_true (is_among before t) (λ there.
          let a = among_place before t there in
          let size = ap (λ (us : List (List ℤ)). length us) e ∙ length-append before (t ∷ items) in
          let one : get_or ts a.0 [] ≡ get_or before a.0 [] = ap (λ (us : List (List ℤ)). get_or us a.0 []) e
          ∙ get_or_append_left before (t ∷ items) [] a.0 a.1 in
          let two : get_or ts (length before) [] ≡ t = ap (λ (us : List (List ℤ)). get_or us (length before) []) e
          ∙ get_or_at before t items [] (length before) refl in
          let same : a.0 ≡ length before = d a.0 (length before) (omega (arith, a.1, size)) (omega (arith, size)) (one
          ∙ a.2 ∙ sym two) in
          omega (arith, same, a.1))),
      tt,
    )) [] ts refl tt
