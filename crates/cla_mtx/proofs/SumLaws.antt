-- Tables to which triples are added.
use Rattle.std.proofs.Common.{Result, Ok, Err, OnOk, ◌≡◌, ℕ, ℤ, pos, ◌<◌, ◌+ℤ◌, [], ◌∷◌, inl, inr, refl, sym, ap, ◌∙◌}
use Rattle.std.proofs.Common.{arith}
use Rattle.std.proofs.lemmas.Bool.{cases_eq, eq-eqb, ne_eqb}
use Rattle.std.proofs.lemmas.Int.{ints}
use Rattle.cla_spec.specs.Matrix.{Matrix, entry}
use Rattle.cla_spec.specs.Numbers.{InRange}
use Rattle.cla_market.specs.declared.banner.Symmetry.{Symmetry}
use Rattle.cla_market.specs.declared.banner.Symmetry.TheVariants.{General}
use Rattle.cla_market.specs.Entries.{Triple, added_by}
use Rattle.cla_table.specs.Tables.{value_at, Adds}
use Rattle.cla_mtx.specs.Sums.{AreInRange, AddsAll}

plus_nothing : (a : ℤ) → a +ℤ pos 0 ≡ a
plus_nothing a = omega (arith, ints)

plus_two : (a x y : ℤ) → (a +ℤ x) +ℤ y ≡ a +ℤ (x +ℤ (y +ℤ pos 0))
plus_two a x y = omega (arith, ints)

here : (row col : ℕ) (v : ℤ) → value_at row col v row col ≡ v
here row col v = rw (eq-eqb row row refl, eq-eqb col col refl) refl

-- one sum that stays in range is added to sums in range
pub adds_in_range : (bits : ℕ) (old new : Matrix) (row col : ℕ) (v : ℤ) → row < old.rows → col < old.cols
    → Adds old new row col v → AreInRange bits old → InRange bits (entry old row col +ℤ v) → AreInRange bits new
adds_in_range bits old new row col v low left adds before now i j low' left' =
    let is = adds.grown i j (omega (arith, low', adds.same_rows)) (omega (arith, left', adds.same_cols)) in
    let same : (value : ℤ) → value_at row col v i j ≡ value → InRange bits (entry old i j +ℤ value)
    → InRange bits (entry new i j) = λ value e h. rw (is, e) h in
    elim (cases_eq row i) [
      | inl same_row ↦ elim (cases_eq col j) [
        | inl same_col ↦ same v (rw (← same_row, ← same_col) (here row col v)) (rw (← same_row, ← same_col) now)
        | inr other ↦ same (pos 0) (rw (ne_eqb col j other, eq-eqb row i same_row) refl)
            (rw plus_nothing (before i j (omega (arith, low', adds.same_rows)) (omega (arith, left', adds.same_cols))))
      ]
      | inr other ↦ same (pos 0) (rw (ne_eqb row i other) refl)
          (rw plus_nothing (before i j (omega (arith, low', adds.same_rows)) (omega (arith, left', adds.same_cols))))
    ]

-- two triples, one after the other
pub adds_two : (old mid new : Matrix) (t u : Triple) → Adds old mid t.row t.col t.value
    → Adds mid new u.row u.col u.value → AddsAll old new (t ∷ u ∷ [])
adds_two old mid new t u first second = record {
  same_rows = second.same_rows ∙ first.same_rows;
  same_cols = second.same_cols ∙ first.same_cols;
  grown = λ i j low left.
      (second.grown i j (omega (arith, low, first.same_rows)) (omega (arith, left, first.same_cols))
      ∙ ap (λ (a : ℤ). a +ℤ value_at u.row u.col u.value i j) (first.grown i j low left)
      ∙ plus_two (entry old i j) (value_at t.row t.col t.value i j) (value_at u.row u.col u.value i j));
}

-- a triple of a general matrix
pub adds_general : (mirroring : Symmetry) (old new : Matrix) (t : Triple) → mirroring ≡ General
    → Adds old new t.row t.col t.value → AddsAll old new (added_by mirroring t)
adds_general mirroring old new t is adds = rw is record {
  same_rows = adds.same_rows;
  same_cols = adds.same_cols;
  grown = λ i j low left. adds.grown i j low left
      ∙ ap (λ (z : ℤ). entry old i j +ℤ z) (sym (plus_nothing (value_at t.row t.col t.value i j)));
}

-- a fact of a good result
pub on_ok : {A E : Type 0} {P Q : Type 0} (r : Result A E) → (P → Q) → OnOk r P → OnOk r Q
on_ok (Ok x) f p = f p
on_ok (Err e) f p = tt

pub on_ok_both : {A E : Type 0} {P Q R : Type 0} (r : Result A E) → (P → Q → R) → OnOk r P → OnOk r Q → OnOk r R
on_ok_both (Ok x) f p q = f p q
on_ok_both (Err e) f p q = tt
