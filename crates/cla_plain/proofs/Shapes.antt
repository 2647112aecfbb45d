-- Cells of a shape, as rows.
use Rattle.std.proofs.Common.{◌≡◌, ℕ, ◌+◌, ◌*◌, ◌/◌, ◌%◌, ◌≤◌, List, length, ap, ◌∙◌, arith}
use Rattle.std.proofs.Math.Nat.{mul-le-mul}
use Rattle.std.proofs.lemmas.Nat.{div-mul-add, mod-mul-add}
use Rattle.cla_spec.specs.Matrix.{IsShaped}
use Rattle.cla_plain.specs.Rows.{AreRows}

-- cells of a shape are whole rows
pub whole_rows : {X : Type 0} (rows cols : ℕ) (cells : List X) → IsShaped rows cols cells → AreRows cols cells
whole_rows rows cols cells shaped =
    let split : length cells ≡ rows * cols + 0 = omega (arith, shaped.count) in
    let some : 1 * 1 ≤ rows * cols = mul-le-mul {n₁ = 1} {m₁ = 1} {n₂ = rows} {m₂ = cols} shaped.a_row shaped.a_col in
    record {
      a_column = shaped.a_col;
      a_value = omega (arith, some, shaped.count);
      few = rw shaped.count shaped.few;
      whole = ap (λ (n : ℕ). n % cols) split ∙ mod-mul-add rows cols 0 shaped.a_col;
    }

-- and as many as the shape says
pub rows_of_shape : {X : Type 0} (rows cols : ℕ) (cells : List X) → IsShaped rows cols cells →
    length cells / cols ≡ rows
rows_of_shape rows cols cells shaped =
    let split : length cells ≡ rows * cols + 0 = omega (arith, shaped.count) in
    ap (λ (n : ℕ). n / cols) split ∙ div-mul-add rows cols 0 shaped.a_col
