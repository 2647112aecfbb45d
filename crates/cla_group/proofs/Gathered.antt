-- Items that are gathered by the code of their row.
use Rattle.std.proofs.Common.{◌≡◌, true, false, Bool, ℕ, ℤ, pos, suc, ◌+◌, ◌*◌, ◌<◌, ◌≤◌, ◌+ℤ◌, List, length, map}
use Rattle.std.proofs.Common.{set, cond, eqb, ap}
use Rattle.std.proofs.Common.{sym, ◌∙◌, arith, inl, inr}
use Rattle.std.proofs.lemmas.Bool.{cases_eq, eq-eqb, ne_eqb}
use Rattle.std.proofs.lemmas.List.{get_or-set_same, get_or-set_other, length-set}
use Rattle.std.specs.Int.RustNames.{unsigned_abs}
use Rattle.cla_spec.specs.Numbers.{InRange}
use Rattle.cla_spec.proofs.Sums.{plus_zero, sum_to-size}
use Rattle.cla_num.specs.Bits.{IsSupported, value_bound}
use Rattle.cla_num.proofs.Sizes.{value_size}
use Rattle.cla_layout.specs.Groups.{at, code_of, gathered_to}
use Rattle.cla_layout.proofs.Tuples.{item_holds}

-- a row with this code adds its item
pub gathered_here : (codes : List ℕ) (items : List ℤ) (k i : ℕ) → code_of codes i ≡ k
    → gathered_to codes items k (i + 1) ≡ gathered_to codes items k i +ℤ at items i
gathered_here codes items k i here =
    let next : i + 1 ≡ suc i = omega arith in
    ap (gathered_to codes items k) next
    ∙ ap (λ (b : Bool). gathered_to codes items k i +ℤ cond b (at items i) (pos 0)) (eq-eqb (code_of codes i) k here)

-- a row with another code adds nothing
pub gathered_elsewhere : (codes : List ℕ) (items : List ℤ) (k i : ℕ) → (code_of codes i ≡ k → ⊥)
    → gathered_to codes items k (i + 1) ≡ gathered_to codes items k i
gathered_elsewhere codes items k i elsewhere =
    let next : i + 1 ≡ suc i = omega arith in
    ap (gathered_to codes items k) next
    ∙ ap (λ (b : Bool). gathered_to codes items k i +ℤ cond b (at items i) (pos 0))
    (ne_eqb (code_of codes i) k elsewhere)
    ∙ sym (plus_zero (gathered_to codes items k i))

either : (b : Bool) (z : ℤ) → unsigned_abs z ≤ value_bound → unsigned_abs (cond b z (pos 0)) ≤ value_bound
either true z small = small
either false z small = omega arith

-- how large a gathered sum can be
pub gathered_size : {N : Type 0} (bits : ℕ) (value : N → ℤ) → ((x : N) → InRange bits (value x)) → IsSupported bits
    → (codes : List ℕ) (items : List N) (k n : ℕ) → n ≤ length items
    → unsigned_abs (gathered_to codes (map value items) k n) ≤ n * value_bound
gathered_size bits value in_range supported codes items k n within =
    sum_to-size (λ i. cond (eqb (code_of codes i) k) (at (map value items) i) (pos 0)) value_bound n (λ i lt.
    either (eqb (code_of codes i) k) (at (map value items) i)
    (item_holds value (λ (z : ℤ). unsigned_abs z ≤ value_bound) (λ x. value_size bits (value x) supported (in_range x))
    items i
    (omega (arith, lt, within))))

-- one more row is gathered
pub gathered_step : (codes : List ℕ) (items into : List ℤ) (i kk : ℕ) (v : ℤ) → kk ≡ code_of codes i → kk < length into
    → v ≡ at into kk +ℤ at items i → ((k : ℕ) → k < length into → at into k ≡ gathered_to codes items k i) → (k : ℕ)
    → k < length (set into kk v) → at (set into kk v) k ≡ gathered_to codes items k (i + 1)
gathered_step codes items into i kk v code there is so_far k within =
    let k_there : k < length into = rw (length-set into kk v) at within in
    elim (cases_eq k kk) [
      | inl same ↦
          let here : code_of codes i ≡ k = sym code ∙ sym same in
          ap (at (set into kk v)) same ∙ get_or-set_same into kk v (pos 0) there ∙ is
          ∙ ap (λ (z : ℤ). z +ℤ at items i) (ap (at into) (sym same) ∙ so_far k k_there)
          ∙ sym (gathered_here codes items k i here)
      | inr other ↦
          get_or-set_other into kk k v (pos 0) other ∙ so_far k k_there
          ∙ sym (gathered_elsewhere codes items k i (λ here. other (sym here ∙ sym code)))
    ]
