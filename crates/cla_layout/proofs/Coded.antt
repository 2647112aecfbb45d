-- Groups that keep codes, and the values of their tuples in a row.
use Rattle.std.proofs.Common.{◌≡◌, ℕ, ℤ, pos, ◌+◌, ◌-◌, ◌*◌, ◌<◌, ◌≤◌, List, length, map, take, drop, get_or, ap, sym}
use Rattle.std.proofs.Common.{◌∙◌, arith}
use Rattle.std.proofs.Math.Nat.{mul-le-mul_left}
use Rattle.std.proofs.lemmas.List.{get_or-map, length-take-le, length-drop, get_or-take, get_or-drop}
use Rattle.cla_spec.specs.Matrix.{most_cells}
use Rattle.cla_layout.specs.Groups.{code_of, value_of}
use Rattle.cla_layout.specs.Tuples.{tuples_of, AreCodes}
use Rattle.cla_layout.proofs.Tuples.{tuple_value, place_within}
use Rattle.cla_layout.proofs.Counts.{used_few}

pub tuples_few : (width n : ℕ) (codes : List ℕ) (values : ℕ) → AreCodes width n codes values → n ≤ length codes
tuples_few width n codes values are = used_few codes n are.used

pub codes_few : (width n : ℕ) (codes : List ℕ) (values : ℕ) → AreCodes width n codes values → length codes ≤ most_cells
codes_few width n codes values are =
    omega (arith, are.few_cells, mul-le-mul_left {m = 1} {n = width} (length codes) are.a_column)

-- the codes of some rows
pub rows_between : (a b : ℕ) (codes : List ℕ) → b ≤ length codes → length (take (b - a) (drop a codes)) ≡ b - a
rows_between a b codes within = length-take-le (b - a) (drop a codes) (omega (arith, within, length-drop a codes))

pub row_between : (a b : ℕ) (codes : List ℕ) (i : ℕ) → i < b - a → code_of (take (b - a) (drop a codes)) i
    ≡ code_of codes (a + i)
row_between a b codes i row = get_or-take (b - a) (drop a codes) i 0 row ∙ get_or-drop a codes i 0

-- a value that is read is that of the dictionary
pub value_read : {N : Type 0} (value : N → ℤ) (width n : ℕ) (values : List N) (k c : ℕ) (x : N) →
    length values ≡ n * width → k < n
    → c < width → x ≡ get_or values (k * width + c) x → value x ≡ value_of (tuples_of width n (map value values)) k c
value_read value width n values k c x whole tuple place is =
    let there : k * width + c < length values = rw whole (place_within width n k c tuple place) in
    ap value is ∙ sym (get_or-map value values (k * width + c) x (pos 0) there)
    ∙ sym (tuple_value width n (map value values) k c tuple place)
