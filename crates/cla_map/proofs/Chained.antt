-- A chain over all cells, from what each value does by itself.
use Rattle.std.proofs.Common.{◌≡◌, ℕ, ℤ, ◌+◌, ◌*◌, ◌/◌, ◌%◌, ◌<◌, ◌≤◌, List, [], ◌∷◌, Option, Some, None, refl, ap, sym}
use Rattle.std.proofs.Common.{◌∙◌, arith, inl, inr}
use Rattle.cla_spec.specs.Matrix.{most_cells}
use Rattle.cla_spec.proofs.Entries.{cell_within}
use Rattle.cla_num.specs.declared.fault.What.{What}
use Rattle.cla_num.specs.declared.fault.OpFault.{OpFault}
use Rattle.cla_num.specs.Fault.{cell_fault}
use Rattle.cla_map.specs.declared.misfit.Stop.{Stop}
use Rattle.cla_meaning.specs.Chains.{StepValue, integer_of, at_step, chain_fault_from, chain_value}
use Rattle.cla_map.specs.Stops.{or_stop, stop_from, last_value}
use Rattle.cla_meaning.proofs.Faults.{either_what, no_fault, fault_is}

none_some : {A : Type 0} {P : Type 0} (x : A) → None ≡ Some x → P
none_some x same = cc

-- a value that goes through a step
stop_goes : (later : Option Stop) (op : ℕ) (w : Option What) → or_stop later op w ≡ None → (w ≡ None) × (later ≡ None)
stop_goes later op None same = (refl, same)
stop_goes later op (Some what) same = none_some _ (sym same)

-- a value stops no earlier than the chain begins
pub stop_late : (bits op : ℕ) (fs : List StepValue) (z : ℤ) (stop : Stop) → stop_from bits op fs z ≡ Some stop
    → op ≤ stop.op
stop_late bits op [] z stop is = none_some _ is
stop_late bits op (f ∷ fs) z stop is = elim (either_what (cell_fault bits (f z))) [
  | inl goes ↦
      let later : stop_from bits (op + 1) fs (integer_of (f z)) ≡ Some stop = rw goes at is in
      omega (arith, stop_late bits (op + 1) fs (integer_of (f z)) stop later)
  | inr fails ↦
      let here : Some (record { op = op; what = fails.0 }) ≡ Some stop = rw fails.1 at is in
      let same : op ≡ stop.op = (let e : record { op = op; what = fails.0 } ≡ stop = cc in ap (λ (s : Stop). s.op) e) in
      omega (arith, same)
]

-- where no value stops there is no fault
pub chain_none : (bits rows cols op : ℕ) (fs : List StepValue) (entry : ℕ → ℕ → ℤ) → 1 ≤ cols
    → ((i j : ℕ) → i < rows → j < cols → stop_from bits op fs (entry i j) ≡ None)
    → chain_fault_from bits rows cols op fs entry ≡ None
chain_none bits rows cols op [] entry some goes = refl
chain_none bits rows cols op (f ∷ fs) entry some goes =
    ap (λ (w : Option OpFault). at_step op w
    (chain_fault_from bits rows cols (op + 1) fs (λ i j. integer_of (f (entry i j)))))
    (no_fault bits rows cols (λ i j. f (entry i j)) some (λ i j row col. (stop_goes _ op _ (goes i j row col)).0))
    ∙ chain_none bits rows cols (op + 1) fs (λ i j. integer_of (f (entry i j))) some
    (λ i j row col. (stop_goes _ op _ (goes i j row col)).1)

-- the value that stops first, by its step and then by its place, gives the fault
pub chain_first : (bits rows cols op : ℕ) (fs : List StepValue) (entry : ℕ → ℕ → ℤ) (i j s : ℕ) (what : What) → 1 ≤ cols
    → rows * cols ≤ most_cells → i < rows → j < cols
    → stop_from bits op fs (entry i j) ≡ Some (record { op = s; what = what })
    → ((r c : ℕ) (stop : Stop) → r < rows → c < cols → stop_from bits op fs (entry r c) ≡ Some stop
    → s * most_cells + (i * cols + j) ≤ stop.op * most_cells + (r * cols + c))
    → chain_fault_from bits rows cols op fs entry
    ≡ Some (record { op = s; row = (i * cols + j) / cols + 1; col = (i * cols + j) % cols + 1; what = what })
chain_first bits rows cols op [] entry i j s what some few row col is least = none_some _ is
chain_first bits rows cols op (f ∷ fs) entry i j s what some few row col is least =
    let next = λ (r c : ℕ). integer_of (f (entry r c)) in
    elim (either_what (cell_fault bits (f (entry i j)))) [
      | inr fails ↦
          let here : Some (record { op = op; what = fails.0 }) ≡ Some (record { op = s; what = what }) =
          rw fails.1 at is in
          let e : record { op = op; what = fails.0 } ≡ record { op = s; what = what } = cc in
          let step : op ≡ s = ap (λ (t : Stop). t.op) e in
          let reason : fails.0 ≡ what = ap (λ (t : Stop). t.what) e in
          let bad : cell_fault bits (f (entry i j)) ≡ Some what = fails.1 ∙ ap (λ (w : What). Some w) reason in
          ap (λ (w : Option OpFault). at_step op w (chain_fault_from bits rows cols (op + 1) fs next))
          (fault_is bits rows cols (λ r c. f (entry r c)) i j what some
          (record {
            row = row;
            col = col;
            faulty = bad;
            least = λ r c w row' col' wrong.
                (let stops : stop_from bits op (f ∷ fs) (entry r c) ≡ Some (record { op = op; what = w }) =
                rw wrong refl in
                let after = least r c (record { op = op; what = w }) row' col' stops in
                omega (arith, after, step));
          }))
          ∙ rw step refl
      | inl goes ↦
          let later : stop_from bits (op + 1) fs (next i j) ≡ Some (record { op = s; what = what }) = rw goes at is in
          let late : op + 1 ≤ s = stop_late bits (op + 1) fs (next i j) (record { op = s; what = what }) later in
          let all : (r c : ℕ) → r < rows → c < cols → cell_fault bits (f (entry r c)) ≡ None = (λ r c row' col'.
          elim (either_what (cell_fault bits (f (entry r c)))) [
            | inl good ↦ good
            | inr wrong ↦
                (let stops : stop_from bits op (f ∷ fs) (entry r c) ≡ Some (record { op = op; what = wrong.0 }) =
                rw wrong.1 refl in
                let after = least r c (record { op = op; what = wrong.0 }) row' col' stops in
                absurd (omega (arith, after, late, few, cell_within rows cols r c row' col')))
          ]) in
          ap (λ (w : Option OpFault). at_step op w (chain_fault_from bits rows cols (op + 1) fs next))
          (no_fault bits rows cols (λ r c. f (entry r c)) some all)
          ∙ chain_first bits rows cols (op + 1) fs next i j s what some few row col later
          (λ r c stop row' col' stops. least r c stop row' col' (rw (all r c row' col') stops))
    ]

-- a value that doesn't stop has its last value
pub last_is_end : (bits op : ℕ) (fs : List StepValue) (z : ℤ) → stop_from bits op fs z ≡ None
    → last_value bits fs z ≡ chain_value fs z
last_is_end bits op [] z goes = refl
last_is_end bits op (f ∷ fs) z goes =
    let both = stop_goes (stop_from bits (op + 1) fs (integer_of (f z))) op (cell_fault bits (f z)) goes in
    let good : cell_fault bits (f z) ≡ None = both.0 in
    rw good (last_is_end bits (op + 1) fs (integer_of (f z)) both.1)
