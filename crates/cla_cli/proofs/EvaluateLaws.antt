-- What the operators on tables say of values and of counts.
use Rattle.std.proofs.Common.{◌≡◌, ℕ, ℤ, ◌+◌, ◌≤◌, Option, Some, None, Result, Ok, Err, refl, ap, arith}
use Rattle.cla_spec.specs.Matrix.{Matrix, scaled}
use Rattle.cla_num.specs.Counts.{Counts}
use Rattle.cla_num.specs.Fault.{scalar_fault}
use Rattle.cla_num.specs.declared.fault.OpFault.{OpFault}
use Rattle.cla_grammar.specs.declared.place.Place.{Place}
use Rattle.cla_print.specs.Texts.{Scalar}
use Rattle.cla_cli.specs.declared.evaluate.Failed.{Failed}
use Rattle.cla_cli.specs.Statements.{exact_number, product_fault, sum_of, product_sum_of}
use Rattle.cla_cli.specs.Evaluate.{MayComeTo, CountsTo}
use Rattle.cla_cli.specs.Run.{RiseByAtMost}

-- a number that is exact, and one that isn't in range
pub exact_good : (bits : ℕ) (place : Place) (exact v : ℤ) → v ≡ exact → scalar_fault bits (Some exact) ≡ None
    → Some (exact_number bits place exact) ≡ Some (Ok (Scalar v))
exact_good bits place exact v is none = rw (none, is) refl

pub exact_bad : (bits : ℕ) (place : Place) (exact : ℤ) (fault : OpFault) → scalar_fault bits (Some exact) ≡ Some fault
    → Some (exact_number bits place exact) ≡ Some (Err (place, fault))
exact_bad bits place exact fault is = rw is refl

-- the sum of a product, and a product that is refused
pub product_good : {N : Type 0} (value : N → ℤ) (bits : ℕ) (sum times : Place) (k : ℤ) (m p : Matrix)
    (r : Result (Option N) Failed)
    → p ≡ scaled m k → product_fault bits m k ≡ None → MayComeTo value (Some (sum_of bits sum p)) r
    → MayComeTo value (Some (product_sum_of bits sum times k m)) r
product_good value bits sum times k m p r is none comes = rw none (rw is at comes)

pub product_bad : (bits : ℕ) (sum times : Place) (k : ℤ) (m : Matrix) (fault : OpFault) → product_fault bits m k
    ≡ Some fault
    → Some (product_sum_of bits sum times k m) ≡ Some (Err (times, fault))
product_bad bits sum times k m fault is = rw is refl

-- the counts of a sum
pub sum_counted : {T : Type 0} (n : ℕ) (before now : Counts) (r : Result T Failed) →
    now ≡ record before { mults = before.mults + n }
    → CountsTo (record { mults = n; maps = 0 }) before now r
sum_counted n before now (Ok x) is = rw is (refl, omega arith)
sum_counted n before now (Err e) is = rw is
    (record { not_below = record { mults = omega arith; maps = omega arith }; mults = omega arith; maps = omega arith })

-- and of one after a product
pub product_counted : {T : Type 0} (n m : ℕ) (before mid now : Counts) (r : Result T Failed) → m ≡ n
    → mid ≡ record before { maps = before.maps + n } → CountsTo (record { mults = m; maps = 0 }) mid now r
    → CountsTo (record { mults = n; maps = n }) before now r
product_counted n m before mid now (Ok x) same is rise =
    let first : mid.mults ≡ before.mults = ap (λ (c : Counts). c.mults) is in
    let second : mid.maps ≡ before.maps + n = ap (λ (c : Counts). c.maps) is in
    (omega (arith, rise.0, first, same), omega (arith, rise.1, second))
product_counted n m before mid now (Err e) same is rise =
    let first : mid.mults ≡ before.mults = ap (λ (c : Counts). c.mults) is in
    let second : mid.maps ≡ before.maps + n = ap (λ (c : Counts). c.maps) is in
    record {
      not_below = record {
        mults = omega (arith, rise.not_below.mults, first);
        maps =
            omega (arith, rise.not_below.maps, second);
      };
      mults = omega (arith, rise.mults, first, same);
      maps = omega (arith, rise.maps, second);
    }

pub product_refused : (n : ℕ) (before now : Counts)
    → (now.mults ≡ before.mults) × (before.maps ≤ now.maps) × (now.maps ≤ before.maps + n)
    → RiseByAtMost (record { mults = n; maps = n }) before now
product_refused n before now h = record {
  not_below = record { mults = omega (arith, h.0); maps = omega (arith, h.1) };
  mults = omega (arith, h.0);
  maps = omega (arith, h.2);
}
