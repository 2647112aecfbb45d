-- Values and tuples, both ways.
use Rattle.std.proofs.Common.{◌≡◌, ℕ, ℤ, pos, negsuc, suc, ◌-◌, ◌*◌, ◌<◌, ◌≤◌, Bool, true, List, [], ◌∷◌, ◌++◌}
use Rattle.std.proofs.Common.{length, refl, ap, ◌∙◌, arith, inl, inr}
use Rattle.std.specs.Prelude.{nat_lt, ◌||◌}
use Rattle.std.specs.List.{flat_map}
use Rattle.std.proofs.lemmas.Bool.{cases_lt, lt-ltb, le-ltb, and_parts, and_from}
use Rattle.cla_spec.specs.Bytes.{Holds, bytes_of, past, signed_of, unsigned_of, value_bytes}
use Rattle.cla_packed.specs.declared.fault.FieldName.TheVariants.{Value}
use Rattle.cla_packed.specs.Fields.{field_at, EachIs}
use Rattle.cla_spec.specs.Numbers.{in_range}
use Rattle.cla_packed.specs.Values.{value_at, tuple_bytes, fits_value, tuple_at, tuples_at, IsTuple}
use Rattle.cla_packed_laws.proofs.Forms.{IsForm, field_form, as_form, list_form}
use Rattle.cla_packed_laws.proofs.Tests.{form_by, at_last, from_last, each_by}

signed-holds : (k n : ℕ) → n < past k → Holds k (signed_of k n) × (unsigned_of k (signed_of k n) ≡ n)
signed-holds k n lt = elim (cases_lt (2 * n) (past k)) [
  | inl low ↦ rw (lt-ltb (2 * n) (past k) low) (low, refl)
  | inr high ↦ rw (le-ltb (2 * n) (past k) high) (omega (arith, lt, high), omega (arith, lt))
]

unsigned-below : (k : ℕ) (v : ℤ) → Holds k v → (unsigned_of k v < past k) × (signed_of k (unsigned_of k v) ≡ v)
unsigned-below k (pos n) h = (omega (arith, h), rw (lt-ltb (2 * n) (past k) h) refl)
unsigned-below k (negsuc n) h =
    let high : past k ≤ 2 * (past k - suc n) = omega (arith, h) in
    let back : past k - suc (past k - suc n) ≡ n = omega (arith, h) in
    (omega (arith, h), rw (le-ltb (2 * (past k - suc n)) (past k) high, back) refl)

pub value_form : (k : ℕ) (test : ℤ → Bool) (group : ℕ) → IsForm (value_at k test group) (λ v. Holds k v
    × (test v ≡ true)) (value_bytes k)
unfolding value_at
value_form k test group = as_form (field_at k (λ n. test (signed_of k n)) group Value) (λ n. (n < past k)
    × (test (signed_of k n) ≡ true)) (bytes_of k) (signed_of k) (unsigned_of k) (λ v. Holds k v × (test v ≡ true))
    (field_form k (λ n. test (signed_of k n)) group Value)
    (λ n h. (let s = signed-holds k n h.0 in ((s.0, h.1), s.1)))
    (λ v h. (let u = unsigned-below k v h.0 in ((u.0, ap test u.1 ∙ h.1), u.1)))

pub tuple_form : (k bits group width : ℕ) (whole : List ℤ → Bool) → 0 < width
    → IsForm (tuple_at k bits group width whole) (λ t. IsTuple k bits width t × (whole t ≡ true)) (tuple_bytes k)
tuple_form k bits group width whole some =
    let P = λ (v : ℤ). Holds k v × (in_range bits v ≡ true) in
    let Good = λ (left : ℕ) (so_far : List ℤ) (v : ℤ). Holds k v × (fits_value bits whole left so_far v ≡ true) in
    let Last = λ (left : ℕ) (so_far : List ℤ) (v : ℤ). P v × ((nat_lt 0 left || whole (so_far ++ v ∷ [])) ≡ true) in
    form_by (λ t. IsTuple k bits width t × (whole t ≡ true))
    (list_form (λ left so_far. value_at k (fits_value bits whole left so_far) group) Good (value_bytes k)
    (λ left so_far. value_form k (fits_value bits whole left so_far) group) width)
    (λ t h. (let l = at_last P whole [] t (omega (arith, h.0, some))
    (each_by Good Last (λ left so_far v g. (let b = and_parts (in_range bits v) (nat_lt 0 left
    || whole (so_far ++ v ∷ [])) g.1 in ((g.0, b.0), b.1))) [] t h.1) in (
      record { full = h.0; each = l.0 },
      l.1,
    )))
    (λ t h. (
      h.0.full,
      each_by Last Good (λ left so_far v g. (
        g.0.0,
        and_from (in_range bits v) (nat_lt 0 left
            || whole (so_far ++ v ∷ [])) g.0.1 g.1,
      )) [] t (from_last P whole [] t h.0.each h.1),
    ))

pub tuples_form : (k bits group width : ℕ) (whole : ℕ → List (List ℤ) → List ℤ → Bool) (n : ℕ) → 0 < width
    → IsForm (tuples_at k bits group width whole n) (λ ts. (length ts ≡ n)
    × EachIs (λ left so_far t. IsTuple k bits width t × (whole left so_far t ≡ true)) [] ts)
    (flat_map (tuple_bytes k))
tuples_form k bits group width whole n some =
    list_form (λ left so_far. tuple_at k bits group width (whole left so_far)) (λ left so_far t.
    IsTuple k bits width t × (whole left so_far t ≡ true)) (tuple_bytes k) (λ left so_far.
    tuple_form k bits group width (whole left so_far) some) n
