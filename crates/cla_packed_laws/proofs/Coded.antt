-- Kind 2, both ways: the bodies that are read are the canonical ones.
use Rattle.std.proofs.Common.{◌≡◌, ℕ, ℤ, zero, suc, ◌+◌, ◌<◌, ◌≤◌, true, List, [], ◌∷◌, ◌++◌, length, refl, sym, ap}
use Rattle.std.proofs.Common.{subst, arith, inl, inr}
use Rattle.std.specs.Prelude.{nat_le}
use Rattle.std.specs.List.{flat_map, AllByRecursion}
use Rattle.std.proofs.lemmas.Bool.{cases_Bool, le-leb, leb-true, and_from}
use Rattle.cla_spec.specs.Bytes.{bytes_of, past}
use Rattle.cla_packed.specs.declared.fault.FieldName.TheVariants.{Tuples, Code}
use Rattle.cla_packed.specs.Fields.{field_at, then_at, EachIs}
use Rattle.cla_layout.specs.Groups.{first_row_of, AreNumbered}
use Rattle.cla_packed.specs.Values.{tuple_bytes, tuples_at, IsTuple}
use Rattle.cla_packed.specs.Codes.{fits_code, code_bytes, codes_at}
use Rattle.cla_packed.specs.Bodies.{AreCanonical, IsBody, is_new, fits_tuples, body_of, parts_of, coded_at, coded_bytes}
use Rattle.cla_packed_laws.proofs.Forms.{IsForm, field_form, then_form, list_form, as_form}
use Rattle.cla_packed_laws.proofs.Tests.{each_by}
use Rattle.cla_packed_laws.proofs.Values.{tuples_form}
use Rattle.cla_packed_laws.proofs.Distinct.{distinct_from, distinct_each}
use Rattle.cla_packed_laws.proofs.Codes.{fits_parts, codes_canonical, codes_fit, first_among, has_occurring}

-- ---- two facts of each thing

pub both : {A : Type 0} (P : A → Type 0) (Q : ℕ → List A → A → Type 0) (so_far items : List A)
    → AllByRecursion P items → EachIs Q so_far items → EachIs (λ left so_far a. P a × Q left so_far a) so_far items
both P Q so_far [] h g = tt
both P Q so_far (a ∷ items) h g = ((h.0, g.0), both P Q (so_far ++ a ∷ []) items h.1 g.1)

pub first_of_both : {A : Type 0} (P : A → Type 0) (Q : ℕ → List A → A → Type 0) (so_far items : List A)
    → EachIs (λ left so_far a. P a × Q left so_far a) so_far items → AllByRecursion P items
first_of_both P Q so_far [] h = tt
first_of_both P Q so_far (a ∷ items) h = (h.0.0, first_of_both P Q (so_far ++ a ∷ []) items h.1)

-- ---- how many tuples there can be

code_below : (k d : ℕ) → k < d → d < past 4 → k < past (code_bytes d)
code_below k d lt fits = elim (cases_Bool (nat_le d 256)) [
  | inl small ↦ rw small (omega (arith, lt, leb-true d 256 small))
  | inr more ↦ rw more (elim (cases_Bool (nat_le d 65536)) [
    | inl middle ↦ rw middle (omega (arith, lt, leb-true d 65536 middle))
    | inr most ↦ rw most (omega (arith, lt, fits))
  ])
]

rows_before : (d : ℕ) (codes : List ℕ) → AreNumbered codes d → (k : ℕ) → k < d → k ≤ first_row_of codes k
rows_before d codes h zero lt = omega arith
rows_before d codes h (suc k) lt =
    let one = rows_before d codes h k (omega (arith, lt)) in
    let same : k + 1 ≡ suc k = omega arith in
    let next : first_row_of codes k < first_row_of codes (suc k) =
    subst (λ (m : ℕ). first_row_of codes k < first_row_of codes m) same (h k (omega (arith, lt))) in
    omega (arith, one, next)

pub few_codes : (d : ℕ) (codes : List ℕ) → AreCanonical d codes → d ≤ length codes
few_codes zero codes c = omega arith
few_codes (suc d) codes c =
    let last = rows_before (suc d) codes c.numbered d (omega arith) in
    let row = first_among codes [] d (has_occurring codes d (c.codes_are.used d (omega arith))) in
    omega (arith, last, row.1)

pub some_codes : (d : ℕ) (codes : List ℕ) → 0 < length codes → AreCanonical d codes → 0 < d
some_codes d codes some c = omega (arith, c.codes_are.in_tuples 0 some)

-- ---- kind 2

pub coded_form : (k bits group rows width : ℕ) → 0 < rows → rows < past 4 → 0 < width
    → IsForm (coded_at k bits group rows width) (IsBody k bits rows width) (coded_bytes k)
coded_form k bits group rows width some fits wide =
    let Good = λ (d : ℕ). (d < past 4) × (fits_tuples rows d ≡ true) in
    let IsNew = λ (left : ℕ) (before : List (List ℤ)) (t : List ℤ). IsTuple k bits width t
    × (is_new left before t ≡ true) in
    let Fits = λ (d left : ℕ) (so_far : List ℕ) (c : ℕ). (c < past (code_bytes d))
    × (fits_code d left so_far c ≡ true) in
    let AreTuples = λ (d : ℕ) (ts : List (List ℤ)). (length ts ≡ d) × EachIs IsNew [] ts in
    let AreCodes = λ (d : ℕ) (ks : List ℕ). (length ks ≡ rows) × EachIs (Fits d) [] ks in
    let parts = then_form (field_at 4 (fits_tuples rows) group Tuples) Good (bytes_of 4)
    (λ d. then_at (tuples_at k bits group width is_new d) (λ tuples. codes_at (code_bytes d) group d rows))
    (λ d x. AreTuples d x.0 × AreCodes d x.1) (λ d x. flat_map (tuple_bytes k) x.0
    ++ flat_map (bytes_of (code_bytes d)) x.1)
    (field_form 4 (fits_tuples rows) group Tuples)
    (λ d h. then_form (tuples_at k bits group width is_new d) (AreTuples d) (flat_map (tuple_bytes k))
    (λ tuples. codes_at (code_bytes d) group d rows) (λ tuples. AreCodes d)
    (λ tuples. flat_map (bytes_of (code_bytes d)))
    (tuples_form k bits group width is_new d wide)
    (λ tuples g. list_form (λ left so_far. field_at (code_bytes d) (fits_code d left so_far) group Code) (Fits d)
    (bytes_of (code_bytes d)) (λ left so_far. field_form (code_bytes d)
    (fits_code d left so_far) group Code) rows)) in
    as_form (then_at (field_at 4 (fits_tuples rows) group Tuples)
    (λ d. then_at (tuples_at k bits group width is_new d) (λ tuples. codes_at (code_bytes d) group d rows)))
    (λ x. Good x.0 × (AreTuples x.0 x.1.0 × AreCodes x.0 x.1.1)) (λ x. bytes_of 4 x.0
    ++ (flat_map (tuple_bytes k) x.1.0 ++ flat_map (bytes_of (code_bytes x.0)) x.1.1)) body_of parts_of
    (IsBody k bits rows width)
    parts
    (λ x h.
    let d-is : length x.1.0 ≡ x.0 = h.1.0.0 in
    let codes = codes_canonical x.0 x.1.1 (omega (arith, h.1.1.0, some))
    (each_by (Fits x.0) (λ left so_far c. fits_code x.0 left so_far c ≡ true) (λ left so_far c g.
    g.1) [] x.1.1 h.1.1.1) in (
      record {
        a_code_each = h.1.1.0;
        canonical = subst (λ (d : ℕ). AreCanonical d x.1.1) (sym d-is) codes;
        each = first_of_both (IsTuple k bits width) (λ left before t. is_new left before t ≡ true) [] x.1.0 h.1.0.1;
        distinct = distinct_from x.1.0 (each_by IsNew (λ left before t. is_new left before t
            ≡ true) (λ left before t g. g.1) [] x.1.0 h.1.0.1);
      },
      ap (λ (d : ℕ). (d, (x.1.0, x.1.1))) d-is,
    ))
    (λ b h.
    let d = length b.tuples in
    let few : d ≤ rows = omega (arith, few_codes d b.codes h.canonical, h.a_code_each) in
    let one : 1 ≤ d = some_codes d b.codes (omega (arith, h.a_code_each, some)) h.canonical in
    let below : d < past 4 = omega (arith, few, fits) in (
      (
        (below, and_from (nat_le 1 d) (nat_le d rows) (le-leb 1 d one) (le-leb d rows few)),
        (
          (
            refl,
            both (IsTuple k bits width) (λ left before t. is_new left before t ≡ true) [] b.tuples h.each
                (distinct_each b.tuples h.distinct),
          ),
          (
            h.a_code_each,
            each_by (λ left so_far c. fits_code d left so_far c ≡ true) (Fits d) (λ left so_far c g.
                (code_below c d ((fits_parts d left c so_far g).0) below, g)) [] b.codes
                (codes_fit d b.codes h.canonical),
          ),
        ),
      ),
      refl,
    ))
