-- Codes that pass their tests are those that are numbered by first row, each of them with a row.
use Rattle.std.proofs.Common.{◌≡◌, ℕ, zero, suc, ◌+◌, ◌-◌, ◌<◌, ◌≤◌, Bool, true, false, cond, eqb, List, [], ◌∷◌}
use Rattle.std.proofs.Common.{◌++◌, length, refl, sym, ap, subst, ◌∙◌, append_assoc, append-nil, arith, inl, inr}
use Rattle.std.specs.Prelude.{nat_lt, nat_le, ◌||◌, ◌&&◌}
use Rattle.std.proofs.lemmas.Bool.{cases_lt, cases_eq, cases_Bool, lt-ltb, le-ltb, ltb-true, leb-true, le-leb}
use Rattle.std.proofs.lemmas.Bool.{eqb-true, eq-eqb, ne_eqb, and_parts, and_from, or_left, or_right, false≢true}
use Rattle.std.proofs.lemmas.List.{length-append, get_or_at}
use Rattle.std.proofs.lemmas.List.Folds.{list_any-append, list_any_at}
use Rattle.std.proofs.lemmas.List.Sums.{sum_by-cons}
use Rattle.cla_spec.specs.Bytes.{past}
use Rattle.cla_packed.specs.Fields.{EachIs}
use Rattle.cla_layout.specs.Groups.{code_of, occurrences_of, first_row_of, AreNumbered}
use Rattle.cla_layout.specs.GroupLaws.{AreCodesOf}
use Rattle.cla_packed.specs.Codes.{has, different_behind, different, fits_code}
use Rattle.cla_packed.specs.Bodies.{AreCanonical}
use Rattle.cla_packed_laws.proofs.Tests.{at_last, each_by, each_to, each_from}

-- ---- how many are different

behind_push : (before ks : List ℕ) (k : ℕ) → different_behind before (ks ++ k ∷ [])
    ≡ different_behind before ks + cond (has (before ++ ks) k) 0 1
behind_push before [] k = rw (append-nil before) (omega arith)
behind_push before (j ∷ ks) k = rw (behind_push (before ++ j ∷ []) ks k, append_assoc before (j ∷ []) ks)
    (omega arith)

pub different_push : (ks : List ℕ) (k : ℕ) → different (ks ++ k ∷ []) ≡ different ks + cond (has ks k) 0 1
unfolding different
different_push ks k = behind_push [] ks k

pub or_false : (b : Bool) → (b || false) ≡ b
or_false true = refl
or_false false = refl

pub has_push : (ks : List ℕ) (k j : ℕ) → has (ks ++ k ∷ []) j ≡ (has ks j || eqb k j)
has_push ks k j = list_any-append (λ m. eqb m j) ks (k ∷ []) ∙ ap (λ (b : Bool). has ks j || b) (or_false (eqb k j))

-- the numbers of a list are those below n
abbrev pub AreThoseBelow : ℕ → List ℕ → Type 0
AreThoseBelow n ks = (j : ℕ) → has ks j ≡ nat_lt j n

pub none_below : AreThoseBelow 0 []
none_below j = sym (le-ltb j 0 (omega arith))

-- one more number, at most the next one
pub one_more : (ks : List ℕ) (k : ℕ) → AreThoseBelow (different ks) ks → k ≤ different ks
    → AreThoseBelow (different (ks ++ k ∷ [])) (ks ++ k ∷ [])
one_more ks k all le j = has_push ks k j ∙ elim (cases_lt k (different ks)) [
  | inl old ↦
      let there : has ks k ≡ true = all k ∙ lt-ltb _ _ old in
      let same : different (ks ++ k ∷ []) ≡ different ks = different_push ks k ∙ rw there (omega arith) in
      rw (same, all j) (elim (cases_eq k j) [
        | inl here ↦ rw (lt-ltb j (different ks) (omega (arith, here, old))) refl
        | inr other ↦ rw (ne_eqb k j other) (or_false (nat_lt j (different ks)))
      ])
  | inr new ↦
      let k-is : k ≡ different ks = omega (arith, le, new) in
      let apart : has ks k ≡ false = all k ∙ le-ltb _ _ new in
      let more : different (ks ++ k ∷ []) ≡ different ks + 1 = different_push ks k ∙ rw apart refl in
      rw (more, all j) (elim (cases_lt j (different ks)) [
        | inl old ↦ rw (lt-ltb j (different ks) old, lt-ltb j (different ks + 1) (omega (arith, old))) refl
        | inr past ↦ rw (le-ltb j (different ks) past) (elim (cases_eq k j) [
          | inl here ↦ rw (eq-eqb k j here, lt-ltb j (different ks + 1) (omega (arith, here, k-is))) refl
          | inr other ↦ rw (ne_eqb k j other, le-ltb j (different ks + 1) (omega (arith, past, other, k-is))) refl
        ])
      ])
]

-- ---- first rows

suc_of : (n : ℕ) → 1 + n ≡ suc n
suc_of n = omega arith

pub first_behind : (ks rest : List ℕ) (k : ℕ) → has ks k ≡ false → first_row_of (ks ++ k ∷ rest) k ≡ length ks
first_behind [] rest k h = rw (eq-eqb k k refl) refl
first_behind (j ∷ ks) rest k h = elim (cases_Bool (eqb j k)) [
  | inl here ↦ absurd (false≢true (sym h ∙ or_left (eqb j k) (has ks k) here))
  | inr other ↦ rw (other, suc_of) (ap suc (first_behind ks rest k (rw other at h)))
]

pub first_later : (j k : ℕ) (ks : List ℕ) → eqb j k ≡ false → first_row_of (j ∷ ks) k ≡ suc (first_row_of ks k)
first_later j k ks other = rw (other, suc_of) refl

pub first_here : (j k : ℕ) (ks : List ℕ) → eqb j k ≡ true → first_row_of (j ∷ ks) k ≡ 0
first_here j k ks here = rw here refl

pub first_among : (ks rest : List ℕ) (k : ℕ) → has ks k ≡ true → (first_row_of (ks ++ rest) k ≡ first_row_of ks k)
    × (first_row_of ks k < length ks)
first_among [] rest k h = absurd (false≢true h)
first_among (j ∷ ks) rest k h = elim (cases_Bool (eqb j k)) [
  | inl here ↦ (
    first_here j k (ks ++ rest) here ∙ sym (first_here j k ks here),
    omega (arith, first_here j k ks here),
  )
  | inr other ↦
      let more = first_among ks rest k (rw other at h) in (
        first_later j k (ks ++ rest) other ∙ ap suc more.0 ∙ sym (first_later j k ks other),
        omega (arith, more.1, first_later j k ks other),
      )
]

not_before : (ks rest : List ℕ) (k : ℕ) → has ks k ≡ false → length ks ≤ first_row_of (ks ++ rest) k
not_before [] rest k h = omega arith
not_before (j ∷ ks) rest k h = elim (cases_Bool (eqb j k)) [
  | inl here ↦ absurd (false≢true (sym h ∙ or_left (eqb j k) (has ks k) here))
  | inr other ↦ rw (other, suc_of) (omega (arith, not_before ks rest k (rw other at h)))
]

pub first_within : (ks rest : List ℕ) (k : ℕ) → first_row_of (ks ++ rest) k < length ks → has ks k ≡ true
first_within ks rest k h = elim (cases_Bool (has ks k)) [
  | inl there ↦ there
  | inr none ↦ absurd (omega (arith, h, not_before ks rest k none))
]

pub first_holds : (ks : List ℕ) (k : ℕ) → has ks k ≡ true → code_of ks (first_row_of ks k) ≡ k
first_holds [] k h = absurd (false≢true h)
first_holds (j ∷ ks) k h = elim (cases_Bool (eqb j k)) [
  | inl here ↦ rw here (eqb-true j k here)
  | inr other ↦ rw (other, suc_of) (first_holds ks k (rw other at h))
]

pub has_at : (ks : List ℕ) (i : ℕ) → i < length ks → has ks (code_of ks i) ≡ true
has_at ks i lt = list_any_at (λ m. eqb m (code_of ks i)) ks i 0 lt (eq-eqb (code_of ks i) (code_of ks i) refl)

pub occurs_more : (j k : ℕ) (ks : List ℕ) → occurrences_of (j ∷ ks) k ≡ cond (eqb j k) 1 0 + occurrences_of ks k
occurs_more j k ks = sum_by-cons (λ (m : ℕ). cond (eqb m k) 1 0) j ks

pub occurs : (ks : List ℕ) (k : ℕ) → has ks k ≡ true → 0 < occurrences_of ks k
occurs [] k h = absurd (false≢true h)
occurs (j ∷ ks) k h = elim (cases_Bool (eqb j k)) [
  | inl here ↦ omega (arith, occurs_more j k ks, ap {B = ℕ} (λ (b : Bool). cond b 1 0) here)
  | inr other ↦ omega (
    arith,
    occurs_more j k ks,
    ap {B = ℕ} (λ (b : Bool). cond b 1 0) other,
    occurs ks k (rw other at h),
  )
]

pub has_occurring : (ks : List ℕ) (k : ℕ) → 0 < occurrences_of ks k → has ks k ≡ true
has_occurring [] k h = absurd (omega arith)
has_occurring (j ∷ ks) k h = elim (cases_Bool (eqb j k)) [
  | inl here ↦ or_left (eqb j k) (has ks k) here
  | inr other ↦ or_right (eqb j k) (has ks k)
      (has_occurring ks k (omega (arith, h, occurs_more j k ks, ap {B = ℕ} (λ (b : Bool). cond b 1 0) other)))
]

-- ---- canonical

-- the codes so far are those below a number, numbered by first row
record SoFar (ks : List ℕ) : Type 0 where
  below : AreThoseBelow (different ks) ks
  numbered : AreNumbered ks (different ks)

start : SoFar []
unfolding different
start = record { below = none_below; numbered = λ k h. absurd (omega (arith, h)) }

is_here : (n k : ℕ) (ks : List ℕ) → AreThoseBelow n ks → k < n → has ks k ≡ true
is_here n k ks h lt = h k ∙ lt-ltb k n lt

step : (ks : List ℕ) (k : ℕ) → k ≤ different ks → SoFar ks → SoFar (ks ++ k ∷ [])
step ks k le s = record {
  below = one_more ks k s.below le;
  numbered = λ j lt. elim (cases_lt (j + 1) (different ks)) [
    | inl old ↦
        let a = first_among ks (k ∷ []) j (is_here (different ks) j ks s.below (omega (arith, old))) in
        let b = first_among ks (k ∷ []) (j + 1) (is_here (different ks) (j + 1) ks s.below old) in
        rw (a.0, b.0) (s.numbered j old)
    | inr new ↦ elim (cases_lt k (different ks)) [
      | inl same ↦ absurd (omega (
        arith,
        lt,
        new,
        different_push ks k,
        ap {B = ℕ} (λ (b : Bool). cond b 0 1) (is_here (different ks) k ks s.below same),
      ))
      | inr next ↦
          let apart : has ks k ≡ false = s.below k ∙ le-ltb k (different ks) next in
          let more : different (ks ++ k ∷ []) ≡ different ks + 1 = different_push ks k ∙ rw apart refl in
          let this : j + 1 ≡ k = omega (arith, lt, new, le, next, more) in
          let a = first_among ks (k ∷ []) j (is_here (different ks) j ks s.below (omega (arith, this, le))) in
          rw (this, a.0, first_behind ks [] k apart) a.1
    ]
  ];
}

pub fits_parts : (d left k : ℕ) (so_far : List ℕ) → fits_code d left so_far k ≡ true → (k < d)
    × (k ≤ different so_far) × ((nat_lt 0 left || eqb (different (so_far ++ k ∷ [])) d) ≡ true)
fits_parts d left k so_far h =
    let a = and_parts (nat_lt k d && nat_le k (different so_far)) (nat_lt 0 left
    || eqb (different (so_far ++ k ∷ [])) d) h in
    let b = and_parts (nat_lt k d) (nat_le k (different so_far)) a.0 in
    (ltb-true k d b.0, leb-true k (different so_far) b.1, a.1)

pub codes_canonical : (d : ℕ) (codes : List ℕ) → 0 < length codes
    → EachIs (λ left so_far k. fits_code d left so_far k ≡ true) [] codes → AreCanonical d codes
codes_canonical d codes some h =
    let Good = λ (left : ℕ) (so_far : List ℕ) (k : ℕ). fits_code d left so_far k ≡ true in
    let Last = λ (left : ℕ) (so_far : List ℕ) (k : ℕ). Unit {0}
    × ((nat_lt 0 left || eqb (different (so_far ++ k ∷ [])) d) ≡ true) in
    let s = each_to Good SoFar (λ left so_far k g t.
    step so_far k (fits_parts d left k so_far g).1 t) [] codes h start in
    let last = at_last (λ (k : ℕ). Unit {0}) (λ (ks : List ℕ). eqb (different ks) d) [] codes some
    (each_by Good Last (λ left so_far k g. (tt, (fits_parts d left k so_far g).2)) [] codes h) in
    let all : different codes ≡ d = eqb-true (different codes) d last.1 in
    record {
      codes_are = record {
        in_tuples = λ i lt. ltb-true (code_of codes i) d (ap (λ (n : ℕ). nat_lt (code_of codes i) n) (sym all)
            ∙ sym (s.below (code_of codes i)) ∙ has_at codes i lt);
        used = λ k lt. occurs codes k (is_here (different codes) k codes s.below (omega (arith, all, lt)));
      };
      numbered = subst (λ (n : ℕ). AreNumbered codes n) all s.numbered;
    }

-- codes that are numbered step by step are numbered
pub numbered_far : (codes : List ℕ) (d : ℕ) → AreNumbered codes d → (k n : ℕ) → k + suc n < d
    → first_row_of codes k < first_row_of codes (k + suc n)
numbered_far codes d h k zero lt = h k lt
numbered_far codes d h k (suc n) lt =
    let one = numbered_far codes d h k n (omega (arith, lt)) in
    let two = h (k + suc n) (omega (arith, lt)) in
    let same : (k + suc n) + 1 ≡ k + suc (suc n) = omega arith in
    rw (← same) (omega (arith, one, two))

pub numbered_apart : (codes : List ℕ) (d : ℕ) → AreNumbered codes d → (k l : ℕ) → k < l → l < d
    → first_row_of codes k < first_row_of codes l
numbered_apart codes d h k l lt below =
    let same : k + suc (l - suc k) ≡ l = omega (arith, lt) in
    subst (λ (m : ℕ). first_row_of codes k < first_row_of codes m) same (numbered_far codes d h k (l - suc k)
    (omega (arith, lt, below)))

-- at the end all have occurred
all_there : (d : ℕ) (codes : List ℕ) → AreCodesOf d codes → AreThoseBelow (different codes) codes → different codes
    ≡ d
all_there d codes c h = elim (cases_lt (different codes) d) [
  | inl few ↦ absurd (false≢true (sym (h (different codes)
      ∙ le-ltb (different codes) (different codes) (omega arith))
      ∙ has_occurring codes (different codes) (c.used (different codes) few)))
  | inr many ↦ elim (cases_lt d (different codes)) [
    | inl over ↦
        let there = is_here (different codes) d codes h over in
        let place = first_among codes [] d there in
        absurd (omega (arith, c.in_tuples (first_row_of codes d) place.1, first_holds codes d there))
    | inr same ↦ omega (arith, many, same)
  ]
]

last_test : (d : ℕ) (so_far : List ℕ) (k : ℕ) (items : List ℕ) → (items ≡ [] → different (so_far ++ k ∷ []) ≡ d)
    → (nat_lt 0 (length items) || eqb (different (so_far ++ k ∷ [])) d) ≡ true
last_test d so_far k [] h = or_right (nat_lt 0 0) (eqb (different (so_far ++ k ∷ [])) d)
    (eq-eqb (different (so_far ++ k ∷ [])) d (h refl))
last_test d so_far k (i ∷ items) h = or_left (nat_lt 0 (length (i ∷ items))) (eqb (different (so_far ++ k ∷ [])) d)
    (lt-ltb 0 (length (i ∷ items)) (omega arith))

pub codes_fit : (d : ℕ) (codes : List ℕ) → AreCanonical d codes → EachIs (λ left so_far k. fits_code d left so_far k
    ≡ true) [] codes
codes_fit d codes c =
    each_from (λ left so_far k. fits_code d left so_far k ≡ true) SoFar codes (λ so_far k items e s.
    let within : k < d = subst (λ (m : ℕ). m < d) (ap (λ (ks : List ℕ). code_of ks (length so_far)) e
    ∙ get_or_at so_far k items 0 (length so_far) refl) (c.codes_are.in_tuples (length so_far)
    (omega (arith, ap (λ (ks : List ℕ). length ks) e, length-append so_far (k ∷ items)))) in
    let le : k ≤ different so_far = elim (cases_lt (different so_far) k) [
      | inl past ↦
          let apart : has so_far k ≡ false = s.below k ∙ le-ltb k (different so_far) (omega (arith, past)) in
          let order = numbered_apart codes d c.numbered (different so_far) k past within in
          let at : first_row_of codes k ≡ length so_far = ap (λ (ks : List ℕ). first_row_of ks k) e
          ∙ first_behind so_far items k apart in
          let before : first_row_of (so_far ++ k ∷ items) (different so_far) < length so_far =
          subst (λ (ks : List ℕ). first_row_of ks (different so_far) < length so_far) e
          (omega (arith, order, at)) in
          absurd (false≢true (sym (s.below (different so_far)
          ∙ le-ltb (different so_far) (different so_far) (omega arith))
          ∙ first_within so_far (k ∷ items) (different so_far) before))
      | inr fine ↦ fine
    ] in
    let next = step so_far k le s in (
      and_from (nat_lt k d && nat_le k (different so_far)) (nat_lt 0 (length items)
          || eqb (different (so_far ++ k ∷ [])) d) (and_from (nat_lt k d) (nat_le k (different so_far))
          (lt-ltb k d within) (le-leb k (different so_far) le))
          (last_test d so_far k items (λ none. all_there d (so_far
          ++ k ∷ []) (subst (λ (ks : List ℕ). AreCodesOf d ks) (e
          ∙ ap (λ (rest : List ℕ). so_far ++ k ∷ rest) none) c.codes_are) next.below)),
      next,
    )) [] codes refl start
