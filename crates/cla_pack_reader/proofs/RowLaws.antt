-- One offset, read or refused, and a segment.
use Rattle.std.proofs.Common.{◌≡◌, ℕ, ◌+◌, ◌*◌, ◌<◌, ◌≤◌, Bool, true, false, List, [], ◌++◌, length, Result, Ok, Err}
use Rattle.std.proofs.Common.{sym, ap, subst, ◌∙◌, arith, inl, inr}
use Rattle.std.specs.Prelude.{nat_lt, nat_le, ◌&&◌, ◌||◌, not}
use Rattle.std.proofs.lemmas.Bool.{cases_lt, lt-ltb, le-ltb, ltb-true, ltb-false, le-leb, and_from, and_left}
use Rattle.std.proofs.lemmas.Bool.{and_right, and_parts, or_left, or_right, or_cases, or_parts, or_from, not-true}
use Rattle.std.proofs.lemmas.Bool.{not-false}
use Rattle.cla_packed.specs.declared.fault.FieldName.TheVariants.{Offset, Count}
use Rattle.cla_packed.specs.declared.fault.PackFault.{PackFault}
use Rattle.cla_packed.specs.declared.fault.PackFault.TheVariants.{Field}
use Rattle.cla_packed.specs.Fields.{Place, Read, number_at, field_at, then_at, list_at}
use Rattle.cla_packed.specs.Offsets.{fits_row, joined, segment_rows, fits_count, fits_offset, row_at, segment_at}
use Rattle.cla_pack_reader.specs.declared.walk.Walk.{Walk}
use Rattle.cla_pack_reader.specs.Places.{Places, Took, Refused}
use Rattle.cla_pack_reader.specs.Segments.{GivesRows}
use Rattle.cla_pack_reader.proofs.Steps.{Follows, took_field, refused_field, unfit_field, took_view, refused_view}
use Rattle.cla_pack_reader.proofs.Steps.{took_then, refused_first, refused_second}

module _ (size rows group : ℕ) (earlier before : List (List ℕ)) (so_far : List ℕ) (b a : Places) where
  offset_at : Place → Read ℕ
  offset_at = field_at 2 (fits_offset size rows earlier before so_far) group Offset

  pub row_ends : (e : PackFault) → Refused b (number_at 2 group Offset) e
      → Refused b (row_at size rows group earlier before so_far) e
  unfolding offset_at
  row_ends e bad = refused_view (λ (o : ℕ). length before * size + o) offset_at b b e
      (refused_field 2 group Offset (fits_offset size rows earlier before so_far) b b e bad)

  module _ (o base len : ℕ) (base_is : base ≡ length before * size) (len_is : len
      ≡ segment_rows size rows (length before)) (took : Took b a (number_at 2 group Offset) o) where
    pub row_reads : o < len → fits_row earlier (joined before ++ so_far) (base + o) ≡ true
        → Took b a (row_at size rows group earlier before so_far) (base + o)
    unfolding offset_at
    row_reads lt fits =
        let good : fits_offset size rows earlier before so_far o ≡ true =
        and_from (nat_lt o (segment_rows size rows (length before)))
        (fits_row earlier (joined before ++ so_far) (length before * size + o))
        (lt-ltb o (segment_rows size rows (length before)) (omega (arith, lt, len_is)))
        (ap (λ (n : ℕ). fits_row earlier (joined before ++ so_far) (n + o)) (sym base_is) ∙ fits) in
        subst (λ (n : ℕ). Took b a (row_at size rows group earlier before so_far) (n + o)) (sym base_is)
        (took_view (λ (o : ℕ). length before * size + o) offset_at b a o
        (took_field 2 group Offset (fits_offset size rows earlier before so_far) b a o took good))

    module _ (at : ℕ) (f : Follows b a) (here : (p : Place) → b true p → p.offset ≡ at) where
      refused : fits_offset size rows earlier before so_far o ≡ false
          → Refused b (row_at size rows group earlier before so_far) (Field group Offset at)
      unfolding offset_at
      refused bad = refused_view (λ (o : ℕ). length before * size + o) offset_at b b (Field group Offset at)
          (unfit_field 2 group Offset (fits_offset size rows earlier before so_far) b a o at f took bad here)

      pub row_over : len ≤ o → Refused b (row_at size rows group earlier before so_far) (Field group Offset at)
      row_over le =
          refused (and_left (nat_lt o (segment_rows size rows (length before)))
          (fits_row earlier (joined before ++ so_far) (length before * size + o))
          (le-ltb o (segment_rows size rows (length before)) (omega (arith, le, len_is))))

      pub row_unfit : fits_row earlier (joined before ++ so_far) (base + o) ≡ false
          → Refused b (row_at size rows group earlier before so_far) (Field group Offset at)
      row_unfit bad =
          refused (and_right (nat_lt o (segment_rows size rows (length before)))
          (fits_row earlier (joined before ++ so_far) (length before * size + o))
          (ap (λ (n : ℕ). fits_row earlier (joined before ++ so_far) (n + o)) (sym base_is) ∙ bad))

-- ---- a segment

pub at_count : (size rows left : ℕ) (before : List (List ℕ)) (len n : ℕ) (last started : Bool) →
    len ≡ segment_rows size rows (length before) → last ≡ not (nat_lt 0 left) →
    started ≡ nat_lt 0 (length (joined before))
    → n ≤ len → (last && not (started || nat_lt 0 n)) ≡ false → fits_count size rows left before n ≡ true
at_count size rows left before len n last started len_is last_is started_is le some =
    and_from (nat_le n (segment_rows size rows (length before)))
    (nat_lt 0 left || nat_lt 0 (length (joined before) + n))
    (le-leb n (segment_rows size rows (length before)) (omega (arith, le, len_is)))
    (elim (cases_lt 0 left) [
      | inl more ↦ or_left (nat_lt 0 left) (nat_lt 0 (length (joined before) + n)) (lt-ltb 0 left more)
      | inr none ↦ or_right (nat_lt 0 left) (nat_lt 0 (length (joined before) + n)) (
          let is_last : last ≡ true = last_is ∙ ap not (le-ltb 0 left none) in
          let either : (started || nat_lt 0 n) ≡ true =
          not-false (started || nat_lt 0 n) (sym (ap (λ (b : Bool). b && not (started || nat_lt 0 n)) is_last)
          ∙ some) in
          lt-ltb 0 (length (joined before) + n) (elim (or_cases started (nat_lt 0 n) either) [
            | inl there ↦ omega (arith, ltb-true 0 (length (joined before)) (sym started_is ∙ there))
            | inr here ↦ omega (arith, ltb-true 0 n here)
          ]))
    ])

pub no_count : (size rows left : ℕ) (before : List (List ℕ)) (n : ℕ) (last started : Bool) → last ≡ not (nat_lt 0 left)
    → started ≡ nat_lt 0 (length (joined before)) → (last && not (started || nat_lt 0 n)) ≡ true →
    fits_count size rows left before n ≡ false
no_count size rows left before n last started last_is started_is none =
    let p = and_parts last (not (started || nat_lt 0 n)) none in
    let q = or_parts started (nat_lt 0 n) (not-true (started || nat_lt 0 n) p.1) in
    let here : nat_lt 0 left ≡ false = not-true (nat_lt 0 left) (sym last_is ∙ p.0) in
    let empty : length (joined before) ≡ 0 = omega (arith, ltb-false 0 (length (joined before)) (sym started_is ∙ q.0))
    in
    and_right (nat_le n (segment_rows size rows (length before)))
    (nat_lt 0 left || nat_lt 0 (length (joined before) + n))
    (or_from (nat_lt 0 left) (nat_lt 0 (length (joined before) + n)) here
    (le-ltb 0 (length (joined before) + n) (omega (arith, empty, ltb-false 0 n q.1))))

module _ (size rows group : ℕ) (earlier : List (List ℕ)) (left : ℕ) (before : List (List ℕ)) (b m r : Places) where
  count_at : Place → Read ℕ
  count_at = field_at 2 (fits_count size rows left before) group Count

  rest_at : ℕ → Place → Read (List ℕ)
  rest_at n = list_at (λ left so_far. row_at size rows group earlier before so_far) n []

  pub segment_ends : (e : PackFault) → Refused b (number_at 2 group Count) e
      → Refused b (segment_at size rows group earlier left before) e
  unfolding count_at rest_at
  segment_ends e bad = refused_view (λ (x : ℕ × List ℕ). x.1) (then_at count_at rest_at) b b e
      (refused_first count_at rest_at b b b e
      (refused_field 2 group Count (fits_count size rows left before) b b e bad))

  module _ (n : ℕ) (f : Follows b m) (took : Took b m (number_at 2 group Count) n) where
    pub segment_refused : (at : ℕ) → ((p : Place) → b true p → p.offset ≡ at)
        → fits_count size rows left before n ≡ false
        → Refused b (segment_at size rows group earlier left before) (Field group Count at)
    unfolding count_at rest_at
    segment_refused at here bad =
        refused_view (λ (x : ℕ × List ℕ). x.1) (then_at count_at rest_at) b b (Field group Count at)
        (refused_first count_at rest_at b b b (Field group Count at)
        (unfit_field 2 group Count (fits_count size rows left before) b m n at f took bad here))

    pub segment_gives : (so_far : List ℕ) (marks : List Bool) (places : List ℕ) (floor : ℕ)
        (result : Result Walk PackFault) → fits_count size rows left before n ≡ true
        → GivesRows earlier so_far marks places floor result m r
        (list_at (λ left so_far. row_at size rows group earlier before so_far) n [])
        → GivesRows earlier so_far marks places floor result b r (segment_at size rows group earlier left before)
    unfolding count_at rest_at
    segment_gives so_far marks places floor (Ok walk) good g = (
      g.0,
      took_view (λ (x : ℕ × List ℕ). x.1) (then_at count_at rest_at) b r (n, g.0)
          (took_then count_at rest_at b m r n g.0
          (took_field 2 group Count (fits_count size rows left before) b m n took good) g.1),
      g.2,
    )
    segment_gives so_far marks places floor (Err e) good g =
        refused_view (λ (x : ℕ × List ℕ). x.1) (then_at count_at rest_at) b b e
        (refused_second count_at rest_at b m r n e f
        (took_field 2 group Count (fits_count size rows left before) b m n took good) g)
