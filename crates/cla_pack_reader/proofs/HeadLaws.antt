-- What stands before the lists of a group that lists its tuples with their rows, field by field.
use Rattle.std.proofs.Common.{◌≡◌, ℕ, ℤ, Bool, List, [], Ok, Err, refl, sym, ap, ◌∙◌, arith, inl, inr}
use Rattle.std.specs.Prelude.{nat_le, nat_lt, ◌&&◌, not, ◌==◌, if◌then◌else◌}
use Rattle.std.proofs.lemmas.Bool.{cases_lt, le-leb, lt-leb, lt-ltb, le-ltb}
use Rattle.cla_packed.specs.declared.fault.FieldName.TheVariants.{Tuples, Rest, Cover}
use Rattle.cla_packed.specs.declared.fault.PackFault.{PackFault}
use Rattle.cla_packed.specs.Fields.{Place, Read, field_at, checked_at, then_at, list_at, as_at, ◌>>=◌}
use Rattle.cla_packed.specs.Rests.{all_named, fits_listed, Parts, body_of_parts, listed_at}
use Rattle.cla_packed.specs.Values.{tuples_at}
use Rattle.cla_pack_reader.specs.Places.{Places, Took, Refused}
use Rattle.cla_pack_reader.specs.ListedParts.{flag, behind_tuples, HeadOf}
use Rattle.cla_pack_reader.specs.Ranges.{within}
use Rattle.cla_pack_reader.proofs.CodeLaws.{took_same, refused_same}
use Rattle.cla_pack_reader.proofs.Steps.{Follows, refused_view, refused_first, refused_second}

-- ---- the tests

count_test : (rows n : ℕ) → within 0 rows n ≡ nat_le n rows
count_test rows n = ap (λ (b : Bool). b && nat_le n rows) (le-leb 0 n (omega arith))

flag_test : (n : ℕ) → within 0 1 n ≡ nat_lt n 2
flag_test n = ap (λ (b : Bool). b && nat_le n 1) (le-leb 0 n (omega arith)) ∙ elim (cases_lt n 2) [
  | inl lt ↦ le-leb n 1 (omega (arith, lt)) ∙ sym (lt-ltb n 2 lt)
  | inr ge ↦ lt-leb n 1 (omega (arith, ge)) ∙ sym (le-ltb n 2 ge)
]

-- ---- one thing, and what stands behind it

abbrev paired : {A B : Type 0} → A → B × Place → Read (A × B)
paired a b = Ok ((a, b.0), b.1)

abbrev viewed : {A B : Type 0} → (A → B) → A × Place → Read B
viewed view a = Ok (view a.0, a.1)

seen_behind : {A B C : Type 0} (view : A × B → C) (a : A) (x : Read B)
    → ((x >>= paired a) >>= viewed view) ≡ (x >>= viewed (λ b. view (a, b)))
seen_behind view a (Ok b) = refl
seen_behind view a (Err e) = refl

-- once the first thing is read, the second decides
step_behind : {A B C : Type 0} (view : A × B → C) (first : Place → Read A) (second : A → Place → Read B) (p q : Place)
    (a : A) → first p ≡ Ok (a, q) → as_at view (then_at first second) p ≡ as_at (λ b. view (a, b)) (second a) q
unfolding as_at then_at
step_behind view first second p q a h = rw h (seen_behind view a (second a q))

-- ---- the fields

module _ (one : List (List ℕ) → Place → Read (List ℕ)) (bits group rows width : ℕ) where
  count_at : Place → Read ℕ
  count_at = field_at 4 (λ d. nat_le d rows) group Tuples

  flag_at : Place → Read ℕ
  flag_at = field_at 1 (λ rest. nat_lt rest 2) group Rest

  dictionary_at : ℕ → Place → Read (List (List ℤ))
  dictionary_at d = tuples_at 8 bits group width fits_listed d

  rows_lists_at : ℕ → Place → Read (List (List ℕ))
  rows_lists_at d = list_at (λ left earlier. one earlier) d []

  cover_at : ℕ → List (List ℕ) → Place → Read (Unit {0})
  cover_at rest lists = checked_at (if rest == 0 then all_named rows lists else not (all_named rows lists)) group Cover

  after_lists : ℕ → ℕ → Place → Read (List (List ℕ) × Unit {0})
  after_lists d rest = then_at (rows_lists_at d) (cover_at rest)

  after_flag : ℕ → ℕ → Place → Read (List (List ℤ) × (List (List ℕ) × Unit {0}))
  after_flag d rest = then_at (dictionary_at d) (λ tuples. after_lists d rest)

  after_count : ℕ → Place → Read (ℕ × (List (List ℤ) × (List (List ℕ) × Unit {0})))
  after_count d = then_at flag_at (after_flag d)

  all_at : Place → Read Parts
  all_at = then_at count_at after_count

  module _ (b : Places) where
    whole_refused : (e : PackFault) → Refused b all_at e → Refused b (listed_at one 8 bits group rows width) e
    unfolding count_at flag_at dictionary_at rows_lists_at cover_at after_lists after_flag after_count all_at
    whole_refused e bad = refused_view (body_of_parts rows width) all_at b b e bad

    pub no_count : (e : PackFault) → Refused b (field_at 4 (within 0 rows) group Tuples) e
        → Refused b (listed_at one 8 bits group rows width) e
    unfolding count_at all_at
    no_count e bad = whole_refused e (refused_first count_at after_count b b b e
        (refused_same 4 group Tuples (within 0 rows) (λ d. nat_le d rows) b e (count_test rows) bad))

    module _ (m1 : Places) (d : ℕ) (f1 : Follows b m1)
        (took1 : Took b m1 (field_at 4 (within 0 rows) group Tuples) d) where
      counted : Took b m1 count_at d
      unfolding count_at
      counted = took_same 4 group Tuples (within 0 rows) (λ d. nat_le d rows) b m1 d (count_test rows) took1

      behind_count : (e : PackFault) → Refused m1 (after_count d) e
          → Refused b (listed_at one 8 bits group rows width) e
      unfolding all_at
      behind_count e bad = whole_refused e (refused_second count_at after_count b m1 m1 d e f1 counted bad)

      pub no_flag : (e : PackFault) → Refused m1 (field_at 1 (within 0 1) group Rest) e
          → Refused b (listed_at one 8 bits group rows width) e
      unfolding flag_at after_count
      no_flag e bad = behind_count e (refused_first flag_at (after_flag d) m1 m1 m1 e
          (refused_same 1 group Rest (within 0 1) (λ rest. nat_lt rest 2) m1 e flag_test bad))

      module _ (m2 : Places) (rest : ℕ) (f2 : Follows m1 m2)
          (took2 : Took m1 m2 (field_at 1 (within 0 1) group Rest) rest) where
        flagged : Took m1 m2 flag_at rest
        unfolding flag_at
        flagged = took_same 1 group Rest (within 0 1) (λ rest. nat_lt rest 2) m1 m2 rest flag_test took2

        behind_flag : (e : PackFault) → Refused m2 (after_flag d rest) e
            → Refused b (listed_at one 8 bits group rows width) e
        unfolding after_count
        behind_flag e bad = behind_count e (refused_second flag_at (after_flag d) m1 m2 m2 rest e f2 flagged bad)

        pub no_tuples : (e : PackFault) → Refused m2 (tuples_at 8 bits group width fits_listed d) e
            → Refused b (listed_at one 8 bits group rows width) e
        unfolding dictionary_at after_flag
        no_tuples e bad = behind_flag e
            (refused_first (dictionary_at d) (λ tuples. after_lists d rest) m2 m2 m2 e bad)

        module _ (m3 : Places) (ts : List (List ℤ)) (f3 : Follows m2 m3)
            (took3 : Took m2 m3 (tuples_at 8 bits group width fits_listed d) ts) where
          -- the lists decide
          pub head_is : (has_rest : Bool) → rest ≡ flag has_rest → HeadOf one bits group rows width b m3 d has_rest ts
          unfolding count_at flag_at dictionary_at rows_lists_at cover_at after_lists after_flag after_count all_at
          head_is has_rest rest_is told q h =
              let t3 = took3 told q h in
              let t2 = flagged told t3.0 t3.1 in
              let t1 = counted told t2.0 t2.1 in
              let view = body_of_parts rows width in (
                t1.0,
                t1.1,
                step_behind view count_at after_count t1.0 t2.0 d t1.2
                    ∙ step_behind (λ x. view (d, x)) flag_at (after_flag d) t2.0 t3.0 rest t2.2
                    ∙ step_behind (λ x. view (d, (rest, x))) (dictionary_at d) (λ tuples. after_lists d rest) t3.0 q ts
                    t3.2
                    ∙ ap (λ (n : ℕ). behind_tuples one group rows width d n ts q) rest_is,
              )
