-- The body of a group with a code for each row, field by field.
use Rattle.std.proofs.Common.{◌≡◌, ℕ, ℤ, ◌+◌, ◌*◌, ◌/◌, ◌≤◌, Bool, true, false, List, length, refl, sym, ap, subst}
use Rattle.std.proofs.Common.{◌∙◌, arith}
use Rattle.std.specs.Prelude.{◌&&◌, not}
use Rattle.std.proofs.lemmas.Nat.{div-mul-add}
use Rattle.cla_packed.specs.declared.fault.FieldName.TheVariants.{Tuples}
use Rattle.cla_packed.specs.declared.fault.PackFault.{PackFault}
use Rattle.cla_packed.specs.Bodies.{Body, body_of, fits_tuples, is_new, coded_at}
use Rattle.cla_packed.specs.Codes.{code_bytes, codes_at}
use Rattle.cla_packed.specs.Fields.{Place, Read, field_at, then_at}
use Rattle.cla_packed.specs.Values.{is_among, tuples_at}
use Rattle.cla_pack_reader.specs.Bodies.{AreWholeTuples}
use Rattle.cla_pack_reader.specs.Places.{Places, Took, Refused}
use Rattle.cla_pack_reader.specs.Ranges.{within}
use Rattle.cla_pack_reader.specs.Tuples.{fits_tuple}
use Rattle.cla_pack_reader.proofs.Steps.{Follows, took_view, refused_view, took_then, refused_first, refused_second}

and_true : (b : Bool) → (b && true) ≡ b
and_true true = refl
and_true false = refl

pub took_new : (k bits group width n : ℕ) (b a : Places) (ts : List (List ℤ))
    → Took b a (tuples_at k bits group width (λ left before. fits_tuple false before) n) ts
    → Took b a (tuples_at k bits group width is_new n) ts
took_new k bits group width n b a ts =
    subst (λ (whole : ℕ → List (List ℤ) → List ℤ → Bool). Took b a (tuples_at k bits group width whole n) ts)
    (λ i left before tuple. and_true (not (is_among before tuple)) i)

pub refused_new : (k bits group width n : ℕ) (b : Places) (e : PackFault)
    → Refused b (tuples_at k bits group width (λ left before. fits_tuple false before) n) e
    → Refused b (tuples_at k bits group width is_new n) e
refused_new k bits group width n b e =
    subst (λ (whole : ℕ → List (List ℤ) → List ℤ → Bool). Refused b (tuples_at k bits group width whole n) e)
    (λ i left before tuple. and_true (not (is_among before tuple)) i)

abbrev pub with_codes : List ℕ → List (List ℤ) → Body
with_codes codes tuples = record { codes = codes; tuples = tuples }

-- how many tuples these values are
pub tuples_in : (width n values : ℕ) → 1 ≤ width → values ≡ n * width → n ≡ values / width
tuples_in width n values some whole =
    let more : values ≡ n * width + 0 = omega (arith, whole) in
    sym (ap (λ (m : ℕ). m / width) more ∙ div-mul-add n width 0 (omega (arith, some)))

pub whole_in : {N : Type 0} (width n : ℕ) (values : List N) → 1 ≤ width → length values ≡ n * width
    → AreWholeTuples width values
whole_in width n values some whole =
    whole ∙ ap (λ (m : ℕ). m * width) (tuples_in width n (length values) some whole)

module _ (bits group rows width : ℕ) (b m : Places) (d : ℕ)
    (took : Took b m (field_at 4 (within 1 rows) group Tuples) d) where
  front : Place → Read ℕ
  front = field_at 4 (fits_tuples rows) group Tuples

  tuples_behind : ℕ → Place → Read (List (List ℤ))
  tuples_behind d = tuples_at 8 bits group width is_new d

  codes_behind : ℕ → List (List ℤ) → Place → Read (List ℕ)
  codes_behind d tuples = codes_at (code_bytes d) group d rows

  behind_count : ℕ → Place → Read (List (List ℤ) × List ℕ)
  behind_count d = then_at (tuples_behind d) (codes_behind d)

  pub coded_tuples : (e : PackFault) → Follows b m
      → Refused m (tuples_at 8 bits group width (λ left before. fits_tuple false before) d) e
      → Refused b (coded_at 8 bits group rows width) e
  unfolding front tuples_behind codes_behind behind_count
  coded_tuples e f bad = refused_view body_of (then_at front behind_count) b b e
      (refused_second front behind_count b m m d e f took
      (refused_first (tuples_behind d) (codes_behind d) m m m e (refused_new 8 bits group width d m e bad)))

  module _ (r : Places) (ts : List (List ℤ))
      (tuples_took : Took m r (tuples_at 8 bits group width (λ left before. fits_tuple false before) d) ts) where
    pub coded_codes : (e : PackFault) → Follows b m → Follows m r
        → Refused r (codes_at (code_bytes d) group d rows) e → Refused b (coded_at 8 bits group rows width) e
    unfolding front tuples_behind codes_behind behind_count
    coded_codes e f g bad = refused_view body_of (then_at front behind_count) b b e
        (refused_second front behind_count b m m d e f took
        (refused_second (tuples_behind d) (codes_behind d) m r r ts e g
        (took_new 8 bits group width d m r ts tuples_took) bad))

    pub coded_took : (a : Places) (codes : List ℕ) → Took r a (codes_at (code_bytes d) group d rows) codes
        → Took b a (coded_at 8 bits group rows width) (with_codes codes ts)
    unfolding front tuples_behind codes_behind behind_count
    coded_took a codes last = took_view body_of (then_at front behind_count) b a (d, (ts, codes))
        (took_then front behind_count b m a d (ts, codes) took
        (took_then (tuples_behind d) (codes_behind d) m r a ts codes
        (took_new 8 bits group width d m r ts tuples_took) last))

pub coded_count : (bits group rows width : ℕ) (b : Places) (e : PackFault)
    → Refused b (field_at 4 (within 1 rows) group Tuples) e → Refused b (coded_at 8 bits group rows width) e
coded_count bits group rows width b e bad =
    refused_view body_of (then_at (field_at 4 (fits_tuples rows) group Tuples)
    (λ d. then_at (tuples_at 8 bits group width is_new d) (λ tuples. codes_at (code_bytes d) group d rows))) b b e
    (refused_first (field_at 4 (fits_tuples rows) group Tuples)
    (λ d. then_at (tuples_at 8 bits group width is_new d) (λ tuples. codes_at (code_bytes d) group d rows)) b b b e bad)
