-- What is read at a place is good, whichever bytes stand behind it.
use Rattle.std.proofs.Common.{◌≡◌, Bool, false, ℕ, ℤ, pos, ◌+◌, ◌*◌, ◌/◌, ◌^◌, ◌<◌, ◌≤◌, true, Option}
use Rattle.std.proofs.Common.{List, [], length, map, min, Ok, refl, sym, ap, subst, ◌∙◌, arith, inl, inr}
use Rattle.std.specs.Prelude.{nat_lt}
use Rattle.std.specs.List.{range_with_len}
use Rattle.std.proofs.lemmas.Bool.{cases_Bool, ltb-false, lt-ltb}
use Rattle.std.proofs.lemmas.List.FromFn.{length-map-range_with_len}
use Rattle.std.proofs.lemmas.Nat.{pow_pos}
use Rattle.cla_io.specs.Lines.{Progress}
use Rattle.cla_io.specs.State.{State}
use Rattle.cla_layout.specs.declared.kind.Kind.{Kind}
use Rattle.cla_layout.specs.declared.kind.Kind.TheVariants as kinds
use Rattle.cla_layout.specs.GroupLaws.{AreCodesOf}
use Rattle.cla_layout.specs.Listed.{rest_of}
use Rattle.cla_layout.specs.Tuples.{AreCodes, tuple_at, tuples_of}
use Rattle.cla_coded.specs.AnyGroups.{FormOf, form_of}
use Rattle.cla_packed.specs.declared.fault.FieldName.{FieldName}
use Rattle.cla_packed.specs.declared.fault.FieldName.TheVariants.{Tuples}
use Rattle.cla_packed.specs.declared.fault.PackFault.TheVariants.{Field}
use Rattle.cla_packed.specs.Bodies.{Body, IsBody, body_of, fits_tuples, is_new, coded_at}
use Rattle.cla_packed.specs.Codes.{code_bytes, codes_at}
use Rattle.cla_packed.specs.Fields.{Place, Read, number_at, field_at, then_at, as_at, tested, ◌>>=◌}
use Rattle.cla_packed.specs.Files.{own_codes}
use Rattle.cla_packed.specs.Values.{tuples_at}
use Rattle.cla_packed_laws.proofs.Coded.{coded_form}
use Rattle.cla_packed_laws.proofs.Forms.{IsAt, bind_ok}
use Rattle.cla_pack_reader.specs.Bodies.{body_seen}
use Rattle.cla_pack_reader.specs.Places.{places_of, Took}
use Rattle.cla_pack_reader.proofs.CodedLaws.{with_codes}
use Rattle.cla_pack_reader.proofs.ZeroLaws.{none_bytes}
use Rattle.cla_spec.specs.Bytes.{Holds}
use Rattle.cla_spec.specs.Numbers.{in_range}

-- ---- the first field

here_number : (k group : ℕ) (name : FieldName) (p q : Place) (n : ℕ) → number_at k group name p ≡ Ok (n, q)
    → p.offset ≤ p.limit
unfolding number_at
here_number k group name p q n h = elim (cases_Bool (nat_lt p.limit (p.offset + min k (length p.rest)))) [
  | inl past ↦ (let e = rw past at h in cc)
  | inr in_limit ↦ omega (arith, ltb-false p.limit (p.offset + min k (length p.rest)) in_limit)
]

here_field : (k : ℕ) (test : ℕ → Bool) (group : ℕ) (name : FieldName) (p q : Place) (n : ℕ)
    → field_at k test group name p ≡ Ok (n, q) → p.offset ≤ p.limit
unfolding field_at
here_field k test group name p q n h =
    let b = bind_ok (number_at k group name p) (λ x. tested (test x.0) (Field group name p.offset) x) (n, q) h in
    here_number k group name p b.0.1 b.0.0 b.1

first_read : {A B : Type 0} (first : Place → Read A) (second : A → Place → Read B) (p q : Place) (x : A × B)
    → then_at first second p ≡ Ok (x, q) → (a : A × Place) × (first p ≡ Ok a)
unfolding then_at
first_read first second p q x e =
    let a = bind_ok (first p) (λ a. second a.0 a.1 >>= λ b. Ok ((a.0, b.0), b.1)) (x, q) e in
    (a.0, a.1)

seen_read : {A B : Type 0} (view : A → B) (read : Place → Read A) (p q : Place) (b : B)
    → as_at view read p ≡ Ok (b, q) → (a : A × Place) × (read p ≡ Ok a)
unfolding as_at
seen_read view read p q b e =
    let a = bind_ok (read p) (λ a. Ok (view a.0, a.1)) (b, q) e in
    (a.0, a.1)

coded_here : (bits group rows width : ℕ) (p q : Place) (body : Body)
    → coded_at 8 bits group rows width p ≡ Ok (body, q) → p.offset ≤ p.limit
coded_here bits group rows width p q body h =
    let count = field_at 4 (fits_tuples rows) group Tuples in
    let behind = λ (d : ℕ). then_at (tuples_at 8 bits group width is_new d)
    (λ tuples. codes_at (code_bytes d) group d rows) in
    let all = seen_read body_of (then_at count behind) p q body h in
    let first = first_read count behind p all.0.1 all.0.0 all.1 in
    here_field 4 (fits_tuples rows) group Tuples p first.0.1 first.0.0 first.1

module _ (bits group rows width : ℕ) (t1 t2 : Progress) (s1 s2 : State) (body : Body) (some : 0 < rows)
    (few : rows < 2 ^ 31) (wide : 0 < width) where
  end_of_input : Place
  end_of_input = record { offset = t2.at; limit = t2.limit; rest = [] }

  -- the body of a group with a code for each row
  pub coded_good : Took (places_of t1 s1) (places_of t2 s2) (coded_at 8 bits group rows width) body
      → IsBody 8 bits rows width body
  unfolding end_of_input
  coded_good took =
      let p = took false end_of_input (refl, refl, none_bytes) in
      let at : IsAt p.0 = record {
        fits = p.1.2;
        near = coded_here bits group rows width p.0 end_of_input body p.2;
      } in
      ((coded_form 8 bits group rows width some (omega (arith, few)) wide).takes p.0 end_of_input body at p.2).0

-- ---- codes and tuples that groups are made of

pub codes_are : {N : Type 0} (value : N → ℤ) (bits rows width : ℕ) (codes : List ℕ) (values : List N) → 1 ≤ rows
    → 1 ≤ width → rows * width ≤ 2 ^ 26 → length values ≡ (length values / width) * width
    → IsBody 8 bits rows width (body_seen value width codes values)
    → AreCodes width (length values / width) codes (length values)
codes_are value bits rows width codes values some wide few whole h =
    let n = length values / width in
    let count : length (tuples_of width n (map value values)) ≡ n =
    length-map-range_with_len (tuple_at width (map value values)) 0 n in
    let size : length codes ≡ rows = h.a_code_each in
    let are : AreCodesOf n codes = subst (λ (m : ℕ). AreCodesOf m codes) count h.canonical.codes_are in
    record {
      a_row = omega (arith, size, some);
      a_column = wide;
      few_cells = subst (λ (m : ℕ). m * width ≤ 2 ^ 26) (sym size) few;
      whole = whole;
      in_tuples = are.in_tuples;
      used = are.used;
    }

pub form_kind : (kind : Kind) (codes : List ℕ) (tuples : List (List ℤ)) → (form_of kind codes tuples).kind ≡ kind
form_kind kinds.Plain codes tuples = refl
form_kind kinds.Codes codes tuples = refl
form_kind kinds.Offsets codes tuples = refl
form_kind kinds.Runs codes tuples = refl

-- a tuple of its own for each row
pub own_are : (width rows n : ℕ) (codes : List ℕ) (tuples : List (List ℤ)) (values : List ℤ) → rows ≡ n
    → codes ≡ range_with_len 0 n → tuples ≡ tuples_of width n values
    → own_codes rows (tuples_of width rows values) ≡ with_codes codes tuples
own_are width rows n codes tuples values is c t =
    ap (λ (m : ℕ). own_codes m (tuples_of width m values)) is
    ∙ λ i. with_codes (sym c i) (sym t i)

-- ---- kinds

pub zero_fits : (bits : ℕ) → Holds 8 (pos 0) × (in_range bits (pos 0) ≡ true)
zero_fits bits = (omega arith, lt-ltb 0 (2 ^ bits) (pow_pos bits))

-- a form tells its kind
pub kind_is : (kind : Kind) (codes : List ℕ) (tuples : List (List ℤ)) (form : FormOf) → form ≡ form_of kind codes tuples
    → kind ≡ form.kind
kind_is kind codes tuples form is = sym (ap (λ (f : FormOf). f.kind) is ∙ form_kind kind codes tuples)

pub its_form : (kind : Kind) (codes : List ℕ) (tuples : List (List ℤ)) (form : FormOf)
    → form ≡ form_of kind codes tuples → form ≡ form_of form.kind codes tuples
its_form kind codes tuples form is =
    subst (λ (k : Kind). form ≡ form_of k codes tuples) (kind_is kind codes tuples form is) is

-- ---- as groups of listed tuples are kept

abbrev formed : Kind → Option ℕ → FormOf
formed kind rest = record { kind = kind; code_bytes = 0; rest = rest }

pub offsets_formed : (codes : List ℕ) (tuples : List (List ℤ)) (rest : Option ℕ) → rest ≡ rest_of codes tuples
    → formed kinds.Offsets rest ≡ form_of kinds.Offsets codes tuples
offsets_formed codes tuples rest e = ap (formed kinds.Offsets) e

pub runs_formed : (codes : List ℕ) (tuples : List (List ℤ)) (rest : Option ℕ) → rest ≡ rest_of codes tuples
    → formed kinds.Runs rest ≡ form_of kinds.Runs codes tuples
runs_formed codes tuples rest e = ap (formed kinds.Runs) e

-- the same codes and tuples
pub same_body : (codes codes' : List ℕ) (tuples tuples' : List (List ℤ)) → codes ≡ codes' → tuples ≡ tuples'
    → with_codes codes tuples ≡ with_codes codes' tuples'
same_body codes codes' tuples tuples' c t = λ i. with_codes (c i) (t i)
