-- A value of some bytes, and the values of a tuple.
use Rattle.std.proofs.Common.{◌≡◌, ℕ, ℤ, ◌+◌, ◌-◌, ◌<◌, ◌≤◌, List, [], ◌∷◌, ◌++◌, length, map, Bool, true, false}
use Rattle.std.proofs.Common.{Result, Ok, Err, ap, subst, ◌∙◌, arith, append_assoc}
use Rattle.std.specs.Prelude.{nat_lt, ◌||◌, OnOk}
use Rattle.std.proofs.lemmas.Bool.{lt-ltb, and_from, and_left, and_right, or_left}
use Rattle.std.proofs.lemmas.List.{length-append}
use Rattle.cla_spec.specs.Bytes.{signed_of}
use Rattle.cla_spec.specs.Numbers.{in_range}
use Rattle.cla_packed.specs.declared.fault.PackFault.{PackFault}
use Rattle.cla_packed.specs.declared.fault.PackFault.TheVariants.{Field}
use Rattle.cla_packed.specs.declared.fault.FieldName.TheVariants.{Value}
use Rattle.cla_packed.specs.Fields.{Place, number_at, field_at, Fails}
use Rattle.cla_packed.specs.Values.{value_at, fits_value}
use Rattle.cla_pack_reader.specs.Places.{Places, Took, Refused}
use Rattle.cla_pack_reader.specs.Values.{TestsRange, GivesPushed, GivesTuple}
use Rattle.cla_pack_reader.proofs.Loops.{field_reads, field_fails, field_ends, view_reads, view_ends}
use Rattle.cla_pack_reader.proofs.Steps.{Follows, Decides, decides_more, took_list, refused_list}

module _ (k group : ℕ) (test : ℤ → Bool) (p q : Place) where
  value_ends : (e : PackFault) → Fails e (number_at k group Value p) → Fails e (value_at k test group p)
  unfolding value_at
  value_ends e h = view_ends (signed_of k) (field_at k (λ n. test (signed_of k n)) group Value) p e
      (field_ends k (λ n. test (signed_of k n)) group Value p e h)

  value_reads : (n : ℕ) (v : ℤ) → number_at k group Value p ≡ Ok (n, q) → signed_of k n ≡ v → test v ≡ true
      → value_at k test group p ≡ Ok (v, q)
  unfolding value_at
  value_reads n v h is good = view_reads (signed_of k) (field_at k (λ n. test (signed_of k n)) group Value) p q n
      (field_reads k (λ n. test (signed_of k n)) group Value p q n h (ap test is ∙ good)) ∙ ap (λ (x : ℤ). Ok (x, q)) is

  value_fails : (n : ℕ) (v : ℤ) → number_at k group Value p ≡ Ok (n, q) → signed_of k n ≡ v → test v ≡ false
      → value_at k test group p ≡ Err (Field group Value p.offset)
  unfolding value_at
  value_fails n v h is bad = view_ends (signed_of k) (field_at k (λ n. test (signed_of k n)) group Value) p
      (Field group Value p.offset)
      (field_fails k (λ n. test (signed_of k n)) group Value p q n h (ap test is ∙ bad))

module _ (k group : ℕ) (test : ℤ → Bool) (b a : Places) where
  pub took_value : (n : ℕ) (v : ℤ) → Took b a (number_at k group Value) n → signed_of k n ≡ v → test v ≡ true
      → Took b a (value_at k test group) v
  took_value n v took is good told q h =
      let t = took told q h in
      (t.0, t.1, value_reads k group test t.0 q n v t.2 is good)

  pub refused_value : (e : PackFault) → Refused b (number_at k group Value) e → Refused b (value_at k test group) e
  refused_value e bad p h = value_ends k group test p p e (bad p h)

  pub unfit_value : (n : ℕ) (v : ℤ) (at : ℕ) → Follows b a → Took b a (number_at k group Value) n → signed_of k n ≡ v
      → test v ≡ false → ((p : Place) → b true p → p.offset ≡ at)
      → Refused b (value_at k test group) (Field group Value at)
  unfit_value n v at f took is bad here p h =
      let q = f.there p h in
      let t = took true q.0 q.1 in
      let read = subst (λ (r : Place). number_at k group Value r ≡ Ok (n, q.0)) (f.same t.0 p t.1 h) t.2 in
      value_fails k group test p q.0 n v read is bad ∙ ap (λ (o : ℕ). Err (Field group Value o)) (here p h)

-- ---- the values of a tuple

module _ (bits : ℕ) (whole : List ℤ → Bool) (left : ℕ) (so_far : List ℤ) where
  pub tests_range : TestsRange bits (fits_value bits whole left so_far)
  tests_range v out = and_left (in_range bits v) (nat_lt 0 left || whole (so_far ++ v ∷ [])) out

  pub before_last : (v : ℤ) → in_range bits v ≡ true → 0 < left → fits_value bits whole left so_far v ≡ true
  before_last v inside more = and_from (in_range bits v) (nat_lt 0 left || whole (so_far ++ v ∷ [])) inside
      (or_left (nat_lt 0 left) (whole (so_far ++ v ∷ [])) (lt-ltb 0 left more))

module _ (bits : ℕ) (whole : List ℤ → Bool) (so_far : List ℤ) (v : ℤ) where
  pub last_fits : in_range bits v ≡ true → whole (so_far ++ v ∷ []) ≡ true → fits_value bits whole 0 so_far v ≡ true
  last_fits inside good = and_from (in_range bits v) (nat_lt 0 0 || whole (so_far ++ v ∷ [])) inside good

  pub last_unfit : whole (so_far ++ v ∷ []) ≡ false → fits_value bits whole 0 so_far v ≡ false
  last_unfit bad = and_right (in_range bits v) (nat_lt 0 0 || whole (so_far ++ v ∷ [])) bad

module _ {N : Type 0} (value : N → ℤ) (k bits group width i : ℕ) (whole : List ℤ → Bool) (old mid new : List N)
    (so_far : List ℤ) (b m a : Places) (from end : ℕ) where
  step : ℕ → List ℤ → Place → Result (ℤ × Place) PackFault
  step left so_far = value_at k (fits_value bits whole left so_far) group

  -- the last value ends the tuple, or is the fault
  pub tuple_done : (result : Result (Unit {0}) PackFault) → OnOk result (end ≡ from + 8)
      → Follows b m → i < width → width - 1 ≤ i
      → map value mid ≡ map value old ++ so_far → length so_far ≡ i
      → Decides b m (λ left so_far. value_at k (fits_value bits whole left so_far) group) width i so_far
      → GivesPushed value k bits (fits_value bits whole 0 so_far) group m a from mid new result
      → GivesTuple value k bits group width whole b a (end - 8) old new result
  unfolding step
  tuple_done (Ok u) moved f lt last held count before gives =
      let v = gives.0 in
      let at : from ≡ end - 8 = omega (arith, moved) in (
        so_far ++ v ∷ [],
        gives.1 ∙ ap (λ (l : List ℤ). l ++ v ∷ []) held ∙ append_assoc (map value old) so_far (v ∷ []),
        omega (arith, count, lt, last, length-append so_far (v ∷ [])),
        λ good. took_list b a step width (i + 1) (so_far ++ v ∷ []) (omega (arith, lt, last))
            (decides_more b m a step width i 0 so_far v lt (omega (arith, lt, last)) before
            (gives.3 (last_fits bits whole so_far v gives.2 good))),
        λ bad. refused_list b m step width i 0 so_far (Field group Value (end - 8)) lt (omega (arith, lt, last)) f
            before (subst (λ (o : ℕ). Refused m (step 0 so_far) (Field group Value o)) at
            (gives.4 (last_unfit bits whole so_far v bad))),
      )
  tuple_done (Err e) moved f lt last held count before gives =
      refused_list b m step width i 0 so_far e lt (omega (arith, lt, last)) f before gives
