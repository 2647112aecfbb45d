-- The number that an input gives is that of the next field.
use Rattle.std.proofs.Common.{◌≡◌, ℕ, zero, suc, ◌+◌, ◌^◌, ◌<◌, ◌≤◌, ◌/◌, min, List, ◌++◌, length, Option, Some, None}
use Rattle.std.proofs.Common.{IsSome, true, false, Ok, Err, refl, sym, ap, subst, ◌∙◌, arith}
use Rattle.std.proofs.lemmas.Bool.{lt-ltb, le-ltb}
use native.Mathlib.Numerals.{unary_clauses}
use Rattle.cla_spec.specs.Bytes.{bytes_of, past}
use Rattle.cla_spec.specs.Files.{Told}
use Rattle.cla_io.specs.State.{State, Reading, left, left_where_told}
use Rattle.cla_io.specs.Lines.{Progress, ahead_of}
use Rattle.cla_io.specs.Numbers as io
use Rattle.cla_io.specs.declared.stop.InFault.TheVariants as in_faults
use Rattle.cla_packed.specs.declared.fault.FieldName.{FieldName}
use Rattle.cla_packed.specs.declared.fault.PackFault.{PackFault}
use Rattle.cla_packed.specs.declared.fault.PackFault.TheVariants.{Field, TooLong}
use Rattle.cla_packed.specs.Fields.{Place, IsBytes, Fails, number_at}
use Rattle.cla_packed_laws.proofs.Forms.{length-bytes_of, number_form}
use Rattle.cla_pack_reader.specs.Places.{place_at, place_of, places_of, IsTold, Took, Refused}

left_told : (told : Option Told) (r : Option Reading) → IsSome told → IsSome (left_where_told told r)
left_told None r h = cc
left_told (Some t) r h = refl

pub told_left : (s : State) → IsTold s → IsSome (left s)
told_left s h = left_told s.told s.reading h

module _ (k group : ℕ) (name : FieldName) (old new : Progress) where
  pub number_taken : (l0 l1 : Option (List ℕ)) (n : ℕ) → IsSome l0 → new.limit ≡ old.limit → new.at ≡ old.at + k
      → io.TakesNumberWhereTold k old (ahead_of old l0) (ahead_of new l1) (Ok (Some n))
      → number_at k group name (place_at old l0) ≡ Ok (n, place_at new l1)
  unfolding number_at
  number_taken None l1 n some limit at t = cc
  number_taken (Some x) None n some limit at t = absurd t
  number_taken (Some x) (Some y) n some limit at t =
      let bytes = old.ahead ++ x in
      rw (
        le-ltb old.limit (old.at + min k (length bytes)) (omega (arith, t.0, t.3)),
        le-ltb (length bytes) k t.0,
        limit,
        at,
        t.1,
        t.2,
      ) refl

  pub number_cut : (l0 l1 : Option (List ℕ)) → IsSome l0
      → io.TakesNumberWhereTold k old (ahead_of old l0) (ahead_of new l1) (Ok None)
      → number_at k group name (place_at old l0) ≡ Err (Field group name old.at)
  unfolding number_at
  number_cut None l1 some t = cc
  number_cut (Some x) None some t = absurd t
  number_cut (Some x) (Some y) some t =
      let bytes = old.ahead ++ x in
      rw (le-ltb old.limit (old.at + min k (length bytes)) (omega (arith, t.0, t.2)), lt-ltb (length bytes) k t.0) refl

  pub number_past : (l0 l1 : Option (List ℕ)) → IsSome l0
      → io.TakesNumberWhereTold k old (ahead_of old l0) (ahead_of new l1) (Err in_faults.TooLong)
      → number_at k group name (place_at old l0) ≡ Err TooLong
  unfolding number_at
  number_past None l1 some t = cc
  number_past (Some x) None some t = absurd t
  number_past (Some x) (Some y) some t =
      let bytes = old.ahead ++ x in
      rw (lt-ltb old.limit (old.at + min k (length bytes)) t) refl

past_is : (k : ℕ) → past k ≡ 256 ^ k
past_is zero = refl
past_is (suc k) = simp unary_clauses (omega (arith, past_is k))

bytes_behind : (k n : ℕ) (rest : List ℕ) → IsBytes rest → IsBytes (bytes_of k n ++ rest)
bytes_behind zero n rest h i = h i
bytes_behind (suc k) n rest h zero = omega arith
bytes_behind (suc k) n rest h (suc i) = bytes_behind k (n / 256) rest h i

module _ (k group : ℕ) (name : FieldName) (old new : Progress) (s u : State) where
  -- a number that was taken
  pub number_read : (n : ℕ) → u.told ≡ s.told → new.limit ≡ old.limit → new.at ≡ old.at + k → new.at ≤ new.limit
      → n < 256 ^ k → io.TakesNumberWhereTold k old (ahead_of old (left s)) (ahead_of new (left u)) (Ok (Some n))
      → Took (places_of old s) (places_of new u) (number_at k group name) n
  number_read n told limit moved within small t true q h =
      let here : IsTold s = subst IsSome told h.0 in (
        place_of old s,
        (here, refl),
        number_taken k group name old new (left s) (left u) n (told_left s here) limit moved t
            ∙ ap (λ (r : Place). Ok (n, r)) (sym h.1),
      )
  number_read n told limit moved within small t false q h =
      let p : Place = record { offset = old.at; limit = old.limit; rest = bytes_of k n ++ q.rest } in (
        p,
        (refl, refl, bytes_behind k n q.rest h.2),
        (number_form k group name).again p q n (omega (arith, small, past_is k)) (record {
          parts = refl;
          moved = omega (arith, h.0, moved, length-bytes_of k n);
          same = h.1 ∙ limit;
          within = omega (arith, h.0, h.1, within);
        }),
      )

  -- what is wrong at the one place that the files tell
  pub refused_at_place : (e : PackFault) → (IsTold s → Fails e (number_at k group name (place_of old s)))
      → Refused (places_of old s) (number_at k group name) e
  refused_at_place e bad p h = subst (λ (r : Place). Fails e (number_at k group name r)) (sym h.1) (bad h.0)
