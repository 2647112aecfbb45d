-- The steps of a loop that reads a list: what is left decides.
use Rattle.std.proofs.Common.{◌≡◌, ℕ, suc, ◌+◌, ◌-◌, ◌<◌, ◌≤◌, Bool, true, false, List, [], ◌∷◌, ◌++◌, Result, Ok}
use Rattle.std.proofs.Common.{Err, refl, sym, ◌∙◌, arith}
use Rattle.cla_packed.specs.declared.fault.FieldName.{FieldName}
use Rattle.cla_packed.specs.declared.fault.PackFault.{PackFault}
use Rattle.cla_packed.specs.declared.fault.PackFault.TheVariants.{Field, Trailing, TooLarge, TooLong, Read, Memory}
use Rattle.cla_packed.specs.Fields.{Place, number_at, field_at, as_at, list_at, Fails, then_at}

pub fails : {Y : Type 0} (e : PackFault) (read : Result Y PackFault) → read ≡ Err e → Fails e read
fails Memory read h = tt
fails Read read h = tt
fails TooLong read h = h
fails (Field g f a) read h = h
fails (Trailing a) read h = h
fails (TooLarge r c) read h = h

pub fails_again : {X Y : Type 0} (e : PackFault) (read : Result X PackFault) (total : Result Y PackFault) →
    ((f : PackFault) → read ≡ Err f → total ≡ Err f) → Fails e read → Fails e total
fails_again Memory read total go h = tt
fails_again Read read total go h = tt
fails_again TooLong read total go h = go TooLong h
fails_again (Field g f a) read total go h = go (Field g f a) h
fails_again (Trailing a) read total go h = go (Trailing a) h
fails_again (TooLarge r c) read total go h = go (TooLarge r c) h

module _ {A : Type 0} (step : ℕ → List A → Place → Result (A × Place) PackFault) (n i left : ℕ) (so_far : List A)
    (p : Place) (total : Result (List A × Place) PackFault) where
  pub goes_on : (a : A) (q : Place) → i < n → left ≡ n - 1 - i → step left so_far p ≡ Ok (a, q) →
      list_at step (n - i) so_far p ≡ total → list_at step (n - (i + 1)) (so_far ++ a ∷ []) q ≡ total
  unfolding list_at
  goes_on a q lt left-is h before =
      let m : n - i ≡ suc left = omega arith in
      let k : n - (i + 1) ≡ left = omega arith in
      let one : list_at step (n - i) so_far p ≡ list_at step left (so_far ++ a ∷ []) q = rw (m, h) refl in
      rw k (sym one ∙ before)

  pub ends : (e : PackFault) → i < n → left ≡ n - 1 - i → Fails e (step left so_far p) → list_at step (n - i) so_far p
      ≡ total → Fails e total
  unfolding list_at
  ends e lt left-is h before =
      let m : n - i ≡ suc left = omega arith in
      fails_again e (step left so_far p) total (λ f bad. sym before ∙ rw (m, bad) refl) h

  pub is_done : n ≤ i → list_at step (n - i) so_far p ≡ total → total ≡ Ok (so_far, p)
  unfolding list_at
  is_done le before =
      let m : n - i ≡ 0 = omega arith in
      sym before ∙ rw m refl

-- ---- one field

pub field_reads : (k : ℕ) (test : ℕ → Bool) (group : ℕ) (name : FieldName) (p q : Place) (n : ℕ) →
    number_at k group name p ≡ Ok (n, q) → test n ≡ true → field_at k test group name p ≡ Ok (n, q)
unfolding field_at
field_reads k test group name p q n h good = rw (h, good) refl

pub field_fails : (k : ℕ) (test : ℕ → Bool) (group : ℕ) (name : FieldName) (p q : Place) (n : ℕ) →
    number_at k group name p ≡ Ok (n, q) → test n ≡ false → field_at k test group name p
    ≡ Err (Field group name p.offset)
unfolding field_at
field_fails k test group name p q n h bad = rw (h, bad) refl

pub field_ends : (k : ℕ) (test : ℕ → Bool) (group : ℕ) (name : FieldName) (p : Place) (e : PackFault) →
    Fails e (number_at k group name p) → Fails e (field_at k test group name p)
unfolding field_at
field_ends k test group name p e h = fails_again e (number_at k group name p) (field_at k test group name p)
    (λ f bad. rw bad refl) h

pub view_reads : {A B : Type 0} (view : A → B) (read : Place → Result (A × Place) PackFault) (p q : Place) (a : A) →
    read p ≡ Ok (a, q) → as_at view read p ≡ Ok (view a, q)
unfolding as_at
view_reads view read p q a h = rw h refl

pub view_ends : {A B : Type 0} (view : A → B) (read : Place → Result (A × Place) PackFault) (p : Place) (e : PackFault)
    → Fails e (read p) → Fails e (as_at view read p)
unfolding as_at
view_ends view read p e h = fails_again e (read p) (as_at view read p) (λ f bad. rw bad refl) h

-- ---- one thing, and then another

module _ {A B : Type 0} (first : Place → Result (A × Place) PackFault) (second : A → Place →
    Result (B × Place) PackFault) (p : Place) where
  pub then_stops : (e : PackFault) → Fails e (first p) → Fails e (then_at first second p)
  unfolding then_at
  then_stops e h = fails_again e (first p) (then_at first second p) (λ f bad. rw bad refl) h

  pub then_ends : (a : A) (q : Place) (e : PackFault) → first p ≡ Ok (a, q) → Fails e (second a q) →
      Fails e (then_at first second p)
  unfolding then_at
  then_ends a q e h bad = fails_again e (second a q) (then_at first second p) (λ f bad. rw h (rw bad refl)) bad

  pub then_reads : (a : A) (b : B) (q r : Place) → first p ≡ Ok (a, q) → second a q ≡ Ok (b, r) → then_at first second p
      ≡ Ok ((a, b), r)
  unfolding then_at
  then_reads a b q r h g = rw h (rw g refl)
