-- Fields of a file, read from left to right with the first fault that is met.
use Rattle.std.specs.Prelude.{◌≡◌, ℕ, zero, suc, ◌+◌, ◌*◌, ◌/◌, ◌%◌, ◌<◌, ◌≤◌, List, [], ◌∷◌, ◌++◌, length, take}
use Rattle.std.specs.Prelude.{drop, min, Result, Ok, Err, Bool, nat_lt, ◌==◌, slice_index_or, if◌then◌else◌}
use Rattle.cla_spec.specs.Bytes.{number_of}
use Rattle.cla_packed.specs.declared.fault.FieldName.{FieldName}
use Rattle.cla_packed.specs.declared.fault.PackFault.{PackFault}
use Rattle.cla_packed.specs.declared.fault.PackFault.TheVariants.{Field, Trailing, TooLarge, TooLong, Memory}
use Rattle.cla_packed.specs.declared.fault.PackFault.TheVariants as faults

-- a place in a file
pub record Place : Type 0 where
  pub offset : ℕ
  pub limit : ℕ
  pub rest : List ℕ

-- what stands at a place, and the place behind it; or the fault
abbrev pub Read : Type 0 → Type 0
Read A = Result (A × Place) PackFault

infixl 10 ◌>>=◌
abbrev pub ◌>>=◌ : {A B : Type 0} → Result A PackFault → (A → Result B PackFault) → Result B PackFault
(Ok x) >>= f = f x
(Err e) >>= f = Err e

-- the place after the first n bytes
abbrev pub after : ℕ → Place → Place
after n p = record { offset = p.offset + n; limit = p.limit; rest = drop n p.rest }

-- the number of the next k bytes, or the fault of a field that is cut short or passes the limit
unfoldable pub number_at : ℕ → ℕ → FieldName → Place → Read ℕ
number_at k group name p = if nat_lt p.limit (p.offset + min k (length p.rest)) then Err TooLong
    else if nat_lt (length p.rest) k then Err (Field group name p.offset)
    else Ok (number_of (take k p.rest), after k p)

-- what doesn't pass a test is the fault
abbrev pub tested : {A : Type 0} → Bool → PackFault → A → Result A PackFault
tested test fault x = if test then Ok x else Err fault

-- a field of k bytes whose number passes a test
unfoldable pub field_at : ℕ → (ℕ → Bool) → ℕ → FieldName → Place → Read ℕ
field_at k test group name p = number_at k group name p >>= λ n. tested (test n.0) (Field group name p.offset) n

-- a condition on fields before, with a fault of its own
unfoldable pub refused_at : Bool → PackFault → Place → Read (Unit {0})
refused_at test fault p = tested test fault (tt, p)

-- a condition on fields before, with no bytes of its own
unfoldable pub checked_at : Bool → ℕ → FieldName → Place → Read (Unit {0})
checked_at test group name p = refused_at test (Field group name p.offset) p

-- one thing, and then another that depends on it
unfoldable pub then_at : {A B : Type 0} → (Place → Read A) → (A → Place → Read B) → Place → Read (A × B)
then_at first second p = first p >>= λ a. second a.0 a.1 >>= λ b. Ok ((a.0, b.0), b.1)

-- n things of a kind: how each of them is read depends on how many are left behind it, and on those so far
unfoldable pub list_at : {A : Type 0} → (ℕ → List A → Place → Read A) → ℕ → List A → Place → Read (List A)
list_at step zero so_far p = Ok (so_far, p)
list_at step (suc left) so_far p = step left so_far p >>= λ a. list_at step left (so_far ++ a.0 ∷ []) a.1

-- what is read, seen in another way
unfoldable pub as_at : {A B : Type 0} → (A → B) → (Place → Read A) → Place → Read B
as_at view read p = read p >>= λ a. Ok (view a.0, a.1)

-- each of a list's things is good where it stands
abbrev pub EachIs : {A : Type 0} → (ℕ → List A → A → Type 0) → List A → List A → Type 0
EachIs good so_far [] = Unit {0}
EachIs good so_far (a ∷ items) = good (length items) so_far a × EachIs good (so_far ++ a ∷ []) items

-- q stands behind these bytes of p
pub record Takes (p : Place) (bytes : List ℕ) (q : Place) : Type 0 where
  pub parts : p.rest ≡ bytes ++ q.rest
  pub moved : q.offset ≡ p.offset + length bytes
  pub same : q.limit ≡ p.limit
  pub within : q.offset ≤ q.limit

-- the place at the start of a file
abbrev pub start_of : ℕ → List ℕ → Place
start_of limit bytes = record { offset = 0; limit = limit; rest = bytes }

-- no byte stands behind what was read
abbrev pub ended : {A : Type 0} → A × Place → Result A PackFault
ended x = if length x.1.rest == 0 then Ok x.0 else if nat_lt x.1.offset x.1.limit then Err (Trailing x.1.offset)
    else Err TooLong

-- what a whole file holds
unfoldable pub whole_at : {A : Type 0} → (Place → Read A) → ℕ → List ℕ → Result A PackFault
whole_at read limit bytes = read (start_of limit bytes) >>= ended

abbrev pub IsBytes : List ℕ → Type 0
IsBytes bytes = (i : ℕ) → slice_index_or bytes i 0 < 256

abbrev pub Fails : {Y : Type 0} → PackFault → Result Y PackFault → Type 0
Fails Memory read = Unit {0}
Fails faults.Read read = Unit {0}
Fails TooLong read = read ≡ Err TooLong
Fails (Field g f a) read = read ≡ Err (Field g f a)
Fails (Trailing a) read = read ≡ Err (Trailing a)
Fails (TooLarge r c) read = read ≡ Err (TooLarge r c)

-- what a function returned, seen by view, is what reading gives, unless memory ran out or the file can't be read
abbrev pub Gives : {X Y : Type 0} → (X → Y) → Result X PackFault → Result Y PackFault → Type 0
Gives view (Ok x) read = read ≡ Ok (view x)
Gives view (Err e) read = Fails e read
