-- What a sink over the file that is being written keeps of its files.
use Rattle.std.specs.Prelude.{◌≡◌, ◌≢◌, ℕ, ◌≤◌, List, Option, Some, None}
use Rattle.std.specs.FinMap as fin
use mathlib.Core.Path.{refl, ◌∙◌}
use native.Mathlib.Omega.{arith}
use Rattle.cla_spec.specs.Files.{Told}
use Rattle.cla_io.specs.State.{State}

-- they tell the same at every name but one
abbrev pub SameBut : Option (List ℕ) → Option Told → Option Told → Type 0
SameBut name None new = new ≡ None
SameBut name (Some old) None = ⊥
SameBut None (Some old) (Some new) = new ≡ old
SameBut (Some name) (Some old) (Some new) = (other : List ℕ) → other ≢ name → fin.get new other ≡ fin.get old other

-- nothing changed but the bytes of the file that is being written, and faults of writing
pub record KeptFiles (old new : State) : Type 0 where
  pub told : SameBut old.writing old.told new.told
  pub reading : new.reading ≡ old.reading
  pub writing : new.writing ≡ old.writing
  pub steady : new.steady ≡ old.steady
  pub read_faults : new.read_faults ≡ old.read_faults
  pub write_faults : old.write_faults ≤ new.write_faults
  pub misses : new.misses ≡ old.misses

pub same_but_itself : (name : Option (List ℕ)) (told : Option Told) → SameBut name told told
same_but_itself name None = refl
same_but_itself None (Some t) = refl
same_but_itself (Some n) (Some t) = λ other h. refl

pub same_but_on : (name name' : Option (List ℕ)) (a b c : Option Told) → name' ≡ name → SameBut name a b →
    SameBut name' b c → SameBut name a c
same_but_on name name' None b c same first next = rw first at next
same_but_on name name' (Some x) None c same first next = absurd first
same_but_on name name' (Some x) (Some y) None same first next = absurd next
same_but_on None name' (Some x) (Some y) (Some z) same first next = (rw same at next) ∙ first
same_but_on (Some n) name' (Some x) (Some y) (Some z) same first next = λ other h. (rw same at next) other h
    ∙ first other h

pub kept_itself : (s : State) → KeptFiles s s
kept_itself s = record {
  told = same_but_itself s.writing s.told;
  reading = refl;
  writing = refl;
  steady = refl;
  read_faults = refl;
  write_faults = omega arith;
  misses = refl;
}

pub kept_on : (a b c : State) → KeptFiles a b → KeptFiles b c → KeptFiles a c
kept_on a b c first next = record {
  told = same_but_on a.writing b.writing a.told b.told c.told first.writing first.told next.told;
  reading = next.reading ∙ first.reading;
  writing = next.writing ∙ first.writing;
  steady = next.steady ∙ first.steady;
  read_faults = next.read_faults ∙ first.read_faults;
  write_faults = omega (arith, first.write_faults, next.write_faults);
  misses = next.misses ∙ first.misses;
}
