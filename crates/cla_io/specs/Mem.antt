-- Fakes in memory, whose failing calls are listed.
use Rattle.std.specs.Prelude.{◌≡◌, ℕ, List, [], ◌∷◌, Bool, true, false, Result, Ok, Err}
use Rattle.cla_io.specs.Counts.{next_call}
use Rattle.cla_io.specs.State.{State, IsFaultless}
use Rattle.cla_io.specs.declared.stop.Stop.{Stop}
use Rattle.cla_io.specs.declared.stop.Stop.TheVariants.{Failed, Memory}

abbrev pub is_empty_list : {X : Type 0} → List X → Bool
is_empty_list [] = true
is_empty_list (x ∷ xs) = false

-- where no call is to fail, there are no faults
abbrev pub NoFaultsIfEmpty : {X : Type 0} → List X → ℕ → Type 0
NoFaultsIfEmpty fail faults = is_empty_list fail ≡ true → faults ≡ 0

pub faultless_of : {X : Type 0} (fail : List X) (faults : ℕ) → NoFaultsIfEmpty fail faults → is_empty_list fail ≡ true →
    faults ≡ 0
faultless_of fail faults h e = h e

-- the same of files, which count faults of reading and of writing
pub faultless_files : {X : Type 0} (fail : List X) (s : State) → NoFaultsIfEmpty fail s.read_faults →
    NoFaultsIfEmpty fail s.write_faults → is_empty_list fail ≡ true → IsFaultless s
faultless_files fail s reads writes e = record { read_faults = reads e; write_faults = writes e }

-- the count of faults after a call
abbrev pub faults_after : {X : Type 0} → Result X Stop → ℕ → ℕ
faults_after (Err Failed) faults = next_call faults
faults_after (Err Memory) faults = faults
faults_after (Ok x) faults = faults

-- the count of missing files after begin_read
abbrev pub misses_after : Result Bool Stop → ℕ → ℕ
misses_after (Ok false) misses = next_call misses
misses_after (Ok true) misses = misses
misses_after (Err e) misses = misses
