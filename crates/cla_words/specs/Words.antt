-- The words of the command line, and the command that they ask for.
use Rattle.std.specs.Prelude.{ℕ, ℤ, pos, negsuc, ◌==◌, ◌&&◌, ◌||◌, ◌^◌, Bool, true, false, not, nat_le, if◌then◌else◌}
use Rattle.std.specs.Prelude.{List, [], ◌∷◌, codes, Option, Some, None, is_some, option_map, option_and_then, Result}
use Rattle.std.specs.Prelude.{Ok, Err}
use Rattle.std.specs.List.{list_any, before_first, after_first}
use Rattle.std.specs.Str.{bytes_eq}
use Rattle.cla_text.specs.Integers.{int_of}
use Rattle.cla_text.specs.declared.integer.BadInt.{BadInt}

-- what the words ask for: to run a script, to pack a table into a file or unpack one, or to tell of a table's groups
pub data Command : Type 0 where
  Run : List ℕ → Option ℕ → Command
  Pack : List ℕ → List ℕ → Option ℕ → Command
  Unpack : List ℕ → List ℕ → Command
  Stats : List ℕ → Command

-- the words after the command: the value of the option `--budget`, where it is given, and the places
pub record Line : Type 0 where
  pub budget : Option (List ℕ)
  pub places : List (List ℕ)

abbrev pub begins_with_minus : List ℕ → Bool
begins_with_minus [] = false
begins_with_minus (b ∷ bs) = b == 45

abbrev pub is_equals : ℕ → Bool
is_equals b = b == 61

abbrev pub with_place : List ℕ → Option Line → Option Line
with_place place None = None
with_place place (Some line) = Some (record line { places = place ∷ line.places })

-- an option stands at most once
abbrev pub with_budget : List ℕ → Option Line → Option Line
with_budget value None = None
with_budget value (Some line) = if is_some line.budget then None else Some (record line { budget = Some value })

-- the words read one by one, where the command has the option `--budget` or hasn't: the option's value stands after its
-- `=`, or is the next word, which `awaits` says; after the first `--` all are places
abbrev pub line_of : Bool → Bool → List (List ℕ) → Option Line
line_of has_budget true [] = None
line_of has_budget true (value ∷ words) = if begins_with_minus value then None
    else with_budget value (line_of has_budget false words)
line_of has_budget false [] = Some (record { budget = None; places = [] })
line_of has_budget false (word ∷ words) =
    if bytes_eq word (codes "--") then Some (record { budget = None; places = words })
    else (if has_budget && bytes_eq (codes "--budget") (before_first is_equals word)
    then (if list_any is_equals word then with_budget (after_first is_equals word) (line_of has_budget false words)
    else line_of has_budget true words)
    else (if begins_with_minus word then None else with_place word (line_of has_budget false words)))

-- a place isn't empty, and isn't `-`
abbrev pub is_place : List ℕ → Bool
is_place word = not (bytes_eq word []) && not (bytes_eq word (codes "-"))

-- a budget is an integer from 0 to 2^32
abbrev pub budget_in : Result ℤ BadInt → Option ℕ
budget_in (Ok (pos n)) = if nat_le n (2 ^ 32) then Some n else None
budget_in (Ok (negsuc n)) = None
budget_in (Err bad) = None

-- the budget that the option asks for, if it is given; no budget at all where its value isn't one
abbrev pub asked_budget : Option (List ℕ) → Option (Option ℕ)
asked_budget None = Some None
asked_budget (Some value) = option_map (λ n. Some n) (budget_in (int_of value))

abbrev pub run_of : List (List ℕ) → Option (List ℕ) → Option Command
run_of (script ∷ []) budget = if is_place script then option_map (Run script) (asked_budget budget) else None
run_of _ budget = None

-- two places that differ
abbrev pub are_two_places : List ℕ → List ℕ → Bool
are_two_places from to = is_place from && (is_place to && not (bytes_eq from to))

abbrev pub pack_of : List (List ℕ) → Option (List ℕ) → Option Command
pack_of (table ∷ packed ∷ []) budget =
    if are_two_places table packed then option_map (Pack table packed) (asked_budget budget) else None
pack_of _ budget = None

abbrev pub unpack_of : List (List ℕ) → Option Command
unpack_of (packed ∷ table ∷ []) = if are_two_places packed table then Some (Unpack packed table) else None
unpack_of _ = None

abbrev pub stats_of : List (List ℕ) → Option Command
stats_of (table ∷ []) = if is_place table then Some (Stats table) else None
stats_of _ = None

-- the commands with the option `--budget`
abbrev pub takes_budget : List ℕ → Bool
takes_budget name = bytes_eq name (codes "run") || bytes_eq name (codes "pack")

-- the command of this name, with these places and this budget
abbrev pub command_of : List ℕ → List (List ℕ) → Option (List ℕ) → Option Command
command_of name places budget =
    if bytes_eq name (codes "run") then run_of places budget
    else (if bytes_eq name (codes "pack") then pack_of places budget
    else (if bytes_eq name (codes "unpack") then unpack_of places
    else (if bytes_eq name (codes "stats") then stats_of places
    else None)))

-- the command of these words, if they are one: the first word chooses it
abbrev pub accepted_command : List (List ℕ) → Option Command
accepted_command [] = None
accepted_command (name ∷ words) =
    option_and_then (λ line. command_of name line.places line.budget) (line_of (takes_budget name) false words)
