-- The rows of a parse: a budget and places.
use Rattle.std.proofs.Common.{◌≡◌, Bool, true, false, List, [], ◌∷◌, ◌++◌, Option, Some, None}
use Rattle.std.proofs.Common.{refl, codes}
use Rattle.std.specs.Prelude.{is_some, unwrap_or}
use Rattle.clap.specs.Walk.{Held, Row, Text, all_of, first_of, has_row, reading_by, settled_rows, used}
use Rattle.clap.specs.Faults.{settle_fault}
use Rattle.clap.specs.declared.parser.matches.ValueSource.TheVariants.{CommandLine}
use Rattle.cla_words.proofs.Parser.{budget_built, places_built, rules}

abbrev pub budget_rows : Option Text → List Row
budget_rows None = []
budget_rows (Some value) = record {
  id = codes "budget";
  values = value ∷ [];
  count = None;
  source = Some CommandLine;
  reading = reading_by budget_built;
} ∷ []

abbrev pub place_rows : List Text → List Row
place_rows [] = []
place_rows (place ∷ places) = record {
  id = codes "places";
  values = place ∷ places;
  count = None;
  source = Some CommandLine;
  reading = reading_by places_built;
} ∷ []

-- the rows of a budget and places, where the budget stands first or last
abbrev pub found : Bool → Option Text → List Text → List Row
found true budget places = budget_rows budget ++ place_rows places
found false budget places = place_rows places ++ budget_rows budget

abbrev pub after_place : Bool → List Text → Bool
after_place first [] = true
after_place first (place ∷ places) = first

pub place_used : (first : Bool) (budget : Option Text) (places : List Text) (word : Text)
    → used places_built (word ∷ []) (found first budget places) ≡ found (after_place first places) budget
    (places ++ word ∷ [])
place_used true None [] word = refl
place_used true (Some value) [] word = refl
place_used false None [] word = refl
place_used false (Some value) [] word = refl
place_used true None (place ∷ places) word = refl
place_used true (Some value) (place ∷ places) word = refl
place_used false None (place ∷ places) word = refl
place_used false (Some value) (place ∷ places) word = refl

pub budget_used : (first : Bool) (places : List Text) (value : Text)
    → used budget_built (value ∷ []) (found first None places) ≡ found false (Some value) places
budget_used true [] value = refl
budget_used false [] value = refl
budget_used true (place ∷ places) value = refl
budget_used false (place ∷ places) value = refl

-- what is asked of the rows: whether they have a budget, and which budget and places
pub reads : (first : Bool) (budget : Option Text) (places : List Text)
    → (has_row (codes "budget") (found first budget places) ≡ is_some budget)
    × (first_of (codes "budget") (found first budget places) ≡ budget)
    × (unwrap_or (all_of (codes "places") (found first budget places)) [] ≡ places)
reads true None [] = (refl, refl, refl)
reads true (Some value) [] = (refl, refl, refl)
reads false None [] = (refl, refl, refl)
reads false (Some value) [] = (refl, refl, refl)
reads true None (place ∷ places) = (refl, refl, refl)
reads true (Some value) (place ∷ places) = (refl, refl, refl)
reads false None (place ∷ places) = (refl, refl, refl)
reads false (Some value) (place ∷ places) = (refl, refl, refl)

-- what is held comes to these rows without a fault
abbrev pub held : List Row → Option (Text × List Text) → Held
held rows pending = record { rows = rows; pending = pending; skip = 0 }

abbrev pub Settles : Bool → List Row → Option (Text × List Text) → Bool → Option Text → List Text → Type 0
Settles has rows pending first budget places =
    (settle_fault (rules has) false (held rows pending) ≡ [])
    × (settled_rows (rules has) pending rows ≡ found first budget places)

pub settled_by_place : (has first : Bool) (budget : Option Text) (places : List Text) (word : Text)
    → Settles has (found first budget places) (Some (codes "places", word ∷ [])) (after_place first places) budget
    (places ++ word ∷ [])
settled_by_place true first budget places word = (refl, place_used first budget places word)
settled_by_place false first budget places word = (refl, place_used first budget places word)

pub settled_by_budget : (first : Bool) (places : List Text) (value : Text)
    → Settles true (found first None places) (Some (codes "budget", value ∷ [])) false (Some value) places
settled_by_budget true [] value = (refl, refl)
settled_by_budget false [] value = (refl, refl)
settled_by_budget true (place ∷ places) value = (refl, refl)
settled_by_budget false (place ∷ places) value = (refl, refl)
