-- What the parser of the words after the command finds in them.
use Rattle.std.specs.Prelude.{◌≡◌, ◌⊎◌, ℕ, Bool, true, false, List, [], codes, Option, Some, None, IfSome}
use Rattle.std.specs.Prelude.{option_map, unwrap_or}
use Rattle.std.specs.List.{list_any}
use Rattle.std.specs.Str.{bytes_eq}
use Rattle.clap.specs.Words.{first_value, found_of, matched_of, raw_values}
use Rattle.clap.specs.declared.parser.matches.ArgMatches.{ArgMatches}
use Rattle.clap.specs.Walk.{Rule}
use Rattle.clap.specs.Simple.{App, new_app, new_rule, on_top, with_rule}
use Rattle.clap.specs.declared.builder.action.ArgAction.TheVariants.{Append, Set}
use Rattle.cla_words.specs.Words.{Line}

-- ---- the parser, as clap sees it

abbrev pub places : Rule
places = record (new_rule (codes "places")) { action = Some Append }

abbrev pub budget : Rule
budget = record (new_rule (codes "budget")) { long = Some (codes "budget"); action = Some Set }

-- no help and version flags, and no name of a program before the words
abbrev pub without_flags : App → App
without_flags = on_top (λ s. record s { no_binary_name = true; disable_help_flag = true; disable_version_flag = true })

abbrev pub bare : App
bare = without_flags (new_app (codes "cla"))

abbrev pub with_places : App
with_places = with_rule bare places

abbrev pub app : Bool → App
app true = with_rule with_places budget
app false = with_places

-- ---- what it finds

-- the places that were found, and the value of `--budget`
abbrev pub places_in : ArgMatches → List (List ℕ)
places_in matches = unwrap_or (option_map raw_values (matched_of (found_of matches) (codes "places"))) []

abbrev pub budget_in_matches : ArgMatches → Option (List ℕ)
budget_in_matches matches = first_value (found_of matches) (codes "budget")

abbrev pub line_in : ArgMatches → Line
line_in matches = record { budget = budget_in_matches matches; places = places_in matches }

-- a place or the budget is a single `-`, which the parser takes for a value, and no command takes
abbrev pub HasDash : Bool → Line → Type 0
HasDash has_budget line =
    ((has_budget ≡ true) × (line.budget ≡ Some (codes "-"))) ⊎ (list_any (bytes_eq (codes "-")) line.places ≡ true)

-- the parser found the line that the words are, and where they are none, nothing or a line that no command takes
abbrev pub Finds : Bool → Option Line → Option Line → Type 0
Finds has_budget (Some line) found = found ≡ Some line
Finds has_budget None found = IfSome found (HasDash has_budget)
