-- The parser of the words after the command, as clap sees it.
use Rattle.std.proofs.Common.{◌≡◌, Bool, true, false, List, [], ◌∷◌, Some, refl}
use Rattle.clap.specs.Walk.{Rule}
use Rattle.clap.specs.Simple.{Shape, built}
use Rattle.clap.specs.Faults.{is_simple_and_free}
use Rattle.cla_words.specs.Parsed.{app, places, budget}
use Rattle.clap.specs.declared.builder.value_parser.ValueParser.TheVariants as vp

-- the rules after building
abbrev pub places_built : Rule
places_built = record places {
  parser = Some vp.String;
  range = Some (record { start_inclusive = 1; end_inclusive = 1 });
  index = Some 1;
}

abbrev pub budget_built : Rule
budget_built = record budget {
  parser = Some vp.String;
  range = Some (record { start_inclusive = 1; end_inclusive = 1 });
}

abbrev pub rules : Bool → List Rule
rules true = places_built ∷ budget_built ∷ []
rules false = places_built ∷ []

abbrev pub shape : Bool → Shape
shape has = record (built (app false)).top { rules = rules has }

pub built_is : (has : Bool) → built (app has) ≡ record { top = shape has; subs = [] }
built_is true = refl
built_is false = refl

pub is_free : (has : Bool) → is_simple_and_free (app has) ≡ true
is_free true = refl
is_free false = refl
