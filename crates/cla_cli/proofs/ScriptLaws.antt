-- What the checks of a script answer, as it is told.
use Rattle.std.proofs.Common.{◌≡◌, ℕ, ℤ, true, false, List, map, Some, None, Result, Ok, Err, refl}
use Rattle.cla_spec.specs.Matrix.{Matrix}
use Rattle.cla_grammar.specs.declared.place.Place.{Place}
use Rattle.cla_grammar.specs.Tree.{Statement}
use Rattle.cla_tokens.specs.Scripts.{script_in}
use Rattle.cla_script.specs.Clashes.{first_clash, Clashes}
use Rattle.cla_script.specs.Parses.{Gives}
use Rattle.cla_script.specs.declared.fault.ScriptFault.{ScriptFault}
use Rattle.cla_script.specs.declared.fault.ScriptFault.TheVariants as script
use Rattle.cla_check.specs.Scripts.{first_shape_fault}
use Rattle.cla_check.specs.declared.fault.ShapeKind.{ShapeKind}
use Rattle.cla_cli.specs.declared.status.BadKind.{BadKind}
use Rattle.cla_cli.specs.declared.status.BadKind.TheVariants as bad
use Rattle.cla_cli.specs.declared.unfinished.Unfinished.{Unfinished}
use Rattle.cla_cli.specs.declared.unfinished.Unfinished.TheVariants as unfinished
use Rattle.cla_cli.specs.Statements.{are_built}
use Rattle.cla_cli.specs.Outcome.{Refusal, refusal_at, place_at, shape_of_table, checked_script, checked_statements}
use Rattle.cla_cli.specs.Parts.{RefusesAt, TellsFault, Passes}

-- a check that refuses a script at a place
pub refuses : {T X : Type 0} (view : T → X) (checked : Result X Refusal) (place : Place) (kind : BadKind)
    (told : Unfinished)
    → checked ≡ Err (refusal_at place kind) → RefusesAt place kind told → Passes view checked (Err told)
refuses view checked place kind (unfinished.Refused status line) is tells = (place, (kind, tells.0, tells.1, is))
refuses view checked place kind unfinished.Memory is tells = tt
refuses view checked place kind told is tells = absurd tells

-- a text that is no script
pub parse_refused : {N T : Type 0} (value : N → ℤ) (view : T → List Statement) (bits : ℕ) (text : List ℕ)
    (fault : ScriptFault)
    (told : Unfinished) → Gives value (Err fault) (script_in bits text) → TellsFault fault told
    → Passes view (checked_script bits text) (Err told)
parse_refused value view bits text (script.At place kind) told gives tells =
    refuses view (checked_script bits text) place (bad.Script kind) told (rw gives refl) tells
parse_refused value view bits text script.Memory told gives tells = rw tells tt

-- a script that writes a file that it reads
pub clash_refused : {T : Type 0} (view : T → List Statement) (bits : ℕ) (text : List ℕ) (xs : List Statement)
    (fault : ScriptFault)
    (told : Unfinished) → script_in bits text ≡ Ok xs → Clashes (Err fault) (first_clash xs) → TellsFault fault told
    → Passes view (checked_script bits text) (Err told)
clash_refused view bits text xs (script.At place kind) told is clashes tells =
    refuses view (checked_script bits text) place (bad.Script kind) told (rw (is, clashes.1, clashes.0) refl) tells
clash_refused view bits text xs script.Memory told is clashes tells = absurd clashes

pub script_good : (bits : ℕ) (text : List ℕ) (xs : List Statement) → script_in bits text ≡ Ok xs → first_clash xs ≡ None
    → checked_script bits text ≡ Ok xs
script_good bits text xs is none = rw (is, none) refl

-- shapes that don't fit, and statements that don't run today
pub shape_refused : {T : Type 0} (view : T → Unit {0}) (xs : List Statement) (ms : List Matrix) (place : Place)
    (kind : ShapeKind)
    (told : Unfinished) → first_shape_fault xs (map shape_of_table ms) ≡ Some (record { place = place; kind = kind })
    → RefusesAt place (bad.Shape kind) told → Passes view (checked_statements xs ms) (Err told)
shape_refused view xs ms place kind told is tells =
    refuses view (checked_statements xs ms) place (bad.Shape kind) told (rw is refl) tells

pub unbuilt_refused : {T : Type 0} (view : T → Unit {0}) (xs : List Statement) (ms : List Matrix) (told : Unfinished)
    → first_shape_fault xs (map shape_of_table ms) ≡ None → are_built xs ≡ false
    → RefusesAt (place_at 1 1) bad.Unbuilt told → Passes view (checked_statements xs ms) (Err told)
unbuilt_refused view xs ms told none built tells =
    refuses view (checked_statements xs ms) (place_at 1 1) bad.Unbuilt told (rw (none, built) refl) tells

pub statements_good : (xs : List Statement) (ms : List Matrix) → first_shape_fault xs (map shape_of_table ms) ≡ None
    → are_built xs ≡ true → checked_statements xs ms ≡ Ok tt
statements_good xs ms none built = rw (none, built) refl
