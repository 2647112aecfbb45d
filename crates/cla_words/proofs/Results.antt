-- What the parser answers at words, by the line that they are.
use Rattle.std.proofs.Common.{◌≡◌, Bool, true, false, cond, List, [], ◌∷◌, ◌||◌, Option, Some, None, inl, inr}
use Rattle.std.proofs.Common.{refl, sym, ap, ap₂, subst, codes, ◌∙◌}
use Rattle.std.specs.Prelude.{is_some, unwrap_or}
use Rattle.clap.specs.Walk.{Held, Row, Rule, Text, all_of, is_empty, default_rows, reading_by, with_default, finished}
use Rattle.clap.specs.Walk.{first_of, has_row, idle, nothing_held, rows_of, settled, walk}
use Rattle.clap.specs.Faults.{check_fault, default_fault, given_default_fault, defaults_fault, entered_fault}
use Rattle.clap.specs.Faults.{fault_of, level_fault, settle_fault, walk_fault}
use Rattle.clap.specs.Kinds.{IsAmong, Kinds, or_else}
use Rattle.clap.specs.Matches.{found_of}
use Rattle.clap.specs.Simple.{App, entered, is_simple, matches_of}
use Rattle.clap.specs.declared.error.kind.ErrorKind.{ErrorKind}
use Rattle.clap.specs.declared.parser.matches.ArgMatches.{ArgMatches}
use Rattle.clap.proofs.WalkLemmas.{first_value-rows, raw_values-rows}
use Rattle.cla_words.specs.Words.{Line, line_of}
use Rattle.cla_words.specs.Parsed.{Finds, HasDash, app, line_in}
use Rattle.cla_words.proofs.Parser.{budget_built, places_built, rules, shape}
use Rattle.cla_words.proofs.Found.{found, reads}
use Rattle.cla_words.proofs.Turns.{at, fails}
use Rattle.cla_words.proofs.Lines.{Agrees, AreTexts, ends, fate, finds_line}

pub is_simple_app : (has : Bool) → is_simple (app has) ≡ true
is_simple_app true = refl
is_simple_app false = refl

-- ---- the rules have no defaults, and none is required

no_default : (b : Bool) (kinds : Kinds) → cond (b || true) [] kinds ≡ []
no_default true kinds = refl
no_default false kinds = refl

either_way : {X : Type 0} (b : Bool) (x : X) → cond b x x ≡ x
either_way true x = refl
either_way false x = refl

without_default : (a : Rule) (rows : List Row) → a.defaults ≡ [] → default_fault rows a ≡ []
without_default a rows e =
    ap (λ ds. cond (has_row a.id rows || is_empty ds) [] (given_default_fault a ds)) e
    ∙ no_default (has_row a.id rows) (given_default_fault a [])

no_defaults : (has : Bool) (rows : List Row) → defaults_fault rows (rules has) ≡ []
unfolding defaults_fault
no_defaults true rows =
    ap₂ (λ x y. or_else x (or_else y [])) (without_default places_built rows refl)
    (without_default budget_built (with_default rows places_built) refl)
no_defaults false rows = ap (λ x. or_else x []) (without_default places_built rows refl)

no_check : (has : Bool) (rows : List Row) → check_fault (shape has) rows false ≡ []
no_check true rows = refl
no_check false rows = refl

kept : (a : Rule) (rows : List Row) → a.defaults ≡ [] → with_default rows a ≡ rows
kept a rows e = ap (λ ds. cond (has_row a.id rows) rows (default_rows a.id (reading_by a) ds rows)) e
    ∙ either_way (has_row a.id rows) rows

all_finished : (has : Bool) (h : Held) → finished (rules has) h ≡ (settled (rules has) h).rows
all_finished true h = kept budget_built _ refl ∙ kept places_built _ refl
all_finished false h = kept places_built _ refl

or_else_nil : (a : Kinds) → or_else a [] ≡ a
or_else_nil [] = refl
or_else_nil (k ∷ ks) = refl

-- ---- a parse is a walk

abbrev whole : Bool → App
whole has = record { top = shape has; subs = [] }

level_is : (has : Bool) (words : List Text)
    → level_fault (shape has) [] nothing_held words false [] ≡ fate has (at idle false [] None) words
level_is has words =
    let end = (walk (rules has) [] nothing_held words).held in
    ap₂ (λ d k. or_else (walk_fault (shape has) [] (at idle false [] None) words)
    (or_else (settle_fault (rules has) false end) (or_else d k)))
    (no_defaults has (settled (rules has) end).rows) (no_check has (finished (rules has) end))
    ∙ ap (or_else (walk_fault (shape has) [] (at idle false [] None) words))
    (or_else_nil (settle_fault (rules has) false end))

stop_is : (has : Bool) (stop : Option (Text × List Text)) (words : List Text)
    → level_fault (shape has) [] nothing_held words (is_some (entered (whole has) stop))
    (entered_fault (whole has) stop)
    ≡ level_fault (shape has) [] nothing_held words false []
stop_is has None words = refl
stop_is has (Some p) words = refl

fault_is : (has : Bool) (words : List Text) → fault_of (app has) words ≡ fate has (at idle false [] None) words
fault_is true words = stop_is true (walk (rules true) [] nothing_held words).stopped words ∙ level_is true words
fault_is false words = stop_is false (walk (rules false) [] nothing_held words).stopped words ∙ level_is false words

rows_are : (has : Bool) (words : List Text) → matches_of (app has) words ≡ ends has (at idle false [] None) words
rows_are true words = all_finished true (walk (rules true) [] nothing_held words).held
rows_are false words = all_finished false (walk (rules false) [] nothing_held words).held

agrees : (has : Bool) (words : List Text) → AreTexts words
    → Agrees has (line_of has false words) (fault_of (app has) words) (matches_of (app has) words)
agrees has words texts =
    subst (λ k. Agrees has (line_of has false words) k (matches_of (app has) words)) (sym (fault_is has words))
    (subst (λ r. Agrees has (line_of has false words) (fate has (at idle false [] None) words) r)
    (sym (rows_are has words)) (finds_line has words texts))

-- ---- what is read of the matches

read_line : (m : ArgMatches) (line : Line) (first : Bool)
    → rows_of (found_of m) ≡ found first line.budget line.places → line_in m ≡ line
read_line m line first e =
    let budget = first_value-rows (found_of m) (codes "budget") ∙ ap (first_of (codes "budget")) e
    ∙ (reads first line.budget line.places).1 in
    let places = ap (λ o. unwrap_or o [])
    (raw_values-rows (found_of m) (codes "places") ∙ ap (all_of (codes "places")) e)
    ∙ (reads first line.budget line.places).2 in
    let both : line_in m ≡ record { budget = line.budget; places = line.places } =
    λ i. record { budget = budget i; places = places i } in
    both

-- an answer with no fault
pub found_line : (has : Bool) (words : List Text) (m : ArgMatches) → AreTexts words → fault_of (app has) words ≡ []
    → rows_of (found_of m) ≡ matches_of (app has) words → Finds has (line_of has false words) (Some (line_in m))
found_line has words m texts none rows = go (line_of has false words) (agrees has words texts)
  where
    go : (line : Option Line) → Agrees has line (fault_of (app has) words) (matches_of (app has) words)
        → Finds has line (Some (line_in m))
    go (Some line) a = ap Some (read_line m line a.1 (rows ∙ a.2))
    go None (inl bad) = absurd (let e : true ≡ false = sym bad ∙ ap fails none in cc)
    go None (inr a) = subst (HasDash has) (sym (read_line m a.1 a.2 (rows ∙ a.3))) a.4

-- a fault
pub no_line : (has : Bool) (words : List Text) (k : ErrorKind) → AreTexts words
    → IsAmong k (fault_of (app has) words) → Finds has (line_of has false words) None
no_line has words k texts among = go (line_of has false words) (agrees has words texts)
  where
    go : (line : Option Line) → Agrees has line (fault_of (app has) words) (matches_of (app has) words)
        → Finds has line None
    go None a = tt
    go (Some line) a = absurd (subst (IsAmong k) a.0 among)
