-- The command of a line that the parser found.
use Rattle.std.proofs.Common.{◌≡◌, ℕ, Bool, true, false, cond, List, [], ◌∷◌, ◌&&◌, ◌||◌, Option, Some, None, Err}
use Rattle.std.proofs.Common.{◌⊎◌, inl, inr, refl, sym, ap, ap₂, codes, arith, map, string_bytes, length, take}
use Rattle.std.proofs.Common.{drop, ◌-◌, ◌≤◌, slice_index_or, ◌∙◌, not}
use Rattle.std.specs.Prelude.{String, option_and_then, option_map}
use Rattle.std.proofs.lemmas.Grind.{common_steps}
use Rattle.std.proofs.lemmas.Slice.Eq.{bytes_eq-Decides}
use Rattle.std.specs.List.{list_any}
use Rattle.std.specs.Str.{bytes_eq}
use Rattle.cla_text.specs.Integers.{int_of, is_int_word}
use Rattle.cla_text.specs.declared.integer.BadInt.TheVariants.{Form}
use Rattle.cla_words.specs.Words.{Command, Run, Pack, Line, are_two_places, asked_budget}
use Rattle.cla_words.specs.Words.{command_of, is_place, pack_of, run_of, stats_of, takes_budget, unpack_of}
use Rattle.cla_words.specs.Parsed.{Finds, HasDash}

-- a single `-` is no number
dash_is_no_number : int_of (codes "-") ≡ Err Form
unfolding int_of is_int_word
dash_is_no_number = refl

dash_is_no_budget : asked_budget (Some (codes "-")) ≡ None
dash_is_no_budget = rw dash_is_no_number refl

-- nor a place
dash_is_no_place : (word : List ℕ) → bytes_eq (codes "-") word ≡ true → is_place word ≡ false
dash_is_no_place word e = let same : codes "-" ≡ word = (bytes_eq-Decides (codes "-") word).0 e in rw (← same) refl

-- ---- no command takes a single `-`

nothing : {X : Type 0} (b : Bool) → cond {A = Option X} b None None ≡ None
nothing true = refl
nothing false = refl

never : {X : Type 0} (b : Bool) (x : Option X) → cond (b && false) x None ≡ None
never true x = refl
never false x = refl

either : (a b : Bool) → (a || b) ≡ true → (a ≡ true) ⊎ (b ≡ true)
either true b e = inl refl
either false b e = inr e

alone : (a : Bool) → (a || false) ≡ true → a ≡ true
alone true e = refl
alone false e = e

abbrev is_dash : List ℕ → Bool
is_dash = bytes_eq (codes "-")

no_place : {X : Type 0} (word : List ℕ) (x : Option X) → is_dash word ≡ true → cond (is_place word) x None ≡ None
no_place word x e = ap (λ b. cond b x None) (dash_is_no_place word e)

no_places : {X : Type 0} (from to : List ℕ) (x : Option X) → (is_dash from || (is_dash to || false)) ≡ true
    → cond (are_two_places from to) x None ≡ None
no_places from to x e = elim (either _ _ e) [
  | inl first ↦ ap (λ b. cond (b && (is_place to && not (bytes_eq from to))) x None) (dash_is_no_place from first)
  | inr second ↦ ap (λ b. cond (is_place from && (b && not (bytes_eq from to))) x None)
      (dash_is_no_place to (alone _ second)) ∙ never (is_place from) x
]

run_budget : (places : List (List ℕ)) → run_of places (Some (codes "-")) ≡ None
run_budget [] = refl
run_budget (script ∷ []) = ap (λ o. cond (is_place script) (option_map (Run script) o) None) dash_is_no_budget
    ∙ nothing (is_place script)
run_budget (script ∷ other ∷ places) = refl

run_places : (places : List (List ℕ)) (budget : Option (List ℕ)) → list_any is_dash places ≡ true
    → run_of places budget ≡ None
run_places [] budget e = refl
run_places (script ∷ []) budget e = no_place script _ (alone _ e)
run_places (script ∷ other ∷ places) budget e = refl

pack_budget : (places : List (List ℕ)) → pack_of places (Some (codes "-")) ≡ None
pack_budget [] = refl
pack_budget (table ∷ []) = refl
pack_budget (table ∷ packed ∷ []) =
    ap (λ o. cond (are_two_places table packed) (option_map (Pack table packed) o) None) dash_is_no_budget
    ∙ nothing (are_two_places table packed)
pack_budget (table ∷ packed ∷ other ∷ places) = refl

pack_places : (places : List (List ℕ)) (budget : Option (List ℕ)) → list_any is_dash places ≡ true
    → pack_of places budget ≡ None
pack_places [] budget e = refl
pack_places (table ∷ []) budget e = refl
pack_places (table ∷ packed ∷ []) budget e = no_places table packed _ e
pack_places (table ∷ packed ∷ other ∷ places) budget e = refl

unpack_places : (places : List (List ℕ)) → list_any is_dash places ≡ true → unpack_of places ≡ None
unpack_places [] e = refl
unpack_places (packed ∷ []) e = refl
unpack_places (packed ∷ table ∷ []) e = no_places packed table _ e
unpack_places (packed ∷ table ∷ other ∷ places) e = refl

stats_places : (places : List (List ℕ)) → list_any is_dash places ≡ true → stats_of places ≡ None
stats_places [] e = refl
stats_places (table ∷ []) e = no_place table _ (alone _ e)
stats_places (table ∷ other ∷ places) e = refl

-- the four tests of the name, each with what follows
abbrev by_name : Bool → Bool → Bool → Bool → Option Command → Option Command → Option Command → Option Command
    → Option Command
by_name a b c d run pack unpack stats = cond a run (cond b pack (cond c unpack (cond d stats None)))

all_none : (a b c d : Bool) → by_name a b c d None None None None ≡ None
all_none true b c d = refl
all_none false true c d = refl
all_none false false true d = refl
all_none false false false true = refl
all_none false false false false = refl

with_budget_none : (a b c d : Bool) (unpack stats : Option Command) → (a || b) ≡ true
    → by_name a b c d None None unpack stats ≡ None
with_budget_none true b c d unpack stats e = refl
with_budget_none false true c d unpack stats e = refl
with_budget_none false false c d unpack stats e = absurd (let bad : false ≡ true = e in cc)

no_command : (name : List ℕ) (line : Line) → HasDash (takes_budget name) line
    → command_of name line.places line.budget ≡ None
no_command name line (inl dash) =
    ap (command_of name line.places) dash.1
    ∙ ap₂ (λ run pack. by_name (bytes_eq name (codes "run")) (bytes_eq name (codes "pack"))
    (bytes_eq name (codes "unpack")) (bytes_eq name (codes "stats"))
    run pack (unpack_of line.places) (stats_of line.places)) (run_budget line.places) (pack_budget line.places)
    ∙ with_budget_none (bytes_eq name (codes "run")) (bytes_eq name (codes "pack")) (bytes_eq name (codes "unpack"))
    (bytes_eq name (codes "stats"))
    (unpack_of line.places) (stats_of line.places) dash.0
no_command name line (inr dash) =
    ap₂ (λ run pack. by_name (bytes_eq name (codes "run")) (bytes_eq name (codes "pack"))
    (bytes_eq name (codes "unpack")) (bytes_eq name (codes "stats"))
    run pack (unpack_of line.places) (stats_of line.places)) (run_places line.places line.budget dash)
    (pack_places line.places line.budget dash)
    ∙ ap₂ (λ unpack stats. by_name (bytes_eq name (codes "run")) (bytes_eq name (codes "pack"))
    (bytes_eq name (codes "unpack")) (bytes_eq name (codes "stats"))
    None None unpack stats) (unpack_places line.places dash) (stats_places line.places dash)
    ∙ all_none (bytes_eq name (codes "run")) (bytes_eq name (codes "pack")) (bytes_eq name (codes "unpack"))
    (bytes_eq name (codes "stats"))

-- ---- the command of the words

abbrev from_line : List ℕ → Option Line → Option Command
from_line name = option_and_then (λ line. command_of name line.places line.budget)

pub chosen_line : (name : List ℕ) (line : Option Line) (found : Line) → Finds (takes_budget name) line (Some found)
    → command_of name found.places found.budget ≡ from_line name line
chosen_line name (Some line) found e = ap (from_line name) e
chosen_line name None found dash = no_command name found dash

pub no_line : (name : List ℕ) (line : Option Line) → Finds (takes_budget name) line None → None ≡ from_line name line
no_line name (Some line) e = absurd (let bad : None ≡ Some line = e in cc)
no_line name None e = refl

-- the words are the name and the rest
pub words_are : {Z : Type 0} (words : List (String Z)) (name : String Z) → 1 ≤ length words
    → name ≡ slice_index_or words 0 name
    → map string_bytes words ≡ string_bytes name ∷ map string_bytes (take (length words - 1) (drop 1 words))
words_are [] name some first = absurd (omega arith)
words_are (word ∷ words) name some first =
    ap₂ (λ n ws. string_bytes n ∷ map string_bytes ws) (sym first) (sym (grind (arith, common_steps)))
