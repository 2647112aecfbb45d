-- What a word does in a walk of the parser.
use Rattle.std.proofs.Common.{◌≡◌, ℕ, Bool, true, false, cond, suc, List, [], ◌∷◌, ◌||◌, ◌&&◌}
use Rattle.std.proofs.Common.{Option, Some, None, refl, ap, codes, ◌∙◌, length, ◌==◌}
use Rattle.std.specs.Prelude.{if◌then◌else◌}
use Rattle.std.specs.List.{before_first, after_first}
use Rattle.std.specs.Option.{option_map_or}
use Rattle.std.specs.Str.{IsUtf8, bytes_eq, chars}
use Rattle.std.proofs.lemmas.Str.{IsUtf8-past_char, encodes-chars}
use Rattle.clap.specs.Lexer.{has_byte, long_of, short_of}
use Rattle.clap.specs.Walk.{Held, Row, Rule, Text, Waiting, idle, option, positional, Walk, walked, arg_by_long}
use Rattle.clap.specs.Walk.{long_met, after_flag, after_step, settled_rows, short_or_plain}
use Rattle.clap.specs.Faults.{settle_fault, turn_fault, long_fault, step_fault, flags_fault, bundle_fault}
use Rattle.clap.specs.Kinds.{Kinds, or_else}
use Rattle.clap.specs.declared.error.kind.ErrorKind.TheVariants as kind
use Rattle.cla_words.proofs.Parser.{budget_built, rules, shape}
use Rattle.cla_words.proofs.Found.{held}

-- a walk in the middle of the words
abbrev pub at : Waiting → Bool → List Row → Option (Text × List Text) → Walk
at waiting is_trailing rows pending =
    record { held = held rows pending; waiting = waiting; position = 1; is_trailing = is_trailing; stopped = None }

-- nothing waits for a value, or the places do
abbrev pub resting : Bool → Waiting
resting true = idle
resting false = positional

abbrev pub turn : Bool → Walk → Text → Kinds
turn has w word = turn_fault (shape has) [] w word

abbrev pub settling : Bool → List Row → Option (Text × List Text) → Kinds
settling has rows pending = settle_fault (rules has) false (held rows pending)

never : {X : Type 0} (b : Bool) (x y : X) → cond (b && false) x y ≡ y
never true x y = refl
never false x y = refl

-- ---- a place

pub plain_turn : (has rests : Bool) (rows : List Row) (pending : Option (Text × List Text)) (word : Text)
    → bytes_eq word (codes "--") ≡ false → long_of word ≡ None → short_of word ≡ None
    → turn has (at (resting rests) false rows pending) word ≡ settling has rows pending
plain_turn true true rows pending word d l s = rw (d, l, s) (never _ _ _)
plain_turn true false rows pending word d l s = rw (d, l, s) (never _ _ _)
plain_turn false true rows pending word d l s = rw (d, l, s) (never _ _ _)
plain_turn false false rows pending word d l s = rw (d, l, s) (never _ _ _)

pub trailing_turn : (has : Bool) (waiting : Waiting) (rows : List Row) (pending : Option (Text × List Text))
    (word : Text)
    → turn has (at waiting true rows pending) word ≡ settling has rows pending
trailing_turn true waiting rows pending word = never _ _ _
trailing_turn false waiting rows pending word = never _ _ _

abbrev pub placed : Bool → Bool → List Row → Option (Text × List Text) → Text → Walk
placed has is_trailing rows pending word =
    at positional is_trailing (settled_rows (rules has) pending rows) (Some (codes "places", word ∷ []))

pub plain_walked : (has rests : Bool) (rows : List Row) (pending : Option (Text × List Text)) (word : Text)
    → bytes_eq word (codes "--") ≡ false → long_of word ≡ None → short_of word ≡ None
    → walked (rules has) [] (at (resting rests) false rows pending) word ≡ placed has false rows pending word
unfolding walked
plain_walked true true rows pending word d l s = rw (d, l, s, never) refl
plain_walked true false rows pending word d l s = rw (d, l, s, never) refl
plain_walked false true rows pending word d l s = rw (d, l, s, never) refl
plain_walked false false rows pending word d l s = rw (d, l, s, never) refl

pub trailing_walked : (has : Bool) (waiting : Waiting) (rows : List Row) (pending : Option (Text × List Text))
    (word : Text)
    → walked (rules has) [] (at waiting true rows pending) word ≡ placed has true rows pending word
unfolding walked
trailing_walked true waiting rows pending word = rw never refl
trailing_walked false waiting rows pending word = rw never refl

-- ---- `--`

pub dashes_turn : (has : Bool) (waiting : Waiting) (rows : List Row) (pending : Option (Text × List Text))
    → turn has (at waiting false rows pending) (codes "--") ≡ []
dashes_turn has idle rows pending = refl
dashes_turn has positional rows pending = refl
dashes_turn has (option id) rows pending = refl

pub dashes_walked : (has : Bool) (waiting : Waiting) (rows : List Row) (pending : Option (Text × List Text))
    → walked (rules has) [] (at waiting false rows pending) (codes "--") ≡ at waiting true rows pending
unfolding walked
dashes_walked has idle rows pending = refl
dashes_walked has positional rows pending = refl
dashes_walked has (option id) rows pending = refl

-- ---- a word that begins with `--`

abbrev pub name_in : Text → Text
name_in = before_first (λ x. x == 61)

abbrev pub value_in : Text → Option Text
value_in rest = if has_byte 61 rest then Some (after_first (λ x. x == 61) rest) else None

abbrev pub long_turn : Bool → Waiting → Text → Held → Option Rule → Option Text → Kinds
long_turn has waiting word h a value = or_else (long_fault (rules has) false a value h)
    (step_fault (shape has) 1
    (after_flag (rules has) waiting word (long_met (rules has) a value h).0 (long_met (rules has) a value h).1).0
    (after_flag (rules has) waiting word (long_met (rules has) a value h).0 (long_met (rules has) a value h).1).1)

abbrev pub long_walk : Bool → Text → Walk → Option Rule → Option Text → Walk
long_walk has word w a value = after_step (rules has) word w
    (after_flag (rules has) w.waiting word (long_met (rules has) a value w.held).0
    (long_met (rules has) a value w.held).1).0
    (after_flag (rules has) w.waiting word (long_met (rules has) a value w.held).0
    (long_met (rules has) a value w.held).1).1

abbrev pub named : Bool → Option Rule
named is_budget = cond is_budget (Some budget_built) None

option_named : (b : Bool) → cond (b || false) (Some budget_built) None ≡ named b
option_named true = refl
option_named false = refl

-- the argument of this name
abbrev pub is_named : Bool → Text → Bool
is_named has name = has && bytes_eq (codes "budget") name

pub by_name : (has : Bool) (name : Text) → arg_by_long (rules has) name ≡ named (is_named has name)
by_name true name = option_named (bytes_eq (codes "budget") name)
by_name false name = refl

pub long_turned : (has : Bool) (waiting : Waiting) (rows : List Row) (pending : Option (Text × List Text)) (y : ℕ)
    (ys : Text)
    → turn has (at waiting false rows pending) (45 ∷ 45 ∷ y ∷ ys)
    ≡ long_turn has waiting (45 ∷ 45 ∷ y ∷ ys) (held rows pending) (named (is_named has (name_in (y ∷ ys))))
    (value_in (y ∷ ys))
long_turned has idle rows pending y ys =
    ap (λ a. long_turn has idle (45 ∷ 45 ∷ y ∷ ys) (held rows pending) a (value_in (y ∷ ys)))
    (by_name has (name_in (y ∷ ys)))
long_turned has positional rows pending y ys =
    ap (λ a. long_turn has positional (45 ∷ 45 ∷ y ∷ ys) (held rows pending) a (value_in (y ∷ ys)))
    (by_name has (name_in (y ∷ ys)))
long_turned has (option id) rows pending y ys =
    ap (λ a. long_turn has (option id) (45 ∷ 45 ∷ y ∷ ys) (held rows pending) a (value_in (y ∷ ys)))
    (by_name has (name_in (y ∷ ys)))

pub long_walked : (has : Bool) (waiting : Waiting) (rows : List Row) (pending : Option (Text × List Text)) (y : ℕ)
    (ys : Text)
    → walked (rules has) [] (at waiting false rows pending) (45 ∷ 45 ∷ y ∷ ys)
    ≡ long_walk has (45 ∷ 45 ∷ y ∷ ys) (at waiting false rows pending) (named (is_named has (name_in (y ∷ ys))))
    (value_in (y ∷ ys))
unfolding walked
long_walked has idle rows pending y ys =
    ap (λ a. long_walk has (45 ∷ 45 ∷ y ∷ ys) (at idle false rows pending) a (value_in (y ∷ ys)))
    (by_name has (name_in (y ∷ ys)))
long_walked has positional rows pending y ys =
    ap (λ a. long_walk has (45 ∷ 45 ∷ y ∷ ys) (at positional false rows pending) a (value_in (y ∷ ys)))
    (by_name has (name_in (y ∷ ys)))
long_walked has (option id) rows pending y ys =
    ap (λ a. long_walk has (45 ∷ 45 ∷ y ∷ ys) (at (option id) false rows pending) a (value_in (y ∷ ys)))
    (by_name has (name_in (y ∷ ys)))

abbrev pub fails : Kinds → Bool
fails [] = false
fails (k ∷ ks) = true

pub first_fault : (a b : Kinds) → fails a ≡ true → fails (or_else a b) ≡ true
first_fault [] b e = cc
first_fault (k ∷ ks) b e = refl

-- such a word settles what is pending, so a fault there is one of the word
pub long_refuses : (has : Bool) (waiting : Waiting) (word : Text) (rows : List Row)
    (pending : Option (Text × List Text)) (is_budget : Bool) (value : Option Text)
    → fails (settling has rows pending) ≡ true
    → fails (long_turn has waiting word (held rows pending) (named is_budget) value) ≡ true
long_refuses has waiting word rows pending false value e = refl
long_refuses has waiting word rows pending true None e = first_fault _ _ e
long_refuses has waiting word rows pending true (Some v) e = first_fault _ _ (first_fault _ _ e)

-- ---- a word that begins with one `-`, and goes on

a_char : (x : ℕ) (xs : Text) → IsUtf8 (45 ∷ x ∷ xs) → (ch : ℕ) × (rest : List ℕ) × (chars (x ∷ xs) ≡ ch ∷ rest)
unfolding lib.Utf8.encode
a_char x xs u = go (chars (x ∷ xs)) refl
  where
    go : (cs : List ℕ) → chars (x ∷ xs) ≡ cs → (ch : ℕ) × (rest : List ℕ) × (chars (x ∷ xs) ≡ ch ∷ rest)
    go [] e =
        let text = encodes-chars (x ∷ xs) (IsUtf8-past_char (45 ∷ x ∷ xs) (x ∷ xs) 45 u refl) in
        let bad : [] ≡ x ∷ xs = rw e at text in
        cc
    go (ch ∷ rest) e = (ch, rest, e)

-- its first character is no argument
flag_unknown : (has : Bool) (k x : ℕ) (xs : Text) (h : Held) (ch : ℕ) (rest : List ℕ) → chars (x ∷ xs) ≡ ch ∷ rest
    → flags_fault (rules has) false (suc k) (x ∷ xs) 0 h ≡ kind.UnknownArgument ∷ []
unfolding flags_fault
flag_unknown true k x xs h ch rest e = rw e refl
flag_unknown false k x xs h ch rest e = rw e refl

bundle_unknown : (has : Bool) (x : ℕ) (xs : Text) (h : Held) → IsUtf8 (45 ∷ x ∷ xs)
    → flags_fault (rules has) false (length (x ∷ xs)) (x ∷ xs) 0 h ≡ kind.UnknownArgument ∷ []
bundle_unknown has x xs h u =
    let c = a_char x xs u in
    flag_unknown has (length xs) x xs h c.0 c.1 c.2

abbrev short_turn : Bool → Waiting → Text → Held → Option Text → Kinds
short_turn has waiting word h flags = or_else (option_map_or (λ fs. bundle_fault (rules has) false fs h) flags [])
    (step_fault (shape has) 1 (short_or_plain (rules has) waiting word flags h).0
    (short_or_plain (rules has) waiting word flags h).1)

short_turned : (has : Bool) (waiting : Waiting) (rows : List Row) (pending : Option (Text × List Text))
    (word flags : Text)
    → bytes_eq word (codes "--") ≡ false → long_of word ≡ None → short_of word ≡ Some flags
    → turn has (at waiting false rows pending) word ≡ short_turn has waiting word (held rows pending) (Some flags)
short_turned has idle rows pending word flags d l s = rw (d, l, s) refl
short_turned has positional rows pending word flags d l s = rw (d, l, s) refl
short_turned has (option id) rows pending word flags d l s = rw (d, l, s) refl

pub short_refuses : (has : Bool) (waiting : Waiting) (rows : List Row) (pending : Option (Text × List Text)) (x : ℕ)
    (xs : Text) → IsUtf8 (45 ∷ x ∷ xs)
    → (x == 45) ≡ false → fails (turn has (at waiting false rows pending) (45 ∷ x ∷ xs)) ≡ true
short_refuses has waiting rows pending x xs u e =
    ap fails (short_turned has waiting rows pending (45 ∷ x ∷ xs) (x ∷ xs) (rw e refl) (rw e refl) (rw e refl))
    ∙ first_fault _ _ (ap fails (bundle_unknown has x xs (held rows pending) u))
