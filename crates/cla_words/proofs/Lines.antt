-- A walk of the parser finds the line that the words are.
use Rattle.std.proofs.Common.{◌≡◌, ℕ, suc, ◌+◌, drop, Bool, true, false, cond, List, [], ◌∷◌, ◌++◌, ◌||◌, ◌&&◌}
use Rattle.std.proofs.Common.{Option, Some, None, ◌⊎◌, inl, inr, refl, sym, ap, ap₂, subst, codes, ◌∙◌, ◌==◌}
use Rattle.std.proofs.Common.{append_assoc, map, string_bytes, arith}
use Rattle.std.specs.Prelude.{is_some, if◌then◌else◌, fold, String}
use Rattle.std.specs.List.{before_first, after_first, list_any, position_or_len}
use Rattle.std.specs.Str.{IsUtf8, bytes_eq}
use Rattle.std.proofs.lemmas.List.{append-nil}
use Rattle.std.proofs.lemmas.Str.{IsUtf8-string_bytes}
use Rattle.clap.specs.Lexer.{has_byte, long_of, short_of}
use Rattle.clap.specs.Walk.{Held, Row, Text, Waiting, idle, option, positional, Walk, walked, settled_rows, used}
use Rattle.clap.specs.Faults.{settle_fault, walk_fault}
use Rattle.clap.specs.Kinds.{Kinds, or_else}
use Rattle.cla_words.specs.Words.{Line, begins_with_minus, is_equals, line_of, with_budget, with_place}
use Rattle.cla_words.specs.Parsed.{HasDash}
use Rattle.cla_words.proofs.Parser.{budget_built, rules, shape}
use Rattle.cla_words.proofs.Found.{Settles, after_place, budget_used, found, held, settled_by_budget}
use Rattle.cla_words.proofs.Found.{reads as rows_read, settled_by_place}
use Rattle.cla_words.proofs.Turns.{at, dashes_turn, dashes_walked, fails, first_fault, is_named, long_refuses}
use Rattle.cla_words.proofs.Turns.{long_turn, long_turned, long_walk, long_walked, name_in, named, plain_turn}
use Rattle.cla_words.proofs.Turns.{plain_walked, resting, settling, short_refuses, trailing_turn, trailing_walked}
use Rattle.cla_words.proofs.Turns.{turn, value_in}

-- ---- texts

abbrev pub AreTexts : List Text → Type 0
AreTexts [] = Unit {0}
AreTexts (word ∷ words) = IsUtf8 word × AreTexts words

pub strings_are_texts : {Z : Type 0} (words : List (String Z)) → AreTexts (map string_bytes words)
strings_are_texts [] = tt
strings_are_texts (word ∷ words) = (IsUtf8-string_bytes word, strings_are_texts words)

-- ---- what a walk comes to

abbrev pub fate : Bool → Walk → List Text → Kinds
fate has w words = or_else (walk_fault (shape has) [] w words)
    (settle_fault (rules has) false (fold (walked (rules has) []) w words).held)

abbrev pub ends : Bool → Walk → List Text → List Row
ends has w words = settled_rows (rules has) (fold (walked (rules has) []) w words).held.pending
    (fold (walked (rules has) []) w words).held.rows

-- the walk comes to the line, or to nothing that a command takes
abbrev pub Agrees : Bool → Option Line → Kinds → List Row → Type 0
Agrees has (Some line) kinds rows = (kinds ≡ []) × (first : Bool) × (rows ≡ found first line.budget line.places)
Agrees has None kinds rows = (fails kinds ≡ true)
    ⊎ ((kinds ≡ []) × (line : Line) × (first : Bool) × (rows ≡ found first line.budget line.places) × HasDash has line)

or_else_assoc : (a b c : Kinds) → or_else (or_else a b) c ≡ or_else a (or_else b c)
or_else_assoc [] b c = refl
or_else_assoc (k ∷ ks) b c = refl

fate_step : (has : Bool) (w : Walk) (word : Text) (words : List Text)
    → fate has w (word ∷ words) ≡ or_else (turn has w word) (fate has (walked (rules has) [] w word) words)
unfolding walk_fault
fate_step has w word words = or_else_assoc (turn has w word) _ _

fate_end : (has : Bool) (w : Walk) → fate has w [] ≡ settle_fault (rules has) false w.held
unfolding walk_fault
fate_end has w = refl

goes : (line : Option Line) (has : Bool) (w next : Walk) (word : Text) (words : List Text) → turn has w word ≡ []
    → walked (rules has) [] w word ≡ next
    → Agrees has line (fate has next words) (ends has next words)
    → Agrees has line (fate has w (word ∷ words)) (ends has w (word ∷ words))
goes line has w next word words t e h =
    let faults : fate has w (word ∷ words) ≡ fate has next words = fate_step has w word words
    ∙ ap₂ (λ a v. or_else a (fate has v words)) t e in
    let rows : ends has w (word ∷ words) ≡ ends has next words = ap (λ v. ends has v words) e in
    subst (λ k. Agrees has line k (ends has w (word ∷ words))) (sym faults)
    (subst (λ r. Agrees has line (fate has next words) r) (sym rows) h)

stops : (has : Bool) (w : Walk) (word : Text) (words : List Text) → fails (turn has w word) ≡ true
    → fails (fate has w (word ∷ words)) ≡ true
stops has w word words e = ap fails (fate_step has w word words) ∙ first_fault _ _ e

goes_on : (has : Bool) (w next : Walk) (word : Text) (words : List Text) → turn has w word ≡ []
    → walked (rules has) [] w word ≡ next
    → fails (fate has next words) ≡ true → fails (fate has w (word ∷ words)) ≡ true
goes_on has w next word words t e h =
    ap fails (fate_step has w word words ∙ ap₂ (λ a v. or_else a (fate has v words)) t e) ∙ h

-- ---- the line of all words, from that of the words to come

abbrev pub joined : Option Text → List Text → Option Line → Option Line
joined budget places None = None
joined None places (Some line) = Some (record { budget = line.budget; places = places ++ line.places })
joined (Some value) places (Some line) = if is_some line.budget then None
    else Some (record { budget = Some value; places = places ++ line.places })

joined_start : (line : Option Line) → joined None [] line ≡ line
joined_start None = refl
joined_start (Some line) = refl

joined_place : (budget : Option Text) (places : List Text) (word : Text) (line : Option Line)
    → joined budget places (with_place word line) ≡ joined budget (places ++ word ∷ []) line
joined_place budget places word None = refl
joined_place None places word (Some line) =
    ap (λ ps. Some (record { budget = line.budget; places = ps })) (sym (append_assoc places (word ∷ []) line.places))
joined_place (Some value) places word (Some line) =
    ap (λ ps. cond (is_some line.budget) None (Some (record { budget = Some value; places = ps })))
    (sym (append_assoc places (word ∷ []) line.places))

joined_budget : (places : List Text) (value : Text) (line : Option Line)
    → joined None places (with_budget value line) ≡ joined (Some value) places line
joined_budget places value None = refl
joined_budget places value (Some line) = go (is_some line.budget)
  where
    go : (b : Bool) → joined None places (cond b None (Some (record line { budget = Some value })))
        ≡ cond b None (Some (record { budget = Some value; places = places ++ line.places }))
    go true = refl
    go false = refl

joined_twice : (places : List Text) (value other : Text) (line : Option Line)
    → joined (Some value) places (with_budget other line) ≡ None
joined_twice places value other None = refl
joined_twice places value other (Some line) = go (is_some line.budget)
  where
    go : (b : Bool) → joined (Some value) places (cond b None (Some (record line { budget = Some other }))) ≡ None
    go true = refl
    go false = refl

-- a single `-` stays
abbrev dash : Text
dash = codes "-"

any_append : (p : Text → Bool) (xs ys : List Text) → list_any p xs ≡ true → list_any p (xs ++ ys) ≡ true
any_append p [] ys e = absurd (let bad : false ≡ true = e in cc)
any_append p (x ∷ xs) ys e = go (p x) (any_append p xs ys) e
  where
    go : (b : Bool) → (list_any p xs ≡ true → list_any p (xs ++ ys) ≡ true) → (b || list_any p xs) ≡ true
        → (b || list_any p (xs ++ ys)) ≡ true
    go true rest e = refl
    go false rest e = rest e

any_last : (p : Text → Bool) (xs : List Text) (x : Text) → p x ≡ true → list_any p (xs ++ x ∷ []) ≡ true
any_last p [] x e = rw e refl
any_last p (y ∷ xs) x e = go (p y) (any_last p xs x e)
  where
    go : (b : Bool) → list_any p (xs ++ x ∷ []) ≡ true → (b || list_any p (xs ++ x ∷ [])) ≡ true
    go true rest = refl
    go false rest = rest

lost : (has : Bool) (line : Line) (kinds : Kinds) (rows : List Row) → HasDash has line
    → Agrees has (Some line) kinds rows → Agrees has None kinds rows
lost has line kinds rows d a = inr (a.0, line, a.1, a.2, d)

place_stays : (has : Bool) (budget : Option Text) (places : List Text) (line : Option Line) (kinds : Kinds)
    (rows : List Row) → list_any (bytes_eq dash) places ≡ true
    → Agrees has (joined budget places line) kinds rows → Agrees has None kinds rows
place_stays has budget places None kinds rows e a = a
place_stays has None places (Some line) kinds rows e a =
    lost has _ kinds rows (inr (any_append (bytes_eq dash) places line.places e)) a
place_stays has (Some value) places (Some line) kinds rows e a = go (is_some line.budget) a
  where
    go : (b : Bool) → Agrees has
        (cond b None (Some (record { budget = Some value; places = places ++ line.places }))) kinds rows
        → Agrees has None kinds rows
    go true a = a
    go false a = lost has _ kinds rows (inr (any_append (bytes_eq dash) places line.places e)) a

budget_stays : (places : List Text) (line : Option Line) (kinds : Kinds) (rows : List Row)
    → Agrees true (joined (Some dash) places line) kinds rows → Agrees true None kinds rows
budget_stays places None kinds rows a = a
budget_stays places (Some line) kinds rows a = go (is_some line.budget) a
  where
    go : (b : Bool) → Agrees true
        (cond b None (Some (record { budget = Some dash; places = places ++ line.places }))) kinds rows
        → Agrees true None kinds rows
    go true a = a
    go false a = lost true _ kinds rows (inl (refl, refl)) a

-- ---- the end, and what stands after `--`

done : (has : Bool) (w : Walk) (rows : List Row) (pending : Option (Text × List Text)) (first : Bool)
    (budget : Option Text) (places : List Text)
    → w.held ≡ held rows pending → Settles has rows pending first budget places
    → Agrees has (joined budget places (Some (record { budget = None; places = [] }))) (fate has w []) (ends has w [])
done has w rows pending first None places h s = (
  fate_end has w ∙ ap (settle_fault (rules has) false) h
      ∙ s.0,
  first,
  ap (λ (k : Held). settled_rows (rules has) k.pending k.rows) h ∙ s.1
      ∙ ap (found first None) (sym (append-nil places)),
)
done has w rows pending first (Some value) places h s = (
  fate_end has w ∙ ap (settle_fault (rules has) false) h
      ∙ s.0,
  first,
  ap (λ (k : Held). settled_rows (rules has) k.pending k.rows) h ∙ s.1
      ∙ ap (found first (Some value)) (sym (append-nil places)),
)

pub trailing : (has : Bool) (waiting : Waiting) (rows : List Row) (pending : Option (Text × List Text))
    (first : Bool) (budget : Option Text) (places words : List Text)
    → Settles has rows pending first budget places
    → Agrees has (joined budget places (Some (record { budget = None; places = words })))
    (fate has (at waiting true rows pending) words) (ends has (at waiting true rows pending) words)
trailing has waiting rows pending first budget places [] s = done has _ rows pending first budget places refl s
trailing has waiting rows pending first budget places (word ∷ words) s =
    let next = trailing has positional (found first budget places) (Some (codes "places", word ∷ []))
    (after_place first places) budget (places ++ word ∷ []) words
    (settled_by_place has first budget places word) in
    let line = joined_place budget places word (Some (record { budget = None; places = words })) in
    goes _ has (at waiting true rows pending) _ word words (trailing_turn has waiting rows pending word ∙ s.0)
    (trailing_walked has waiting rows pending word
    ∙ ap (λ rs. at positional true rs (Some (codes "places", word ∷ []))) s.1)
    (subst (λ l. Agrees has l
    (fate has (at positional true (found first budget places) (Some (codes "places", word ∷ []))) words)
    (ends has (at positional true (found first budget places) (Some (codes "places", word ∷ []))) words))
    (sym line) next)

-- what is pending is at fault
trailing_refuses : (has : Bool) (waiting : Waiting) (rows : List Row) (pending : Option (Text × List Text))
    (words : List Text)
    → fails (settling has rows pending) ≡ true → fails (fate has (at waiting true rows pending) words) ≡ true
trailing_refuses has waiting rows pending [] e = ap fails (fate_end has (at waiting true rows pending)) ∙ e
trailing_refuses has waiting rows pending (word ∷ words) e =
    stops has _ word words (ap fails (trailing_turn has waiting rows pending word) ∙ e)

-- ---- what a word looks like

-- what the words' definition and the parser ask of a word that is no option and no `--`
pub record IsPlain (word : Text) : Type 0 where
  pub dashes : bytes_eq word (codes "--") ≡ false
  pub long : long_of word ≡ None
  pub short : short_of word ≡ None
  pub name : bytes_eq (codes "--budget") (before_first is_equals word) ≡ false

pub data Looks : Text → Type 0 where
  plain : {word : Text} → IsPlain word → begins_with_minus word ≡ false → Looks word
  one : Looks (codes "-")
  two : Looks (codes "--")
  long : (y : ℕ) (ys : Text) → Looks (45 ∷ 45 ∷ y ∷ ys)
  short : (x : ℕ) (xs : Text) → (x == 45) ≡ false → Looks (45 ∷ x ∷ xs)

pub first_equals : (x : ℕ) (xs : Text) → (x == 61) ≡ true → before_first is_equals (x ∷ xs) ≡ []
first_equals x xs e = rw e refl

pub later_equals : (x : ℕ) (xs : Text) → (x == 61) ≡ false
    → before_first is_equals (x ∷ xs) ≡ x ∷ before_first is_equals xs
later_equals x xs e = rw (e, one_more) refl
  where
    one_more : (n : ℕ) → 1 + n ≡ suc n
    one_more n = omega arith

other_way : (x y : ℕ) → (x == y) ≡ false → (y == x) ≡ false
other_way x y e = grind arith

same : (x y : ℕ) → (x == y) ≡ true → y ≡ x
same x y e = grind arith

-- a word that begins with another byte
no_minus : (x : ℕ) (xs : Text) → (x == 45) ≡ false
    → bytes_eq (codes "--budget") (before_first is_equals (x ∷ xs)) ≡ false
no_minus x xs e = go (x == 61) refl
  where
    go : (b : Bool) → (x == 61) ≡ b → bytes_eq (codes "--budget") (before_first is_equals (x ∷ xs)) ≡ false
    go true eq = ap (bytes_eq (codes "--budget")) (first_equals x xs eq)
    go false eq = ap (bytes_eq (codes "--budget")) (later_equals x xs eq) ∙ rw (other_way x 45 e) refl

plain_word : (x : ℕ) (xs : Text) → (x == 45) ≡ false → IsPlain (x ∷ xs)
plain_word x xs e = record {
  dashes = rw e refl;
  long = rw e refl;
  short = rw e refl;
  name = no_minus x xs e;
}

looks : (word : Text) → Looks word
looks [] = plain (record { dashes = refl; long = refl; short = refl; name = refl }) refl
looks (x ∷ xs) = first (x == 45) refl
  where
    third : (ys : Text) → Looks (45 ∷ 45 ∷ ys)
    third [] = two
    third (z ∷ zs) = long z zs

    second : (ys : Text) → Looks (45 ∷ ys)
    second [] = one
    second (y ∷ ys) = go (y == 45) refl
      where
        go : (b : Bool) → (y == 45) ≡ b → Looks (45 ∷ y ∷ ys)
        go true e = subst (λ z. Looks (45 ∷ z ∷ ys)) (same y 45 e) (third ys)
        go false e = short y ys e

    first : (b : Bool) → (x == 45) ≡ b → Looks (x ∷ xs)
    first true e = subst (λ z. Looks (z ∷ xs)) (same x 45 e) (second xs)
    first false e = plain (plain_word x xs e) e

-- ---- the words before `--`

-- what follows `--`
start_of : (has : Bool) (ys : Text)
    → (has && bytes_eq (codes "--budget") (before_first is_equals (45 ∷ 45 ∷ ys))) ≡ is_named has (name_in ys)
start_of has ys = ap (λ t. has && bytes_eq (codes "--budget") t)
    (later_equals 45 (45 ∷ ys) refl ∙ ap (λ t. 45 ∷ t) (later_equals 45 ys refl))

value_after : (ys : Text) → after_first is_equals (45 ∷ 45 ∷ ys) ≡ after_first is_equals ys
value_after ys = two_more (position_or_len is_equals ys)
  where
    two_more : (n : ℕ) → drop (1 + (1 + n) + 1) (45 ∷ 45 ∷ ys) ≡ drop (n + 1) ys
    two_more n =
        let e : 1 + (1 + n) + 1 ≡ suc (suc (n + 1)) = omega arith in
        ap (λ k. drop k (45 ∷ 45 ∷ ys)) e

-- what the line is at a word, by what the word looks like
line_plain : (has : Bool) (word : Text) (words : List Text) → IsPlain word → begins_with_minus word ≡ false
    → line_of has false (word ∷ words) ≡ with_place word (line_of has false words)
line_plain true word words p e = rw (p.dashes, p.name, e) refl
line_plain false word words p e = rw (p.dashes, e) refl

line_one : (has : Bool) (words : List Text) → line_of has false (codes "-" ∷ words) ≡ None
line_one true words = refl
line_one false words = refl

line_two : (has : Bool) (words : List Text)
    → line_of has false (codes "--" ∷ words) ≡ Some (record { budget = None; places = words })
line_two has words = refl

line_short : (has : Bool) (x : ℕ) (xs : Text) (words : List Text) → (x == 45) ≡ false
    → line_of has false ((45 ∷ x ∷ xs) ∷ words) ≡ None
line_short has x xs words e = go (x == 61) refl
  where
    named_otherwise : (b : Bool) → (x == 61) ≡ b
        → bytes_eq (codes "--budget") (before_first is_equals (45 ∷ x ∷ xs)) ≡ false
    named_otherwise true eq =
        ap (λ t. bytes_eq (codes "--budget") t)
        (later_equals 45 (x ∷ xs) refl ∙ ap (λ t. 45 ∷ t) (first_equals x xs eq))
    named_otherwise false eq =
        ap (λ t. bytes_eq (codes "--budget") t)
        (later_equals 45 (x ∷ xs) refl ∙ ap (λ t. 45 ∷ t) (later_equals x xs eq))
        ∙ rw (other_way x 45 e) refl

    go : (b : Bool) → (x == 61) ≡ b → line_of has false ((45 ∷ x ∷ xs) ∷ words) ≡ None
    go b eq = by_option has (named_otherwise b eq)
      where
        by_option : (h : Bool) → bytes_eq (codes "--budget") (before_first is_equals (45 ∷ x ∷ xs)) ≡ false
            → line_of h false ((45 ∷ x ∷ xs) ∷ words) ≡ None
        by_option true n = rw (e, n) refl
        by_option false n = rw e refl

-- a word that begins with `--` and goes on
abbrev after_name : Bool → Bool → Bool → Text → List Text → Option Line
after_name has is_budget has_value ys words =
    if is_budget then (if has_value then with_budget (after_first is_equals ys) (line_of has false words)
    else line_of has true words) else None

line_long : (has : Bool) (y : ℕ) (ys : Text) (words : List Text)
    → line_of has false ((45 ∷ 45 ∷ y ∷ ys) ∷ words) ≡ after_name has (is_named has (name_in (y ∷ ys)))
    (has_byte 61 (y ∷ ys)) (y ∷ ys) words
line_long has y ys words =
    ap₂ (λ b v. cond b (cond (has_byte 61 (y ∷ ys)) (with_budget v (line_of has false words))
    (line_of has true words)) None)
    (start_of has (y ∷ ys)) (value_after (y ∷ ys))

-- what is pending is at fault, and no word mends it
refuses : (has rests : Bool) (rows : List Row) (pending : Option (Text × List Text)) (words : List Text)
    → AreTexts words
    → fails (settling has rows pending) ≡ true → fails (fate has (at (resting rests) false rows pending) words) ≡ true
refuses has rests rows pending [] texts e = ap fails (fate_end has (at (resting rests) false rows pending)) ∙ e
refuses has rests rows pending (word ∷ words) texts e = go word (looks word) texts.0
  where
    go : (word : Text) → Looks word → IsUtf8 word
        → fails (fate has (at (resting rests) false rows pending) (word ∷ words)) ≡ true
    go word (plain p m) text =
        stops has _ word words (ap fails (plain_turn has rests rows pending word p.dashes p.long p.short) ∙ e)
    go word one text = stops has _ word words
        (ap fails (plain_turn has rests rows pending (codes "-") refl refl refl) ∙ e)
    go word two text = goes_on has _ _ (codes "--") words (dashes_turn has (resting rests) rows pending)
        (dashes_walked has (resting rests) rows pending)
        (trailing_refuses has (resting rests) rows pending words e)
    go word (long y ys) text =
        stops has _ _ words (ap fails (long_turned has (resting rests) rows pending y ys)
        ∙ long_refuses has (resting rests) _ rows pending _ _ e)
    go word (short x xs m) text = stops has _ _ words (short_refuses has (resting rests) rows pending x xs text m)

-- ---- the value of `--budget`, as a word of its own

abbrev awaits : Waiting
awaits = option (codes "budget")

abbrev wanting : Option (Text × List Text)
wanting = Some (codes "budget", [])

abbrev given : Text → Option (Text × List Text)
given value = Some (codes "budget", value ∷ [])

value_turn : (rows : List Row) (word : Text) → bytes_eq word (codes "--") ≡ false → long_of word ≡ None
    → short_of word ≡ None
    → turn true (at awaits false rows wanting) word ≡ []
value_turn rows word d l s = rw (d, l, s) refl

value_walked : (rows : List Row) (word : Text) → bytes_eq word (codes "--") ≡ false → long_of word ≡ None
    → short_of word ≡ None
    → walked (rules true) [] (at awaits false rows wanting) word ≡ at idle false rows (given word)
unfolding walked
value_walked rows word d l s = rw (d, l, s) refl

twice : (first : Bool) (value : Text) (places : List Text) (other : Text)
    → fails (settling true (found first (Some value) places) (given other)) ≡ true
twice first value places other = rw ((rows_read first (Some value) places).0) refl

-- ---- the walk over all words

-- the walk has read a budget and places, and reads on
abbrev pub ReadsOn : List Text → Type 0
ReadsOn words = (has rests : Bool) (rows : List Row) (pending : Option (Text × List Text)) (first : Bool)
    (budget : Option Text) (places : List Text)
    → Settles has rows pending first budget places
    → Agrees has (joined budget places (line_of has false words))
    (fate has (at (resting rests) false rows pending) words)
    (ends has (at (resting rests) false rows pending) words)

-- the walk has read a budget and places, and waits for a value
abbrev pub Waits : List Text → Type 0
Waits words = (first : Bool) (budget : Option Text) (places : List Text)
    → Agrees true (joined budget places (line_of true true words))
    (fate true (at awaits false (found first budget places) wanting) words)
    (ends true (at awaits false (found first budget places) wanting) words)

abbrev At : Option Line → Bool → Walk → List Text → Type 0
At line has w words = Agrees has line (fate has w words) (ends has w words)

along : (line other : Option Line) (has : Bool) (w : Walk) (words : List Text) → line ≡ other → At other has w words
    → At line has w words
along line other has w words e h = subst (λ l. At l has w words) (sym e) h

placed_step : (line : Option Line) (has rests : Bool) (rows : List Row) (pending : Option (Text × List Text))
    (first : Bool) (budget : Option Text) (places : List Text)
    (word : Text) (words : List Text) → bytes_eq word (codes "--") ≡ false → long_of word ≡ None → short_of word ≡ None
    → Settles has rows pending first budget places
    → At line has (at positional false (found first budget places) (Some (codes "places", word ∷ []))) words
    → At line has (at (resting rests) false rows pending) (word ∷ words)
placed_step line has rests rows pending first budget places word words d l s settles h =
    goes line has (at (resting rests) false rows pending)
    (at positional false (found first budget places) (Some (codes "places", word ∷ []))) word words
    (plain_turn has rests rows pending word d l s ∙ settles.0)
    (plain_walked has rests rows pending word d l s
    ∙ ap (λ rs. at positional false rs (Some (codes "places", word ∷ []))) settles.1) h

-- `--budget=VALUE`
attached_turn : (rests first : Bool) (rows : List Row) (pending : Option (Text × List Text)) (places : List Text)
    (word value : Text)
    → Settles true rows pending first None places
    → long_turn true (resting rests) word (held rows pending) (Some budget_built) (Some value) ≡ []
attached_turn rests first rows pending places word value s = rw (s.0, s.1, (rows_read first None places).0) refl

attached_twice : (rests first : Bool) (rows : List Row) (pending : Option (Text × List Text)) (other : Text)
    (places : List Text) (word value : Text)
    → Settles true rows pending first (Some other) places
    → fails (long_turn true (resting rests) word (held rows pending) (Some budget_built) (Some value)) ≡ true
attached_twice rests first rows pending other places word value s =
    rw (s.0, s.1, (rows_read first (Some other) places).0) refl

attached_walk : (rests first : Bool) (rows : List Row) (pending : Option (Text × List Text)) (places : List Text)
    (word value : Text)
    → Settles true rows pending first None places
    → long_walk true word (at (resting rests) false rows pending) (Some budget_built) (Some value) ≡ at idle false
    (found false (Some value) places) None
attached_walk rests first rows pending places word value s =
    ap (λ rs. at idle false (used budget_built (value ∷ []) rs) None) s.1
    ∙ ap (λ rs. at idle false rs None) (budget_used first places value)

-- `--budget` alone
alone_turn : (rests first : Bool) (rows : List Row) (pending : Option (Text × List Text)) (budget : Option Text)
    (places : List Text) (word : Text)
    → Settles true rows pending first budget places
    → long_turn true (resting rests) word (held rows pending) (Some budget_built) None ≡ []
alone_turn rests first rows pending budget places word s = rw s.0 refl

alone_walk : (rests first : Bool) (rows : List Row) (pending : Option (Text × List Text)) (budget : Option Text)
    (places : List Text) (word : Text)
    → Settles true rows pending first budget places
    → long_walk true word (at (resting rests) false rows pending) (Some budget_built) None ≡ at awaits false
    (found first budget places) wanting
alone_walk rests first rows pending budget places word s = ap (λ rs. at awaits false rs wanting) s.1

-- a word that begins with `--` and goes on
long_step : (y : ℕ) (ys : Text) (words : List Text) → ReadsOn words → Waits words
    → (has rests : Bool) (rows : List Row) (pending : Option (Text × List Text)) (first : Bool)
    (budget : Option Text) (places : List Text)
    → Settles has rows pending first budget places
    → At (joined budget places (after_name has (is_named has (name_in (y ∷ ys))) (has_byte 61 (y ∷ ys)) (y ∷ ys) words))
    has (at (resting rests) false rows pending) ((45 ∷ 45 ∷ y ∷ ys) ∷ words)
long_step y ys words reads waits has rests rows pending first budget places s =
    go has budget s (is_named has (name_in (y ∷ ys))) (has_byte 61 (y ∷ ys)) refl refl
  where
    word : Text
    word = 45 ∷ 45 ∷ y ∷ ys

    go : (has : Bool) (budget : Option Text) → Settles has rows pending first budget places → (b v : Bool)
        → is_named has (name_in (y ∷ ys)) ≡ b → has_byte 61 (y ∷ ys) ≡ v
        → At (joined budget places (after_name has b v (y ∷ ys) words)) has (at (resting rests) false rows pending)
        ((45 ∷ 45 ∷ y ∷ ys) ∷ words)
    go has budget s false v eb ev =
        inl (stops has _ _ words (ap fails (long_turned has (resting rests) rows pending y ys
        ∙ ap (λ b. long_turn has (resting rests) (45 ∷ 45 ∷ y ∷ ys) (held rows pending) (named b)
        (value_in (y ∷ ys))) eb)))
    go false budget s true v eb ev = absurd (let bad : false ≡ true = eb in cc)
    go true None s true true eb ev =
        let value = after_first (λ x. x == 61) (y ∷ ys) in
        along _ _ true _ _ (joined_budget places value (line_of true false words))
        (goes _ true _ (at idle false (found false (Some value) places) None) _ words
        (long_turned true (resting rests) rows pending y ys
        ∙ ap₂ (λ b v. long_turn true (resting rests) (45 ∷ 45 ∷ y ∷ ys) (held rows pending) (named b)
        (if v then Some value else None)) eb ev
        ∙ attached_turn rests first rows pending places (45 ∷ 45 ∷ y ∷ ys) value s)
        (long_walked true (resting rests) rows pending y ys
        ∙ ap₂ (λ b v. long_walk true (45 ∷ 45 ∷ y ∷ ys) (at (resting rests) false rows pending) (named b)
        (if v then Some value else None)) eb ev
        ∙ attached_walk rests first rows pending places (45 ∷ 45 ∷ y ∷ ys) value s)
        (reads true true (found false (Some value) places) None false (Some value) places (refl, refl)))
    go true (Some other) s true true eb ev =
        let value = after_first (λ x. x == 61) (y ∷ ys) in
        along _ _ true _ _ (joined_twice places other value (line_of true false words))
        (inl (stops true _ _ words (ap fails (long_turned true (resting rests) rows pending y ys
        ∙ ap₂ (λ b v. long_turn true (resting rests) (45 ∷ 45 ∷ y ∷ ys) (held rows pending) (named b)
        (if v then Some value else None)) eb ev)
        ∙ attached_twice rests first rows pending other places (45 ∷ 45 ∷ y ∷ ys) value s)))
    go true budget s true false eb ev =
        let value = after_first (λ x. x == 61) (y ∷ ys) in
        goes _ true _ (at awaits false (found first budget places) wanting) _ words
        (long_turned true (resting rests) rows pending y ys
        ∙ ap₂ (λ b v. long_turn true (resting rests) (45 ∷ 45 ∷ y ∷ ys) (held rows pending) (named b)
        (if v then Some value else None)) eb ev
        ∙ alone_turn rests first rows pending budget places (45 ∷ 45 ∷ y ∷ ys) s)
        (long_walked true (resting rests) rows pending y ys
        ∙ ap₂ (λ b v. long_walk true (45 ∷ 45 ∷ y ∷ ys) (at (resting rests) false rows pending) (named b)
        (if v then Some value else None)) eb ev
        ∙ alone_walk rests first rows pending budget places (45 ∷ 45 ∷ y ∷ ys) s)
        (waits first budget places)

next_word : (word : Text) (words : List Text) → IsUtf8 word → ReadsOn words → Waits words → ReadsOn (word ∷ words)
next_word word words text reads waits has rests rows pending first budget places s = go word (looks word) text
  where
    after : (word : Text) → At (joined budget (places ++ word ∷ []) (line_of has false words)) has
        (at positional false (found first budget places) (Some (codes "places", word ∷ []))) words
    after word = reads has false (found first budget places) (Some (codes "places", word ∷ []))
        (after_place first places) budget (places ++ word ∷ [])
        (settled_by_place has first budget places word)

    go : (word : Text) → Looks word → IsUtf8 word
        → At (joined budget places (line_of has false (word ∷ words))) has (at (resting rests) false rows pending)
        (word ∷ words)
    go word (plain p m) text =
        along _ _ has _ _ (ap (joined budget places) (line_plain has word words p m)
        ∙ joined_place budget places word (line_of has false words))
        (placed_step _ has rests rows pending first budget places word words p.dashes p.long p.short s (after word))
    go word one text =
        along _ None has _ _ (ap (joined budget places) (line_one has words))
        (placed_step None has rests rows pending first budget places (codes "-") words refl refl refl s
        (place_stays has budget (places ++ codes "-" ∷ []) (line_of has false words) _ _
        (any_last (bytes_eq dash) places dash refl) (after (codes "-"))))
    go word two text =
        goes _ has _ _ (codes "--") words (dashes_turn has (resting rests) rows pending)
        (dashes_walked has (resting rests) rows pending)
        (trailing has (resting rests) rows pending first budget places words s)
    go word (long y ys) text =
        along _ _ has _ _ (ap (joined budget places) (line_long has y ys words))
        (long_step y ys words reads waits has rests rows pending first budget places s)
    go word (short x xs m) text =
        along _ None has _ _ (ap (joined budget places) (line_short has x xs words m))
        (inl (stops has _ _ words (short_refuses has (resting rests) rows pending x xs text m)))

next_value : (word : Text) (words : List Text) → IsUtf8 word → AreTexts words → ReadsOn words → Waits (word ∷ words)
next_value word words text texts reads first budget places = go word budget (looks word) text
  where
    refused : (other word : Text) → bytes_eq word (codes "--") ≡ false → long_of word ≡ None → short_of word ≡ None
        → At None true (at awaits false (found first (Some other) places) wanting) (word ∷ words)
    refused other word d l s =
        inl (goes_on true (at awaits false (found first (Some other) places) wanting)
        (at (resting true) false (found first (Some other) places) (given word)) word words
        (value_turn (found first (Some other) places) word d l s)
        (value_walked (found first (Some other) places) word d l s)
        (refuses true true (found first (Some other) places) (given word) words texts (twice first other places word)))

    taken : (word : Text)
        → At (joined (Some word) places (line_of true false words)) true
        (at (resting true) false (found first None places) (given word)) words
    taken word = reads true true (found first None places) (given word) false (Some word) places
        (settled_by_budget first places word)

    go : (word : Text) (budget : Option Text) → Looks word → IsUtf8 word
        → At (joined budget places (line_of true true (word ∷ words))) true
        (at awaits false (found first budget places) wanting) (word ∷ words)
    go word None (plain p m) text =
        along _ _ true _ _ (ap
        (λ b. joined None places (if b then None else with_budget word (line_of true false words))) m
        ∙ joined_budget places word (line_of true false words))
        (goes _ true _ (at (resting true) false (found first None places) (given word)) word words
        (value_turn _ word p.dashes p.long p.short)
        (value_walked _ word p.dashes p.long p.short) (taken word))
    go word (Some other) (plain p m) text =
        along _ None true _ _
        (ap (λ b. joined (Some other) places (if b then None else with_budget word (line_of true false words))) m
        ∙ joined_twice places other word (line_of true false words)) (refused other word p.dashes p.long p.short)
    go word None one text =
        goes None true (at awaits false (found first None places) wanting)
        (at (resting true) false (found first None places) (given (codes "-"))) (codes "-") words
        (value_turn (found first None places) (codes "-") refl refl refl)
        (value_walked (found first None places) (codes "-") refl refl refl)
        (budget_stays places (line_of true false words)
        (fate true (at (resting true) false (found first None places) (given (codes "-"))) words)
        (ends true (at (resting true) false (found first None places) (given (codes "-"))) words) (taken (codes "-")))
    go word (Some other) one text = refused other (codes "-") refl refl refl
    go word budget two text =
        inl (goes_on true (at awaits false (found first budget places) wanting)
        (at awaits true (found first budget places) wanting) (codes "--") words
        (dashes_turn true awaits (found first budget places) wanting)
        (dashes_walked true awaits (found first budget places) wanting)
        (trailing_refuses true awaits (found first budget places) wanting words refl))
    go word budget (long y ys) text =
        inl (stops true _ _ words (ap fails (long_turned true awaits (found first budget places) wanting y ys)
        ∙ long_refuses true awaits _ (found first budget places) wanting _ _ refl))
    go word budget (short x xs m) text =
        inl (stops true _ _ words (short_refuses true awaits (found first budget places) wanting x xs text m))

all_words : (words : List Text) → AreTexts words → ReadsOn words × Waits words
all_words [] texts = (
  λ has rests rows pending first budget places s. done has
      (at (resting rests) false rows pending) rows pending first budget places refl s,
  λ first budget places. inl (ap fails (fate_end true (at awaits false (found first budget places) wanting))),
)
all_words (word ∷ words) texts =
    let rest = all_words words texts.1 in
    (next_word word words texts.0 rest.0 rest.1, next_value word words texts.0 texts.1 rest.0)

-- the walk over all words finds their line
pub finds_line : (has : Bool) (words : List Text) → AreTexts words
    → Agrees has (line_of has false words) (fate has (at idle false [] None) words)
    (ends has (at idle false [] None) words)
finds_line has words texts = along _ _ has _ words (sym (joined_start (line_of has false words)))
    ((all_words words texts).0 has true [] None true None [] (start has))
  where
    start : (has : Bool) → Settles has [] None true None []
    start true = (refl, refl)
    start false = (refl, refl)
