-- The items of a script, the trees of its statements, and its first fault.
use Rattle.std.specs.Prelude.{◌≡◌, ◌≢◌, ℕ, ◌<◌, ◌≤◌, ◌^◌, Bool, true, false, if◌then◌else◌, length, List, [], ◌∷◌}
use Rattle.std.specs.Prelude.{◌++◌}
use Rattle.cla_grammar.specs.declared.place.Place.{Place}
use Rattle.cla_grammar.specs.Tokens.{Token, Placed, Number, Power, OpenSquare, CloseSquare}
use Rattle.cla_grammar.specs.Tree.{Statement}
use Rattle.cla_grammar.specs.Grammar.{Reads, Begins}
use Rattle.cla_grammar.specs.declared.words.ScriptKind.{ScriptKind}
use Rattle.cla_grammar.specs.declared.words.ScriptKind.TheVariants.{Char, Text, Long, Literal, Exponent, Syntax}
use Rattle.cla_grammar.specs.declared.words.ScriptKind.TheVariants.{Clash}

-- what stands in a script, in its order
pub data Item : Type 0 where
  Tok : Placed → Item
  BadByte : Place → Item
  BadText : Place → Item
  End : Place → Item

abbrev pub place_of : Item → Place
place_of (Tok k) = k.place
place_of (BadByte p) = p
place_of (BadText p) = p
place_of (End p) = p

pub record Fault : Type 0 where
  pub place : Place
  pub kind : ScriptKind

-- the tokens of the statement that is open after these items, where it began with `done`
abbrev pub open_tokens : List Placed → List Item → List Placed
open_tokens done [] = done
open_tokens done (Tok k ∷ items) = open_tokens (done ++ k ∷ []) items
open_tokens done (BadByte p ∷ items) = open_tokens [] items
open_tokens done (BadText p ∷ items) = open_tokens [] items
open_tokens done (End p ∷ items) = open_tokens [] items

-- the tokens of each statement that ends and isn't empty
abbrev pub with_ended : List Placed → List (List Placed) → List (List Placed)
with_ended [] more = more
with_ended (k ∷ ks) more = (k ∷ ks) ∷ more

abbrev pub statements_from : List Placed → List Item → List (List Placed)
statements_from done [] = []
statements_from done (Tok k ∷ items) = statements_from (done ++ k ∷ []) items
statements_from done (BadByte p ∷ items) = statements_from [] items
statements_from done (BadText p ∷ items) = statements_from [] items
statements_from done (End p ∷ items) = with_ended done (statements_from [] items)

abbrev pub AllRead : List (List Placed) → List Statement → Type 0
AllRead [] [] = Unit {0}
AllRead [] (x ∷ xs) = ⊥
AllRead (ts ∷ rest) [] = ⊥
AllRead (ts ∷ rest) (x ∷ xs) = Reads ts x × AllRead rest xs

-- the last token is a sign of power
abbrev pub is_power : Token → Bool
is_power Power = true
is_power _ = false

abbrev pub after_power : Bool → List Placed → Bool
after_power b [] = b
after_power b (k ∷ ks) = after_power (is_power k.token) ks

-- the last square bracket opens
abbrev pub square_after : Bool → Token → Bool
square_after b OpenSquare = true
square_after b CloseSquare = false
square_after b _ = b

abbrev pub in_square : Bool → List Placed → Bool
in_square b [] = b
in_square b (k ∷ ks) = in_square (square_after b k.token) ks

-- a number isn't below the limit of its place; an exponent has none
abbrev pub IsLarge : ℕ → List Placed → Token → Type 0
IsLarge bits done (Number n) = (after_power false done ≡ false)
    × ((if in_square false done then 2 ^ 31 else 2 ^ bits) ≤ n)
IsLarge bits done _ = ⊥

-- whether this test refuses the item, given the tokens of its statement before it
abbrev pub Refuses : ℕ → List Placed → Item → ScriptKind → Type 0
Refuses bits done (BadByte p) Char = Unit {0}
Refuses bits done (BadText p) Text = Unit {0}
Refuses bits done (Tok k) Long = 256 ≤ length done
Refuses bits done (Tok k) Exponent = (after_power false done ≡ true) × (k.token ≢ Number 2)
Refuses bits done (Tok k) Syntax = Begins (done ++ k ∷ []) → ⊥
Refuses bits done (Tok k) Literal = IsLarge bits done k.token
Refuses bits done (End p) Exponent = after_power false done ≡ true
Refuses bits done (End p) Syntax = (done ≢ []) × ((x : Statement) → Reads done x → ⊥)
Refuses bits done _ _ = ⊥

-- the order of the tests at one item
abbrev pub rank : ScriptKind → ℕ
rank Char = 0
rank Text = 0
rank Long = 1
rank Exponent = 2
rank Syntax = 3
rank Literal = 4
rank Clash = 5

-- the first test that refuses the item
pub record IsRefused (bits : ℕ) (done : List Placed) (item : Item) (fault : Fault) : Type 0 where
  pub refuses : Refuses bits done item fault.kind
  pub first : (k : ScriptKind) → rank k < rank fault.kind → Refuses bits done item k → ⊥
  pub there : fault.place ≡ place_of item

-- no test refuses any of the items
abbrev pub NoneIsRefused : ℕ → List Item → Type 0
NoneIsRefused bits items = (before : List Item) (item : Item) (after : List Item) (k : ScriptKind)
    → items ≡ before ++ item ∷ after → Refuses bits (open_tokens [] before) item k → ⊥

-- the first item that a test refuses, by the first test that does
pub record IsFirstRefused (bits : ℕ) (items : List Item) (fault : Fault) : Type 0 where
  pub before : List Item
  pub item : Item
  pub after : List Item
  pub split : items ≡ before ++ item ∷ after
  pub refused : IsRefused bits (open_tokens [] before) item fault
  pub first : NoneIsRefused bits before

-- no item is refused, and these are the trees of the statements
pub record IsScript (bits : ℕ) (items : List Item) (statements : List Statement) : Type 0 where
  pub accepted : NoneIsRefused bits items
  pub reads : AllRead (statements_from [] items) statements
