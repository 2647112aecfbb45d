-- The same, item by item.
use Rattle.std.specs.Prelude.{ℕ, ◌+◌, ◌^◌, ◌==◌, nat_le, Bool, true, false, ◌&&◌, not, if◌then◌else◌, List, [], ◌∷◌}
use Rattle.std.specs.Prelude.{◌++◌, Option, Some, None, Result, Ok, Err}
use Rattle.cla_grammar.specs.declared.place.Place.{Place}
use Rattle.cla_grammar.specs.Tokens.{Token, Placed, Number}
use Rattle.cla_grammar.specs.Tree.{Statement}
use Rattle.cla_grammar.specs.Machine.{State, Start, InSpan, WantTwo, Dead, step, finish}
use Rattle.cla_grammar.specs.Faults.{Item, Tok, BadByte, BadText, End, Fault}
use Rattle.cla_grammar.specs.declared.words.ScriptKind.{ScriptKind}
use Rattle.cla_grammar.specs.declared.words.ScriptKind.TheVariants.{Char, Text, Long, Literal, Exponent, Syntax}

-- the tokens of the open statement, so many, led to this state
pub record Reading : Type 0 where
  pub count : ℕ
  pub state : State
  pub statements : List Statement

abbrev pub fresh : List Statement → Reading
fresh xs = record { count = 0; state = Start; statements = xs }

abbrev pub fault : Place → ScriptKind → Result Reading Fault
fault p k = Err (record { place = p; kind = k })

abbrev pub waits : State → Bool
waits (WantTwo p s t) = true
waits _ = false

abbrev pub spans : State → Bool
spans (InSpan p s t part seen) = true
spans _ = false

abbrev pub is_dead : State → Bool
is_dead Dead = true
is_dead _ = false

abbrev pub is_two : Token → Bool
is_two (Number n) = n == 2
is_two _ = false

abbrev pub is_large : ℕ → State → Token → Bool
is_large bits u (Number n) = if waits u then false else nat_le (if spans u then 2 ^ 31 else 2 ^ bits) n
is_large bits u _ = false

-- the next state, or why the token is refused
abbrev pub test : ℕ → State → Placed → Result State ScriptKind
test bits u k =
    if waits u && not (is_two k.token) then Err Exponent
    else if is_dead (step u k) then Err Syntax
    else if is_large bits u k.token then Err Literal
    else Ok (step u k)

abbrev pub tested : Place → Reading → Result State ScriptKind → Result Reading Fault
tested p r (Ok u) = Ok (record { count = r.count + 1; state = u; statements = r.statements })
tested p r (Err kind) = fault p kind

abbrev pub take_token : ℕ → Reading → Placed → Result Reading Fault
take_token bits r k = if nat_le 256 r.count then fault k.place Long else tested k.place r (test bits r.state k)

-- a statement that is whole joins those before
abbrev pub joined : Place → List Statement → Option Statement → Result Reading Fault
joined p xs (Some x) = Ok (fresh (xs ++ x ∷ []))
joined p xs None = fault p Syntax

abbrev pub take_end : Reading → Place → Result Reading Fault
take_end r p =
    if r.count == 0 then Ok (fresh r.statements)
    else if waits r.state then fault p Exponent
    else joined p r.statements (finish r.state)

abbrev pub take_item : ℕ → Reading → Item → Result Reading Fault
take_item bits r (Tok k) = take_token bits r k
take_item bits r (BadByte p) = fault p Char
take_item bits r (BadText p) = fault p Text
take_item bits r (End p) = take_end r p

abbrev pub onward : Result Reading Fault → (Reading → Result Reading Fault) → Result Reading Fault
onward (Ok r) next = next r
onward (Err f) next = Err f

abbrev pub take_items : ℕ → Reading → List Item → Result Reading Fault
take_items bits r [] = Ok r
take_items bits r (i ∷ items) = onward (take_item bits r i) (λ (n : Reading). take_items bits n items)

abbrev pub read_script : ℕ → List Item → Result Reading Fault
read_script bits items = take_items bits (fresh []) items
