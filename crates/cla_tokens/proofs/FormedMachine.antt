-- What is read from formed tokens is formed.
use Rattle.std.proofs.Common.{◌≡◌, ◌≢◌, ℕ, ◌+◌, ◌<◌, ◌≤◌, ◌^◌, List, [], ◌∷◌, ◌++◌, length, refl, sym, ap, inl, inr}
use Rattle.std.proofs.Common.{◌∙◌, arith}
use Rattle.std.proofs.Common.{Bool, true, false, Option, Some, None, Result, Ok, Err, length-append}
use Rattle.std.specs.Prelude.{nat_le, nat_lt, ◌==◌, ◌&&◌, not}
use Rattle.std.proofs.lemmas.Bool.{cases_Bool}
use Rattle.std.proofs.lemmas.Bool.Decides.{nat_tests}
use Rattle.cla_grammar.specs.declared.place.Place.{Place}
use Rattle.cla_num.specs.declared.cell_op.CellOp.TheVariants.{Sub, Neg}
use Rattle.cla_grammar.specs.declared.words.BinOp.{BinOp}
use Rattle.cla_grammar.specs.declared.words.BinOp.TheVariants.{Cell}
use Rattle.cla_grammar.specs.declared.words.SaveWord.{SaveWord}
use Rattle.cla_grammar.specs.Tokens.{Token, Placed, Number, Name, Text, Sign, Assign, Power, Open, Close, Comma}
use Rattle.cla_grammar.specs.Tokens.{OpenSquare, CloseSquare}
use Rattle.cla_grammar.specs.Tokens.{Colon, Function, Binder, Read, Print, Save, level}
use Rattle.cla_grammar.specs.Tree.{Tree, Span, Every, One, Pair, Statement, ReadOf}
use Rattle.cla_grammar.specs.Tree.{SaveOf}
use Rattle.cla_grammar.specs.Machine.{Frame, Left, Minus, Paren, Argument, First, Second, Letting, Printing, Saving}
use Rattle.cla_grammar.specs.Machine.{level_of, closed}
use Rattle.cla_grammar.specs.Machine.{reduce}
use Rattle.cla_grammar.specs.Machine.{State, Start, After, Want, WantOpen, Have, InSpan, WantTwo, ReadOpen, ReadText}
use Rattle.cla_grammar.specs.Machine.{ReadClose, FileText}
use Rattle.cla_grammar.specs.Machine.{FileClose, Whole, Dead, Part, Rows, Cols, Seen, Nothing, Once, Parted, Both}
use Rattle.cla_grammar.specs.Machine.{start, assign, close}
use Rattle.cla_grammar.specs.Machine.{next_argument, begin, read, want, have, open_only, if_two, two_only, ended}
use Rattle.cla_grammar.specs.Machine.{span_step, read_text}
use Rattle.cla_grammar.specs.Machine.{file_text, close_only, step, run, let_end, finish}
use Rattle.cla_grammar.specs.Faults.{Item, Tok, BadByte, BadText, End, Fault}
use Rattle.cla_grammar.specs.Reader.{Reading, fresh, waits, is_dead, is_two, is_large, take_token, joined, take_end}
use Rattle.cla_grammar.specs.Reader.{onward, take_items}
use Rattle.cla_grammar.proofs.MachineComplete.{run-append}
use Rattle.cla_grammar.proofs.MachineSound.{derived}
use Rattle.cla_grammar.proofs.CanonicalLength.{statement_len}
use Rattle.cla_tokens.specs.Formed.{IsName, IsText, IsFormedSpan, IsFormedTree, HasFormedParts, IsFormed, AllFormed}

-- what a token of a text is
abbrev pub IsFormedToken : Token → Type 0
IsFormedToken (Name n) = IsName n
IsFormedToken (Text f) = IsText f
IsFormedToken (Sign o) = o ≢ Cell Neg
IsFormedToken _ = Unit {0}

abbrev IsFormedFrame : Frame → Type 0
IsFormedFrame (Left p o x) = (o ≢ Cell Neg) × IsFormedTree x
IsFormedFrame (Minus p) = Unit {0}
IsFormedFrame Paren = Unit {0}
IsFormedFrame (Argument p f) = Unit {0}
IsFormedFrame (First p f) = Unit {0}
IsFormedFrame (Second p f x) = IsFormedTree x
IsFormedFrame (Letting n) = IsName n
IsFormedFrame Printing = Unit {0}
IsFormedFrame (Saving w p) = Unit {0}

abbrev IsFormedStack : List Frame → Type 0
IsFormedStack [] = Unit {0}
IsFormedStack (f ∷ s) = IsFormedFrame f × IsFormedStack s

abbrev IsFormedSeen : Seen → Type 0
IsFormedSeen Nothing = Unit {0}
IsFormedSeen (Once n) = n < 2 ^ 31
IsFormedSeen (Parted n) = n < 2 ^ 31
IsFormedSeen (Both n m) = (n < 2 ^ 31) × (m < 2 ^ 31)

abbrev IsFormedPart : Part → Type 0
IsFormedPart Rows = Unit {0}
IsFormedPart (Cols s) = IsFormedSpan s

abbrev IsFormedState : State → Type 0
IsFormedState Start = Unit {0}
IsFormedState (After n) = IsName n
IsFormedState (Want s) = IsFormedStack s
IsFormedState (WantOpen s) = IsFormedStack s
IsFormedState (Have b s t) = IsFormedStack s × IsFormedTree t
IsFormedState (InSpan p s t part seen) = (IsFormedStack s × IsFormedTree t) × (IsFormedPart part × IsFormedSeen seen)
IsFormedState (WantTwo p s t) = IsFormedStack s × IsFormedTree t
IsFormedState (ReadOpen n) = IsName n
IsFormedState (ReadText n) = IsName n
IsFormedState (ReadClose n f) = IsName n × IsText f
IsFormedState (FileText w p t) = IsFormedTree t
IsFormedState (FileClose w p t q f) = IsFormedTree t × IsText f
IsFormedState (Whole x) = HasFormedParts x
IsFormedState Dead = Unit {0}

closed_formed : (f : Frame) (t : Tree) → IsFormedFrame f → IsFormedTree t → IsFormedTree (closed f t)
closed_formed (Left p o x) t f h = (f.0, (f.1, h))
closed_formed (Minus p) t f h = h
closed_formed Paren t f h = h
closed_formed (Argument p g) t f h = h
closed_formed (First p g) t f h = h
closed_formed (Second p g x) t f h = h
closed_formed (Letting n) t f h = h
closed_formed Printing t f h = h
closed_formed (Saving w p) t f h = h

reduced_formed : (k : ℕ) (s : List Frame) (t : Tree) → IsFormedStack s → IsFormedTree t
    → IsFormedStack (reduce k s t).stack
    × IsFormedTree (reduce k s t).tree
reduced_formed k [] t s_formed h = (tt, h)
reduced_formed k (f ∷ s) t s_formed h = elim (cases_Bool (nat_lt (level_of f) k)) [
  | inl stops ↦ rw stops (s_formed, h)
  | inr goes ↦ rw goes (reduced_formed k s (closed f t) s_formed.1 (closed_formed f t s_formed.0 h))
]

start_formed : (p : Place) (k : Token) → IsFormedToken k → IsFormedState (start p k)
start_formed p (Name n) h = h
start_formed p Print h = (tt, tt)
start_formed p (Save w) h = (tt, tt)
start_formed p _ h = tt

assign_formed : (k : Token) (n : List ℕ) → IsName n → IsFormedState (assign k n)
assign_formed Assign n h = (h, tt)
assign_formed _ n h = tt

close_formed : (s : List Frame) (t : Tree) → IsFormedStack s × IsFormedTree t → IsFormedState (close s t)
close_formed [] t h = tt
close_formed (Left p o x ∷ s) t h = tt
close_formed (Minus p ∷ s) t h = tt
close_formed (Paren ∷ s) t h = (h.0.1, h.1)
close_formed (Argument p f ∷ s) t h = (h.0.1, h.1)
close_formed (First p f ∷ s) t h = tt
close_formed (Second p f x ∷ s) t h = (h.0.1, (h.0.0, h.1))
close_formed (Letting n ∷ s) t h = tt
close_formed (Printing ∷ s) t h = h.1
close_formed (Saving w p ∷ s) t h = tt

next_formed : (s : List Frame) (t : Tree) → IsFormedStack s × IsFormedTree t → IsFormedState (next_argument s t)
next_formed [] t h = tt
next_formed (Left p o x ∷ s) t h = tt
next_formed (Minus p ∷ s) t h = tt
next_formed (Paren ∷ s) t h = tt
next_formed (Argument p f ∷ s) t h = tt
next_formed (First p f ∷ s) t h = (h.1, h.0.1)
next_formed (Second p f x ∷ s) t h = tt
next_formed (Letting n ∷ s) t h = tt
next_formed (Printing ∷ s) t h = tt
next_formed (Saving w p ∷ s) t h = h.1

begin_formed : (p : Place) (o : BinOp) (s : List Frame) → IsFormedStack s → IsFormedState (begin p o s)
begin_formed p (Cell Sub) s h = (tt, h)
begin_formed p _ s h = tt

read_formed : (s : List Frame) → IsFormedStack s → IsFormedState (read s)
read_formed (Letting n ∷ s) h = h.0
read_formed _ h = tt

want_formed : (p : Place) (k : Token) (s : List Frame) → IsFormedStack s → IsFormedToken k → IsFormedState (want p k s)
want_formed p (Number n) s h k = (h, tt)
want_formed p (Name n) s h k = (h, k)
want_formed p (Sign o) s h k = begin_formed p o s h
want_formed p Open s h k = (tt, h)
want_formed p (Function f) s h k = (tt, h)
want_formed p (Binder f) s h k = (tt, h)
want_formed p Read s h k = read_formed s h
want_formed p _ s h k = tt

have_formed : (b : Bool) (p : Place) (k : Token) (s : List Frame) (t : Tree) → IsFormedStack s × IsFormedTree t
    → IsFormedToken k
    → IsFormedState (have b p k s t)
have_formed b p (Sign o) s t h k = let r = reduced_formed (level o) s t h.0 h.1 in ((k, r.1), r.0)
have_formed b p Power s t h k = h
have_formed b p Close s t h k = close_formed (reduce 1 s t).stack (reduce 1 s t).tree (reduced_formed 1 s t h.0 h.1)
have_formed b p Comma s t h k = next_formed (reduce 1 s t).stack (reduce 1 s t).tree (reduced_formed 1 s t h.0 h.1)
have_formed true p OpenSquare s t h k = (h, (tt, tt))
have_formed b p _ s t h k = tt

open_formed : (k : Token) (u : State) → IsFormedState u → IsFormedState (open_only k u)
open_formed Open u h = h
open_formed _ u h = tt

if_two_formed : (n : ℕ) (p : Place) (s : List Frame) (t : Tree) → IsFormedStack s × IsFormedTree t
    → IsFormedState (if_two n p s t)
if_two_formed n p s t h = elim (cases_Bool (nat_lt n 2)) [
  | inl low ↦ rw low tt
  | inr some ↦ rw some (elim (cases_Bool (nat_lt 2 n)) [
    | inl high ↦ rw high tt
    | inr same ↦ rw same h
  ])
]

two_formed : (k : Token) (p : Place) (s : List Frame) (t : Tree) → IsFormedStack s × IsFormedTree t
    → IsFormedState (two_only k p s t)
two_formed (Number n) p s t h = if_two_formed n p s t h
two_formed _ p s t h = tt

ended_formed : (k : Token) (p : Place) (s : List Frame) (t : Tree) (part : Part) (span : Span)
    → IsFormedStack s × IsFormedTree t
    → IsFormedPart part → IsFormedSpan span → IsFormedState (ended k p s t part span)
ended_formed Comma p s t Rows span h a b = (h, (b, tt))
ended_formed CloseSquare p s t (Cols rows) span h a b = (h.0, (h.1, (a, b)))
ended_formed _ p s t part span h a b = tt

below_limit : (n : ℕ) → nat_le (2 ^ 31) n ≡ false → n < 2 ^ 31
below_limit n h = grind (arith, nat_tests)

span_formed : (bits : ℕ) (q : Place) (k : Token) (p : Place) (s : List Frame) (t : Tree) (part : Part) (seen : Seen)
    → IsFormedState (InSpan p s t part seen) → is_large bits (InSpan p s t part seen) k ≡ false
    → IsFormedState (span_step k p s t part seen)
span_formed bits q (Number n) p s t part Nothing h small = (h.0, (h.1.0, below_limit n small))
span_formed bits q (Number m) p s t part (Parted n) h small = (h.0, (h.1.0, (h.1.1, below_limit m small)))
span_formed bits q (Number m) p s t part (Once n) h small = tt
span_formed bits q (Number m) p s t part (Both a b) h small = tt
span_formed bits q Colon p s t part Nothing h small = ended_formed Colon p s t part Every h.0 h.1.0 tt
span_formed bits q Colon p s t part (Once n) h small = h
span_formed bits q Colon p s t part (Parted n) h small = tt
span_formed bits q Colon p s t part (Both n m) h small = ended_formed Colon p s t part (Pair n m) h.0 h.1.0 h.1.1
span_formed bits q k p s t part Nothing h small = ended_formed k p s t part Every h.0 h.1.0 tt
span_formed bits q k p s t part (Once n) h small = ended_formed k p s t part (One n) h.0 h.1.0 h.1.1
span_formed bits q k p s t part (Both n m) h small = ended_formed k p s t part (Pair n m) h.0 h.1.0 h.1.1
span_formed bits q k p s t part (Parted n) h small = tt

read_text_formed : (k : Token) (n : List ℕ) → IsName n → IsFormedToken k → IsFormedState (read_text k n)
read_text_formed (Text f) n h k = (h, k)
read_text_formed _ n h k = tt

file_text_formed : (q : Place) (k : Token) (w : SaveWord) (p : Place) (t : Tree) → IsFormedTree t → IsFormedToken k
    → IsFormedState (file_text q k w p t)
file_text_formed q (Text f) w p t h k = (h, k)
file_text_formed q _ w p t h k = tt

close_only_formed : (k : Token) (x : Statement) → HasFormedParts x → IsFormedState (close_only k x)
close_only_formed Close x h = h
close_only_formed _ x h = tt

step_formed : (bits : ℕ) (u : State) (k : Placed) → IsFormedState u → IsFormedToken k.token
    → is_large bits u k.token ≡ false
    → IsFormedState (step u k)
step_formed bits Start k h t small = start_formed k.place k.token t
step_formed bits (After n) k h t small = assign_formed k.token n h
step_formed bits (Want s) k h t small = want_formed k.place k.token s h t
step_formed bits (WantOpen s) k h t small = open_formed k.token (Want s) h
step_formed bits (Have b s x) k h t small = have_formed b k.place k.token s x h t
step_formed bits (InSpan p s x part seen) k h t small = span_formed bits k.place k.token p s x part seen h small
step_formed bits (WantTwo p s x) k h t small = two_formed k.token p s x h
step_formed bits (ReadOpen n) k h t small = open_formed k.token (ReadText n) h
step_formed bits (ReadText n) k h t small = read_text_formed k.token n h t
step_formed bits (ReadClose n f) k h t small = close_only_formed k.token (ReadOf n f) h
step_formed bits (FileText w p x) k h t small = file_text_formed k.place k.token w p x h t
step_formed bits (FileClose w p x q f) k h t small = close_only_formed k.token (SaveOf w p x q f) h
step_formed bits (Whole x) k h t small = tt
step_formed bits Dead k h t small = tt

abbrev IsFormedEnd : Option Statement → Type 0
IsFormedEnd None = Unit {0}
IsFormedEnd (Some x) = HasFormedParts x

let_end_formed : (s : List Frame) (t : Tree) → IsFormedStack s × IsFormedTree t → IsFormedEnd (let_end s t)
let_end_formed (Letting n ∷ s) t h = (h.0.0, h.1)
let_end_formed _ t h = tt

finish_formed : (u : State) → IsFormedState u → IsFormedEnd (finish u)
finish_formed (Have b s t) h = let_end_formed (reduce 1 s t).stack (reduce 1 s t).tree (reduced_formed 1 s t h.0 h.1)
finish_formed (Whole x) h = h
finish_formed _ h = tt

-- the reader is in a formed state after at most 256 tokens, and its statements are formed
pub record IsFormedReading (r : Reading) : Type 0 where
  pub done : List Placed
  pub state : r.state ≡ run Start done
  pub count : r.count ≡ length done
  pub few : r.count ≤ 256
  pub formed : IsFormedState r.state
  pub statements : AllFormed r.statements

abbrev pub AreFormedResults : Result Reading Fault → Type 0
AreFormedResults (Ok r) = IsFormedReading r
AreFormedResults (Err f) = Unit {0}

pub fresh_formed : (xs : List Statement) → AllFormed xs → IsFormedReading (fresh xs)
fresh_formed xs h = record { done = []; state = refl; count = refl; few = omega arith; formed = tt; statements = h }

formed_snoc : (xs : List Statement) (x : Statement) → AllFormed xs → IsFormed x → AllFormed (xs ++ x ∷ [])
formed_snoc [] x h f = (f, tt)
formed_snoc (y ∷ ys) x h f = (h.0, formed_snoc ys x h.1 f)

next_formed_reading : (bits : ℕ) (r : Reading) (k : Placed) → IsFormedReading r → IsFormedToken k.token
    → nat_le 256 r.count ≡ false
    → is_large bits r.state k.token ≡ false
    → IsFormedReading (record { count = r.count + 1; state = step r.state k; statements = r.statements })
next_formed_reading bits r k h t short small = record {
  done = h.done ++ k ∷ [];
  state = ap (λ (u : State). step u k) h.state ∙ sym (run-append Start h.done (k ∷ []));
  count = (let e : r.count + 1 ≡ length (h.done ++ k ∷ []) =
      omega (arith, h.count, length-append h.done (k ∷ [])) in e);
  few = (let e : r.count + 1 ≤ 256 = grind (arith, nat_tests) in e);
  formed = step_formed bits r.state k h.formed t small;
  statements = h.statements;
}

token_formed : (bits : ℕ) (r : Reading) (k : Placed) → IsFormedReading r → IsFormedToken k.token
    → AreFormedResults (take_token bits r k)
token_formed bits r k h t = elim (cases_Bool (nat_le 256 r.count)) [
  | inl long ↦ rw long tt
  | inr short ↦ rw short (elim (cases_Bool (waits r.state && not (is_two k.token))) [
    | inl waiting ↦ rw waiting tt
    | inr ready ↦ rw ready (elim (cases_Bool (is_dead (step r.state k))) [
      | inl dead ↦ rw dead tt
      | inr alive ↦ rw alive (elim (cases_Bool (is_large bits r.state k.token)) [
        | inl large ↦ rw large tt
        | inr small ↦ rw small (next_formed_reading bits r k h t short small)
      ])
    ])
  ])
]

joined_formed : (r : Reading) (p : Place) (found : Option Statement) → IsFormedReading r → finish r.state ≡ found
    → IsFormedEnd found
    → AreFormedResults (joined p r.statements found)
joined_formed r p None h e f = tt
joined_formed r p (Some x) h e f =
    let read = statement_len (derived h.done x (ap finish (sym h.state) ∙ e)) in
    fresh_formed (r.statements ++ x ∷ [])
    (formed_snoc r.statements x h.statements (record { parts = f; short = omega (arith, read, h.count, h.few) }))

end_formed : (r : Reading) (p : Place) → IsFormedReading r → AreFormedResults (take_end r p)
end_formed r p h = elim (cases_Bool (r.count == 0)) [
  | inl empty ↦ rw empty (fresh_formed r.statements h.statements)
  | inr some ↦ rw some (elim (cases_Bool (waits r.state)) [
    | inl waiting ↦ rw waiting tt
    | inr ready ↦ rw ready (joined_formed r p (finish r.state) h refl (finish_formed r.state h.formed))
  ])
]

abbrev pub AreFormedItems : List Item → Type 0
AreFormedItems [] = Unit {0}
AreFormedItems (Tok k ∷ items) = IsFormedToken k.token × AreFormedItems items
AreFormedItems (BadByte p ∷ items) = AreFormedItems items
AreFormedItems (BadText p ∷ items) = AreFormedItems items
AreFormedItems (End p ∷ items) = AreFormedItems items

onward_formed : (bits : ℕ) (res : Result Reading Fault) (items : List Item) → AreFormedResults res
    → ((r : Reading) → IsFormedReading r → AreFormedResults (take_items bits r items))
    → AreFormedResults (onward res (λ (n : Reading). take_items bits n items))
onward_formed bits (Ok r) items h go = go r h
onward_formed bits (Err f) items h go = tt

pub items_formed : (bits : ℕ) (items : List Item) (r : Reading) → IsFormedReading r → AreFormedItems items
    → AreFormedResults (take_items bits r items)
items_formed bits [] r h all = h
items_formed bits (Tok k ∷ items) r h all =
    onward_formed bits (take_token bits r k) items (token_formed bits r k h all.0)
    (λ n m. items_formed bits items n m all.1)
items_formed bits (BadByte p ∷ items) r h all = tt
items_formed bits (BadText p ∷ items) r h all = tt
items_formed bits (End p ∷ items) r h all = onward_formed bits (take_end r p) items (end_formed r p h)
    (λ n m. items_formed bits items n m all)
