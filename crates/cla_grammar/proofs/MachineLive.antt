-- Where the machine is not dead, the tokens begin a statement.
use Rattle.std.proofs.Common.{pos, ◌≡◌, ◌≢◌, ◌≤◌, Bool, true, false, List, [], ◌∷◌, ◌++◌, refl, sym, ap, ◌∙◌, arith}
use Rattle.std.proofs.Common.{Some, None}
use Rattle.cla_grammar.specs.declared.place.Place.{Place}
use Rattle.cla_grammar.specs.Tokens.{Placed, Number, Text, Assign, Open, Close, Comma, CloseSquare, Print}
use Rattle.cla_grammar.specs.Tree.{Tree, Slice, Every, One, Pair, Constant, Negative, Square, Binary, Apply, Join}
use Rattle.cla_grammar.specs.Tree.{Statement, ReadOf}
use Rattle.cla_grammar.specs.Tree.{LetOf, PrintOf, SaveOf}
use Rattle.cla_grammar.specs.Grammar.{at, Reads, Begins}
use Rattle.cla_grammar.specs.Machine.{Frame, Left, Minus, Paren, Argument, First, Second, Letting, Printing, Saving}
use Rattle.cla_grammar.specs.Machine.{level_of, closed}
use Rattle.cla_grammar.specs.Machine.{Reduced, State, Start, After, Want, WantOpen, Have, InSpan, WantTwo, ReadOpen}
use Rattle.cla_grammar.specs.Machine.{ReadText, ReadClose}
use Rattle.cla_grammar.specs.Machine.{FileText, FileClose, Whole, Dead, Part, Rows, Cols, Seen, Nothing, Once, Parted}
use Rattle.cla_grammar.specs.Machine.{Both, close}
use Rattle.cla_grammar.specs.Machine.{next_argument, run, let_end, finish}
use Rattle.cla_grammar.proofs.MachineComplete.{reduce_go, run-append, reads_whole}
use Rattle.cla_grammar.proofs.MachineSound.{Held, lets, prints, saves, left, minus, opened, argument, first, second}
use Rattle.cla_grammar.proofs.MachineSound.{Good, wants}
use Rattle.cla_grammar.proofs.MachineSound.{call_open, bind_open, print_open, save_open, has, in_span, two, starts}
use Rattle.cla_grammar.proofs.MachineSound.{run_good, one_op}
use Rattle.cla_grammar.proofs.MachineSound.{derived}

anywhere : Place
anywhere = record { line = 1; col = 1 }

-- the tokens that end all that is open
abbrev closing : List Frame → List Placed
closing [] = []
closing (Left p o x ∷ s) = closing s
closing (Minus p ∷ s) = closing s
closing (Paren ∷ s) = at anywhere Close ∷ closing s
closing (Argument p f ∷ s) = at anywhere Close ∷ closing s
closing (First p f ∷ s) = at anywhere Comma ∷ (at anywhere (Number 0) ∷ (at anywhere Close ∷ closing s))
closing (Second p f x ∷ s) = at anywhere Close ∷ closing s
closing (Letting n ∷ s) = []
closing (Printing ∷ s) = at anywhere Close ∷ []
closing (Saving k p ∷ s) = at anywhere Comma ∷ (at anywhere (Text (97 ∷ [])) ∷ (at anywhere Close ∷ []))

data Closes : List Placed → Type 0 where
  over : Closes []
  a_close : (ks : List Placed) → Closes (at anywhere Close ∷ ks)
  a_comma : (ks : List Placed) → Closes (at anywhere Comma ∷ ks)

closing_closes : (s : List Frame) → Closes (closing s)
closing_closes [] = over
closing_closes (Left p o x ∷ s) = closing_closes s
closing_closes (Minus p ∷ s) = closing_closes s
closing_closes (Paren ∷ s) = a_close _
closing_closes (Argument p f ∷ s) = a_close _
closing_closes (First p f ∷ s) = a_comma _
closing_closes (Second p f x ∷ s) = a_close _
closing_closes (Letting n ∷ s) = over
closing_closes (Printing ∷ s) = a_close _
closing_closes (Saving k p ∷ s) = a_comma _

-- a frame that waits for the end takes the tree
pass : (b c : Bool) (f : Frame) (s : List Frame) (t : Tree) (ks : List Placed) → 1 ≤ level_of f → Closes ks
    → finish (run (Have b (f ∷ s) t) ks) ≡ finish (run (Have c s (closed f t)) ks)
pass b c f s t _ h over = ap (λ (r : Reduced). let_end r.stack r.tree) (reduce_go 1 f s t h)
pass b c f s t _ h (a_close ks) = ap (λ (r : Reduced). finish (run (close r.stack r.tree) ks)) (reduce_go 1 f s t h)
pass b c f s t _ h (a_comma ks) =
    ap (λ (r : Reduced). finish (run (next_argument r.stack r.tree) ks)) (reduce_go 1 f s t h)

abbrev Finishes : State → Type 0
Finishes u = (x : Statement) × (finish u ≡ Some x)

-- the statement's word stands at the bottom
abbrev IsBased : List Frame → Type 0
IsBased [] = ⊥
IsBased (Letting n ∷ s) = Unit {0}
IsBased (Printing ∷ s) = Unit {0}
IsBased (Saving k p ∷ s) = Unit {0}
IsBased (_ ∷ s) = IsBased s

held_based : {s : List Frame} {all : List Placed} → Held s all → IsBased s
held_based (lets p q n e) = tt
held_based (prints p q e) = tt
held_based (saves k p q e) = tt
held_based (left p o h d f e) = held_based h
held_based (minus p h f e) = held_based h
held_based (opened p h e) = held_based h
held_based (argument p q f h e) = held_based h
held_based (first p q f h e) = held_based h
held_based (second p q r f h d e) = held_based h

finishes : (b : Bool) (s : List Frame) (t : Tree) → IsBased s → Finishes (run (Have b s t) (closing s))
finishes b [] t h = absurd h
finishes b (Left p o x ∷ s) t h = let r = finishes true s (Binary p o x t) h in
    (r.0, pass b true (Left p o x) s t (closing s) (one_op o) (closing_closes s) ∙ r.1)
finishes b (Minus p ∷ s) t h = let r = finishes true s (Negative p t) h in
    (r.0, pass b true (Minus p) s t (closing s) (omega arith) (closing_closes s) ∙ r.1)
finishes b (Paren ∷ s) t h = finishes true s t h
finishes b (Argument p f ∷ s) t h = finishes true s (Apply p f t) h
finishes b (First p f ∷ s) t h = finishes true s (Join p f t (Constant (pos 0))) h
finishes b (Second p f x ∷ s) t h = finishes true s (Join p f x t) h
finishes b (Letting n ∷ s) t h = (LetOf n t, refl)
finishes b (Printing ∷ s) t h = (PrintOf t, refl)
finishes b (Saving k p ∷ s) t h = (SaveOf k p t anywhere (97 ∷ []), refl)

open_based : {s : List Frame} {all : List Placed} → Good (WantOpen s) all → IsBased s
open_based (call_open p f h e) = held_based h
open_based (bind_open p f h e) = held_based h
open_based (print_open p e) = tt
open_based (save_open k p e) = tt

abbrev CanEnd : State → Type 0
CanEnd u = (more : List Placed) × Finishes (run u more)

with_number : (s : List Frame) (all : List Placed) → Good (Want s) all → CanEnd (Want s)
with_number s all (wants h) = (at anywhere (Number 0) ∷ closing s, finishes true s (Constant (pos 0)) (held_based h))

in_brackets : (s : List Frame) (all : List Placed) → Good (WantOpen s) all → CanEnd (WantOpen s)
in_brackets s all g =
    (at anywhere Open ∷ (at anywhere (Number 0) ∷ closing s), finishes true s (Constant (pos 0)) (open_based g))

has_end : (b : Bool) (s : List Frame) (t : Tree) (all : List Placed) → Good (Have b s t) all → CanEnd (Have b s t)
has_end b s t all (has w) = (closing s, finishes b s t (held_based w.held))

two_end : (p : Place) (s : List Frame) (t : Tree) (all : List Placed) → Good (WantTwo p s t) all
    → CanEnd (WantTwo p s t)
two_end p s t all (two _ w e) = (at anywhere (Number 2) ∷ closing s, finishes false s (Square p t) (held_based w.held))

span_based : (p : Place) (s : List Frame) (t : Tree) (part : Part) (seen : Seen) (all : List Placed)
    → Good (InSpan p s t part seen) all
    → IsBased s
span_based p s t part seen all (in_span _ w so e) = held_based w.held

span_end : (p : Place) (s : List Frame) (t : Tree) (part : Part) (seen : Seen) → IsBased s
    → CanEnd (InSpan p s t part seen)
span_end p s t Rows Nothing h =
    (at anywhere Comma ∷ (at anywhere CloseSquare ∷ closing s), finishes true s (Slice p t Every Every) h)
span_end p s t Rows (Once n) h =
    (at anywhere Comma ∷ (at anywhere CloseSquare ∷ closing s), finishes true s (Slice p t (One n) Every) h)
span_end p s t Rows (Parted n) h = (
  at anywhere (Number 0) ∷ (at anywhere Comma ∷ (at anywhere CloseSquare ∷ closing s)),
  finishes true s
      (Slice p t (Pair n 0) Every) h,
)
span_end p s t Rows (Both n m) h =
    (at anywhere Comma ∷ (at anywhere CloseSquare ∷ closing s), finishes true s (Slice p t (Pair n m) Every) h)
span_end p s t (Cols r) Nothing h = (at anywhere CloseSquare ∷ closing s, finishes true s (Slice p t r Every) h)
span_end p s t (Cols r) (Once n) h = (at anywhere CloseSquare ∷ closing s, finishes true s (Slice p t r (One n)) h)
span_end p s t (Cols r) (Parted n) h =
    (at anywhere (Number 0) ∷ (at anywhere CloseSquare ∷ closing s), finishes true s (Slice p t r (Pair n 0)) h)
span_end p s t (Cols r) (Both n m) h = (at anywhere CloseSquare ∷ closing s, finishes true s (Slice p t r (Pair n m)) h)

some_end : (u : State) (all : List Placed) → Good u all → u ≢ Dead → CanEnd u
some_end Start all g h = (
  at anywhere Print ∷ (at anywhere Open ∷ (at anywhere (Number 0) ∷ (at anywhere Close ∷ []))),
  (PrintOf (Constant (pos 0)), refl),
)
some_end (After n) all g h = (at anywhere Assign ∷ (at anywhere (Number 0) ∷ []), (LetOf n (Constant (pos 0)), refl))
some_end (Want s) all g h = with_number s all g
some_end (WantOpen s) all g h = in_brackets s all g
some_end (Have b s t) all g h = has_end b s t all g
some_end (WantTwo p s t) all g h = two_end p s t all g
some_end (InSpan p s t part seen) all g h = span_end p s t part seen (span_based p s t part seen all g)
some_end (ReadOpen n) all g h =
    (at anywhere Open ∷ (at anywhere (Text (97 ∷ [])) ∷ (at anywhere Close ∷ [])), (ReadOf n (97 ∷ []), refl))
some_end (ReadText n) all g h = (at anywhere (Text (97 ∷ [])) ∷ (at anywhere Close ∷ []), (ReadOf n (97 ∷ []), refl))
some_end (ReadClose n f) all g h = (at anywhere Close ∷ [], (ReadOf n f, refl))
some_end (FileText k p t) all g h =
    (at anywhere (Text (97 ∷ [])) ∷ (at anywhere Close ∷ []), (SaveOf k p t anywhere (97 ∷ []), refl))
some_end (FileClose k p t q f) all g h = (at anywhere Close ∷ [], (SaveOf k p t q f, refl))
some_end (Whole x) all g h = ([], (x, refl))
some_end Dead all g h = absurd (h refl)

pub dead_stays : (ks : List Placed) → run Dead ks ≡ Dead
dead_stays [] = refl
dead_stays (k ∷ ks) = dead_stays ks

pub live_begins : (ts : List Placed) → run Start ts ≢ Dead → Begins ts
live_begins ts h =
    let e = some_end (run Start ts) ts (run_good ts Start [] (starts refl)) h in
    (e.0, e.1.0, derived (ts ++ e.0) e.1.0 (ap finish (run-append Start ts e.0) ∙ e.1.1))

none_some : {x : Statement} → None ≡ Some x → ⊥
none_some e = cc

pub begins_live : (ts : List Placed) → Begins ts → run Start ts ≢ Dead
begins_live ts b dead =
    let d : run Start (ts ++ b.0) ≡ Dead = run-append Start ts b.0
    ∙ (ap (λ (u : State). run u b.0) dead ∙ dead_stays b.0) in
    none_some (ap finish (sym d) ∙ reads_whole b.2)

-- what a statement reads is live
pub reads_live : (ts : List Placed) (x : Statement) → finish (run Start ts) ≡ Some x → run Start ts ≢ Dead
reads_live ts x e dead = none_some (ap finish (sym dead) ∙ e)

-- an end that leaves something open is no statement
pub no_whole : (ts : List Placed) → finish (run Start ts) ≡ None → (x : Statement) → Reads ts x → ⊥
no_whole ts e x w = none_some (sym e ∙ reads_whole w)
