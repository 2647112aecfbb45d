-- The same, read from left to right with what is still open on a stack.
use Rattle.std.specs.Prelude.{pos, ℕ, suc, nat_lt, if◌then◌else◌, Bool, true, false, List, [], ◌∷◌, Option, Some}
use Rattle.std.specs.Prelude.{None}
use Rattle.cla_grammar.specs.declared.place.Place.{Place}
use Rattle.cla_grammar.specs.Tokens.{Token, Placed, Number, Name, Text, Sign, Assign, Power, Open, Close, Comma}
use Rattle.cla_grammar.specs.Tokens.{OpenSquare, CloseSquare, Colon, Function, Binder, Read, Print, Save, level}
use Rattle.cla_grammar.specs.Tree.{Tree, Slice, Span, Every, One, Pair, Constant, Named, Negative, Square, Binary}
use Rattle.cla_grammar.specs.Tree.{Apply, Join, Statement, ReadOf, LetOf, PrintOf, SaveOf}
use Rattle.cla_grammar.specs.declared.words.BinOp.{BinOp}
use Rattle.cla_grammar.specs.declared.words.BinOp.TheVariants.{Cell}
use Rattle.cla_num.specs.declared.cell_op.CellOp.TheVariants.{Sub}
use Rattle.cla_grammar.specs.declared.words.Call.{Call}
use Rattle.cla_grammar.specs.declared.words.Bind.{Bind}
use Rattle.cla_grammar.specs.declared.words.SaveWord.{SaveWord}

-- what waits for an operand, a bracket or the end
pub data Frame : Type 0 where
  Left : Place → BinOp → Tree → Frame
  Minus : Place → Frame
  Paren : Frame
  Argument : Place → Call → Frame
  First : Place → Bind → Frame
  Second : Place → Bind → Tree → Frame
  Letting : List ℕ → Frame
  Printing : Frame
  Saving : SaveWord → Place → Frame

-- the level of what a frame assign; 0 where only a sign or the end closes it
abbrev pub level_of : Frame → ℕ
level_of (Left p o x) = level o
level_of (Minus p) = 5
level_of Paren = 0
level_of (Argument p f) = 0
level_of (First p f) = 0
level_of (Second p f x) = 0
level_of (Letting n) = 0
level_of Printing = 0
level_of (Saving k p) = 0

-- the least level that a frame's operand may have
abbrev pub needs : Frame → ℕ
needs (Left p o x) = suc (level o)
needs (Minus p) = 5
needs Paren = 1
needs (Argument p f) = 1
needs (First p f) = 1
needs (Second p f x) = 1
needs (Letting n) = 1
needs Printing = 1
needs (Saving k p) = 1

abbrev pub closed : Frame → Tree → Tree
closed (Left p o x) t = Binary p o x t
closed (Minus p) t = Negative p t
closed Paren t = t
closed (Argument p f) t = t
closed (First p f) t = t
closed (Second p f x) t = t
closed (Letting n) t = t
closed Printing t = t
closed (Saving k p) t = t

pub record Reduced : Type 0 where
  pub stack : List Frame
  pub tree : Tree

abbrev pub reduced : List Frame → Tree → Reduced
reduced s t = record { stack = s; tree = t }

-- the frames of this level and higher ones take the tree
abbrev pub reduce : ℕ → List Frame → Tree → Reduced
reduce k [] t = record { stack = []; tree = t }
reduce k (f ∷ s) t = if nat_lt (level_of f) k then record { stack = f ∷ s; tree = t } else reduce k s (closed f t)

-- what was seen of a span
pub data Seen : Type 0 where
  Nothing : Seen
  Once : ℕ → Seen
  Parted : ℕ → Seen
  Both : ℕ → ℕ → Seen

-- the span of the rows, or that of the columns after these rows
pub data Part : Type 0 where
  Rows : Part
  Cols : Span → Part

pub data State : Type 0 where
  Start : State
  After : List ℕ → State
  Want : List Frame → State
  WantOpen : List Frame → State
  Have : Bool → List Frame → Tree → State
  InSpan : Place → List Frame → Tree → Part → Seen → State
  WantTwo : Place → List Frame → Tree → State
  ReadOpen : List ℕ → State
  ReadText : List ℕ → State
  ReadClose : List ℕ → List ℕ → State
  FileText : SaveWord → Place → Tree → State
  FileClose : SaveWord → Place → Tree → Place → List ℕ → State
  Whole : Statement → State
  Dead : State

abbrev pub start : Place → Token → State
start p (Name n) = After n
start p Print = WantOpen (Printing ∷ [])
start p (Save k) = WantOpen (Saving k p ∷ [])
start p _ = Dead

abbrev pub assign : Token → List ℕ → State
assign Assign n = Want (Letting n ∷ [])
assign _ n = Dead

-- after a sign that closes, with all operators done
abbrev pub close : List Frame → Tree → State
close (Paren ∷ s) t = Have true s t
close (Argument p f ∷ s) t = Have true s (Apply p f t)
close (Second p f x ∷ s) t = Have true s (Join p f x t)
close (Printing ∷ s) t = Whole (PrintOf t)
close _ t = Dead

abbrev pub next_argument : List Frame → Tree → State
next_argument (First p f ∷ s) t = Want (Second p f t ∷ s)
next_argument (Saving k p ∷ s) t = FileText k p t
next_argument _ t = Dead

abbrev pub begin : Place → BinOp → List Frame → State
begin p (Cell Sub) s = Want (Minus p ∷ s)
begin p _ s = Dead

-- the word `read` stands right after `=` alone
abbrev pub read : List Frame → State
read (Letting n ∷ s) = ReadOpen n
read _ = Dead

abbrev pub want : Place → Token → List Frame → State
want p (Number n) s = Have true s (Constant (pos n))
want p (Name n) s = Have true s (Named p n)
want p (Sign o) s = begin p o s
want p Open s = Want (Paren ∷ s)
want p (Function f) s = WantOpen (Argument p f ∷ s)
want p (Binder f) s = WantOpen (First p f ∷ s)
want p Read s = read s
want p _ s = Dead

abbrev pub have : Bool → Place → Token → List Frame → Tree → State
have b p (Sign o) s t = let r = reduce (level o) s t in Want (Left p o r.tree ∷ r.stack)
have b p Power s t = WantTwo p s t
have b p Close s t = let r = reduce 1 s t in close r.stack r.tree
have b p Comma s t = let r = reduce 1 s t in next_argument r.stack r.tree
have true p OpenSquare s t = InSpan p s t Rows Nothing
have b p _ s t = Dead

abbrev pub open_only : Token → State → State
open_only Open u = u
open_only _ u = Dead

abbrev pub if_two : ℕ → Place → List Frame → Tree → State
if_two n p s t = if nat_lt n 2 then Dead else if nat_lt 2 n then Dead else Have false s (Square p t)

abbrev pub two_only : Token → Place → List Frame → Tree → State
two_only (Number n) p s t = if_two n p s t
two_only _ p s t = Dead

-- a span that ends here
abbrev pub ended : Token → Place → List Frame → Tree → Part → Span → State
ended Comma p s t Rows rows = InSpan p s t (Cols rows) Nothing
ended CloseSquare p s t (Cols rows) cols = Have true s (Slice p t rows cols)
ended _ p s t part span = Dead

abbrev pub span_step : Token → Place → List Frame → Tree → Part → Seen → State
span_step (Number n) p s t part Nothing = InSpan p s t part (Once n)
span_step (Number m) p s t part (Parted n) = InSpan p s t part (Both n m)
span_step Colon p s t part (Once n) = InSpan p s t part (Parted n)
span_step k p s t part Nothing = ended k p s t part Every
span_step k p s t part (Once n) = ended k p s t part (One n)
span_step k p s t part (Both n m) = ended k p s t part (Pair n m)
span_step k p s t part (Parted n) = Dead

abbrev pub read_text : Token → List ℕ → State
read_text (Text f) n = ReadClose n f
read_text _ n = Dead

abbrev pub file_text : Place → Token → SaveWord → Place → Tree → State
file_text q (Text f) k p t = FileClose k p t q f
file_text q _ k p t = Dead

abbrev pub close_only : Token → Statement → State
close_only Close x = Whole x
close_only _ x = Dead

abbrev pub step : State → Placed → State
step Start k = start k.place k.token
step (After n) k = assign k.token n
step (Want s) k = want k.place k.token s
step (WantOpen s) k = open_only k.token (Want s)
step (Have b s t) k = have b k.place k.token s t
step (InSpan p s t part seen) k = span_step k.token p s t part seen
step (WantTwo p s t) k = two_only k.token p s t
step (ReadOpen n) k = open_only k.token (ReadText n)
step (ReadText n) k = read_text k.token n
step (ReadClose n f) k = close_only k.token (ReadOf n f)
step (FileText i p t) k = file_text k.place k.token i p t
step (FileClose i p t q f) k = close_only k.token (SaveOf i p t q f)
step (Whole x) k = Dead
step Dead k = Dead

abbrev pub run : State → List Placed → State
run s [] = s
run s (k ∷ ks) = run (step s k) ks

-- an assignment's tree, where all of it was read
abbrev pub let_end : List Frame → Tree → Option Statement
let_end (Letting n ∷ s) t = Some (LetOf n t)
let_end _ t = None

-- the statement, where its tokens end here
abbrev pub finish : State → Option Statement
finish (Have b s t) = let r = reduce 1 s t in let_end r.stack r.tree
finish (Whole x) = Some x
finish _ = None
