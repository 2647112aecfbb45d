-- What the machine reads the grammar derives.
use Rattle.std.proofs.Common.{◌≡◌, ℕ, suc, ◌+◌, ◌<◌, ◌≤◌, List, [], ◌∷◌, ◌++◌, refl, sym, ap, subst, inl, inr, ◌∙◌}
use Rattle.std.proofs.Common.{arith, Bool, true}
use Rattle.std.proofs.Common.{false, append_assoc, zero, ◌-◌, append-nil, Some}
use Rattle.std.proofs.lemmas.Bool.{cases_lt}
use Rattle.std.proofs.lemmas.Bool.Decides.{nat_tests}
use Rattle.cla_grammar.specs.declared.place.Place.{Place}
use Rattle.cla_grammar.specs.Tokens.{Token, Placed, Number, Name, Text, Sign, Assign, Power, Open, Close, Comma}
use Rattle.cla_grammar.specs.Tokens.{OpenSquare, CloseSquare}
use Rattle.cla_grammar.specs.Tokens.{Colon, Function, Binder, Read, Print, Save, level, cell_level}
use Rattle.cla_grammar.specs.Tree.{Tree, Span, Every, One, Pair, Square, Statement, ReadOf, LetOf, PrintOf, SaveOf}
use Rattle.cla_num.specs.declared.cell_op.CellOp.{CellOp}
use Rattle.cla_num.specs.declared.cell_op.CellOp.TheVariants.{Add, Sub, Mul, Div, Mod, Lt, Le, Gt, Ge, Eq, Ne, Neg}
use Rattle.cla_grammar.specs.declared.words.BinOp.{BinOp}
use Rattle.cla_grammar.specs.declared.words.BinOp.TheVariants.{Cell, Product}
use Rattle.cla_grammar.specs.declared.words.Call.{Call}
use Rattle.cla_grammar.specs.declared.words.Bind.{Bind}
use Rattle.cla_grammar.specs.declared.words.SaveWord.{SaveWord}
use Rattle.cla_grammar.specs.Grammar.{at, Derives, IsSpan, every, one, pair, number, name, paren, call, bind, slice}
use Rattle.cla_grammar.specs.Grammar.{square, negative}
use Rattle.cla_grammar.specs.Grammar.{binary, up, Reads, reading, letting, printing, saving}
use Rattle.cla_grammar.specs.Machine.{Frame, Left, Minus, Paren, Argument, First, Second, Letting, Printing, Saving}
use Rattle.cla_grammar.specs.Machine.{level_of, needs}
use Rattle.cla_grammar.specs.Machine.{closed, Reduced, reduce, State, Start, After, Want, WantOpen, Have, InSpan}
use Rattle.cla_grammar.specs.Machine.{WantTwo, ReadOpen}
use Rattle.cla_grammar.specs.Machine.{ReadText, ReadClose, FileText, FileClose, Whole, Dead, Part, Rows, Cols, Seen}
use Rattle.cla_grammar.specs.Machine.{Nothing, Once}
use Rattle.cla_grammar.specs.Machine.{Parted, Both, start, assign, close, next_argument, begin, read, want, have}
use Rattle.cla_grammar.specs.Machine.{open_only, if_two}
use Rattle.cla_grammar.specs.Machine.{two_only, ended, span_step, read_text, file_text, close_only, step, run}
use Rattle.cla_grammar.specs.Machine.{let_end, finish}
use Rattle.cla_grammar.proofs.MachineComplete.{Fits, reduce_stop, reduce_go, op_low}

-- what lies on the stack spells the tokens before
pub data Held : List Frame → List Placed → Type 0 where
  lets : (p q : Place) (n : List ℕ) {all : List Placed} → all ≡ at p (Name n) ∷ (at q Assign ∷ [])
      → Held (Letting n ∷ []) all
  prints : (p q : Place) {all : List Placed} → all ≡ at p Print ∷ (at q Open ∷ []) → Held (Printing ∷ []) all
  saves : (k : SaveWord) (p q : Place) {all : List Placed} → all ≡ at p (Save k) ∷ (at q Open ∷ [])
      → Held (Saving k p ∷ []) all
  left : (p : Place) (o : BinOp) {s : List Frame} {front a all : List Placed} {x : Tree} → Held s front
      → Derives (level o) a x
      → Fits (level o) s → all ≡ front ++ (a ++ at p (Sign o) ∷ []) → Held (Left p o x ∷ s) all
  minus : (p : Place) {s : List Frame} {front all : List Placed} → Held s front → Fits 5 s
      → all ≡ front ++ at p (Sign (Cell Sub)) ∷ []
      → Held (Minus p ∷ s) all
  opened : (p : Place) {s : List Frame} {front all : List Placed} → Held s front → all ≡ front ++ at p Open ∷ []
      → Held (Paren ∷ s) all
  argument : (p q : Place) (f : Call) {s : List Frame} {front all : List Placed} → Held s front
      → all ≡ front ++ at p (Function f) ∷ (at q Open ∷ []) → Held (Argument p f ∷ s) all
  first : (p q : Place) (f : Bind) {s : List Frame} {front all : List Placed} → Held s front
      → all ≡ front ++ at p (Binder f) ∷ (at q Open ∷ []) → Held (First p f ∷ s) all
  second : (p q r : Place) (f : Bind) {s : List Frame} {front a all : List Placed} {x : Tree} → Held s front
      → Derives 1 a x
      → all ≡ front ++ at p (Binder f) ∷ (at q Open ∷ (a ++ at r Comma ∷ [])) → Held (Second p f x ∷ s) all

-- the same with a tree of this level or a higher one after it
pub record Holding (k : ℕ) (s : List Frame) (t : Tree) (all : List Placed) : Type 0 where
  pub front : List Placed
  pub mine : List Placed
  pub at_level : ℕ
  pub held : Held s front
  pub derives : Derives at_level mine t
  pub fits : Fits at_level s
  pub high : k ≤ at_level
  pub seam : all ≡ front ++ mine

pub lower : (k n : ℕ) {a : List Placed} {x : Tree} → 1 ≤ k → Derives (n + k) a x → Derives k a x
lower k zero {a = a} {x = x} h d = subst (λ (l : ℕ). Derives l a x) (omega arith) d
lower k (suc n) {a = a} {x = x} h d = lower k n h (up (omega arith) (subst (λ (l : ℕ). Derives l a x) (omega arith) d))

pub lowered : (k l : ℕ) (a : List Placed) (x : Tree) → 1 ≤ k → k ≤ l → Derives l a x → Derives k a x
lowered k l a x h m d =
    lower k (l - k) h (let e : l ≡ (l - k) + k = omega arith in subst (λ (n : ℕ). Derives n a x) e d)

took : (k : ℕ) (f : Frame) (s : List Frame) (t : Tree) (all : List Placed) → 1 ≤ k → k ≤ level_of f
    → (w : Holding k (f ∷ s) t all)
    → Held (f ∷ s) w.front → Holding k s (closed f t) all
took k (Left p o x) s t all some h w (left _ _ {front = front} {a = a} held d fits e) = record {
  front = front;
  mine = a ++ (at p (Sign o) ∷ w.mine);
  at_level = level o;
  held = held;
  derives = binary p o d (lowered (suc (level o)) w.at_level w.mine t (omega arith) w.fits w.derives);
  fits = fits;
  high = h;
  seam = w.seam ∙ (ap (λ (l : List Placed). l ++ w.mine) e ∙ simp append_assoc);
}
took k (Minus p) s t all some h w (minus _ {front = front} held fits e) = record {
  front = front;
  mine = at p (Sign (Cell Sub)) ∷ w.mine;
  at_level = 5;
  held = held;
  derives = negative p (lowered 5 w.at_level w.mine t (omega arith) w.fits w.derives);
  fits = fits;
  high = h;
  seam = w.seam ∙ (ap (λ (l : List Placed). l ++ w.mine) e ∙ simp append_assoc);
}
took k Paren s t all some h w e = absurd (omega arith)
took k (Argument p f) s t all some h w e = absurd (omega arith)
took k (First p f) s t all some h w e = absurd (omega arith)
took k (Second p f x) s t all some h w e = absurd (omega arith)
took k (Letting n) s t all some h w e = absurd (omega arith)
took k Printing s t all some h w e = absurd (omega arith)
took k (Saving i p) s t all some h w e = absurd (omega arith)

-- a frame that takes the tree
pub take_tree : (k : ℕ) (f : Frame) (s : List Frame) (t : Tree) (all : List Placed) → 1 ≤ k → k ≤ level_of f
    → Holding k (f ∷ s) t all
    → Holding k s (closed f t) all
take_tree k f s t all some h w = took k f s t all some h w w.held

pub reduce_holds : (k : ℕ) (s : List Frame) (t : Tree) (all : List Placed) → 1 ≤ k → Holding k s t all
    → Holding k (reduce k s t).stack (reduce k s t).tree all
reduce_holds k [] t all some w = w
reduce_holds k (f ∷ s) t all some w = elim (cases_lt (level_of f) k) [
  | inl low ↦ subst (λ (r : Reduced). Holding k r.stack r.tree all) (sym (reduce_stop k f s t low)) w
  | inr high ↦ subst (λ (r : Reduced). Holding k r.stack r.tree all) (sym (reduce_go k f s t high))
      (reduce_holds k s (closed f t) all some (take_tree k f s t all some high w))
]

-- the level of an operand that may be sliced, or not
abbrev pub height : Bool → ℕ
height true = 7
height false = 6

pub six_high : (b : Bool) → 6 ≤ height b
six_high true = omega arith
six_high false = omega arith

pub data SeenIn : Seen → List Placed → Type 0 where
  none : SeenIn Nothing []
  once : (p : Place) (n : ℕ) → SeenIn (Once n) (at p (Number n) ∷ [])
  parted : (p q : Place) (n : ℕ) → SeenIn (Parted n) (at p (Number n) ∷ (at q Colon ∷ []))
  both : (p q r : Place) (n m : ℕ) → SeenIn (Both n m) (at p (Number n) ∷ (at q Colon ∷ (at r (Number m) ∷ [])))

pub data So : Part → Seen → List Placed → Type 0 where
  in_rows : {seen : Seen} {u : List Placed} → SeenIn seen u → So Rows seen u
  in_cols : (c : Place) {rows : Span} {seen : Seen} {u v all : List Placed} → IsSpan u rows → SeenIn seen v
      → all ≡ u ++ at c Comma ∷ v
      → So (Cols rows) seen all

-- what each state says of the tokens read so far
pub data Good : State → List Placed → Type 0 where
  starts : {all : List Placed} → all ≡ [] → Good Start all
  named : (p : Place) (n : List ℕ) {all : List Placed} → all ≡ at p (Name n) ∷ [] → Good (After n) all
  wants : {s : List Frame} {all : List Placed} → Held s all → Good (Want s) all
  call_open : (p : Place) (f : Call) {s : List Frame} {front all : List Placed} → Held s front
      → all ≡ front ++ at p (Function f) ∷ []
      → Good (WantOpen (Argument p f ∷ s)) all
  bind_open : (p : Place) (f : Bind) {s : List Frame} {front all : List Placed} → Held s front
      → all ≡ front ++ at p (Binder f) ∷ []
      → Good (WantOpen (First p f ∷ s)) all
  print_open : (p : Place) {all : List Placed} → all ≡ at p Print ∷ [] → Good (WantOpen (Printing ∷ [])) all
  save_open : (k : SaveWord) (p : Place) {all : List Placed} → all ≡ at p (Save k) ∷ []
      → Good (WantOpen (Saving k p ∷ [])) all
  has : {b : Bool} {s : List Frame} {t : Tree} {all : List Placed} → Holding (height b) s t all → Good (Have b s t) all
  in_span : (p : Place) {s : List Frame} {t : Tree} {part : Part} {seen : Seen} {front u all : List Placed}
      → Holding 7 s t front
      → So part seen u → all ≡ front ++ at p OpenSquare ∷ u → Good (InSpan p s t part seen) all
  two : (p : Place) {s : List Frame} {t : Tree} {front all : List Placed} → Holding 6 s t front
      → all ≡ front ++ at p Power ∷ []
      → Good (WantTwo p s t) all
  read_open : (p q r : Place) (n : List ℕ) {all : List Placed} → all ≡ at p (Name n) ∷ (at q Assign ∷ (at r Read ∷ []))
      → Good (ReadOpen n) all
  read_opened : (p q r s : Place) (n : List ℕ) {all : List Placed}
      → all ≡ at p (Name n) ∷ (at q Assign ∷ (at r Read ∷ (at s Open ∷ [])))
      → Good (ReadText n) all
  read_named : (p q r s t : Place) (n f : List ℕ) {all : List Placed}
      → all ≡ at p (Name n) ∷ (at q Assign ∷ (at r Read ∷ (at s Open ∷ (at t (Text f) ∷ []))))
      → Good (ReadClose n f) all
  file_wanted : (k : SaveWord) (p q r : Place) {a all : List Placed} {x : Tree} → Derives 1 a x
      → all ≡ at p (Save k) ∷ (at q Open ∷ (a ++ (at r Comma ∷ []))) → Good (FileText k p x) all
  file_named : (k : SaveWord) (p q r s : Place) (f : List ℕ) {a all : List Placed} {x : Tree} → Derives 1 a x
      → all ≡ at p (Save k) ∷ (at q Open ∷ (a ++ (at r Comma ∷ (at s (Text f) ∷ [])))) → Good (FileClose k p x s f) all
  stated : {x : Statement} {all : List Placed} → Reads all x → Good (Whole x) all
  dead : {all : List Placed} → Good Dead all

pub fits_from_five : (l : ℕ) (s : List Frame) → 5 ≤ l → Fits l s
fits_from_five l [] h = omega arith
fits_from_five l (Left p o x ∷ s) h = omega (arith, op_low o)
fits_from_five l (Minus p ∷ s) h = omega arith
fits_from_five l (Paren ∷ s) h = omega arith
fits_from_five l (Argument p f ∷ s) h = omega arith
fits_from_five l (First p f ∷ s) h = omega arith
fits_from_five l (Second p f x ∷ s) h = omega arith
fits_from_five l (Letting n ∷ s) h = omega arith
fits_from_five l (Printing ∷ s) h = omega arith
fits_from_five l (Saving k p ∷ s) h = omega arith

-- an operand by itself
alone : (k : Placed) (s : List Frame) (t : Tree) (all : List Placed) → Held s all → Derives 8 (k ∷ []) t
    → Good (Have true s t) (all ++ k ∷ [])
alone k s t all h d =
    has (record {
      front = all;
      mine = k ∷ [];
      at_level = 8;
      held = h;
      derives = d;
      fits = fits_from_five 8 s (omega arith);
      high =
          omega arith;
      seam = refl;
    })

begin_good : (p : Place) (o : BinOp) (s : List Frame) (all : List Placed) → Held s all
    → Good (begin p o s) (all ++ at p (Sign o) ∷ [])
begin_good p (Cell Sub) s all h = wants (minus p h (fits_from_five 5 s (omega arith)) refl)
begin_good p _ s all h = dead

read_good : (r : Place) (s : List Frame) (all : List Placed) → Held s all → Good (read s) (all ++ at r Read ∷ [])
read_good r (Letting _ ∷ _) all (lets p q n e) = read_open p q r n (ap (λ (l : List Placed). l ++ at r Read ∷ []) e)
read_good r _ all h = dead

want_good : (p : Place) (tok : Token) (s : List Frame) (all : List Placed) → Held s all
    → Good (want p tok s) (all ++ at p tok ∷ [])
want_good p (Number n) s all h = alone _ s _ all h (number p n)
want_good p (Name n) s all h = alone _ s _ all h (name p n)
want_good p (Sign o) s all h = begin_good p o s all h
want_good p Open s all h = wants (opened p h refl)
want_good p (Function f) s all h = call_open p f h refl
want_good p (Binder f) s all h = bind_open p f h refl
want_good p Read s all h = read_good p s all h
want_good p _ s all h = dead

fits_same : (o : BinOp) (f : Frame) → level_of f < level o → needs f ≤ level o
fits_same o (Left p q x) h = omega arith
fits_same o (Minus p) h = absurd (omega (arith, op_low o))
fits_same o Paren h = omega arith
fits_same o (Argument p f) h = omega arith
fits_same o (First p f) h = omega arith
fits_same o (Second p f x) h = omega arith
fits_same o (Letting n) h = omega arith
fits_same o Printing h = omega arith
fits_same o (Saving k p) h = omega arith

cell_one : (o : CellOp) → 1 ≤ cell_level o
cell_one Add = omega arith
cell_one Sub = omega arith
cell_one Mul = omega arith
cell_one Div = omega arith
cell_one Mod = omega arith
cell_one Lt = omega arith
cell_one Le = omega arith
cell_one Gt = omega arith
cell_one Ge = omega arith
cell_one Eq = omega arith
cell_one Ne = omega arith
cell_one Neg = omega arith

pub one_op : (o : BinOp) → 1 ≤ level o
one_op (Cell o) = cell_one o
one_op Product = omega arith

pub op_six : (o : BinOp) → level o ≤ 6
op_six o = omega (arith, op_low o)

fits_reduced : (o : BinOp) (s : List Frame) (t : Tree) → Fits (level o) (reduce (level o) s t).stack
fits_reduced o [] t = one_op o
fits_reduced o (f ∷ s) t = elim (cases_lt (level_of f) (level o)) [
  | inl low ↦ subst (λ (r : Reduced). Fits (level o) r.stack) (sym (reduce_stop (level o) f s t low))
      (fits_same o f low)
  | inr high ↦ subst (λ (r : Reduced). Fits (level o) r.stack) (sym (reduce_go (level o) f s t high))
      (fits_reduced o s (closed f t))
]

weaker : (k m : ℕ) (s : List Frame) (t : Tree) (all : List Placed) → k ≤ m → Holding m s t all → Holding k s t all
weaker k m s t all h w = record {
  front = w.front;
  mine = w.mine;
  at_level = w.at_level;
  held = w.held;
  derives = w.derives;
  fits =
      w.fits;
  high = omega arith;
  seam = w.seam;
}

sign_good : (p : Place) (o : BinOp) (s : List Frame) (t : Tree) (all : List Placed) → Fits (level o) s
    → Holding (level o) s t all
    → Good (Want (Left p o t ∷ s)) (all ++ at p (Sign o) ∷ [])
sign_good p o s t all h w = wants (left p o w.held (lowered (level o) w.at_level w.mine t (one_op o) w.high w.derives) h
    (ap (λ (l : List Placed). l ++ at p (Sign o) ∷ []) w.seam ∙ simp append_assoc))

-- an operand in brackets is derived from level 1 on
whole_one : (s : List Frame) (t : Tree) (all : List Placed) (w : Holding 1 s t all) → Derives 1 w.mine t
whole_one s t all w = lowered 1 w.at_level w.mine t (omega arith) w.high w.derives

-- a bracket closes
closes : (p : Place) (s : List Frame) (t : Tree) (all : List Placed) (w : Holding 1 s t all) → Held s w.front
    → Good (close s t) (all ++ at p Close ∷ [])
closes p (Paren ∷ s) t all w (opened q {front = front} h e) =
    has (record {
      front = front;
      mine = at q Open ∷ (w.mine ++ (at p Close ∷ []));
      at_level = 8;
      held = h;
      derives =
          paren q p (whole_one _ t all w);
      fits = fits_from_five 8 s (omega arith);
      high = omega arith;
      seam =
          ap (λ (l : List Placed). l ++ at p Close ∷ []) (w.seam ∙ ap (λ (l : List Placed). l ++ w.mine) e)
          ∙ simp append_assoc;
    })
closes p (Argument _ _ ∷ s) t all w (argument q r f {front = front} h e) =
    has (record {
      front = front;
      mine = at q (Function f) ∷ (at r Open ∷ (w.mine ++ (at p Close ∷ [])));
      at_level = 8;
      held = h;
      derives =
          call q r p f (whole_one _ t all w);
      fits = fits_from_five 8 s (omega arith);
      high = omega arith;
      seam =
          ap (λ (l : List Placed). l ++ at p Close ∷ []) (w.seam ∙ ap (λ (l : List Placed). l ++ w.mine) e)
          ∙ simp append_assoc;
    })
closes p (Second _ _ _ ∷ s) t all w (second q r u f {front = front} {a = a} h d e) =
    has (record {
      front = front;
      mine = at q (Binder f) ∷ (at r Open ∷ (a ++ (at u Comma ∷ (w.mine ++ (at p Close ∷ [])))));
      at_level =
          8;
      held = h;
      derives = bind q r u p f d (whole_one _ t all w);
      fits = fits_from_five 8 s (omega arith);
      high = omega arith;
      seam =
          ap (λ (l : List Placed). l ++ at p Close ∷ []) (w.seam ∙ ap (λ (l : List Placed). l ++ w.mine) e)
          ∙ simp append_assoc;
    })
closes p (Printing ∷ _) t all w (prints q r e) =
    stated (subst (λ (l : List Placed). Reads l (PrintOf t))
    (sym (ap (λ (l : List Placed). l ++ at p Close ∷ []) (w.seam ∙ ap (λ (l : List Placed). l ++ w.mine) e)))
    (printing q r p (whole_one _ t all w)))
closes p _ t all w h = dead

nexts : (p : Place) (s : List Frame) (t : Tree) (all : List Placed) (w : Holding 1 s t all) → Held s w.front
    → Good (next_argument s t) (all ++ at p Comma ∷ [])
nexts p (First _ _ ∷ s) t all w (first q r f {front = front} h e) =
    wants (second q r p f h (whole_one _ t all w)
    (ap (λ (l : List Placed). l ++ at p Comma ∷ []) (w.seam ∙ ap (λ (l : List Placed). l ++ w.mine) e)
    ∙ simp append_assoc))
nexts p (Saving _ _ ∷ _) t all w (saves k q r e) = file_wanted k q r p (whole_one _ t all w)
    (ap (λ (l : List Placed). l ++ at p Comma ∷ []) (w.seam ∙ ap (λ (l : List Placed). l ++ w.mine) e))
nexts p _ t all w h = dead

have_good : (b : Bool) (p : Place) (tok : Token) (s : List Frame) (t : Tree) (all : List Placed)
    → Holding (height b) s t all
    → Good (have b p tok s t) (all ++ at p tok ∷ [])
have_good b p (Sign o) s t all w =
    sign_good p o (reduce (level o) s t).stack (reduce (level o) s t).tree all (fits_reduced o s t)
    (reduce_holds (level o) s t all (one_op o)
    (weaker (level o) 6 s t all (op_six o) (weaker 6 (height b) s t all (six_high b) w)))
have_good b p Power s t all w = two p (weaker 6 (height b) s t all (six_high b) w) refl
have_good true p OpenSquare s t all w = in_span p w (in_rows none) refl
have_good b p Close s t all w = let v =
    reduce_holds 1 s t all (omega arith) (weaker 1 (height b) s t all (omega (arith, six_high b)) w)
    in closes p (reduce 1 s t).stack (reduce 1 s t).tree all v v.held
have_good b p Comma s t all w = let v =
    reduce_holds 1 s t all (omega arith) (weaker 1 (height b) s t all (omega (arith, six_high b)) w)
    in nexts p (reduce 1 s t).stack (reduce 1 s t).tree all v v.held
have_good b p _ s t all w = dead

is_two : (n : ℕ) (P : State → Type 0) (p : Place) (s : List Frame) (t : Tree) → P Dead
    → (n ≡ 2 → P (Have false s (Square p t)))
    → P (if_two n p s t)
is_two n P p s t not_two is_so = elim (cases_lt n 2) [
  | inl low ↦ let e : if_two n p s t ≡ Dead = grind (arith, nat_tests) in subst P (sym e) not_two
  | inr high ↦ elim (cases_lt 2 n) [
    | inl big ↦ let e : if_two n p s t ≡ Dead = grind (arith, nat_tests) in subst P (sym e) not_two
    | inr small ↦ let e : if_two n p s t ≡ Have false s (Square p t) =
        grind (arith, nat_tests) in subst P (sym e) (is_so (omega arith))
  ]
]

squared : (p q : Place) (n : ℕ) (s : List Frame) (t : Tree) (front all : List Placed) → Holding 6 s t front
    → all ≡ front ++ at p Power ∷ [] → n ≡ 2 → Good (Have false s (Square p t)) (all ++ at q (Number n) ∷ [])
squared p q n s t front all w e two_is =
    has (record {
      front = w.front;
      mine = w.mine ++ (at p Power ∷ (at q (Number 2) ∷ []));
      at_level = 6;
      held = w.held;
      derives =
          square p q (lowered 6 w.at_level w.mine t (omega arith) w.high w.derives);
      fits = fits_from_five 6 s (omega arith);
      high =
          omega arith;
      seam = ap (λ (m : ℕ). all ++ at q (Number m) ∷ []) two_is
          ∙ (ap (λ (l : List Placed). l ++ at q (Number 2) ∷ [])
          (e ∙ ap (λ (l : List Placed). l ++ at p Power ∷ []) w.seam)
          ∙ simp append_assoc);
    })

two_good : (q : Place) (tok : Token) (p : Place) (s : List Frame) (t : Tree) (front all : List Placed)
    → Holding 6 s t front
    → all ≡ front ++ at p Power ∷ [] → Good (two_only tok p s t) (all ++ at q tok ∷ [])
two_good q (Number n) p s t front all w e = is_two n (λ (u : State). Good u (all ++ at q (Number n) ∷ [])) p s t dead
    (squared p q n s t front all w e)
two_good q _ p s t front all w e = dead

-- an opening bracket is all that may come
opens : (q : Place) (tok : Token) (u : State) (all : List Placed) → Good u (all ++ at q Open ∷ [])
    → Good (open_only tok u) (all ++ at q tok ∷ [])
opens q Open u all g = g
opens q _ u all g = dead

-- a closing bracket is all that may come
ends_so : (q : Place) (tok : Token) (x : Statement) (all : List Placed) → Reads (all ++ at q Close ∷ []) x
    → Good (close_only tok x) (all ++ at q tok ∷ [])
ends_so q Close x all d = stated d
ends_so q _ x all d = dead

start_good : (p : Place) (tok : Token) (all : List Placed) → all ≡ [] → Good (start p tok) (all ++ at p tok ∷ [])
start_good p (Name n) all e = named p n (ap (λ (l : List Placed). l ++ at p (Name n) ∷ []) e)
start_good p Print all e = print_open p (ap (λ (l : List Placed). l ++ at p Print ∷ []) e)
start_good p (Save k) all e = save_open k p (ap (λ (l : List Placed). l ++ at p (Save k) ∷ []) e)
start_good p _ all e = dead

becomes_good : (p q : Place) (tok : Token) (n : List ℕ) (all : List Placed) → all ≡ at p (Name n) ∷ []
    → Good (assign tok n) (all ++ at q tok ∷ [])
becomes_good p q Assign n all e = wants (lets p q n (ap (λ (l : List Placed). l ++ at q Assign ∷ []) e))
becomes_good p q _ n all e = dead

read_text_good : (p q r s t : Place) (tok : Token) (n : List ℕ) (all : List Placed)
    → all ≡ at p (Name n) ∷ (at q Assign ∷ (at r Read ∷ (at s Open ∷ [])))
    → Good (read_text tok n) (all ++ at t tok ∷ [])
read_text_good p q r s t (Text f) n all e =
    read_named p q r s t n f (ap (λ (l : List Placed). l ++ at t (Text f) ∷ []) e)
read_text_good p q r s t _ n all e = dead

file_text_good : (k : SaveWord) (p q r s : Place) (tok : Token) (a all : List Placed) (x : Tree) → Derives 1 a x
    → all ≡ at p (Save k) ∷ (at q Open ∷ (a ++ (at r Comma ∷ []))) → Good (file_text s tok k p x) (all ++ at s tok ∷ [])
file_text_good k p q r s (Text f) a all x d e =
    file_named k p q r s f d (ap (λ (l : List Placed). l ++ at s (Text f) ∷ []) e
    ∙ simp append_assoc)
file_text_good k p q r s _ a all x d e = dead

-- a span ends
ended_rows : (k : Token) (q p : Place) (s : List Frame) (t : Tree) (span : Span) (front u all : List Placed)
    → Holding 7 s t front
    → IsSpan u span → all ≡ front ++ at p OpenSquare ∷ u → Good (ended k p s t Rows span) (all ++ at q k ∷ [])
ended_rows Comma q p s t span front u all w d e =
    in_span p w (in_cols q d none refl) (ap (λ (l : List Placed). l ++ at q Comma ∷ []) e
    ∙ simp append_assoc)
ended_rows _ q p s t span front u all w d e = dead

ended_cols : (k : Token) (q p c : Place) (s : List Frame) (t : Tree) (rows cols : Span) (front u v all : List Placed)
    → Holding 7 s t front → IsSpan u rows → IsSpan v cols → all ≡ front ++ at p OpenSquare ∷ (u ++ at c Comma ∷ v)
    → Good (ended k p s t (Cols rows) cols) (all ++ at q k ∷ [])
ended_cols CloseSquare q p c s t rows cols front u v all w d f e =
    has (record {
      front = w.front;
      mine = w.mine ++ (at p OpenSquare ∷ (u ++ (at c Comma ∷ (v ++ (at q CloseSquare ∷ [])))));
      at_level =
          7;
      held = w.held;
      derives = slice p c q (lowered 7 w.at_level w.mine t (omega arith) w.high w.derives) d f;
      fits = fits_from_five 7 s
          (omega arith);
      high = omega arith;
      seam = ap (λ (l : List Placed). l ++ at q CloseSquare ∷ [])
          (e ∙ ap (λ (l : List Placed). l ++ at p OpenSquare ∷ (u ++ at c Comma ∷ v)) w.seam) ∙ simp append_assoc;
    })
ended_cols _ q p c s t rows cols front u v all w d f e = dead

ended_good : (k : Token) (q p : Place) (s : List Frame) (t : Tree) (part : Part) (seen : Seen) (span : Span)
    (front u all : List Placed)
    → Holding 7 s t front → So part seen u → ((v : List Placed) → SeenIn seen v → IsSpan v span)
    → all ≡ front ++ at p OpenSquare ∷ u
    → Good (ended k p s t part span) (all ++ at q k ∷ [])
ended_good k q p s t Rows seen span front u all w (in_rows d) is e = ended_rows k q p s t span front u all w (is u d) e
ended_good k q p s t (Cols rows) seen span front u all w (in_cols c {u = a} {v = v} d f g) is e =
    ended_cols k q p c s t rows span front a
    v all w d (is v f) (e ∙ ap (λ (l : List Placed). front ++ at p OpenSquare ∷ l) g)

grows : (k : Placed) (part : Part) (seen next : Seen) (u : List Placed)
    → ((v : List Placed) → SeenIn seen v → SeenIn next (v ++ k ∷ []))
    → So part seen u → So part next (u ++ k ∷ [])
grows k Rows seen next u f (in_rows d) = in_rows (f u d)
grows k (Cols rows) seen next u f (in_cols c {u = a} {v = v} d g e) =
    in_cols c d (f v g) (ap (λ (l : List Placed). l ++ k ∷ []) e
    ∙ simp append_assoc)

grown : (k : Placed) (p : Place) (s : List Frame) (t : Tree) (part : Part) (seen next : Seen)
    (front u all : List Placed)
    → Holding 7 s t front → So part seen u → all ≡ front ++ at p OpenSquare ∷ u
    → ((v : List Placed) → SeenIn seen v → SeenIn next (v ++ k ∷ [])) → Good (InSpan p s t part next) (all ++ k ∷ [])
grown k p s t part seen next front u all w so e f =
    in_span p w (grows k part seen next u f so) (ap (λ (l : List Placed). l ++ k ∷ []) e
    ∙ simp append_assoc)

nothing_every : (v : List Placed) → SeenIn Nothing v → IsSpan v Every
nothing_every _ none = every

once_one : (n : ℕ) (v : List Placed) → SeenIn (Once n) v → IsSpan v (One n)
once_one n _ (once p _) = one p n

both_pair : (n m : ℕ) (v : List Placed) → SeenIn (Both n m) v → IsSpan v (Pair n m)
both_pair n m _ (both p q r _ _) = pair p q r n m

to_once : (q : Place) (n : ℕ) (v : List Placed) → SeenIn Nothing v → SeenIn (Once n) (v ++ at q (Number n) ∷ [])
to_once q n _ none = once q n

to_parted : (q : Place) (n : ℕ) (v : List Placed) → SeenIn (Once n) v → SeenIn (Parted n) (v ++ at q Colon ∷ [])
to_parted q n _ (once p _) = parted p q n

to_both : (r : Place) (n m : ℕ) (v : List Placed) → SeenIn (Parted n) v → SeenIn (Both n m) (v ++ at r (Number m) ∷ [])
to_both r n m _ (parted p q _) = both p q r n m

span_good : (k : Token) (q p : Place) (s : List Frame) (t : Tree) (part : Part) (seen : Seen)
    (front u all : List Placed)
    → Holding 7 s t front → So part seen u → all ≡ front ++ at p OpenSquare ∷ u
    → Good (span_step k p s t part seen) (all ++ at q k ∷ [])
span_good (Number n) q p s t part Nothing front u all w so e =
    grown (at q (Number n)) p s t part Nothing (Once n) front u all w so e
    (to_once q n)
span_good (Number m) q p s t part (Parted n) front u all w so e =
    grown (at q (Number m)) p s t part (Parted n) (Both n m) front u all w
    so e (to_both q n m)
span_good Colon q p s t part (Once n) front u all w so e =
    grown (at q Colon) p s t part (Once n) (Parted n) front u all w so e
    (to_parted q n)
span_good k q p s t part Nothing front u all w so e =
    ended_good k q p s t part Nothing Every front u all w so nothing_every e
span_good k q p s t part (Once n) front u all w so e =
    ended_good k q p s t part (Once n) (One n) front u all w so (once_one n) e
span_good k q p s t part (Both n m) front u all w so e =
    ended_good k q p s t part (Both n m) (Pair n m) front u all w so
    (both_pair n m) e
span_good k q p s t part (Parted n) front u all w so e = dead

-- one token more on both sides of an equation
snoc : (k : Placed) (a b : List Placed) → a ≡ b → a ++ k ∷ [] ≡ b ++ k ∷ []
snoc k a b e = ap (λ (l : List Placed). l ++ k ∷ []) e

pub step_good : (u : State) (k : Placed) (all : List Placed) → Good u all → Good (step u k) (all ++ k ∷ [])
step_good Start k all (starts e) = start_good k.place k.token all e
step_good (After _) k all (named p n e) = becomes_good p k.place k.token n all e
step_good (Want s) k all (wants h) = want_good k.place k.token s all h
step_good (WantOpen _) k all (call_open p f h e) = opens k.place k.token _ all
    (wants (argument p k.place f h (snoc (at k.place Open) all _ e ∙ simp append_assoc)))
step_good (WantOpen _) k all (bind_open p f h e) = opens k.place k.token _ all
    (wants (first p k.place f h (snoc (at k.place Open) all _ e ∙ simp append_assoc)))
step_good (WantOpen _) k all (print_open p e) =
    opens k.place k.token _ all (wants (prints p k.place (snoc (at k.place Open) all _ e)))
step_good (WantOpen _) k all (save_open i p e) =
    opens k.place k.token _ all (wants (saves i p k.place (snoc (at k.place Open) all _ e)))
step_good (Have b s t) k all (has w) = have_good b k.place k.token s t all w
step_good (WantTwo _ s t) k all (two p w e) = two_good k.place k.token p s t _ all w e
step_good (InSpan _ s t part seen) k all (in_span p {front = front} {u = u} w so e) =
    span_good k.token k.place p s t part seen front u
    all w so e
step_good (ReadOpen _) k all (read_open p q r n e) = opens k.place k.token _ all
    (read_opened p q r k.place n (snoc (at k.place Open) all _ e))
step_good (ReadText _) k all (read_opened p q r s n e) = read_text_good p q r s k.place k.token n all e
step_good (ReadClose _ _) k all (read_named p q r s t n f e) = ends_so k.place k.token _ all
    (subst (λ (l : List Placed). Reads l (ReadOf n f)) (sym (snoc (at k.place Close) all _ e))
    (reading p q r s t k.place n f))
step_good (FileText _ _ _) k all (file_wanted i p q r {a = a} {x = x} d e) =
    file_text_good i p q r k.place k.token a all x d e
step_good (FileClose _ _ _ _ _) k all (file_named i p q r s f {x = x} d e) = ends_so k.place k.token _ all
    (subst (λ (l : List Placed). Reads l (SaveOf i p x s f)) (sym (snoc (at k.place Close) all _ e ∙ simp append_assoc))
    (saving i p q r s k.place f d))
step_good (Whole x) k all g = dead
step_good Dead k all dead = dead

pub run_good : (ks : List Placed) (u : State) (all : List Placed) → Good u all → Good (run u ks) (all ++ ks)
run_good [] u all g = subst (λ (l : List Placed). Good u l) (simp append-nil) g
run_good (k ∷ ks) u all g = subst (λ (l : List Placed). Good (run (step u k) ks) l) (simp append_assoc)
    (run_good ks (step u k) (all ++ k ∷ []) (step_good u k all g))

let_whole : (s : List Frame) (t : Tree) (x : Statement) (all : List Placed) (w : Holding 1 s t all) → Held s w.front
    → let_end s t ≡ Some x → Reads all x
let_whole (Letting _ ∷ _) t x all w (lets p q n e) h =
    let same : LetOf n t ≡ x = cc in
    subst (λ (y : Statement). Reads all y) same
    (subst (λ (l : List Placed). Reads l (LetOf n t)) (sym (w.seam ∙ ap (λ (l : List Placed). l ++ w.mine) e))
    (letting p q n (whole_one _ t all w)))
let_whole _ t x all w _ h = let no : ⊥ = cc in absurd no

ends : (u : State) (x : Statement) (all : List Placed) → Good u all → finish u ≡ Some x → Reads all x
ends (Have b s t) x all (has w) e = let v = reduce_holds 1 s t all (omega arith)
    (weaker 1 (height b) s t all (omega (arith, six_high b)) w) in let_whole (reduce 1 s t).stack
    (reduce 1 s t).tree x all v v.held e
ends (Whole y) x all (stated d) e = let same : y ≡ x = cc in subst (λ (z : Statement). Reads all z) same d
ends _ x all g e = let no : ⊥ = cc in absurd no

pub derived : (ts : List Placed) (x : Statement) → finish (run Start ts) ≡ Some x → Reads ts x
derived ts x e = ends (run Start ts) x ts (run_good ts Start [] (starts refl)) e
