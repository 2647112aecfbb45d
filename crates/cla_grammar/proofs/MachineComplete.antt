-- What the grammar derives the machine reads.
use Rattle.std.proofs.Common.{pos, ◌≡◌, ℕ, suc, ◌<◌, ◌≤◌, List, [], ◌∷◌, ◌++◌, refl, sym, ap, inl, inr, ◌∙◌, arith}
use Rattle.std.proofs.Common.{Bool, true, false}
use Rattle.std.proofs.Common.{Some}
use Rattle.std.proofs.lemmas.Bool.{cases_lt}
use Rattle.std.proofs.lemmas.Bool.Decides.{nat_tests}
use Rattle.cla_grammar.specs.declared.place.Place.{Place}
use Rattle.cla_grammar.specs.Tokens.{Placed, Number, Text, Sign, Power, Close, Comma, OpenSquare, CloseSquare, level}
use Rattle.cla_grammar.specs.Tokens.{cell_level}
use Rattle.cla_grammar.specs.Tree.{Tree, Slice, Span, Constant, Named, Square, Statement, LetOf}
use Rattle.cla_num.specs.declared.cell_op.CellOp.{CellOp}
use Rattle.cla_num.specs.declared.cell_op.CellOp.TheVariants.{Add, Sub, Mul, Div, Mod, Lt, Le, Gt, Ge, Eq, Ne, Neg}
use Rattle.cla_grammar.specs.declared.words.BinOp.{BinOp}
use Rattle.cla_grammar.specs.declared.words.BinOp.TheVariants.{Cell, Product}
use Rattle.cla_grammar.specs.Grammar.{at, Derives, IsSpan, every, one, pair, number, name, paren, call, bind, slice}
use Rattle.cla_grammar.specs.Grammar.{square, negative}
use Rattle.cla_grammar.specs.Grammar.{binary, up, Reads, reading, letting, printing, saving}
use Rattle.cla_grammar.specs.Machine.{Frame, Left, Minus, Paren, Argument, First, Second, Letting, Printing, Saving}
use Rattle.cla_grammar.specs.Machine.{level_of, needs}
use Rattle.cla_grammar.specs.Machine.{closed, Reduced, reduced, reduce, State, Start, Want, Have, InSpan, Rows, Cols}
use Rattle.cla_grammar.specs.Machine.{Nothing, close}
use Rattle.cla_grammar.specs.Machine.{next_argument, step, run, let_end, finish}

pub run-append : (s : State) (a b : List Placed) → run s (a ++ b) ≡ run (run s a) b
run-append s [] b = refl
run-append s (k ∷ a) b = run-append (step s k) a b

-- an operand of level l may stand on the stack
abbrev pub Fits : ℕ → List Frame → Type 0
Fits l [] = 1 ≤ l
Fits l (f ∷ s) = needs f ≤ l

pub cell_low : (o : CellOp) → cell_level o ≤ 4
cell_low Add = omega arith
cell_low Sub = omega arith
cell_low Mul = omega arith
cell_low Div = omega arith
cell_low Mod = omega arith
cell_low Lt = omega arith
cell_low Le = omega arith
cell_low Gt = omega arith
cell_low Ge = omega arith
cell_low Eq = omega arith
cell_low Ne = omega arith
cell_low Neg = omega arith

pub op_low : (o : BinOp) → level o ≤ 4
op_low (Cell o) = cell_low o
op_low Product = omega arith

pub reduce_stop : (k : ℕ) (f : Frame) (s : List Frame) (t : Tree) → level_of f < k
    → reduce k (f ∷ s) t ≡ reduced (f ∷ s) t
reduce_stop k f s t h = grind (arith, nat_tests)

pub reduce_go : (k : ℕ) (f : Frame) (s : List Frame) (t : Tree) → k ≤ level_of f
    → reduce k (f ∷ s) t ≡ reduce k s (closed f t)
reduce_go k f s t h = grind (arith, nat_tests)

pub binary_below : (f : Frame) (o : BinOp) → needs f ≤ level o → level_of f < level o
binary_below (Left p q x) o h = omega arith
binary_below (Minus p) o h = absurd (omega (arith, op_low o))
binary_below Paren o h = omega arith
binary_below (Argument p f) o h = omega arith
binary_below (First p f) o h = omega arith
binary_below (Second p f x) o h = omega arith
binary_below (Letting n) o h = omega arith
binary_below Printing o h = omega arith
binary_below (Saving k p) o h = omega arith

pub binary_stop : (o : BinOp) (s : List Frame) (t : Tree) → Fits (level o) s → reduce (level o) s t ≡ reduced s t
binary_stop o [] t h = refl
binary_stop o (f ∷ s) t h = reduce_stop (level o) f s t (binary_below f o h)

pub reduce_twice : (k m : ℕ) (s : List Frame) (t : Tree) → k ≤ m
    → reduce k (reduce m s t).stack (reduce m s t).tree ≡ reduce k s t
reduce_twice k m [] t h = refl
reduce_twice k m (f ∷ s) t h = elim (cases_lt (level_of f) m) [
  | inl low ↦ ap (λ (r : Reduced). reduce k r.stack r.tree) (reduce_stop m f s t low)
  | inr high ↦ ap (λ (r : Reduced). reduce k r.stack r.tree) (reduce_go m f s t high)
      ∙ (reduce_twice k m s (closed f t) h ∙ sym (reduce_go k f s t (omega arith)))
]

-- after these tokens the machine has the tree, but for operators that are still open
pub record Reached (l : ℕ) (s : List Frame) (t : Tree) (ts : List Placed) : Type 0 where
  pub stack : List Frame
  pub tree : Tree
  pub flag : Bool
  pub sliceable : 7 ≤ l → flag ≡ true
  pub runs : run (Want s) ts ≡ Have flag stack tree
  pub same : reduce l stack tree ≡ reduce l s t

fits_up : (l : ℕ) (s : List Frame) → Fits l s → Fits (suc l) s
fits_up l [] h = omega arith
fits_up l (f ∷ s) h = omega arith

fits_binary : (o : BinOp) (p : Place) (x : Tree) (s : List Frame) → Fits (suc (level o)) (Left p o x ∷ s)
fits_binary o p x s = omega arith

-- tokens, and then one that makes a state of what was reached
after : (l : ℕ) (s : List Frame) (t : Tree) (ts more : List Placed) (r : Reached l s t ts)
    → run (Want s) (ts ++ more) ≡ run (Have r.flag r.stack r.tree) more
after l s t ts more r = run-append (Want s) ts more ∙ ap (λ (u : State). run u more) r.runs

pub below_six : (f : Frame) → level_of f < 6
below_six (Left p o x) = omega (arith, op_low o)
below_six (Minus p) = omega arith
below_six Paren = omega arith
below_six (Argument p f) = omega arith
below_six (First p f) = omega arith
below_six (Second p f x) = omega arith
below_six (Letting n) = omega arith
below_six Printing = omega arith
below_six (Saving k p) = omega arith

six : (s : List Frame) (t : Tree) → reduce 6 s t ≡ reduced s t
six [] t = refl
six (f ∷ s) t = reduce_stop 6 f s t (below_six f)

seven : (s : List Frame) (t : Tree) → reduce 7 s t ≡ reduced s t
seven [] t = refl
seven (f ∷ s) t = reduce_stop 7 f s t (omega (arith, below_six f))

rows_done : {u : List Placed} {rows : Span} → IsSpan u rows
    → (p q : Place) (s : List Frame) (x : Tree) (more : List Placed)
    → run (InSpan p s x Rows Nothing) (u ++ (at q Comma ∷ more)) ≡ run (InSpan p s x (Cols rows) Nothing) more
rows_done every p q s x more = refl
rows_done (one r n) p q s x more = refl
rows_done (pair r r' r'' n m) p q s x more = refl

cols_done : {v : List Placed} {cols : Span} → IsSpan v cols → (rows : Span) (p q : Place) (s : List Frame) (x : Tree)
    → run (InSpan p s x (Cols rows) Nothing) (v ++ (at q CloseSquare ∷ [])) ≡ Have true s (Slice p x rows cols)
cols_done every rows p q s x = refl
cols_done (one r n) rows p q s x = refl
cols_done (pair r r' r'' n m) rows p q s x = refl

pub complete : {l : ℕ} {ts : List Placed} {x : Tree} → Derives l ts x → (s : List Frame) → Fits l s → Reached l s x ts
complete (number p n) s h =
    record { flag = true; sliceable = λ _. refl; stack = s; tree = Constant (pos n); runs = refl; same = refl }
complete (name p n) s h =
    record { flag = true; sliceable = λ _. refl; stack = s; tree = Named p n; runs = refl; same = refl }
complete (paren p q d) s h =
    let r = complete d (Paren ∷ s) (omega arith) in
    record {
      flag = true;
      sliceable = λ _. refl;
      stack = s;
      tree = _;
      runs = after _ _ _ _ (at q Close ∷ []) r
          ∙ ap (λ (u : Reduced). close u.stack u.tree) r.same;
      same = refl;
    }
complete (call p q r f d) s h =
    let i = complete d (Argument p f ∷ s) (omega arith) in
    record {
      flag = true;
      sliceable = λ _. refl;
      stack = s;
      tree = _;
      runs = after _ _ _ _ (at r Close ∷ []) i
          ∙ ap (λ (u : Reduced). close u.stack u.tree) i.same;
      same = refl;
    }
complete (bind p q r u f {b = b} d e) s h =
    let i = complete d (First p f ∷ s) (omega arith) in
    let j = complete e (Second p f _ ∷ s) (omega arith) in
    record {
      flag = true;
      sliceable = λ _. refl;
      stack = s;
      tree = _;
      runs = after _ _ _ _ (at r Comma ∷ (b ++ (at u Close ∷ []))) i
          ∙ (ap (λ (v : Reduced). run (next_argument v.stack v.tree) (b ++ (at u Close ∷ []))) i.same
          ∙ (after _ _ _ _ (at u Close ∷ []) j ∙ ap (λ (v : Reduced). close v.stack v.tree) j.same));
      same = refl;
    }
complete (square p q {x = x} d) s h =
    let r = complete d s h in
    let e : reduced r.stack r.tree ≡ reduced s x = sym (six r.stack r.tree) ∙ (r.same ∙ six s x) in
    record {
      flag = false;
      sliceable = λ h. absurd (omega arith);
      stack = s;
      tree = Square p x;
      runs =
          after _ _ _ _ (at p Power ∷ (at q (Number 2) ∷ [])) r
          ∙ ap (λ (u : Reduced). Have false u.stack (Square p u.tree)) e;
      same =
          refl;
    }
complete (slice p q r {u = u} {v = v} {x = x} {rows = rows} {cols = cols} d e f) s h =
    let i = complete d s h in
    let same : reduced i.stack i.tree ≡ reduced s x = sym (seven i.stack i.tree) ∙ (i.same ∙ seven s x) in
    let tail = at p OpenSquare ∷ (u ++ (at q Comma ∷ (v ++ (at r CloseSquare ∷ [])))) in
    record {
      flag = true;
      sliceable = λ _. refl;
      stack = s;
      tree = Slice p x rows cols;
      runs = after _ _ _ _ tail i ∙ (ap (λ (b : Bool). run (Have b i.stack i.tree) tail) (i.sliceable (omega arith))
          ∙ (ap (λ (w : Reduced). run (Have true w.stack w.tree) tail) same
          ∙ (rows_done e p q s x (v ++ (at r CloseSquare ∷ [])) ∙ cols_done f rows p r s x)));
      same = refl;
    }
complete (negative p d) s h =
    let r = complete d (Minus p ∷ s) (omega arith) in
    record {
      flag = r.flag;
      sliceable = λ h. absurd (omega arith);
      stack = r.stack;
      tree = r.tree;
      runs =
          r.runs;
      same = r.same;
    }
complete (binary p o {b = b} {x = x} {y = y} d e) s h =
    let r = complete d s h in
    let i = complete e (Left p o x ∷ s) (fits_binary o p x s) in
    let k = level o in
    record {
      flag = i.flag;
      sliceable = λ h. absurd (omega (arith, op_low o));
      stack = i.stack;
      tree = i.tree;
      runs = after _ _ _ _ (at p (Sign o) ∷ b) r
          ∙ (ap (λ (u : Reduced). run (Want (Left p o u.tree ∷ u.stack)) b) (r.same ∙ binary_stop o s x h) ∙ i.runs);
      same = sym (reduce_twice k (suc k) i.stack i.tree (omega arith))
          ∙ (ap (λ (u : Reduced). reduce k u.stack u.tree) i.same
          ∙ (reduce_twice k (suc k) (Left p o x ∷ s) y (omega arith) ∙ reduce_go k (Left p o x) s y (omega arith)));
    }
complete (up {l = l} some d) s h =
    let r = complete d s (fits_up l s h) in
    record {
      flag = r.flag;
      sliceable = λ h. r.sliceable (omega arith);
      stack = r.stack;
      tree = r.tree;
      runs = r.runs;
      same =
          sym (reduce_twice l (suc l) r.stack r.tree (omega arith))
          ∙ (ap (λ (u : Reduced). reduce l u.stack u.tree) r.same ∙ reduce_twice l (suc l) s _ (omega arith));
    }

-- the whole of a statement
pub reads_whole : {ts : List Placed} {x : Statement} → Reads ts x → finish (run Start ts) ≡ Some x
reads_whole (reading p q r s t u n f) = refl
reads_whole (letting p q n d) =
    let r = complete d (Letting n ∷ []) (omega arith) in
    ap finish r.runs ∙ ap (λ (u : Reduced). let_end u.stack u.tree) r.same
reads_whole (printing p q r d) =
    let i = complete d (Printing ∷ []) (omega arith) in
    ap finish (after _ _ _ _ (at r Close ∷ []) i ∙ ap (λ (u : Reduced). close u.stack u.tree) i.same)
reads_whole (saving k p q r s t f d) =
    let i = complete d (Saving k p ∷ []) (omega arith) in
    let tail = at s (Text f) ∷ (at t Close ∷ []) in
    ap finish
    (after _ _ _ _ (at r Comma ∷ tail) i ∙ ap (λ (u : Reduced). run (next_argument u.stack u.tree) tail) i.same)

some_same : {x y : Statement} → Some x ≡ Some y → x ≡ y
some_same e = cc

-- one statement at most
pub one_statement : {ts : List Placed} {x y : Statement} → Reads ts x → Reads ts y → x ≡ y
one_statement d e = some_same (sym (reads_whole d) ∙ reads_whole e)

-- at most one expression: it is the right side of one assignment
pub one_tree : {ts : List Placed} {x y : Tree} → Derives 1 ts x → Derives 1 ts y → x ≡ y
one_tree {x = x} {y = y} d e =
    let p : Place = record { line = 1; col = 1 } in
    let same : LetOf [] x ≡ LetOf [] y = one_statement (letting p p [] d) (letting p p [] e) in
    cc
