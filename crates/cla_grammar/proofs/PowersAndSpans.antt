-- Where the machine waits for an exponent, and where it stands within a span.
use Rattle.std.proofs.Common.{◌≡◌, ◌≢◌, ℕ, Bool, true, false, List, [], ◌∷◌, refl, sym, ap, subst, inl, inr, ◌∙◌, arith}
use Rattle.std.proofs.lemmas.Bool.{cases_lt}
use Rattle.std.proofs.lemmas.Bool.Decides.{nat_tests}
use Rattle.cla_grammar.specs.declared.place.Place.{Place}
use Rattle.cla_grammar.specs.Tokens.{Token, Placed, Number, Name, Text, Sign, Assign, Power, Open, Close, Comma}
use Rattle.cla_grammar.specs.Tokens.{OpenSquare, CloseSquare}
use Rattle.cla_grammar.specs.Tokens.{Colon, Function, Binder, Read, Print, Save}
use Rattle.cla_grammar.specs.Tree.{Tree, Span, Every, One, Pair, Square, Statement, ReadOf, SaveOf}
use Rattle.cla_num.specs.declared.cell_op.CellOp.TheVariants.{Sub}
use Rattle.cla_grammar.specs.declared.words.BinOp.{BinOp}
use Rattle.cla_grammar.specs.declared.words.BinOp.TheVariants.{Cell}
use Rattle.cla_grammar.specs.declared.words.SaveWord.{SaveWord}
use Rattle.cla_grammar.specs.Machine.{Frame, Paren, Argument, First, Second, Letting, Printing, Saving, reduce, State}
use Rattle.cla_grammar.specs.Machine.{Start, After, Want}
use Rattle.cla_grammar.specs.Machine.{WantOpen, Have, InSpan, WantTwo, ReadOpen, ReadText, ReadClose, FileText}
use Rattle.cla_grammar.specs.Machine.{FileClose, Whole, Dead}
use Rattle.cla_grammar.specs.Machine.{Part, Rows, Cols, Seen, Nothing, Once, Parted, Both, start, assign, close}
use Rattle.cla_grammar.specs.Machine.{next_argument, begin}
use Rattle.cla_grammar.specs.Machine.{read, want, have, open_only, if_two, two_only, ended, span_step, read_text}
use Rattle.cla_grammar.specs.Machine.{file_text, close_only}
use Rattle.cla_grammar.specs.Machine.{step, run}
use Rattle.cla_grammar.specs.Faults.{is_power, after_power, square_after, in_square}
use Rattle.cla_grammar.specs.Reader.{waits, spans}
use Rattle.cla_grammar.proofs.MachineLive.{dead_stays}

-- the marks of a state after a token that it accepts
abbrev pub Marked : Bool → Token → State → Type 0
Marked b k u = u ≢ Dead → (waits u ≡ is_power k) × (spans u ≡ square_after b k)

dead_marked : (b : Bool) (k : Token) → Marked b k Dead
dead_marked b k h = absurd (h refl)

start_marked : (p : Place) (k : Token) → Marked false k (start p k)
start_marked p (Name n) h = (refl, refl)
start_marked p Print h = (refl, refl)
start_marked p (Save i) h = (refl, refl)
start_marked p _ h = absurd (h refl)

becomes_marked : (k : Token) (n : List ℕ) → Marked false k (assign k n)
becomes_marked Assign n h = (refl, refl)
becomes_marked _ n h = absurd (h refl)

begin_marked : (p : Place) (o : BinOp) (s : List Frame) → Marked false (Sign o) (begin p o s)
begin_marked p (Cell Sub) s h = (refl, refl)
begin_marked p _ s h = absurd (h refl)

read_marked : (s : List Frame) → Marked false Read (read s)
read_marked (Letting n ∷ s) h = (refl, refl)
read_marked _ h = absurd (h refl)

want_marked : (p : Place) (k : Token) (s : List Frame) → Marked false k (want p k s)
want_marked p (Number n) s h = (refl, refl)
want_marked p (Name n) s h = (refl, refl)
want_marked p (Sign o) s h = begin_marked p o s h
want_marked p Open s h = (refl, refl)
want_marked p (Function f) s h = (refl, refl)
want_marked p (Binder f) s h = (refl, refl)
want_marked p Read s h = read_marked s h
want_marked p _ s h = absurd (h refl)

close_marked : (s : List Frame) (t : Tree) → Marked false Close (close s t)
close_marked (Paren ∷ s) t h = (refl, refl)
close_marked (Argument p f ∷ s) t h = (refl, refl)
close_marked (Second p f x ∷ s) t h = (refl, refl)
close_marked (Printing ∷ s) t h = (refl, refl)
close_marked _ t h = absurd (h refl)

next_marked : (s : List Frame) (t : Tree) → Marked false Comma (next_argument s t)
next_marked (First p f ∷ s) t h = (refl, refl)
next_marked (Saving k p ∷ s) t h = (refl, refl)
next_marked _ t h = absurd (h refl)

have_marked : (b : Bool) (p : Place) (k : Token) (s : List Frame) (t : Tree) → Marked false k (have b p k s t)
have_marked b p (Sign o) s t h = (refl, refl)
have_marked b p Power s t h = (refl, refl)
have_marked b p Close s t h = close_marked (reduce 1 s t).stack (reduce 1 s t).tree h
have_marked b p Comma s t h = next_marked (reduce 1 s t).stack (reduce 1 s t).tree h
have_marked true p OpenSquare s t h = (refl, refl)
have_marked b p _ s t h = absurd (h refl)

open_marked : (k : Token) (u : State) → waits u ≡ false → spans u ≡ false → Marked false k (open_only k u)
open_marked Open u a b h = (a, b)
open_marked _ u a b h = absurd (h refl)

if_two_marked : (n : ℕ) (p : Place) (s : List Frame) (t : Tree) → Marked false (Number n) (if_two n p s t)
if_two_marked n p s t = elim (cases_lt n 2) [
  | inl low ↦ let e : if_two n p s t ≡ Dead =
      grind (arith, nat_tests) in subst (λ (u : State). Marked false (Number n) u) (sym e)
      (dead_marked false (Number n))
  | inr high ↦ elim (cases_lt 2 n) [
    | inl big ↦ let e : if_two n p s t ≡ Dead =
        grind (arith, nat_tests) in subst (λ (u : State). Marked false (Number n) u) (sym e)
        (dead_marked false (Number n))
    | inr small ↦ let e : if_two n p s t ≡ Have false s (Square p t) = grind (arith, nat_tests) in
        subst (λ (u : State). Marked false (Number n) u) (sym e) (λ _. (refl, refl))
  ]
]

two_marked : (k : Token) (p : Place) (s : List Frame) (t : Tree) → Marked false k (two_only k p s t)
two_marked (Number n) p s t h = if_two_marked n p s t h
two_marked _ p s t h = absurd (h refl)

ended_marked : (k : Token) (p : Place) (s : List Frame) (t : Tree) (part : Part) (span : Span)
    → Marked true k (ended k p s t part span)
ended_marked Comma p s t Rows span h = (refl, refl)
ended_marked CloseSquare p s t (Cols rows) span h = (refl, refl)
ended_marked _ p s t part span h = absurd (h refl)

span_marked : (k : Token) (p : Place) (s : List Frame) (t : Tree) (part : Part) (seen : Seen)
    → Marked true k (span_step k p s t part seen)
span_marked (Number n) p s t part Nothing h = (refl, refl)
span_marked (Number m) p s t part (Parted n) h = (refl, refl)
span_marked Colon p s t part (Once n) h = (refl, refl)
span_marked k p s t part Nothing h = ended_marked k p s t part Every h
span_marked k p s t part (Once n) h = ended_marked k p s t part (One n) h
span_marked k p s t part (Both n m) h = ended_marked k p s t part (Pair n m) h
span_marked k p s t part (Parted n) h = absurd (h refl)

text_marked : (k : Token) (n : List ℕ) → Marked false k (read_text k n)
text_marked (Text f) n h = (refl, refl)
text_marked _ n h = absurd (h refl)

file_marked : (q : Place) (k : Token) (i : SaveWord) (p : Place) (t : Tree) → Marked false k (file_text q k i p t)
file_marked q (Text f) i p t h = (refl, refl)
file_marked q _ i p t h = absurd (h refl)

close_only_marked : (k : Token) (x : Statement) → Marked false k (close_only k x)
close_only_marked Close x h = (refl, refl)
close_only_marked _ x h = absurd (h refl)

pub step_marked : (u : State) (k : Placed) → Marked (spans u) k.token (step u k)
step_marked Start k h = start_marked k.place k.token h
step_marked (After n) k h = becomes_marked k.token n h
step_marked (Want s) k h = want_marked k.place k.token s h
step_marked (WantOpen s) k h = open_marked k.token (Want s) refl refl h
step_marked (Have b s t) k h = have_marked b k.place k.token s t h
step_marked (InSpan p s t part seen) k h = span_marked k.token p s t part seen h
step_marked (WantTwo p s t) k h = two_marked k.token p s t h
step_marked (ReadOpen n) k h = open_marked k.token (ReadText n) refl refl h
step_marked (ReadText n) k h = text_marked k.token n h
step_marked (ReadClose n f) k h = close_only_marked k.token (ReadOf n f) h
step_marked (FileText i p t) k h = file_marked k.place k.token i p t h
step_marked (FileClose i p t q f) k h = close_only_marked k.token (SaveOf i p t q f) h
step_marked (Whole x) k h = absurd (h refl)
step_marked Dead k h = absurd (h refl)

live_before : (u : State) (k : Placed) (ks : List Placed) → run (step u k) ks ≢ Dead → step u k ≢ Dead
live_before u k ks h dead = h (ap (λ (v : State). run v ks) dead ∙ dead_stays ks)

pub run_marked : (ks : List Placed) (u : State) → run u ks ≢ Dead → (waits (run u ks) ≡ after_power (waits u) ks)
    × (spans (run u ks) ≡ in_square (spans u) ks)
run_marked [] u h = (refl, refl)
run_marked (k ∷ ks) u h =
    let one = step_marked u k (live_before u k ks h) in
    let more = run_marked ks (step u k) h in
    (more.0 ∙ ap (λ (b : Bool). after_power b ks) one.0, more.1 ∙ ap (λ (b : Bool). in_square b ks) one.1)
