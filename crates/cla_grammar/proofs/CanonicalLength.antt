-- The canonical tokens of a tree are no more than those it was read from.
use Rattle.std.proofs.Common.{◌≡◌, ℕ, suc, ◌+◌, ◌<◌, ◌≤◌, List, length, refl, ap, inl, inr, ◌∙◌, arith, Bool}
use Rattle.std.proofs.Common.{true, false, length-append}
use Rattle.std.specs.Prelude.{nat_lt}
use Rattle.std.proofs.lemmas.Bool.{cases_lt}
use Rattle.std.proofs.lemmas.Bool.Decides.{nat_tests}
use Rattle.cla_grammar.specs.Tokens.{Token, Placed, level}
use Rattle.cla_grammar.specs.Tree.{Tree, Slice, Span, Constant, Named, Negative, Square, Binary, Apply, Join, Statement}
use Rattle.cla_grammar.specs.Grammar.{Derives, IsSpan, every, one, pair, number, name, paren, call, bind, slice}
use Rattle.cla_grammar.specs.Grammar.{square, negative}
use Rattle.cla_grammar.specs.Grammar.{binary, up, Reads, reading, letting, printing, saving}
use Rattle.cla_grammar.specs.Canonical.{own_level, bracketed, canonical_tokens, span_tokens, statement_tokens}
use Rattle.cla_grammar.proofs.MachineSound.{one_op}

-- how many tokens a tree has where an operand of this level is needed
abbrev len_at : ℕ → Tree → ℕ
len_at l t = length (bracketed (nat_lt (own_level t) l) (canonical_tokens t))

no_less : (b : Bool) (ts : List Token) → length ts ≤ length (bracketed b ts)
no_less true ts = omega (arith, length-append {A = Token})
no_less false ts = omega arith

two_more : (b : Bool) (ts : List Token) → length (bracketed b ts) ≤ length ts + 2
two_more true ts = omega (arith, length-append {A = Token})
two_more false ts = omega arith

bare : (l : ℕ) (t : Tree) → l ≤ own_level t → len_at l t ≡ length (canonical_tokens t)
bare l t h = let e : nat_lt (own_level t) l ≡ false = grind (arith, nat_tests) in
    ap (λ (b : Bool). length (bracketed b (canonical_tokens t))) e

in_two : (l : ℕ) (t : Tree) → own_level t < l → len_at l t ≡ length (canonical_tokens t) + 2
in_two l t h =
    let e : nat_lt (own_level t) l ≡ true = grind (arith, nat_tests) in
    ap (λ (b : Bool). length (bracketed b (canonical_tokens t))) e
    ∙ (let n : length (bracketed true (canonical_tokens t)) ≡ length (canonical_tokens t) + 2 =
    omega (arith, length-append {A = Token}) in n)

own_some : (t : Tree) → 1 ≤ own_level t
own_some (Constant n) = omega arith
own_some (Named p n) = omega arith
own_some (Negative p a) = omega arith
own_some (Square p a) = omega arith
own_some (Binary p o a b) = one_op o
own_some (Apply p f a) = omega arith
own_some (Join p f a b) = omega arith
own_some (Slice p a rows cols) = omega arith

-- a lower level takes no more brackets
lower_len : (l : ℕ) (t : Tree) → len_at l t ≤ len_at (suc l) t
lower_len l t = elim (cases_lt (own_level t) l) [
  | inl low ↦ omega (arith, in_two l t low, in_two (suc l) t (omega arith))
  | inr high ↦ omega (arith, bare l t high, no_less (nat_lt (own_level t) (suc l)) (canonical_tokens t))
]

span_len : {ts : List Placed} {s : Span} → IsSpan ts s → length (span_tokens s) ≡ length ts
span_len every = refl
span_len (one p n) = refl
span_len (pair p q r n m) = refl

pub derived_len : {l : ℕ} {ts : List Placed} {t : Tree} → Derives l ts t → len_at l t ≤ length ts
derived_len (number p n) = omega arith
derived_len (name p n) = omega arith
derived_len (paren p q {a = a} {x = x} d) =
    omega (
      arith,
      derived_len d,
      bare 1 x (own_some x),
      two_more (nat_lt (own_level x) 8) (canonical_tokens x),
      length-append {A = Placed},
    )
derived_len (call p q r f {a = a} {x = x} d) =
    omega (arith, derived_len d, bare 1 x (own_some x), length-append {A = Placed}, length-append {A = Token})
derived_len (bind p q r s f {a = a} {b = b} {x = x} {y = y} d e) =
    omega (
      arith,
      derived_len d,
      derived_len e,
      bare 1 x (own_some x),
      bare 1 y (own_some y),
      length-append {A = Placed},
      length-append {A = Token},
    )
derived_len (slice p q r {a = a} {u = u} {v = v} {x = x} d rows cols) =
    omega (arith, derived_len d, span_len rows, span_len cols, length-append {A = Placed}, length-append {A = Token})
derived_len (square p q {a = a} {x = x} d) =
    omega (arith, derived_len d, length-append {A = Placed}, length-append {A = Token})
derived_len (negative p {a = a} {x = x} d) = omega (arith, derived_len d)
derived_len (binary p o {a = a} {b = b} {x = x} {y = y} d e) =
    omega (
      arith,
      bare (level o) (Binary p o x y) (omega arith),
      derived_len d,
      derived_len e,
      length-append {A = Placed},
      length-append {A = Token},
    )
derived_len (up {l = l} {a = a} {x = x} some d) = omega (arith, derived_len d, lower_len l x)

-- of a statement
pub statement_len : {ts : List Placed} {x : Statement} → Reads ts x → length (statement_tokens x) ≤ length ts
statement_len (reading p q r s t u n f) = omega arith
statement_len (letting p q n {a = a} {x = x} d) = omega (arith, derived_len d, bare 1 x (own_some x))
statement_len (printing p q r {a = a} {x = x} d) =
    omega (arith, derived_len d, bare 1 x (own_some x), length-append {A = Placed}, length-append {A = Token})
statement_len (saving w p q r s t f {a = a} {x = x} d) =
    omega (arith, derived_len d, bare 1 x (own_some x), length-append {A = Placed}, length-append {A = Token})
