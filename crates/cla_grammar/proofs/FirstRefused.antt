-- The reader stops at the first fault.
use Rattle.std.proofs.Common.{◌≡◌, ◌≢◌, ℕ, ◌+◌, ◌<◌, ◌≤◌, ◌^◌, ◌⊎◌, Bool, true, false, List, [], ◌∷◌, ◌++◌, length}
use Rattle.std.proofs.Common.{refl, sym, ap, subst}
use Rattle.std.proofs.Common.{inl, inr, ◌∙◌, arith, append_assoc, append-nil, length-append, Option, Some, None}
use Rattle.std.proofs.Common.{Result, Ok, Err}
use Rattle.std.specs.Prelude.{nat_le, ◌==◌, ◌&&◌, not, if◌then◌else◌}
use Rattle.std.proofs.lemmas.Bool.{cases_lt, cases_Bool, eqb-true}
use Rattle.std.proofs.lemmas.List.{nil_from_length}
use Rattle.std.proofs.lemmas.Bool.Decides.{nat_tests}
use Rattle.cla_grammar.specs.declared.place.Place.{Place}
use Rattle.cla_grammar.specs.Tokens.{Token, Placed, Number}
use Rattle.cla_grammar.specs.Tree.{Statement}
use Rattle.cla_grammar.specs.Grammar.{Reads, Begins}
use Rattle.cla_grammar.specs.Machine.{State, Start, Dead, step, run, finish}
use Rattle.cla_grammar.specs.declared.words.ScriptKind.{ScriptKind}
use Rattle.cla_grammar.specs.declared.words.ScriptKind.TheVariants.{Char, Text, Long, Literal, Exponent, Syntax, Clash}
use Rattle.cla_grammar.specs.Faults.{Item, Tok, BadByte, BadText, End, place_of, Fault, open_tokens, with_ended}
use Rattle.cla_grammar.specs.Faults.{statements_from, AllRead}
use Rattle.cla_grammar.specs.Faults.{after_power, in_square, IsLarge, Refuses, rank, IsRefused, NoneIsRefused}
use Rattle.cla_grammar.specs.Faults.{IsFirstRefused, IsScript}
use Rattle.cla_grammar.specs.Laws.{Answers}
use Rattle.cla_grammar.specs.Reader.{Reading, fresh, fault, waits, spans, is_dead, is_two, is_large, take_token}
use Rattle.cla_grammar.specs.Reader.{joined, take_end, onward}
use Rattle.cla_grammar.specs.Reader.{take_items, read_script}
use Rattle.cla_grammar.proofs.MachineComplete.{run-append, one_statement}
use Rattle.cla_grammar.proofs.MachineSound.{derived}
use Rattle.cla_grammar.proofs.MachineLive.{live_begins, begins_live, no_whole}
use Rattle.cla_grammar.proofs.PowersAndSpans.{run_marked}

-- 1. one token

le_true : (a b : ℕ) → nat_le a b ≡ true → a ≤ b
le_true a b h = grind (arith, nat_tests)

le_false : (a b : ℕ) → nat_le a b ≡ false → a ≤ b → ⊥
le_false a b h l = let no : true ≡ false = grind (arith, nat_tests) in let e : ⊥ = cc in e

waits_true : (a b : Bool) → (a && not b) ≡ true → (a ≡ true) × (b ≡ false)
waits_true true false h = (refl, refl)
waits_true true true h = let e : ⊥ = cc in absurd e
waits_true false b h = let e : ⊥ = cc in absurd e

waits_false : (a b : Bool) → (a && not b) ≡ false → a ≡ true → b ≡ true
waits_false true true h e = refl
waits_false true false h e = let no : ⊥ = cc in absurd no
waits_false false b h e = let no : ⊥ = cc in absurd no

not_two : (k : Token) → is_two k ≡ false → k ≢ Number 2
not_two k h e = let a : is_two k ≡ true = ap is_two e in let no : ⊥ = cc in no

the_two : (k : Token) → is_two k ≡ true → k ≡ Number 2
the_two (Number n) h = ap Number (eqb-true n 2 h)
the_two _ h = let no : ⊥ = cc in absurd no

dead_true : (u : State) → is_dead u ≡ true → u ≡ Dead
dead_true Dead h = refl
dead_true _ h = let no : ⊥ = cc in absurd no

dead_false : (u : State) → is_dead u ≡ false → u ≢ Dead
dead_false u h e = let a : is_dead u ≡ true = ap is_dead e in let no : ⊥ = cc in no

large_number : (w s : Bool) (bits n : ℕ) → (if w then false else nat_le (if s then 2 ^ 31 else 2 ^ bits) n) ≡ true
    → (w ≡ false)
    × ((if s then 2 ^ 31 else 2 ^ bits) ≤ n)
large_number true s bits n h = let no : ⊥ = cc in absurd no
large_number false s bits n h = (refl, le_true (if s then 2 ^ 31 else 2 ^ bits) n h)

small_number : (w s : Bool) (bits n : ℕ) → (if w then false else nat_le (if s then 2 ^ 31 else 2 ^ bits) n) ≡ false
    → (w ≡ false)
    → ((if s then 2 ^ 31 else 2 ^ bits) ≤ n) → ⊥
small_number true s bits n h e l = let no : ⊥ = cc in no
small_number false s bits n h e l = le_false (if s then 2 ^ 31 else 2 ^ bits) n h l

large_true : (bits : ℕ) (u : State) (done : List Placed) (k : Token) → waits u ≡ after_power false done
    → spans u ≡ in_square false done
    → is_large bits u k ≡ true → IsLarge bits done k
large_true bits u done (Number n) w s h = rw (← w, ← s) (large_number (waits u) (spans u) bits n h)
large_true bits u done _ w s h = let no : ⊥ = cc in absurd no

large_false : (bits : ℕ) (u : State) (done : List Placed) (k : Token) → waits u ≡ after_power false done
    → spans u ≡ in_square false done
    → is_large bits u k ≡ false → IsLarge bits done k → ⊥
large_false bits u done (Number n) w s h l = small_number (waits u) (spans u) bits n h (w ∙ l.0) (rw s l.1)
large_false bits u done _ w s h l = l

-- the tests before this rank don't fire where those of tokens don't
none_below : (bits : ℕ) (done : List Placed) (k : Placed) (r : ℕ) → (1 < r → Refuses bits done (Tok k) Long → ⊥)
    → (2 < r → Refuses bits done (Tok k) Exponent → ⊥) → (3 < r → Refuses bits done (Tok k) Syntax → ⊥)
    → (4 < r → Refuses bits done (Tok k) Literal → ⊥) → (kind : ScriptKind) → rank kind < r
    → Refuses bits done (Tok k) kind → ⊥
none_below bits done k r a b c d Char h f = f
none_below bits done k r a b c d Text h f = f
none_below bits done k r a b c d Long h f = a h f
none_below bits done k r a b c d Exponent h f = b h f
none_below bits done k r a b c d Syntax h f = c h f
none_below bits done k r a b c d Literal h f = d h f
none_below bits done k r a b c d Clash h f = f

abbrev reading_of : List Placed → List Statement → Reading
reading_of done xs = record { count = length done; state = run Start done; statements = xs }

abbrev IsOpen : List Placed → Type 0
IsOpen done = run Start done ≢ Dead

abbrev NoFire : ℕ → List Placed → Item → Type 0
NoFire bits done i = (kind : ScriptKind) → Refuses bits done i kind → ⊥

-- what a token gives
data TokenOutcome (bits : ℕ) (done : List Placed) (k : Placed) (xs : List Statement) : Result Reading Fault
    → Type 0 where
  no_token : (kind : ScriptKind) → IsRefused bits done (Tok k) (record { place = k.place; kind = kind })
      → TokenOutcome bits done k xs (fault k.place kind)
  a_token : NoFire bits done (Tok k) → IsOpen (done ++ k ∷ [])
      → TokenOutcome bits done k xs (Ok (reading_of (done ++ k ∷ []) xs))

next_state : (done : List Placed) (k : Placed) → run Start (done ++ k ∷ []) ≡ step (run Start done) k
next_state done k = run-append Start done (k ∷ [])

next_reading : (done : List Placed) (k : Placed) (xs : List Statement)
    → reading_of
    (done ++ k ∷ []) xs ≡ record { count = length done + 1; state = step (run Start done) k; statements = xs }
next_reading done k xs = rw (next_state done k, length-append done (k ∷ [])) refl

dead_never : (done : List Placed) (k : Placed) → step (run Start done) k ≡ Dead → Begins (done ++ k ∷ []) → ⊥
dead_never done k d b = begins_live (done ++ k ∷ []) b (next_state done k ∙ d)

six_kinds : (kind : ScriptKind) → rank kind < 6
six_kinds Char = omega arith
six_kinds Text = omega arith
six_kinds Long = omega arith
six_kinds Exponent = omega arith
six_kinds Syntax = omega arith
six_kinds Literal = omega arith
six_kinds Clash = omega arith

token_outcome : (bits : ℕ) (done : List Placed) (k : Placed) (xs : List Statement) → IsOpen done
    → TokenOutcome bits done k xs (take_token bits (reading_of done xs) k)
token_outcome bits done k xs live =
    let m = run_marked done Start live in
    elim (cases_Bool (nat_le 256 (length done))) [
      | inl long ↦ rw long (no_token Long (record {
        refuses = le_true 256 (length done) long;
        first = none_below bits done k 1 (λ h. absurd (omega arith)) (λ h. absurd (omega arith))
            (λ h. absurd (omega arith))
            (λ h. absurd (omega arith));
        there = refl;
      }))
      | inr short ↦
          let a : Refuses bits done (Tok k) Long → ⊥ = le_false 256 (length done) short in
          rw short (elim (cases_Bool (waits (run Start done) && not (is_two k.token))) [
            | inl waiting ↦
                let w = waits_true (waits (run Start done)) (is_two k.token) waiting in
                rw waiting (no_token Exponent (record {
                  refuses = (sym m.0 ∙ w.0, not_two k.token w.1);
                  first = none_below bits done k 2 (λ _. a) (λ h. absurd (omega arith)) (λ h. absurd (omega arith))
                      (λ h. absurd (omega arith));
                  there = refl;
                }))
            | inr ready ↦
                let b : Refuses bits done (Tok k) Exponent
                → ⊥ = λ f. f.1
                (the_two k.token (waits_false (waits (run Start done)) (is_two k.token) ready (m.0 ∙ f.0))) in
                rw ready (elim (cases_Bool (is_dead (step (run Start done) k))) [
                  | inl dead ↦ rw dead (no_token Syntax (record {
                    refuses = dead_never done k (dead_true (step (run Start done) k) dead);
                    first = none_below bits done k 3 (λ _. a) (λ _. b) (λ h. absurd (omega arith))
                        (λ h. absurd (omega arith));
                    there = refl;
                  }))
                  | inr alive ↦
                      let opens : IsOpen (done ++ k ∷ []) =
                      λ e. dead_false (step (run Start done) k) alive (sym (next_state done k) ∙ e)
                      in
                      let c : Refuses bits done (Tok k) Syntax → ⊥ = λ f. f (live_begins (done ++ k ∷ []) opens) in
                      rw alive (elim (cases_Bool (is_large bits (run Start done) k.token)) [
                        | inl large ↦ rw large (no_token Literal (record {
                          refuses = large_true bits (run Start done) done k.token m.0 m.1 large;
                          first = none_below bits done k 4 (λ _. a) (λ _. b) (λ _. c) (λ h. absurd (omega arith));
                          there = refl;
                        }))
                        | inr small ↦
                            let d : Refuses bits done (Tok k) Literal
                            → ⊥ = large_false bits (run Start done) done k.token m.0 m.1 small
                            in
                            let all : NoFire bits done (Tok k) =
                            λ kind. none_below bits done k 6 (λ _. a) (λ _. b) (λ _. c) (λ _. d) kind
                            (six_kinds kind) in
                            rw small (rw (← next_reading done k xs) (a_token all opens))
                      ])
                ])
          ])
    ]

-- 2. a statement's end

length_apart : (done : List Placed) → (length done == 0) ≡ false → done ≢ []
length_apart [] h e = let no : ⊥ = cc in no
length_apart (k ∷ ks) h e = cc

data EndOutcome (bits : ℕ) (done : List Placed) (p : Place) (xs : List Statement) : Result Reading Fault → Type 0 where
  no_end : (kind : ScriptKind) → IsRefused bits done (End p) (record { place = p; kind = kind })
      → EndOutcome bits done p xs (fault p kind)
  an_empty : NoFire bits done (End p) → done ≡ [] → EndOutcome bits done p xs (Ok (fresh xs))
  an_end : NoFire bits done (End p) → done ≢ [] → (x : Statement) → Reads done x
      → EndOutcome bits done p xs (Ok (fresh (xs ++ x ∷ [])))

end_below : (bits : ℕ) (done : List Placed) (p : Place) (r : ℕ) → (2 < r → Refuses bits done (End p) Exponent → ⊥)
    → (3 < r → Refuses bits done (End p) Syntax → ⊥) → (kind : ScriptKind) → rank kind < r
    → Refuses bits done (End p) kind → ⊥
end_below bits done p r b c Char h f = f
end_below bits done p r b c Text h f = f
end_below bits done p r b c Long h f = f
end_below bits done p r b c Exponent h f = b h f
end_below bits done p r b c Syntax h f = c h f
end_below bits done p r b c Literal h f = f
end_below bits done p r b c Clash h f = f

no_power_at_start : (done : List Placed) → done ≡ [] → after_power false done ≡ true → ⊥
no_power_at_start [] e h = let no : ⊥ = cc in no
no_power_at_start (k ∷ ks) e h = cc

ended_outcome : (bits : ℕ) (done : List Placed) (p : Place) (xs : List Statement) (found : Option Statement)
    → finish (run Start done) ≡ found → done ≢ [] → (Refuses bits done (End p) Exponent → ⊥)
    → EndOutcome bits done p xs (joined p xs found)
ended_outcome bits done p xs (Some x) e some b =
    let d = derived done x e in
    an_end (λ kind. end_below bits done p 6 (λ _. b) (λ _ f. f.1 x d) kind (six_kinds kind)) some x d
ended_outcome bits done p xs None e some b = no_end Syntax (record {
  refuses = (some, no_whole done e);
  first = end_below bits done p 3 (λ _. b) (λ h. absurd (omega arith));
  there = refl;
})

end_outcome : (bits : ℕ) (done : List Placed) (p : Place) (xs : List Statement) → IsOpen done
    → EndOutcome bits done p xs (take_end (reading_of done xs) p)
end_outcome bits done p xs live =
    let m = run_marked done Start live in
    elim (cases_Bool (length done == 0)) [
      | inl empty ↦
          let is : done ≡ [] = nil_from_length done (eqb-true (length done) 0 empty) in
          rw empty (an_empty
          (λ kind. end_below bits done p 6 (λ _. no_power_at_start done is) (λ _ f. f.0 is) kind (six_kinds kind))
          is)
      | inr some ↦ rw some (elim (cases_Bool (waits (run Start done))) [
        | inl waiting ↦ rw waiting (no_end Exponent (record {
          refuses = sym m.0 ∙ waiting;
          first = end_below bits done p 2 (λ h. absurd (omega arith)) (λ h. absurd (omega arith));
          there = refl;
        }))
        | inr ready ↦
            let b : Refuses bits done (End p) Exponent
            → ⊥ = λ f. (let no : true ≡ false = sym f ∙ (sym m.0 ∙ ready) in let e : ⊥ = cc in e) in
            rw ready (ended_outcome bits done p xs (finish (run Start done)) refl (length_apart done some) b)
      ])
    ]

-- 3. all items

pub open_tokens_snoc : (before : List Item) (done : List Placed) (k : Placed)
    → open_tokens done (before ++ Tok k ∷ []) ≡ open_tokens done
    before ++ k ∷ []
open_tokens_snoc [] done k = refl
open_tokens_snoc (Tok j ∷ items) done k = open_tokens_snoc items (done ++ j ∷ []) k
open_tokens_snoc (BadByte p ∷ items) done k = open_tokens_snoc items [] k
open_tokens_snoc (BadText p ∷ items) done k = open_tokens_snoc items [] k
open_tokens_snoc (End p ∷ items) done k = open_tokens_snoc items [] k

pub open_tokens_end : (before : List Item) (done : List Placed) (p : Place)
    → open_tokens done (before ++ End p ∷ []) ≡ []
open_tokens_end [] done p = refl
open_tokens_end (Tok j ∷ items) done p = open_tokens_end items (done ++ j ∷ []) p
open_tokens_end (BadByte q ∷ items) done p = open_tokens_end items [] p
open_tokens_end (BadText q ∷ items) done p = open_tokens_end items [] p
open_tokens_end (End q ∷ items) done p = open_tokens_end items [] p

-- an item of a list with one more at its end is that one or one of the list
Parts : List Item → Item → List Item → Item → List Item → Type 0
Parts before i b j c = ((before ≡ b) × (i ≡ j)) ⊎ ((d : List Item) × (before ≡ b ++ j ∷ d))

heads : {x y : Item} {xs ys : List Item} → x ∷ xs ≡ y ∷ ys → x ≡ y
heads e = cc

tails : {x y : Item} {xs ys : List Item} → x ∷ xs ≡ y ∷ ys → xs ≡ ys
tails e = cc

no_tail : {A : Type 0} (b : List Item) (j : Item) (c : List Item) → [] ≡ b ++ j ∷ c → A
no_tail [] j c e = let no : ⊥ = cc in absurd no
no_tail (x ∷ b) j c e = let no : ⊥ = cc in absurd no

parts : (before : List Item) (i : Item) (b : List Item) (j : Item) (c : List Item) → before ++ i ∷ [] ≡ b ++ j ∷ c
    → Parts before i b j c
unfolding Parts
parts [] i [] j c e = inl (refl, heads e)
parts [] i (y ∷ b) j c e = no_tail b j c (tails e)
parts (x ∷ before) i [] j c e = inr (before, ap (λ (z : Item). z ∷ before) (heads e))
parts (x ∷ before) i (y ∷ b) j c e = elim (parts before i b j c (tails e)) [
  | inl last ↦ let h = heads e in inl (cc, last.1)
  | inr more ↦ let h = heads e in let t = more.1 in inr (more.0, cc)
]

none_more : (bits : ℕ) (before : List Item) (i : Item) → NoneIsRefused bits before
    → NoFire bits (open_tokens [] before) i
    → NoneIsRefused bits (before ++ i ∷ [])
unfolding Parts
none_more bits before i none here b j c kind e f = elim (parts before i b j c e) [
  | inl last ↦ here kind (rw (last.0, last.1) f)
  | inr more ↦ none b j more.0 kind more.1 f
]

no_item : (bits : ℕ) → NoneIsRefused bits []
no_item bits b j c kind e f = no_tail b j c e

-- what the items from here on give, where nothing before them is refused
record Rest (bits : ℕ) (all : List Item) (done : List Placed) (items : List Item) (xs : List Statement)
    (r : Reading) : Type 0 where
  pub accepted : NoneIsRefused bits all
  pub more : List Statement
  pub adds : r.statements ≡ xs ++ more
  pub reads : AllRead (statements_from done items) more

abbrev Outcome : ℕ → List Item → List Placed → List Item → List Statement → Result Reading Fault → Type 0
Outcome bits all done items xs (Ok r) = Rest bits all done items xs r
Outcome bits all done items xs (Err f) = IsFirstRefused bits all f

abbrev Next : ℕ → List Item → List Placed → List Item → List Statement → Type 0
Next bits all done items xs = Outcome bits all done items xs (take_items bits (reading_of done xs) items)

started : IsOpen []
started e = cc

carry_token : (bits : ℕ) (all : List Item) (done : List Placed) (k : Placed) (items : List Item) (xs : List Statement)
    (res : Result Reading Fault) → Outcome bits all (done ++ k ∷ []) items xs res
    → Outcome bits all done (Tok k ∷ items) xs res
carry_token bits all done k items xs (Ok r) o =
    record { accepted = o.accepted; more = o.more; adds = o.adds; reads = o.reads }
carry_token bits all done k items xs (Err f) o = o

carry_empty : (bits : ℕ) (all : List Item) (done : List Placed) (p : Place) (items : List Item) (xs : List Statement)
    (res : Result Reading Fault) → done ≡ [] → Outcome bits all [] items xs res
    → Outcome bits all done (End p ∷ items) xs res
carry_empty bits all done p items xs (Ok r) e o =
    record { accepted = o.accepted; more = o.more; adds = o.adds; reads = rw e o.reads }
carry_empty bits all done p items xs (Err f) e o = o

both_read : (done : List Placed) (rest : List (List Placed)) (x : Statement) (more : List Statement) → done ≢ []
    → Reads done x
    → AllRead rest more → AllRead (with_ended done rest) (x ∷ more)
both_read [] rest x more some d h = absurd (some refl)
both_read (k ∷ ks) rest x more some d h = (d, h)

carry_end : (bits : ℕ) (all : List Item) (done : List Placed) (p : Place) (items : List Item) (xs : List Statement)
    (res : Result Reading Fault) → done ≢ [] → (x : Statement) → Reads done x
    → Outcome bits all [] items (xs ++ x ∷ []) res
    → Outcome bits all done (End p ∷ items) xs res
carry_end bits all done p items xs (Ok r) some x d o = record {
  accepted = o.accepted;
  more = x ∷ o.more;
  adds = o.adds
      ∙ append_assoc xs (x ∷ []) o.more;
  reads = both_read done (statements_from [] items) x o.more some d o.reads;
}
carry_end bits all done p items xs (Err f) some x d o = o

token_next : (bits : ℕ) (all before : List Item) (k : Placed) (items : List Item) (xs : List Statement)
    (res : Result Reading Fault)
    → all ≡ before ++ Tok k ∷ items → NoneIsRefused bits before → TokenOutcome bits (open_tokens [] before) k xs res
    → (NoFire bits (open_tokens [] before) (Tok k) → IsOpen (open_tokens [] before ++ k ∷ [])
    → Next bits all (open_tokens [] before ++ k ∷ []) items xs)
    → Outcome bits all (open_tokens [] before) (Tok k ∷ items) xs
    (onward res (λ (n : Reading). take_items bits n items))
token_next bits all before k items xs _ e none (no_token kind refused) go =
    record { before = before; item = Tok k; after = items; split = e; refused = refused; first = none }
token_next bits all before k items xs _ e none (a_token fine opens) go =
    carry_token bits all (open_tokens [] before) k items xs
    (take_items bits (reading_of (open_tokens [] before ++ k ∷ []) xs) items) (go fine opens)

end_next : (bits : ℕ) (all before : List Item) (p : Place) (items : List Item) (xs : List Statement)
    (res : Result Reading Fault)
    → all ≡ before ++ End p ∷ items → NoneIsRefused bits before → EndOutcome bits (open_tokens [] before) p xs res
    → ((ys : List Statement) → NoFire bits (open_tokens [] before) (End p) → Next bits all [] items ys)
    → Outcome bits all (open_tokens [] before) (End p ∷ items) xs
    (onward res (λ (n : Reading). take_items bits n items))
end_next bits all before p items xs _ e none (no_end kind refused) go =
    record { before = before; item = End p; after = items; split = e; refused = refused; first = none }
end_next bits all before p items xs _ e none (an_empty fine is) go =
    carry_empty bits all (open_tokens [] before) p items xs
    (take_items bits (fresh xs) items) is (go xs fine)
end_next bits all before p items xs _ e none (an_end fine some x d) go =
    carry_end bits all (open_tokens [] before) p items xs
    (take_items bits (fresh (xs ++ x ∷ [])) items) some x d (go (xs ++ x ∷ []) fine)

bad_next : (bits : ℕ) (all before : List Item) (i : Item) (items : List Item) (xs : List Statement) (kind : ScriptKind)
    → all ≡ before ++ i ∷ items → NoneIsRefused bits before → Refuses bits (open_tokens [] before) i kind
    → rank kind ≡ 0
    → IsFirstRefused bits all (record { place = place_of i; kind = kind })
bad_next bits all before i items xs kind e none refuses low = record {
  before = before;
  item = i;
  after = items;
  split = e;
  refused =
      record { refuses = refuses; first = λ _ h. absurd (omega arith); there = refl };
  first = none;
}

walk : (bits : ℕ) (items all before : List Item) (xs : List Statement) → all ≡ before ++ items
    → NoneIsRefused bits before
    → IsOpen (open_tokens [] before) → Next bits all (open_tokens [] before) items xs
walk bits [] all before xs e none live =
    record {
      accepted = subst (λ (l : List Item). NoneIsRefused bits l) (sym (e ∙ append-nil before)) none;
      more = [];
      adds =
          sym (append-nil xs);
      reads = tt;
    }
walk bits (Tok k ∷ items) all before xs e none live =
    token_next bits all before k items xs _ e none (token_outcome bits (open_tokens [] before) k xs live) (λ fine opens.
    subst (λ (d : List Placed). Next bits all d items xs) (open_tokens_snoc before [] k)
    (walk bits items all (before ++ Tok k ∷ []) xs (e ∙ sym (append_assoc before (Tok k ∷ []) items))
    (none_more bits before (Tok k) none fine)
    (subst (λ (d : List Placed). IsOpen d) (sym (open_tokens_snoc before [] k)) opens)))
walk bits (BadByte p ∷ items) all before xs e none live =
    bad_next bits all before (BadByte p) items xs Char e none tt refl
walk bits (BadText p ∷ items) all before xs e none live =
    bad_next bits all before (BadText p) items xs Text e none tt refl
walk bits (End p ∷ items) all before xs e none live =
    end_next bits all before p items xs _ e none (end_outcome bits (open_tokens [] before) p xs live) (λ ys fine.
    subst (λ (d : List Placed). Next bits all d items ys) (open_tokens_end before [] p)
    (walk bits items all (before ++ End p ∷ []) ys (e ∙ sym (append_assoc before (End p ∷ []) items))
    (none_more bits before (End p) none fine)
    (subst (λ (d : List Placed). IsOpen d) (sym (open_tokens_end before [] p)) started)))

answered : (bits : ℕ) (items : List Item) (res : Result Reading Fault) → Outcome bits items [] items [] res
    → Answers bits items res
answered bits items (Ok r) o =
    record {
      accepted = o.accepted;
      reads =
          subst (λ (l : List Statement). AllRead (statements_from [] items) l) (sym o.adds) o.reads;
    }
answered bits items (Err f) o = o

pub script_read : (bits : ℕ) (items : List Item) → Answers bits items (read_script bits items)
script_read bits items =
    answered bits items (read_script bits items) (walk bits items items [] [] refl (no_item bits) started)

-- 4. one answer

pub not_both : (bits : ℕ) (items : List Item) (xs : List Statement) (f : Fault) → IsScript bits items xs
    → IsFirstRefused bits items f → ⊥
not_both bits items xs f s r = s.accepted r.before r.item r.after f.kind r.split r.refused.refuses

one_list : (ts : List (List Placed)) (xs ys : List Statement) → AllRead ts xs → AllRead ts ys → xs ≡ ys
one_list [] [] [] a b = refl
one_list [] [] (y ∷ ys) a b = absurd b
one_list [] (x ∷ xs) ys a b = absurd a
one_list (t ∷ ts) [] ys a b = absurd a
one_list (t ∷ ts) (x ∷ xs) [] a b = absurd b
one_list (t ∷ ts) (x ∷ xs) (y ∷ ys) a b = let e = one_statement a.0 b.0 in let f = one_list ts xs ys a.1 b.1 in cc

-- at most one script
pub one_script : (bits : ℕ) (items : List Item) (xs ys : List Statement) → IsScript bits items xs
    → IsScript bits items ys → xs ≡ ys
one_script bits items xs ys a b = one_list (statements_from [] items) xs ys a.reads b.reads

-- 5. one first refused item

one_rank : (bits : ℕ) (done : List Placed) (i : Item) (f g : Fault) → IsRefused bits done i f → IsRefused bits done i g
    → rank f.kind ≡ rank g.kind
one_rank bits done i f g a b = elim (cases_lt (rank f.kind) (rank g.kind)) [
  | inl less ↦ absurd (b.first f.kind less a.refuses)
  | inr more ↦ elim (cases_lt (rank g.kind) (rank f.kind)) [
    | inl less ↦ absurd (a.first g.kind less b.refuses)
    | inr same ↦ (let e : rank f.kind ≡ rank g.kind = omega arith in e)
  ]
]

-- the kind of a rank, where one alone has it
kind_at : ℕ → ScriptKind
kind_at n =
    if n == 1 then Long else if n == 2 then Exponent else if n == 3 then Syntax else if n == 4 then Literal else Clash

kind_back : (k : ScriptKind) → 1 ≤ rank k → kind_at (rank k) ≡ k
unfolding kind_at
kind_back Char h = absurd (omega arith)
kind_back Text h = absurd (omega arith)
kind_back Long h = refl
kind_back Exponent h = refl
kind_back Syntax h = refl
kind_back Literal h = refl
kind_back Clash h = refl

-- the kind of a piece that is no token
bad_kind : Item → ScriptKind
bad_kind (BadText p) = Text
bad_kind _ = Char

bad_one : (bits : ℕ) (done : List Placed) (i : Item) (k : ScriptKind) → rank k ≡ 0 → Refuses bits done i k
    → k ≡ bad_kind i
unfolding bad_kind
bad_one bits done (BadByte p) Char h r = refl
bad_one bits done (BadText p) Char h r = absurd r
bad_one bits done (Tok t) Char h r = absurd r
bad_one bits done (End p) Char h r = absurd r
bad_one bits done (BadByte p) Text h r = absurd r
bad_one bits done (BadText p) Text h r = refl
bad_one bits done (Tok t) Text h r = absurd r
bad_one bits done (End p) Text h r = absurd r
bad_one bits done i Long h r = absurd (omega arith)
bad_one bits done i Exponent h r = absurd (omega arith)
bad_one bits done i Syntax h r = absurd (omega arith)
bad_one bits done i Literal h r = absurd (omega arith)
bad_one bits done i Clash h r = absurd (omega arith)

one_kind : (bits : ℕ) (done : List Placed) (i : Item) (j k : ScriptKind) → rank j ≡ rank k → Refuses bits done i j
    → Refuses bits done i k
    → j ≡ k
one_kind bits done i j k e a b = elim (cases_lt 0 (rank j)) [
  | inl some ↦ sym (kind_back j some) ∙ (ap kind_at e ∙ kind_back k (omega arith))
  | inr none ↦ bad_one bits done i j (omega arith) a ∙ sym (bad_one bits done i k (omega arith) b)
]

-- two items of one list are the same, or one stands before the other
Meet : List Item → Item → List Item → Item → Type 0
Meet b i c j = ((b ≡ c) × (i ≡ j)) ⊎ (((d : List Item) × (c ≡ b ++ i ∷ d)) ⊎ ((d : List Item) × (b ≡ c ++ j ∷ d)))

meet : (b c a d : List Item) (i j : Item) → b ++ i ∷ a ≡ c ++ j ∷ d → Meet b i c j
unfolding Meet
meet [] [] a d i j e = inl (refl, heads e)
meet [] (y ∷ c) a d i j e = inr (inl (c, ap (λ (z : Item). z ∷ c) (sym (heads e))))
meet (x ∷ b) [] a d i j e = inr (inr (b, ap (λ (z : Item). z ∷ b) (heads e)))
meet (x ∷ b) (y ∷ c) a d i j e = elim (meet b c a d i j (tails e)) [
  | inl same ↦ let h = heads e in inl (cc, same.1)
  | inr apart ↦ elim apart [
    | inl before ↦ let h = heads e in let t = before.1 in inr (inl (before.0, cc))
    | inr after ↦ let h = heads e in let t = after.1 in inr (inr (after.0, cc))
  ]
]

same_fault : (f g : Fault) → f.place ≡ g.place → f.kind ≡ g.kind → f ≡ g
same_fault f g p k =
    ap (λ (q : Place). let r : Fault = record { place = q; kind = f.kind } in r) p
    ∙ ap (λ (j : ScriptKind). let r : Fault = record { place = g.place; kind = j } in r) k

refused_alike : (bits : ℕ) (done : List Placed) (i : Item) (f g : Fault) → IsRefused bits done i f
    → IsRefused bits done i g → f ≡ g
refused_alike bits done i f g a b =
    same_fault f g (a.there ∙ sym b.there)
    (one_kind bits done i f.kind g.kind (one_rank bits done i f g a b) a.refuses b.refuses)

-- at most one first refused item
pub one_first_refused : (bits : ℕ) (items : List Item) (f g : Fault) → IsFirstRefused bits items f
    → IsFirstRefused bits items g → f ≡ g
unfolding Meet
one_first_refused bits items f g a b =
    elim (meet a.before b.before a.after b.after a.item b.item (sym a.split ∙ b.split)) [
      | inl same ↦ refused_alike bits (open_tokens [] a.before) a.item f g a.refused
          (rw (same.0, same.1) b.refused)
      | inr apart ↦ elim apart [
        | inl early ↦ absurd (b.first a.before a.item early.0 f.kind early.1 a.refused.refuses)
        | inr late ↦ absurd (a.first b.before b.item late.0 g.kind late.1 b.refused.refuses)
      ]
    ]
