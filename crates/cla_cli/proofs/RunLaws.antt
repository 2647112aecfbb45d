-- Statements one after the other: what each leaves, and what all of them leave.
use Rattle.std.proofs.Common.{◌≡◌, ℕ, ◌+◌, ◌*◌, ◌<◌, List, [], ◌∷◌, length, take, drop, get_or, Option, Some, None}
use Rattle.std.proofs.Common.{Result, Ok, Err, refl, sym, ap, subst, ◌∙◌, arith, inl, inr}
use Rattle.std.proofs.lemmas.List.{drop_more}
use Rattle.cla_spec.specs.Files.{Told}
use Rattle.cla_spec.specs.Effects.{Effect, Out, World, IsFront, grown}
use Rattle.cla_spec.specs.Matrix.{Matrix}
use Rattle.cla_num.specs.Counts.{Counts, zero_counts}
use Rattle.cla_io.specs.Counts.{HasCause}
use Rattle.cla_io.specs.Sinks.{Grows, PutsAll}
use Rattle.cla_io.specs.declared.stop.Stop.{Stop}
use Rattle.cla_io.specs.declared.stop.Stop.TheVariants as stop
use Rattle.cla_grammar.specs.declared.place.Place.{Place}
use Rattle.cla_num.specs.declared.fault.OpFault.{OpFault}
use Rattle.cla_grammar.specs.Tree.{Named, Statement, ReadOf}
use Rattle.cla_print.specs.Texts.{Value, Table, printed}
use Rattle.cla_cli.specs.declared.statements.Halted.{Halted}
use Rattle.cla_cli.specs.declared.statements.Halted.TheVariants.{Operator, Unwritten, Memory}
use Rattle.cla_cli.specs.Statements.{Assigned, Trace, Valued, matrix_of, value_of, nothing_done, printing}
use Rattle.cla_cli.specs.Statements.{then_prints, both_counts, with_name, trace_of, script_work}
use Rattle.cla_cli.specs.Evaluate.{CountsTo, FewMore}
use Rattle.cla_cli.specs.Run.{RiseBy, RiseByAtMost}
use Rattle.cla_cli.specs.Runs.{world_of, Runs, GoesOn, HasHaltCause, halted_by}

-- nothing is a front of any effects
front_nothing : (es : List Effect) (w : World) → IsFront es w w
front_nothing [] w = refl
front_nothing (e ∷ es) w = inl refl

-- no statement is left
pub nothing_left : (told : Told) (out : Option (List ℕ)) → Runs {U = Unit {0}} told nothing_done out out (Ok tt)
nothing_left told out = (refl, refl)

-- want of memory before an effect
pub no_memory : (told : Told) (trace : Trace) (out : Option (List ℕ)) →
    Runs {U = Unit {0}} told trace out out (Err Memory)
no_memory told trace out = front_nothing trace.effects (world_of told out)

-- an operator that fails
pub operator_fails : (told : Told) (value : Option Valued) (rest : Trace) (out : Option (List ℕ)) (place : Place)
    (fault : OpFault)
    → value ≡ Some (Err (place, fault)) →
    Runs {U = Unit {0}} told (then_prints value rest) out out (Err (Operator place fault))
operator_fails told value rest out place fault is = rw is (refl, refl)

-- nothing to print
pub nothing_printed : (told : Told) (value : Option Valued) (rest : Trace) (out : Option (List ℕ)) → value ≡ None
    → GoesOn {U = Unit {0}} told (then_prints value rest) rest out out (Ok tt)
nothing_printed told value rest out is = rw is (λ end result runs. runs)

-- a text that was printed before the rest
after_text : (told : Told) (rest : Trace) (text : List ℕ) (out end : Option (List ℕ))
    (result : Result (Unit {0}) Halted)
    → Runs told rest (grown out text) end result → Runs told (record rest { effects = Out text ∷ rest.effects }) out end
    result
after_text told rest text out end (Ok u) runs = runs
after_text told rest text out end (Err (Operator place fault)) runs = runs
after_text told rest text out end (Err Unwritten) runs = (runs.0, inr runs.1)
after_text told rest text out end (Err Memory) runs = inr (inr runs)

-- what grew is what a sink tells
grows_is : (old new : Option (List ℕ)) (text : List ℕ) → Grows old new text → new ≡ grown old text
grows_is None new text h = h
grows_is (Some told) new text h = h

-- a value that is printed
prints_on : (told : Told) (rest : Trace) (text : List ℕ) (out out' : Option (List ℕ)) (answer : Result (Unit {0}) Stop)
    → PutsAll text out out' answer
    → GoesOn told (record rest { effects = Out text ∷ rest.effects }) rest out out' (halted_by answer)
prints_on told rest text out out' (Ok u) puts = λ end result runs. after_text told rest text out end result
    (subst (λ (o : Option (List ℕ)). Runs told rest o end result) (grows_is out out' text puts) runs)
prints_on told rest text out out' (Err stop.Failed) puts =
    (text, inl (refl, inr (puts.0, ap (world_of told) (grows_is out out' (take puts.0 text) puts.1))))
prints_on told rest text out out' (Err stop.Memory) puts =
    inr (inl (puts.0, ap (world_of told) (grows_is out out' (take puts.0 text) puts.1)))

-- a text that is all that a command prints
pub text_runs : (told : Told) (text : List ℕ) (out out' : Option (List ℕ)) (answer : Result (Unit {0}) Stop)
    (result : Result (Unit {0}) Halted) → result ≡ halted_by answer → PutsAll text out out' answer
    → Runs told (printing text) out out' result
text_runs told text out out' (Ok u) result ends puts = rw ends
    (prints_on told nothing_done text out out' (Ok u) puts out' (Ok tt) (nothing_left told out'))
text_runs told text out out' (Err stop.Failed) result ends puts =
    rw ends (prints_on told nothing_done text out out' (Err stop.Failed) puts)
text_runs told text out out' (Err stop.Memory) result ends puts =
    rw ends (prints_on told nothing_done text out out' (Err stop.Memory) puts)

pub value_printed : (told : Told) (value : Option Valued) (rest : Trace) (v : Value) (out out' : Option (List ℕ))
    (answer : Result (Unit {0}) Stop) (result : Result (Unit {0}) Halted) → value ≡ Some (Ok v) →
    result ≡ halted_by answer
    → PutsAll (printed v) out out' answer → GoesOn told (then_prints value rest) rest out out' result
value_printed told value rest v out out' answer result is ends puts =
    rw (is, ends) (prints_on told rest (printed v) out out' answer puts)

-- the value of a name that has a table
pub table_value : (bits : ℕ) (names : Assigned) (place : Place) (name : List ℕ) (table : Matrix)
    → Some table ≡ matrix_of names name → value_of bits names (Named place name) ≡ Some (Ok (Table table))
table_value bits names place name table is = rw (sym is) refl

pub halt_cause : (before after : ℕ) (answer : Result (Unit {0}) Stop) (result : Result (Unit {0}) Halted)
    → result ≡ halted_by answer → HasCause before after answer → HasHaltCause before after result
halt_cause before after (Ok u) result ends cause = rw ends cause
halt_cause before after (Err stop.Failed) result ends cause = rw ends cause
halt_cause before after (Err stop.Memory) result ends cause = rw ends cause

-- counts of a statement, and of those that follow it
pub counted : {U V : Type 0} (work before now : Counts) (result : Result U V) → RiseBy work before now →
    CountsTo work before now result
counted work before now (Ok u) rise = rise
counted work before now (Err e) rise = record {
  not_below = record { mults = omega (arith, rise.0); maps = omega (arith, rise.1) };
  mults = omega (arith, rise.0);
  maps = omega (arith, rise.1);
}

pub nothing_counted : (before : Counts) → RiseBy zero_counts before before
nothing_counted before = (omega arith, omega arith)

pub counted_on : {U : Type 0} (first rest before mid now : Counts) (result : Result U Halted) → RiseBy first before mid
    → CountsTo rest mid now result → CountsTo (both_counts first rest) before now result
counted_on first rest before mid now (Ok u) one more = (omega (arith, one.0, more.0), omega (arith, one.1, more.1))
counted_on first rest before mid now (Err e) one more = record {
  not_below = record {
    mults = omega (arith, one.0, more.not_below.mults);
    maps =
        omega (arith, one.1, more.not_below.maps);
  };
  mults = omega (arith, one.0, more.mults);
  maps = omega (arith, one.1, more.maps);
}

pub counted_last : (first rest before now : Counts) → RiseByAtMost first before now →
    RiseByAtMost (both_counts first rest) before now
counted_last first rest before now rise = record {
  not_below = rise.not_below;
  mults = omega (arith, rise.mults);
  maps = omega (arith, rise.maps);
}

pub nothing_more : (work before : Counts) → RiseByAtMost work before before
nothing_more work before = record
    { not_below = record { mults = omega arith; maps = omega arith }; mults = omega arith; maps = omega arith }

-- one statement more counts few more
few_steps : (i most : ℕ) → (i + 1) * most ≡ i * most + most
few_steps i most = grind arith

pub few_same : (i most : ℕ) (before now : Counts) → FewMore (i * most) before now → FewMore ((i + 1) * most) before now
few_same i most before now few = rw (few_steps i most)
    (record { mults = omega (arith, few.mults); maps = omega (arith, few.maps) })

pub few_more : (i most : ℕ) (before mid now : Counts) → FewMore (i * most) before mid → FewMore most mid now
    → FewMore ((i + 1) * most) before now
few_more i most before mid now few more = rw (few_steps i most)
    (record { mults = omega (arith, few.mults, more.mults); maps = omega (arith, few.maps, more.maps) })

-- what is left at a statement
pub left_at : {X : Type 0} (xs : List X) (i : ℕ) (x y : X) → i < length xs → x ≡ get_or xs i x → x ≡ y →
    drop i xs ≡ y ∷ drop (i + 1) xs
left_at xs i x y below is same = drop_more xs i x below ∙ ap (λ z. z ∷ drop (i + 1) xs) (sym is ∙ same)

-- a read where no table is left, and one of the next table
pub none_traced : (bits : ℕ) (names : Assigned) (n f : List ℕ) (xs : List Statement) (tables : List Matrix)
    → tables ≡ [] → trace_of bits names (ReadOf n f ∷ xs) tables ≡ trace_of bits names xs tables
none_traced bits names n f xs tables is = rw is refl

pub none_worked : (names : Assigned) (n f : List ℕ) (xs : List Statement) (tables : List Matrix)
    → tables ≡ [] → script_work names (ReadOf n f ∷ xs) tables ≡ script_work names xs tables
none_worked names n f xs tables is = rw is refl

pub one_traced : (bits : ℕ) (names names' : Assigned) (n f : List ℕ) (xs : List Statement) (m : Matrix)
    (tables rest : List Matrix)
    → names' ≡ with_name names n m → tables ≡ m ∷ rest
    → trace_of bits names (ReadOf n f ∷ xs) tables ≡ trace_of bits names' xs rest
one_traced bits names names' n f xs m tables rest named is = rw (named, is) refl

pub one_worked : (names names' : Assigned) (n f : List ℕ) (xs : List Statement) (m : Matrix) (tables rest : List Matrix)
    → names' ≡ with_name names n m → tables ≡ m ∷ rest
    → script_work names (ReadOf n f ∷ xs) tables ≡ script_work names' xs rest
one_worked names names' n f xs m tables rest named is = rw (named, is) refl
