-- Shapes don't depend on what the numbers of a script are.
use Rattle.std.proofs.Common.{◌≡◌, ℤ, pos, List, [], ◌∷◌, refl, ap, ◌∙◌, true, Option, Some, None, Result, Ok, Err}
use Rattle.std.specs.Prelude.{is_none}
use Rattle.cla_script.specs.View.{tree_of, statement_of}
use Rattle.cla_script.specs.Reads.{statements_of}
use Rattle.cla_script.specs.declared.expr.Expr.{Expr}
use Rattle.cla_script.specs.declared.expr.Expr.TheVariants.{Number, Named, Neg', Square', Binary', Call', Bind', Slice'}
use Rattle.cla_script.specs.declared.expr.Statement.{Statement}
use Rattle.cla_script.specs.declared.expr.Statement.TheVariants.{Read, Let, Print, Write, Pack}
use Rattle.cla_check.specs.Shapes.{Names, shape_of}
use Rattle.cla_check.specs.Scripts.{Scope, after, onward, shape_fault_after, first_shape_fault}
use Rattle.cla_check.specs.Fits.{bare_trees, is_fitting}
use Rattle.cla_check.specs.declared.shape.Shape.{Shape}
use Rattle.cla_check.specs.declared.fault.Fault.{Fault}

same_shape : {N : Type 0} (v w : N → ℤ) (names : Names) (e : Expr N)
    → shape_of names (tree_of v e) ≡ shape_of names (tree_of w e)
same_shape v w names (Number n) = refl
same_shape v w names (Named p n) = refl
same_shape v w names (Neg' p q a) = same_shape v w names a
same_shape v w names (Square' p q a) = same_shape v w names a
same_shape v w names (Binary' p o q a r b) = rw (same_shape v w names a, same_shape v w names b) refl
same_shape v w names (Call' p f q a) = rw (same_shape v w names a) refl
same_shape v w names (Bind' p f q a r b) = rw (same_shape v w names a, same_shape v w names b) refl
same_shape v w names (Slice' p q a rows cols) = rw (same_shape v w names a) refl

same_after : {N : Type 0} (v w : N → ℤ) (k : Scope) (x : Statement N)
    → after k (statement_of v x) ≡ after k (statement_of w x)
same_after v w k (Read n f) = refl
same_after v w k (Let n e) = rw (same_shape v w k.names e) refl
same_after v w k (Print e) = rw (same_shape v w k.names e) refl
same_after v w k (Write e p f q) = rw (same_shape v w k.names e) refl
same_after v w k (Pack e p f q) = rw (same_shape v w k.names e) refl

onward_same : (r : Result Scope Fault) (f g : Scope → Option Fault) → ((n : Scope) → f n ≡ g n)
    → onward r f ≡ onward r g
onward_same (Ok k) f g h = h k
onward_same (Err e) f g h = refl

same_faults : {N : Type 0} (v w : N → ℤ) (k : Scope) (xs : List (Statement N))
    → shape_fault_after k (statements_of v xs) ≡ shape_fault_after k (statements_of w xs)
same_faults v w k [] = refl
same_faults v w k (x ∷ xs) =
    ap (λ (r : Result Scope Fault). onward r (λ (n : Scope). shape_fault_after n (statements_of v xs)))
    (same_after v w k x)
    ∙ onward_same (after k (statement_of w x)) (λ (n : Scope). shape_fault_after n (statements_of v xs))
    (λ (n : Scope). shape_fault_after n (statements_of w xs)) (λ n. same_faults v w n xs)

none_is : (f : Option Fault) → is_none f ≡ true → f ≡ None
none_is None h = refl
none_is (Some e) h = let no : ⊥ = cc in absurd no

pub fits : {N : Type 0} (value : N → ℤ) (xs : List (Statement N)) (inputs : List Shape)
    → first_shape_fault (statements_of value xs) inputs ≡ None → is_fitting xs inputs ≡ true
fits {N} value xs inputs h =
    ap is_none (same_faults (λ (n : N). pos 0) value (record { names = []; inputs = inputs }) xs ∙ h)

pub has_no_fault : {N : Type 0} (value : N → ℤ) (xs : List (Statement N)) (inputs : List Shape)
    → is_fitting xs inputs ≡ true
    → first_shape_fault (statements_of value xs) inputs ≡ None
has_no_fault {N} value xs inputs h =
    same_faults value (λ (n : N). pos 0) (record { names = []; inputs = inputs }) xs
    ∙ none_is (first_shape_fault (bare_trees xs) inputs) h
