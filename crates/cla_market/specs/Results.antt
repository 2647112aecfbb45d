-- Steps of which each may fail, and a line's words by their number.
use Rattle.std.specs.Prelude.{List, [], ◌∷◌, Option, Some, None, Result, Ok, Err}
use Rattle.cla_market.specs.declared.fault.LineFault.{LineFault}

infixl 10 ◌>>=◌
abbrev pub ◌>>=◌ : {A B E : Type 0} → Result A E → (A → Result B E) → Result B E
(Ok x) >>= f = f x
(Err e) >>= f = Err e

-- what is there, or this fault
abbrev pub or_fault : {A : Type 0} → LineFault → Option A → Result A LineFault
or_fault fault None = Err fault
or_fault fault (Some x) = Ok x

abbrev pub one_of : {X : Type 0} → List X → Option X
one_of [] = None
one_of (a ∷ []) = Some a
one_of (a ∷ b ∷ more) = None

abbrev pub two_of : {X : Type 0} → List X → Option (X × X)
two_of [] = None
two_of (a ∷ []) = None
two_of (a ∷ b ∷ []) = Some (a, b)
two_of (a ∷ b ∷ c ∷ more) = None

abbrev pub three_of : {X : Type 0} → List X → Option (X × X × X)
three_of [] = None
three_of (a ∷ []) = None
three_of (a ∷ b ∷ []) = None
three_of (a ∷ b ∷ c ∷ []) = Some (a, b, c)
three_of (a ∷ b ∷ c ∷ d ∷ more) = None

abbrev pub five_of : {X : Type 0} → List X → Option (X × X × X × X × X)
five_of [] = None
five_of (a ∷ []) = None
five_of (a ∷ b ∷ []) = None
five_of (a ∷ b ∷ c ∷ []) = None
five_of (a ∷ b ∷ c ∷ d ∷ []) = None
five_of (a ∷ b ∷ c ∷ d ∷ e ∷ []) = Some (a, b, c, d, e)
five_of (a ∷ b ∷ c ∷ d ∷ e ∷ f ∷ more) = None
