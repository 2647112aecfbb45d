-- Worked examples of the definitions, computed.
use Rattle.std.specs.Prelude.{◌≡◌, pos, negsuc, [], ◌∷◌, ◌++◌, codes, refl}
use Rattle.std.specs.Fmt.{digits}
use Rattle.cla_spec.specs.Numbers.{decimal_of}
use Rattle.cla_spec.specs.Matrix.{exact_sum}
use Rattle.cla_spec.specs.Lines.{lines_of}

pub sum_is : exact_sum (record { rows = 2; cols = 2; cells = pos 1 ∷ pos 2 ∷ pos 3 ∷ pos 4 ∷ [] }) ≡ pos 10
sum_is = refl

pub text_is : decimal_of (negsuc 9) ≡ codes "-10"
unfolding digits
text_is = refl

-- a CR before the LF goes with it, and what stands behind the last LF is a line
pub lines_are : lines_of (codes "ab" ++ 13 ∷ 10 ∷ 10 ∷ codes "c") ≡ codes "ab" ∷ [] ∷ codes "c" ∷ []
unfolding lines_of
lines_are = refl
