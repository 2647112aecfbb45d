-- The bytes of a buffer, after some were taken and after a read.
use Rattle.std.proofs.Common.{◌≡◌, ℕ, ◌+◌, ◌-◌, ◌≤◌, List, [], take, drop, slice_range, Option, Some, None, refl, sym}
use Rattle.std.proofs.Common.{ap, ◌∙◌, arith}
use Rattle.std.proofs.lemmas.List.{drop-take, drop-drop, take-append-drop}
use Rattle.cla_spec.specs.Files.{Told}
use Rattle.cla_io.specs.State.{Reading, left_in, left_where_told}
use Rattle.cla_io.specs.Reads.{Takes}
use Rattle.cla_io.specs.Lines.{SameBytes}

pub consumed : (xs : List ℕ) (start end count : ℕ) → start + count ≤ end
    → slice_range xs (start + count) end ≡ drop count (slice_range xs start end)
consumed xs start end count inside =
    let parts : end - start ≡ count + (end - (start + count)) = omega arith in
    sym (ap (λ j. drop count (take j (drop start xs))) parts ∙ drop-take count _ (drop start xs)
    ∙ ap (take (end - (start + count))) (drop-drop count start xs))

-- what was read are the bytes that were left
pub read_on : (told told' : Option Told) (r r' : Option Reading) (held into : List ℕ) (n : ℕ)
    → told' ≡ told → held ≡ take n into → Takes (left_where_told told r) into n (left_where_told told' r')
    → SameBytes [] (left_where_told told r) held (left_where_told told' r')
read_on None told' r r' held into n same is t = rw same refl
read_on (Some b) told' r r' held into n same is t = rw (t.0, is, t.1) (take-append-drop n (left_in b r))
