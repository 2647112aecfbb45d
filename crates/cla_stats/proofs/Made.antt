-- Tuples that are made of their parts.
use Rattle.std.proofs.Common.{◌≡◌, ℕ, List, ap, ◌∙◌, Option}
use Rattle.cla_grouping.specs.Tuples.{TuplesOf}

abbrev with : ℕ → ℕ → List ℕ → Option ℕ → TuplesOf
with width distinct codes zero_is = record { width = width; distinct = distinct; codes = codes; zero = zero_is }

-- the same parts make the same tuples
pub tuples-made : (a b : TuplesOf) → a.width ≡ b.width → a.distinct ≡ b.distinct → a.codes ≡ b.codes → a.zero ≡ b.zero
    → a ≡ b
tuples-made a b h k l m =
    ap (λ t. with t a.distinct a.codes a.zero) h
    ∙ ap (λ t. with b.width t a.codes a.zero) k
    ∙ ap (λ t. with b.width b.distinct t a.zero) l
    ∙ ap (with b.width b.distinct b.codes) m
