use Rattle.std.proofs.Common.{◌≡◌, ◌≤◌, ◌<◌, ◌+◌, ℕ, arith, ◌⊎◌, inl, inr}
use Rattle.cla_grouping.specs.Sizes.{AreNoLess, best_bytes, with_tuples_of}
use Rattle.cla_grouping.specs.declared.sizes.Figures.{Figures}
use Rattle.cla_grouping.proofs.SizeLemmas.{past-most}
use Rattle.cla_grouping.proofs.sizes.most_tuples.Goals as goal

no_smaller : (f g : Figures) (high target : ℕ)
    → ((high ≡ f.rows) ⊎ (target ≤ best_bytes (with_tuples_of f (high + 1)))) → AreNoLess f g → g.distinct ≤ f.rows
    → g.distinct ≤ g.listed + 1 → high < g.distinct → target ≤ best_bytes g
no_smaller f g high target (inl e) h w l d = absurd (omega (arith, e, w, d))
no_smaller f g high target (inr t) h w l d = past-most f g high target h l d t

pub returns : goal.returns
returns c g h w l d = no_smaller c.args.f g c.loop.high c.args.target c.loop.invariant.past h w l d
