use Rattle.std.proofs.Common.{◌≡◌, ◌&&◌, ◌==◌, ℕ, true, refl, arith, eq-eqb}
use Rattle.cla_layout.specs.Groups.{code_of}
use Rattle.cla_stats.proofs.Firsts.{found_at, found_none}
use Rattle.cla_stats.proofs.coded.first_pair.Goals as goal

both : (x y p q : ℕ) → x ≡ p → y ≡ q → (x == p && y == q) ≡ true
both x y p q h k = rw (eq-eqb x p h, eq-eqb y q k) refl

pub returns-then-b-i : goal.returns-then-b-i
returns-then-b-i c =
    let a = c.args.a.now in
    let b = c.args.b.now in
    found_at (λ i. code_of a i == c.args.first && code_of b i == c.args.second) c.args.codes.now c.loop-i.i
    c.loop-i-test.true c.loop-i.invariant.before
    (both (code_of a c.loop-i.i) (code_of b c.loop-i.i) c.args.first c.args.second c.if-a-i.true c.if-b-i.true)

pub returns : goal.returns
returns c =
    let a = c.args.a.now in
    let b = c.args.b.now in
    found_none (λ i. code_of a i == c.args.first && code_of b i == c.args.second) c.args.codes.now
    (λ j there. c.loop-i.invariant.before j (omega (arith, there, c.loop-i-test.false)))
