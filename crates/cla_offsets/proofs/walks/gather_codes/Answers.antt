use Rattle.std.proofs.Common.{◌≡◌, ◌+◌, ℕ, length, map, ap, ◌∙◌, arith}
use Rattle.cla_layout.specs.Groups.{gathered_to}
use Rattle.cla_offsets.proofs.walks.gather_codes.Goals as goal

pub gather_row-requires : goal.gather_row-requires
gather_row-requires g c =
    let are = c.requires.so_far in
    record {
      bits = c.requires.bits;
      few = c.requires.few;
      row = omega (arith, c.loop-j-test.true, c.requires.within);
      place = omega (arith, c.requires.tuples c.loop-j.j c.loop-j-test.true, c.loop-j.auto.into);
      so_far = (are.0, are.1 c.loop-j.j c.loop-j-test.true, c.loop-j.invariant.so_far are.0 are.1 are.2);
    }

pub loop-j-preserved : goal.loop-j-preserved
loop-j-preserved g c =
    let sums = λ (all : _). gathered_to all (map g.N.Number.value c.args.rows.now) in
    let next : c.args.first + c.loop-j.j + 1 ≡ c.args.first + (c.loop-j.j + 1) = omega arith in
    record {
      so_far = λ all same is m there.
          c.gather_row.ensures all (same c.loop-j.j c.loop-j-test.true) (c.loop-j.invariant.so_far all same is) m there
          ∙ ap (sums all m) next;
    }

pub returns : goal.returns
returns g c = λ all same is k there.
    (let end : c.loop-j.j ≡ length c.args.codes.now = omega (arith, c.loop-j-test.false, c.loop-j.auto.j-end) in
    let sums = gathered_to all (map g.N.Number.value c.args.rows.now) k in
    c.loop-j.invariant.so_far all same is k there ∙ ap (λ (n : ℕ). sums (c.args.first + n)) end)
