use Rattle.std.proofs.Common.{◌≡◌, ◌≤◌, ◌*◌, ◌∙◌, ◌+ℤ◌, ℤ, pos, map, ap, sym, arith}
use Rattle.std.proofs.lemmas.List.{get_or_default}
use Rattle.std.specs.Int.RustNames.{unsigned_abs}
use Rattle.cla_layout.specs.Groups.{at}
use Rattle.cla_group.proofs.Gathered.{gathered_size, gathered_step}
use Rattle.cla_group.proofs.items.gather_row.Goals as goal

pub with_item-requires : goal.with_item-requires
with_item-requires g c =
    let are = c.requires.so_far in
    let here = c.index-into-k.is ∙ get_or_default c.args.into.now c.args.k _ (pos 0) c.requires.place in
    let size = gathered_size _ g.N.Number.value g.met.N.Number.in_range c.requires.bits are.0 c.args.rows.now c.args.k
    c.args.i
    (omega (arith, c.requires.row)) in
    record {
      bits = c.requires.bits;
      few = c.requires.few;
      row = c.requires.row;
      size =
          rw (here ∙ are.2 c.args.k c.requires.place) size;
    }

pub returns : goal.returns
returns g c = λ codes code so_far.
    (let items = map g.N.Number.value c.args.rows.now in
    let here = c.index-into-k.is ∙ get_or_default c.args.into.now c.args.k _ (pos 0) c.requires.place in
    gathered_step codes items c.args.into.now c.args.i c.args.k c.with_item.result (sym code) c.requires.place
    (c.with_item.ensures.sum ∙ ap (λ (z : ℤ). z +ℤ at items c.args.i) here) so_far)
