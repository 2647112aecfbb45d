use Rattle.std.proofs.Common.{◌+◌, ◌-◌, ℕ, drop, take, sym, ◌∙◌, ap, arith}
use Rattle.std.specs.declared.vec.Vec.{Vec}
use Rattle.std.specs.declared.alloc.Global.{Global}
use Rattle.cla_io.specs.Window.{items}
use Rattle.cla_io.proofs.TakenLines.{ends_at_lf, line_held}
use Rattle.cla_io.proofs.taken.Taken.take_held.Goals as goal

pub returns-then-self-next-clause-line : goal.returns-then-self-next-clause-line
returns-then-self-next-clause-line c =
    let lf = rw (← c.self.view_is) at c.requires in
    rw (← c.self.view_is) (omega (arith, c.if-self-next.true, (ends_at_lf _ _ lf.0 lf.1).is_width))

pub returns-clause-line : goal.returns-clause-line
returns-clause-line c =
    let w = c.self.inside.window in
    let lf = rw (← c.self.view_is) at c.requires in
    let e = ends_at_lf (items w) c.args.place lf.0 lf.1 in
    let line = rw c.as_slice.ensures at c.len_without_cr.ensures.line in
    let within = rw c.as_slice.ensures at c.len_without_cr.ensures.within in
    rw (← c.self.view_is) (
      omega (arith, lf.0),
      ap (λ (b : Vec ℕ Global). take (w.start + c.len_without_cr.result - w.start) (drop w.start b.items))
          c.consume.ensures.same ∙ line_held w.bytes.items w.start w.end c.args.place c.len_without_cr.result lf.0 lf.1
          line within,
      c.consume.ensures.items ∙ sym e.rest,
      omega (arith, e.is_width),
      c.if-self-next.false,
    )
