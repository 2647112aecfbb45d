use Rattle.std.proofs.Common.{◌+◌, List, ℕ, Option, subst, sym, ap}
use Rattle.cla_io.specs.State.{left}
use Rattle.cla_io.specs.Lines.{Progress, ahead_of}
use Rattle.cla_io.specs.Ahead.{AreLines, after_lines}
use Rattle.cla_mtx.specs.Phases.{EntriesDecide, DecidesOver}
use Rattle.cla_mtx.proofs.HeldLaws.{lines_taken}
use Rattle.cla_mtx.proofs.dense.take_dense.Goals as goal

pub returns-clause-reads : goal.returns-clause-reads
returns-clause-reads g c whole decides =
    let bits = g.N.Number.BITS in
    let old = c.args.entries.now in
    let new = c.add_held-count.new.entries in
    let p = c.args.input.now.taken in
    let count = c.add_held-count.result.count in
    let width = c.add_held-count.result.width in
    let q = after_lines p count width in
    let before = left (g.F.Files.state c.args.input.now.files.now) in
    let after = left (g.F.Files.state c.take_lines.new.self.files.now) in
    let is = c.ahead_in_limit.ensures.bytes in
    let lines = subst (λ (b : List ℕ). AreLines b count width) is c.add_held-count.ensures.lines in
    let over = subst (λ (b : List ℕ). DecidesOver bits old new b count width) is c.add_held-count.ensures.reads in
    let next = lines_taken bits old new p count width before whole c.ahead_in_limit.ensures.in_limit lines over
    decides in
    let same = ap (λ f. left (g.F.Files.state f)) c.take_lines.ensures.same_files in
    subst (λ (r : Progress). EntriesDecide bits p.limit r.at (r.lines + 1) new (ahead_of r after) whole)
    (sym c.take_lines.ensures.taken)
    (subst (λ (l : Option (List ℕ)). EntriesDecide bits p.limit q.at (q.lines + 1) new (ahead_of q l) whole)
    (sym same) next)
