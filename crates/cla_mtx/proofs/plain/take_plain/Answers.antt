use Rattle.std.proofs.Common.{rules, ◌≡◌, ◌+◌, true, Ok, Err, sym, ap, ◌∙◌, arith}
use Rattle.cla_spec.specs.Lines.{first_line}
use Rattle.cla_text.specs.Words.{words_of}
use Rattle.cla_io.specs.State.{left}
use Rattle.cla_io.specs.Lines.{ahead_of}
use Rattle.cla_mtx.specs.declared.phase.Phase.TheVariants as phases
use Rattle.cla_mtx.proofs.ReadingLaws.{goes_on, stops, counted, line_at, later}
use Rattle.cla_mtx.proofs.plain.take_plain.Goals as goal

pub plain-preserved : goal.plain-preserved
plain-preserved g c =
    let before = c.plain.invariant in
    let bits = g.N.Number.BITS in
    let limit = c.args.input.now.taken.limit in
    let p = c.plain.input.taken in
    let q = c.take_ahead.new.self.taken in
    let here = ahead_of p (left (g.F.Files.state c.plain.input.files.now)) in
    let next = ahead_of q (left (g.F.Files.state c.take_ahead.new.self.files.now)) in
    let old = phases.Entries c.plain.entries in
    let new = phases.Entries c.put_entry.new.entries in
    let t = c.take_ahead.ensures in
    let taken : c.take_ahead.result ≡ true = search rules in
    let count = t.count taken in
    let n = counted p q c.line_number.result c.line_number.ensures count in
    let same : q.limit ≡ limit = t.limit ∙ before.same_limit in
    let bytes = c.ahead.result.now in
    let is : first_line bytes ≡ q.line = ap first_line c.ahead.ensures ∙ sym (t.held taken).1 in
    let entry = c.in-Some.ensures in
    let takes = line_at bits c.line_number.result (p.lines + 1) old new (first_line bytes) q.line (Ok tt) n is
    (λ ts has. c.in-Ok.ensures.takes (words_of (first_line bytes)) entry.some entry.exact ts has) in
    record {
      same_reference = t.same_reference ∙ before.same_reference;
      same_files = t.same_files ∙ before.same_files;
      same_limit = same;
      ready = c.in-Ok.ensures.ready;
      later = omega (arith, before.later, count.0);
      so_far = λ whole decides. (later bits limit (p.lines + 1) q new next whole count.0
          (goes_on bits limit (p.lines + 1) p q same old new here next whole (before.so_far whole decides)
          (t.line taken) takes));
    }

pub returns-in-Err-clause-reads : goal.returns-in-Err-clause-reads
returns-in-Err-clause-reads g c whole decides =
    let before = c.plain.invariant in
    let bits = g.N.Number.BITS in
    let limit = c.args.input.now.taken.limit in
    let p = c.plain.input.taken in
    let q = c.take_ahead.new.self.taken in
    let here = ahead_of p (left (g.F.Files.state c.plain.input.files.now)) in
    let next = ahead_of q (left (g.F.Files.state c.take_ahead.new.self.files.now)) in
    let old = phases.Entries c.plain.entries in
    let new = phases.Entries c.put_entry.new.entries in
    let t = c.take_ahead.ensures in
    let taken : c.take_ahead.result ≡ true = search rules in
    let n = counted p q c.line_number.result c.line_number.ensures (t.count taken) in
    let same : q.limit ≡ limit = t.limit ∙ before.same_limit in
    let bytes = c.ahead.result.now in
    let is : first_line bytes ≡ q.line = ap first_line c.ahead.ensures ∙ sym (t.held taken).1 in
    let entry = c.in-Some.ensures in
    let takes = line_at bits c.line_number.result (p.lines + 1) old new (first_line bytes) q.line
    (Err c.in-Err.fault) n is
    (λ ts has. c.in-Err.ensures.takes (words_of (first_line bytes)) entry.some entry.exact ts has) in
    stops bits limit (p.lines + 1) p q same old new c.in-Err.fault here next whole (before.so_far whole decides)
    (t.line taken) takes
