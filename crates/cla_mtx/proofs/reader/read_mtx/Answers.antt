use Rattle.std.proofs.Common.{rules, ◌≡◌, ℕ, ◌+◌, Bool, true, false, Result, Ok, Err, sym, ap, subst, ◌∙◌}
use Rattle.cla_io.specs.State.{left}
use Rattle.cla_io.specs.declared.stop.InFault.{InFault}
use Rattle.cla_io.specs.Lines.{TakesLineWhereTold, CountsLine, ahead_of}
use Rattle.cla_mtx.specs.Reading.{ReadsTextWhereTold}
use Rattle.cla_mtx.specs.Phases.{LeftDecides}
use Rattle.cla_mtx.proofs.ReadingLaws.{begins, goes_on, stops, ends, too_long, counted, counted_at_end, line_at}
use Rattle.cla_mtx.proofs.ReadingLaws.{end_at, later}
use Rattle.cla_mtx.proofs.reader.read_mtx.Goals as goal

pub lines-init : goal.lines-init
lines-init g c = record {
  same_reference = search rules;
  frame = search rules;
  no_fault = search rules;
  same_limit = search rules;
  ready = search rules;
  so_far = begins g.N.Number.BITS c.args.input.now.taken.limit c.args.input.now.taken.at c.args.input.now.taken.lines
      (ahead_of c.args.input.now.taken (left (g.F.Files.state c.args.input.now.files.now))) c.requires.nothing_taken;
}

pub lines-preserved : goal.lines-preserved
lines-preserved g c =
    let before = c.lines.invariant in
    let bits = g.N.Number.BITS in
    let limit = c.args.input.now.taken.limit in
    let p = c.lines.input.taken in
    let q = c.next_line.new.self.taken in
    let r = c.take_plain_lines.new.input.taken in
    let here = ahead_of p (left (g.F.Files.state c.lines.input.files.now)) in
    let next = ahead_of q (left (g.F.Files.state c.next_line.new.self.files.now)) in
    let after = ahead_of r (left (g.F.Files.state c.take_plain_lines.new.input.files.now)) in
    let whole = ahead_of c.args.input.now.taken (left (g.F.Files.state c.args.input.now.files.now)) in
    let t = c.next_line.ensures in
    let e : c.next_line.result ≡ Ok true = c.in-Ok-true.is ∙ ap Ok (search rules) in
    let count = subst (λ (x : Result Bool InFault). CountsLine p q x) e t.count in
    let line = subst (λ (x : Result Bool InFault). TakesLineWhereTold p q here next x) e t.line in
    let n = counted p q c.line_number.result c.line_number.ensures count in
    let same : q.limit ≡ limit = t.limit ∙ before.same_limit in
    let takes = line_at bits c.line_number.result (p.lines + 1) c.lines.phase c.take_line.new.phase c.line.result.now
    q.line (Ok tt) n c.line.ensures c.in-Ok.ensures.takes in
    let decides = later bits limit (p.lines + 1) q c.take_line.new.phase next whole count.0
    (goes_on bits limit (p.lines + 1) p q same c.lines.phase c.take_line.new.phase here next whole
    (before.so_far t.counted) line
    takes) in
    let ready = subst (λ (l : ℕ). LeftDecides bits l q.at (q.lines + 1) c.take_line.new.phase next whole) (sym same)
    decides in
    let more = c.take_plain_lines.ensures in
    record {
      same_reference = more.same_reference ∙ t.same_reference ∙ before.same_reference;
      frame = search rules;
      no_fault = search rules;
      same_limit = more.limit ∙ same;
      ready = c.in-Ok-take_plain_lines.ensures.ready;
      so_far =
          λ counted. subst (λ (l : ℕ). LeftDecides bits l r.at (r.lines + 1) c.take_plain_lines.new.phase after whole)
          same
          (c.in-Ok-take_plain_lines.ensures.reads whole ready);
    }

pub returns-in-Err-take_plain_lines-clause-reads : goal.returns-in-Err-take_plain_lines-clause-reads
returns-in-Err-take_plain_lines-clause-reads g c =
    let before = c.lines.invariant in
    let bits = g.N.Number.BITS in
    let limit = c.args.input.now.taken.limit in
    let p = c.lines.input.taken in
    let q = c.next_line.new.self.taken in
    let r = c.take_plain_lines.new.input.taken in
    let here = ahead_of p (left (g.F.Files.state c.lines.input.files.now)) in
    let next = ahead_of q (left (g.F.Files.state c.next_line.new.self.files.now)) in
    let after = ahead_of r (left (g.F.Files.state c.take_plain_lines.new.input.files.now)) in
    let whole = ahead_of c.args.input.now.taken (left (g.F.Files.state c.args.input.now.files.now)) in
    let t = c.next_line.ensures in
    let e : c.next_line.result ≡ Ok true = c.in-Ok-true.is ∙ ap Ok (search rules) in
    let count = subst (λ (x : Result Bool InFault). CountsLine p q x) e t.count in
    let line = subst (λ (x : Result Bool InFault). TakesLineWhereTold p q here next x) e t.line in
    let n = counted p q c.line_number.result c.line_number.ensures count in
    let same : q.limit ≡ limit = t.limit ∙ before.same_limit in
    let takes = line_at bits c.line_number.result (p.lines + 1) c.lines.phase c.take_line.new.phase c.line.result.now
    q.line (Ok tt) n c.line.ensures c.in-Ok.ensures.takes in
    let decides = later bits limit (p.lines + 1) q c.take_line.new.phase next whole count.0
    (goes_on bits limit (p.lines + 1) p q same c.lines.phase c.take_line.new.phase here next whole
    (before.so_far t.counted) line
    takes) in
    let ready = subst (λ (l : ℕ). LeftDecides bits l q.at (q.lines + 1) c.take_line.new.phase next whole) (sym same)
    decides in
    subst (λ (l : ℕ). ReadsTextWhereTold bits l whole after (Err c.in-Err-take_plain_lines.fault)) same
    (c.in-Err-take_plain_lines.ensures.reads whole ready)

pub returns-in-Err-clause-reads : goal.returns-in-Err-clause-reads
returns-in-Err-clause-reads g c =
    let before = c.lines.invariant in
    let bits = g.N.Number.BITS in
    let limit = c.args.input.now.taken.limit in
    let p = c.lines.input.taken in
    let q = c.next_line.new.self.taken in
    let here = ahead_of p (left (g.F.Files.state c.lines.input.files.now)) in
    let next = ahead_of q (left (g.F.Files.state c.next_line.new.self.files.now)) in
    let whole = ahead_of c.args.input.now.taken (left (g.F.Files.state c.args.input.now.files.now)) in
    let t = c.next_line.ensures in
    let e : c.next_line.result ≡ Ok true = c.in-Ok-true.is ∙ ap Ok (search rules) in
    let count = subst (λ (r : Result Bool InFault). CountsLine p q r) e t.count in
    let line = subst (λ (r : Result Bool InFault). TakesLineWhereTold p q here next r) e t.line in
    let n = counted p q c.line_number.result c.line_number.ensures count in
    let same : q.limit ≡ limit = t.limit ∙ before.same_limit in
    let takes = line_at bits c.line_number.result (p.lines + 1) c.lines.phase c.take_line.new.phase c.line.result.now
    q.line (Err c.in-Err.fault) n c.line.ensures c.in-Err.ensures.takes in
    stops bits limit (p.lines + 1) p q same c.lines.phase c.take_line.new.phase c.in-Err.fault here next whole
    (before.so_far t.counted) line takes

pub returns-in-Ok-false-clause-reads : goal.returns-in-Ok-false-clause-reads
returns-in-Ok-false-clause-reads g c =
    let before = c.lines.invariant in
    let bits = g.N.Number.BITS in
    let limit = c.args.input.now.taken.limit in
    let p = c.lines.input.taken in
    let q = c.next_line.new.self.taken in
    let here = ahead_of p (left (g.F.Files.state c.lines.input.files.now)) in
    let next = ahead_of q (left (g.F.Files.state c.next_line.new.self.files.now)) in
    let whole = ahead_of c.args.input.now.taken (left (g.F.Files.state c.args.input.now.files.now)) in
    let t = c.next_line.ensures in
    let e : c.next_line.result ≡ Ok false = c.in-Ok-false.is ∙ ap Ok (search rules) in
    let count = subst (λ (r : Result Bool InFault). CountsLine p q r) e t.count in
    let line = subst (λ (r : Result Bool InFault). TakesLineWhereTold p q here next r) e t.line in
    let n = counted_at_end p q c.line_number-in-Ok-false.result c.line_number-in-Ok-false.ensures count in
    let same : q.limit ≡ limit = t.limit ∙ before.same_limit in
    ends bits limit (p.lines + 1) p q same c.lines.phase c.finish.result here next whole (before.so_far t.counted) line
    (end_at bits c.line_number-in-Ok-false.result (p.lines + 1) c.lines.phase c.finish.result n c.finish.ensures.ends)

pub returns-in-Err-TooLong-clause-reads : goal.returns-in-Err-TooLong-clause-reads
returns-in-Err-TooLong-clause-reads g c =
    let before = c.lines.invariant in
    let p = c.lines.input.taken in
    let q = c.next_line.new.self.taken in
    let here = ahead_of p (left (g.F.Files.state c.lines.input.files.now)) in
    let next = ahead_of q (left (g.F.Files.state c.next_line.new.self.files.now)) in
    let whole = ahead_of c.args.input.now.taken (left (g.F.Files.state c.args.input.now.files.now)) in
    let t = rw c.in-Err-TooLong.field-0-is at c.in-Err-TooLong.ensures in
    too_long g.N.Number.BITS c.args.input.now.taken.limit (p.lines + 1) p q (t.limit ∙ before.same_limit) c.lines.phase
    here next whole (before.so_far t.counted) t.line
