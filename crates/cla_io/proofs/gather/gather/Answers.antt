use Rattle.std.proofs.Common.{rules, ◌≡◌, ◌++◌, [], List, ℕ, take, length, arith, ◌∙◌, subst, Option}
use Rattle.std.proofs.lemmas.List.{append-nil, nil_from_length}
use Rattle.cla_io.specs.State.{left}
use Rattle.cla_io.specs.Lines.{SameBytes}
use Rattle.cla_io.specs.Window.{items}
use Rattle.cla_io.proofs.GatherLaws.{same_on, no_lf_on, at_end, at_lf, too_long_held, too_long_lf}
use Rattle.cla_io.proofs.gather.gather.Goals as goal

end_same : (held long more : List ℕ) (l0 l1 l2 : Option (List ℕ)) → SameBytes held l0 long l1 → SameBytes [] l1 more l2
    → more ≡ [] → SameBytes held l0 long l2
end_same held long more l0 l1 l2 a b e =
    subst (λ (x : List ℕ). SameBytes held l0 x l2) (append-nil long)
    (subst (λ (x : List ℕ). SameBytes held l0 (long ++ x) l2) e (same_on held long more l0 l1 l2 a b))

pub returns-in-Ok-eq0-clause-line : goal.returns-in-Ok-eq0-clause-line
returns-in-Ok-eq0-clause-line g c =
    let before = c.loop-window.invariant in
    let r = c.in-Ok-eq0.ensures in
    let zero : c.in-Ok-eq0.field-0 ≡ 0 = search rules in
    let none : items c.refill.new.self ≡ [] = nil_from_length (items c.refill.new.self) (r.more ∙ zero) in
    let n : c.len-in-Ok-eq0.result ≡ length c.loop-window.line.items = search rules in
    let l1 = left (g.F.Files.state c.loop-window.files) in
    let l2 = left (g.F.Files.state c.refill.new.files) in
    let same = end_same (items c.args.window.now) c.loop-window.line.items (items c.refill.new.self)
    (left (g.F.Files.state c.args.files.now)) l1 l2 before.content r.content none in
    rw n (at_end c.args.room (items c.args.window.now) c.loop-window.line.items (items c.refill.new.self)
    (left (g.F.Files.state c.args.files.now)) l2 same (r.all zero) before.none none)

pub returns-then-room-width-clause-line : goal.returns-then-room-width-clause-line
returns-then-room-width-clause-line g c =
    let before = c.loop-window.invariant in
    let l1 = left (g.F.Files.state c.loop-window.files) in
    let l2 = left (g.F.Files.state c.refill.new.files) in
    let next = c.in-Ok-refill.ensures.content in
    too_long_lf c.args.room c.in-Some.place (items c.args.window.now) c.loop-window.line.items (items c.refill.new.self)
    (items c.refill.new.self) (left (g.F.Files.state c.args.files.now)) l1 l2 before.content next before.none
    c.in-Some.ensures
    (omega (arith, c.if-room-width.true, c.len-in-Some.ensures))

pub returns-in-Some-clause-line : goal.returns-in-Some-clause-line
returns-in-Some-clause-line g c =
    let before = c.loop-window.invariant in
    let l1 = left (g.F.Files.state c.loop-window.files) in
    let l2 = left (g.F.Files.state c.refill.new.files) in
    let next = c.in-Ok-refill.ensures.content in
    let n : c.len-in-Some.result ≡ length c.loop-window.line.items = search rules in
    let grew : c.extend_from_slice.new.self.items ≡ c.loop-window.line.items
    ++ take c.in-Some.place (items c.refill.new.self) =
    rw (← c.as_slice.ensures) c.in-Ok-extend_from_slice.ensures.items in
    rw n (at_lf c.args.room c.in-Some.place (items c.args.window.now) c.loop-window.line.items (items c.refill.new.self)
    c.extend_from_slice.new.self.items (items c.consume.new.self) (left (g.F.Files.state c.args.files.now)) l1 l2
    before.content next before.none c.in-Some.ensures grew c.consume.ensures.items)

pub loop-window-preserved : goal.loop-window-preserved
loop-window-preserved g c =
    let before = c.loop-window.invariant in
    let l0 = left (g.F.Files.state c.args.files.now) in
    let l1 = left (g.F.Files.state c.loop-window.files) in
    let l2 = left (g.F.Files.state c.refill.new.files) in
    let next = c.in-Ok-refill.ensures.content in
    let moved = c.in-Ok-move_to.ensures.moved in
    record {
      frame = search rules;
      no_fault = c.in-Ok-refill.ensures.cause ∙ before.no_fault;
      empty = c.in-Ok-move_to.ensures.empty;
      none = rw moved (no_lf_on c.loop-window.line.items (items c.refill.new.self) before.none c.in-None.ensures);
      content =
          rw moved (same_on (items c.args.window.now) c.loop-window.line.items (items c.refill.new.self) l0 l1 l2
          before.content next);
    }

pub returns-clause-line : goal.returns-clause-line
returns-clause-line g c =
    let before = c.loop-window.invariant in
    too_long_held c.args.room (items c.args.window.now) c.loop-window.line.items (items c.loop-window.window)
    (left (g.F.Files.state c.args.files.now)) (left (g.F.Files.state c.loop-window.files)) before.content
    before.none
    (omega (arith, c.loop-window-test.false, c.len.ensures))
