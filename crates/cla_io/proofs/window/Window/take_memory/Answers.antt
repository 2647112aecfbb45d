use Rattle.std.proofs.Common.{rules, ◌≡◌, List, ℕ, length, take, drop, [], arith, length-take, length-drop, sym}
use Rattle.std.proofs.lemmas.List.{nil_from_length}
use Rattle.cla_io.specs.Window.{items}
use Rattle.cla_io.proofs.window.Window.take_memory.Goals as goal

pub returns-in_ok-self-clause-same : goal.returns-in_ok-self-clause-same
returns-in_ok-self-clause-same c =
    let w = c.args.self.now in
    let none : length w.bytes.items ≡ 0 = search rules in
    sym (nil_from_length (items w) (omega (arith, none, length-take {A = ℕ}, length-drop {A = ℕ})))
