use Rattle.std.proofs.Common.{◌≡◌}
use Rattle.std.specs.Prelude.{vec_len}
use Rattle.cla_grammar.specs.Machine.{reduce}
use Rattle.cla_script.specs.View.{tree_of, stack_of}
use Rattle.cla_script.proofs.frame.reduce.Given as goal

abbrev pub invariant-closing : goal.invariant-closing
invariant-closing g l =
    reduce l.level (stack_of g.N.Number.value l.frames.items) (tree_of g.N.Number.value l.tree) ≡ reduce l.level
    (stack_of g.N.Number.value l.fn.frames.items) (tree_of g.N.Number.value l.fn.tree)

abbrev pub decreases-closing : goal.decreases-closing
decreases-closing g l = vec_len l.frames
