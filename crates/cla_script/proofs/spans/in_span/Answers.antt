use Rattle.cla_script.specs.View.{tree_of, stack_of}
use Rattle.cla_script.specs.Takes.{part_of}
use Rattle.cla_script.proofs.SpanTokens.{no_number, no_colon}
use Rattle.cla_script.proofs.spans.in_span.Goals as goal

pub returns-in_default : goal.returns-in_default
returns-in_default g c = no_number g.N.Number.value g.N.Number.BITS (c.args.token.place) (c.args.at)
    (stack_of g.N.Number.value c.args.frames.items) (tree_of g.N.Number.value c.args.tree)
    (part_of c.args.part) c.args.seen
    c.args.token.kind c.ended.result c.in-Nothing.is c.in_default.not-Number c.ended.ensures

pub returns-in_default-kind : goal.returns-in_default-kind
returns-in_default-kind g c = no_colon g.N.Number.value g.N.Number.BITS (c.args.token.place) (c.args.at)
    (stack_of g.N.Number.value c.args.frames.items) (tree_of g.N.Number.value c.args.tree)
    (part_of c.args.part) c.args.seen c.in-Once.n
    c.args.token.kind c.ended-in_default-kind.result c.in-Once.is c.in_default-kind.not-Colon
    c.ended-in_default-kind.ensures
