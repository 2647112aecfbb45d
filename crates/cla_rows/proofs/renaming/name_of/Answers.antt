use Rattle.std.proofs.Common.{◌≡◌, ◌∙◌, length, arith, rules}
use Rattle.std.specs.Prelude.{vec_len}
use Rattle.cla_rows.proofs.Renamings.{name_left, name_given}
use Rattle.cla_rows.proofs.renaming.name_of.Goals as goal

pub overflow_cast-name-2 : goal.overflow_cast-name-2
overflow_cast-name-2 c =
    let whole : vec_len c.args.order.now ≡ length c.args.order.now.items = search rules in
    omega (
      arith,
      name_left _ _ _ c.args.old c.requires.names c.requires.known c.if-name.false,
      c.len-name.ensures,
      whole,
    )

pub returns-clause-names : goal.returns-clause-names
returns-clause-names c =
    let whole : vec_len c.args.order.now ≡ length c.args.order.now.items = search rules in
    let count : c.len-name.result ≡ length c.args.order.now.items = c.len-name.ensures ∙ whole in
    rw (count, c.in_ok-push.ensures.items) (name_given _ _ _ c.args.old c.requires.names c.requires.known
    c.if-name.false)
