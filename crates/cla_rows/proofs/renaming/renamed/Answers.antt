use Rattle.std.proofs.Common.{◌≡◌, length, drop, ap, ◌∙◌, arith, rules}
use Rattle.std.proofs.lemmas.List.{take_at}
use Rattle.cla_rows.proofs.Renamings.{renamed_more}
use Rattle.cla_rows.proofs.renaming.renamed.Goals as goal

pub loop-code-preserved : goal.loop-code-preserved
loop-code-preserved c =
    let fresh = c.loop-code.fresh in
    let whole : fresh.len ≡ length fresh.items = search rules in
    let size : length c.name_of.new.fresh ≡ fresh.len =
    omega (arith, c.name_of.auto.fresh, c.deref_mut.ensures.len, c.deref_mut.ensures.value, whole) in
    let written = take_at c.name_of.new.fresh (drop (length c.name_of.new.fresh) fresh.items) fresh.len size in
    record {
      size = ap length written ∙ size ∙ whole ∙ c.loop-code.invariant.size;
      names = rw written c.in_ok-name_of.ensures.names;
      rows = rw c.in_ok-push.ensures.items (renamed_more c.loop-code.code-index c.args.codes.now c.loop-code.names.items
          c.loop-code.order.items c.name_of.new.order.items c.in_ok-name_of.field-0 c.loop-code.invariant.rows
          c.in_ok-name_of.ensures.name);
    }
