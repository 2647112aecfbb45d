use Rattle.std.proofs.Common.{Bool, List, length, sym, ap, ◌∙◌}
use Rattle.cla_pack_reader.proofs.BitLaws.{marks_count}
use Rattle.cla_pack_reader.proofs.bits.Marks.len.Goals as goal

pub returns : goal.returns
returns c = sym (marks_count c.self.inside.words.items c.self.inside.len)
    ∙ ap (λ (l : List Bool). length l) c.self.view_is
