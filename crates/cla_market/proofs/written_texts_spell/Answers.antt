use Rattle.cla_market.proofs.ReadBackLaws.{written_spell}
use Rattle.cla_market.proofs.written_texts_spell.Goals as goal

pub returns : goal.returns
returns c = written_spell
