use Rattle.cla_tokens.proofs.LongestSign.{longest_sign}
use Rattle.cla_tokens.proofs.laws.longest_sign_is_taken.Goals as goal

pub returns : goal.returns
returns c bs k n found = longest_sign bs k n found
