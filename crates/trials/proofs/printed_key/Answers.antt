use Rattle.trials.proofs.Trials.{printed_key_lem}
use Rattle.trials.proofs.printed_key.Goals as goal

pub returns : goal.returns
returns c = printed_key_lem
