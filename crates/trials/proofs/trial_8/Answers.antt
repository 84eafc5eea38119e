use Rattle.trials.proofs.Trials.{trial_8_lem}
use Rattle.trials.proofs.trial_8.Goals as goal

pub returns : goal.returns
returns c = trial_8_lem
