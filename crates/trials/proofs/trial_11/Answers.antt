use Rattle.trials.proofs.Trials.{trial_11_lem}
use Rattle.trials.proofs.trial_11.Goals as goal

pub returns : goal.returns
returns c = trial_11_lem
