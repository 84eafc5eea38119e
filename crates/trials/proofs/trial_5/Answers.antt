use Rattle.trials.proofs.Trials.{trial_5_lem}
use Rattle.trials.proofs.trial_5.Goals as goal

pub returns : goal.returns
returns c = trial_5_lem
