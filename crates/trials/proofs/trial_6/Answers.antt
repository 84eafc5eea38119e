use Rattle.trials.proofs.Trials.{trial_6_lem}
use Rattle.trials.proofs.trial_6.Goals as goal

pub returns : goal.returns
returns c = trial_6_lem
