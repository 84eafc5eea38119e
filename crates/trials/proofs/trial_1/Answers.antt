use Rattle.trials.proofs.Trials.{trial_1_lem}
use Rattle.trials.proofs.trial_1.Goals as goal

pub returns : goal.returns
returns c = trial_1_lem
