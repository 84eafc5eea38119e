use Rattle.trials.proofs.Trials.{trial_6_lem}
use Rattle.trial_runs.proofs.Runs.{only_answers}
use Rattle.trial_runs.proofs.run_trial_6.Goals as goal

pub returns : goal.returns
returns c = only_answers c.run_with_key.result trial_6_lem.0 c.run_with_key.ensures
