use Rattle.trials.proofs.Trials.{trial_7_lem}
use Rattle.trial_runs.proofs.Runs.{only_answers}
use Rattle.trial_runs.proofs.run_trial_7.Goals as goal

pub returns : goal.returns
returns c = only_answers c.run_with_key.result trial_7_lem.0 c.run_with_key.ensures
