use Rattle.std.proofs.Common.{[], ◌∷◌}
use Rattle.rules.specs.declared.calls.Call.TheVariants.{Propose, Report}
use Rattle.trials.proofs.Trials.{trial_11_lem}
use Rattle.trial_runs.proofs.Runs.{only_answers}
use Rattle.trial_runs.proofs.run_trial_11.Goals as goal

pub returns : goal.returns
returns c = only_answers c.run_calls.result (trial_11_lem.all (Propose 0 ∷ Report ∷ [])) c.run_calls.ensures
