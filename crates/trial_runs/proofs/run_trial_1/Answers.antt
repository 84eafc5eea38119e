use Rattle.std.proofs.Common.{subst}
use Rattle.account.specs.Accounts.{AccountOf}
use Rattle.trial_runs.proofs.run_trial_1.Goals as goal

pub returns : goal.returns
returns c = subst (λ t. AccountOf t c.in_ok-account_of.field-0) c.in_ok-paper.ensures.verdict.means c.in_ok-account_of.ensures
