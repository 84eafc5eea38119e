use Rattle.rules.proofs.Orderings.{ordering_kept}
use Rattle.rules.proofs.orderings_kept.Goals as goal

pub returns : goal.returns
returns c = ordering_kept
