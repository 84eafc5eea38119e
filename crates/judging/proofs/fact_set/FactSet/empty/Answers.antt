use Rattle.judging.proofs.Visits.{all_false}
use Rattle.judging.proofs.fact_set.FactSet.empty.Goals as goal

pub returns : goal.returns
returns c n = all_false 256 n
