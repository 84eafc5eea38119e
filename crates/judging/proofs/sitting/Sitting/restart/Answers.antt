use Rattle.std.proofs.Common.{refl}
use Rattle.judging.proofs.Visits.{visited_start}
use Rattle.judging.proofs.sitting.Sitting.restart.Goals as goal

pub returns : goal.returns
returns g c = record {
  visited = visited_start (g.S.TaskSource.task c.args.source.now) _ _ _ c.empty-self.ensures c.put_start.ensures c.mark_facts.ensures;
  state = c.put_start.ensures;
  steps = refl;
}
