use Rattle.reach.proofs.Built.{reach_run}
use Rattle.reach.proofs.reach.build_reach.Goals as goal

pub returns : goal.returns
returns g c = reach_run (g.S.TaskSource.lawful c.args.source.now) _ _ _ _ c.build_layers.result c.build_layers.ensures
