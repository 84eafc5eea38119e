use Rattle.judging.proofs.position.Position.goal_level.Goals as goal

pub returns : goal.returns
returns g c = rw (c.new-here.ensures.inner, c.new-here.ensures.state) at c.goal_level.ensures
