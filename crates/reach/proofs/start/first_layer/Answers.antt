use Rattle.std.proofs.Common.{◌∙◌}
use Rattle.reach.proofs.FactValues.{started_first}
use Rattle.reach.proofs.start.first_layer.Goals as goal

pub returns : goal.returns
returns g c =
    let lawful = g.S.TaskSource.lawful c.args.source.now in
    c.mark_start.ensures ∙ started_first g.M.Measure.ops lawful c.clear.new.values (c.clear.auto.values ∙ c.requires) c.clear.ensures
