use Rattle.std.proofs.Common.{length, ap, ◌∙◌, arith}
use Rattle.reach.proofs.Built.{front_filled}
use Rattle.reach.proofs.FactValues.{length_layer}
use Rattle.reach.proofs.layers.build_layers.Goals as goal

pub returns : goal.returns
returns g c =
    let lawful = g.S.TaskSource.lawful c.args.source.now in
    let o = g.M.Measure.ops in
    let n = c.run_layers.result in
    let counted = c.count_facts-count.ensures.value in
    let v = c.run_layers.ensures.values in
    let s = c.run_layers.ensures.scratch in
    record {
      filled = front_filled c.args.values.now c.run_layers.new.values _ c.count_facts-count.result counted (omega arith) (ap length v ∙ length_layer o lawful n ∙ (omega arith)) v;
      scratch_filled = front_filled c.args.scratch.now c.run_layers.new.scratch _ c.count_facts-count.result counted (omega arith) (ap length s ∙ length_layer o lawful n ∙ (omega arith)) s;
      closed = c.run_layers.ensures.closed;
    }
