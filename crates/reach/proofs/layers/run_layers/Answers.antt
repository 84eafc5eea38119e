use Rattle.std.proofs.Common.{◌≡◌, sum_by, sym, ap, ◌∙◌, arith}
use Rattle.std.proofs.lemmas.Bool.{both_ways}
use Rattle.std.specs.Cmp.Lexicographic.{pointwise_decides}
use Rattle.reach.proofs.Rounds.{first_ranks, round_layer, round_falls, round_least, round_closed}
use Rattle.reach.proofs.layers.run_layers.Goals as goal

pub overflow_add-layers : goal.overflow_add-layers
overflow_add-layers g c =
    let lawful = g.S.TaskSource.lawful c.args.source.now in
    omega (arith, c.loop-layers.invariant.1, first_ranks g.M.Measure.ops g.M.Measure.laws lawful)

pub loop-layers-init : goal.loop-layers-init
loop-layers-init g c =
    let o = g.M.Measure.ops in (
      c.first_layer.ensures,
      omega (arith, ap (sum_by o.rank) c.first_layer.ensures),
      λ m h. absurd (omega arith),
    )

pub loop-layers-preserved : goal.loop-layers-preserved
loop-layers-preserved g c =
    let o = g.M.Measure.ops in
    let laws = g.M.Measure.laws in
    let lawful = g.S.TaskSource.lawful c.args.source.now in
    let n = c.loop-layers.layers in
    let was = c.loop-layers.invariant.0 in
    let is = c.next_layer.ensures in
    let copied = c.copy_from_slice.ensures.after in
    let differs : c.loop-layers.values ≡ c.next_layer.new.next → ⊥ = λ e. both_ways c.eq.result c.if-eq.false (c.eq.ensures ∙ (pointwise_decides g.met.M.Measure.eq_law _ _).1 e) in (
      copied ∙ round_layer o laws lawful n _ _ was is,
      omega (arith, round_falls o laws lawful n _ _ was is differs, ap (sum_by o.rank) copied, c.loop-layers.invariant.1),
      round_least o laws lawful n _ _ was is differs c.loop-layers.invariant.2,
    )

pub loop-layers-smaller : goal.loop-layers-smaller
loop-layers-smaller g c =
    let o = g.M.Measure.ops in
    let laws = g.M.Measure.laws in
    let lawful = g.S.TaskSource.lawful c.args.source.now in
    let differs : c.loop-layers.values ≡ c.next_layer.new.next → ⊥ = λ e. both_ways c.eq.result c.if-eq.false (c.eq.ensures ∙ (pointwise_decides g.met.M.Measure.eq_law _ _).1 e) in
    omega (arith, round_falls o laws lawful c.loop-layers.layers _ _ c.loop-layers.invariant.0 c.next_layer.ensures differs, ap (sum_by o.rank) c.copy_from_slice.ensures.after)

pub returns-then-eq : goal.returns-then-eq
returns-then-eq g c =
    let o = g.M.Measure.ops in
    let laws = g.M.Measure.laws in
    let lawful = g.S.TaskSource.lawful c.args.source.now in
    let same = (pointwise_decides g.met.M.Measure.eq_law _ _).0 (sym c.eq.ensures ∙ c.if-eq.true) in
    record {
      values = c.loop-layers.invariant.0;
      scratch = sym same ∙ c.loop-layers.invariant.0;
      closed = round_closed o laws lawful c.loop-layers.layers _ _ c.loop-layers.invariant.0 c.next_layer.ensures same c.loop-layers.invariant.2;
    }
