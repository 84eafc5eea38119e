use Rattle.std.proofs.Common.{◌≡◌, ◌+◌, sym, ◌∙◌, subst, arith}
use Rattle.judging.proofs.Widths.{WidthBelow, width_none, width_present, width_absent, width_all}
use Rattle.judging.proofs.measures.widest.Goals as goal
use Rattle.judging.proofs.measures.widest.Goals.{then-is_present, else-is_present}

pub loop-action-init : goal.loop-action-init
loop-action-init g c = width_none _

pub loop-action-preserved : goal.loop-action-preserved
loop-action-preserved g c =
    let t = g.S.TaskSource.task c.args.source.now in
    let a = c.loop-action.action in
    elim c.if-is_present.branch [
      | then-is_present w ↦ subst (WidthBelow t (a + 1)) (sym (w.width-is ∙ w.max-width.ensures)) (width_present t a _ _ c.loop-action.invariant (sym c.is_present.ensures ∙ w.if-is_present.true) w.count_effects.ensures.count w.count_effects.ensures.bound)
      | else-is_present w ↦ subst (WidthBelow t (a + 1)) (sym w.width-is) (width_absent t a _ c.loop-action.invariant (sym c.is_present.ensures ∙ w.if-is_present.false))
    ]

pub returns : goal.returns
returns g c =
    let t = g.S.TaskSource.task c.args.source.now in
    let last : c.loop-action.action ≡ t.actions = omega (arith, c.loop-action.auto.action-end, c.loop-action-test.false, c.actions-action-end.ensures) in
    record {
      width = width_all (g.S.TaskSource.lawful c.args.source.now) _ (subst (λ i. WidthBelow t i c.loop-action.width) last c.loop-action.invariant);
      bound = c.loop-action.invariant.few;
    }
