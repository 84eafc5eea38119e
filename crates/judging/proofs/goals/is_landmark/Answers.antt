use Rattle.std.proofs.Common.{Decides, sym, ◌∙◌, subst}
use Rattle.rules.specs.Marks.{Landmark}
use Rattle.judging.proofs.Reached.{landmark_judged}
use Rattle.judging.proofs.Lent.{missed_as}
use Rattle.judging.proofs.goals.is_landmark.Goals as goal

pub returns : goal.returns
returns g c inside =
    let t = g.S.TaskSource.task c.args.source.now in
    let f = c.args.fact in
    subst (λ b. Decides b (Landmark t f)) (sym c.is_some.ensures) (landmark_judged t f _ (λ s. c.if-start-fact.false (c.start.ensures ∙ s.1)) (missed_as g.S.TaskSource.task f c.new-barred.ensures.inner c.new-barred.ensures.fact _ c.missed_goal.ensures.missed))
