use Rattle.std.proofs.Common.{rules, tests, arith}
use Rattle.std.proofs.lemmas.Iterator.{first_from_Range}
use Rattle.task.proofs.Inside.{present_in}
use Rattle.judging.specs.Achievers.{LacksIn}
use Rattle.judging.proofs.Chains.{lowest_below}
use Rattle.judging.proofs.achievers.first_lacking.Goals as goal

pub returns : goal.returns
returns g c =
    let t = g.S.TaskSource.task c.args.source.now in
    let P = LacksIn t c.args.reach.now c.args.earlier c.args.later in
    lowest_below c.actions.result (λ k p. omega (arith, c.actions.ensures, present_in (g.S.TaskSource.lawful c.args.source.now) k p.0)) _
    (first_from_Range _ _ _ _ P (λ k. P k → ⊥) c.find.ensures.ran (λ x q k. search (rules, tests)) (λ x q k. search (rules, tests)))
