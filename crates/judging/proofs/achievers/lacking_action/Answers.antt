use Rattle.std.proofs.Common.{sym, subst, MatchOption}
use Rattle.rules.specs.declared.calls.Kind.TheVariants.{Greedy, Necessary}
use Rattle.rules.specs.Marks.{Confirmed}
use Rattle.rules.specs.Machine.{Lowest, Lacking}
use Rattle.judging.proofs.Lacks.{lacks_judged}
use Rattle.judging.proofs.Lent.{reach_as}
use Rattle.judging.proofs.achievers.lacking_action.Goals as goal

pub returns-in-Greedy : goal.returns-in-Greedy
returns-in-Greedy g c built =
    let t = g.S.TaskSource.task c.args.source.now in
    let e = c.args.earlier in
    let l = c.args.later in
    subst (λ κ. MatchOption c.first_lacking.result (Confirmed κ t e l) (Lowest (Lacking κ t e l))) (sym c.in-Greedy.is)
    (lacks_judged (g.S.TaskSource.lawful c.args.source.now) Greedy e l _ (reach_as g.S.TaskSource.task l c.new.ensures.inner c.new.ensures.fact _ c.of-possible.ensures) _ c.first_lacking.ensures)

pub returns-in-Necessary : goal.returns-in-Necessary
returns-in-Necessary g c built =
    let t = g.S.TaskSource.task c.args.source.now in
    let e = c.args.earlier in
    let l = c.args.later in
    subst (λ κ. MatchOption c.first_lacking-in-Necessary.result (Confirmed κ t e l) (Lowest (Lacking κ t e l))) (sym c.in-Necessary.is)
    (lacks_judged (g.S.TaskSource.lawful c.args.source.now) Necessary e l _ built _ c.first_lacking-in-Necessary.ensures)
