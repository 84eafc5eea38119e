use Rattle.std.proofs.Common.{rules, ap, is_some, ◌∙◌, arith}
use Rattle.std.proofs.lemmas.Iterator.{YieldsList-from_range}
use Rattle.std.proofs.lemmas.Iterator.Consumers.{YieldsList-from_filter, count_from_yields_List}
use Rattle.task.specs.Next.{needs_below}
use Rattle.task.proofs.Next.{needs_count}
use Rattle.task.proofs.task_source.TaskSource.count_needs.Goals as goal

pub returns : goal.returns
returns g c =
    let t = g.Self.TaskSource.task c.args.self.now in
    let a = c.args.action in
    let n = c.variables.result in
    count_from_yields_List _ _ c.count.ensures.ran (YieldsList-from_filter _ (λ v. is_some (t.need a v)) (YieldsList-from_range 0 n n c.filter.ensures.source (omega arith)) c.filter.ensures.closure (λ x b q k. search rules))
    ∙ needs_count t a n ∙ ap (needs_below t a) c.variables.ensures
