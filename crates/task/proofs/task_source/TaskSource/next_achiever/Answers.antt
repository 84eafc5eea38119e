use Rattle.std.proofs.Common.{rules, sym, ◌∙◌, arith}
use borrow.Author.Tests.{tests}
use Rattle.std.proofs.lemmas.Iterator.{first_from_Range}
use Rattle.task.specs.Task.{Gives}
use Rattle.task.proofs.Next.{next_action}
use Rattle.task.proofs.Options.{no_some}
use Rattle.task.proofs.task_source.TaskSource.next_achiever.Goals as goal

pub returns : goal.returns
returns g c =
    let t = g.Self.TaskSource.task c.args.self.now in
    let lawful = g.Self.TaskSource.lawful c.args.self.now in
    let f = c.args.fact in
    next_action c.args.action c.actions.result c.find.result
    (first_from_Range _ _ _ c.find.result (λ a. Gives t a f) (λ a. Gives t a f → ⊥) c.find.ensures.ran (λ x q k. search (rules, tests)) (λ x q k. search (rules, tests)))
    (λ a h e. no_some f.value (sym (lawful.give_past a f.variable (omega (arith, c.actions.ensures))) ∙ e))
