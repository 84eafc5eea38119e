use Rattle.std.proofs.Common.{◌≡◌, ℕ, [], ◌∷◌, sym, ap, ◌∙◌, arith, length-append}
use mathlib.Core.Path.{fun_ext}
use Rattle.task.specs.Paths.{after, reached}
use Rattle.task.proofs.Running.{reached_++}
use Rattle.judging.specs.Position.{state_of}
use Rattle.judging.proofs.Visits.{visited_more}
use Rattle.judging.proofs.sitting.Sitting.step.Goals as goal

pub returns-clause-moved : goal.returns-clause-moved
returns-clause-moved g c few moves sits =
    let t = g.S.TaskSource.task c.args.source.now in
    let a = c.args.action in
    let next : (v : ℕ) → state_of c.advance.new.self v ≡ after t (reached t t.start moves) a v = λ v. c.advance.ensures v ∙ ap (λ s. after t s a v) (fun_ext sits.state) in
    record {
      visited = visited_more (g.S.TaskSource.lawful c.args.source.now) moves a _ _ _ next sits.visited c.mark_facts.ensures;
      state = λ v. next v ∙ sym (ap (λ s. s v) (reached_++ t t.start moves (a ∷ [])));
      steps = omega (arith, sits.steps, length-append moves (a ∷ []));
    }
