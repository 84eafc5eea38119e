use Rattle.std.proofs.Common.{rules, ◌≡◌, ◌∙◌, ap, Some, arith}
use Rattle.std.proofs.iter.runs.Sources.{range_runs}
use Rattle.task.proofs.Next.{next_fact}
use Rattle.task.proofs.task_source.TaskSource.next_effect.Goals as goal

pub returns : goal.returns
returns g c =
    let t = g.Self.TaskSource.task c.args.self.now in
    let lawful = g.Self.TaskSource.lawful c.args.self.now in
    let a = c.args.action in
    let (p, from, h) = c.find_map.ensures.runs in
    let up = range_runs p p.seen in
    let starts : p.from.start ≡ c.args.variable = ap (λ s. s.start) from in
    let stops : p.from.end ≡ c.variables.result = ap (λ s. s.end) from in
    next_fact (t.give a) c.args.variable c.variables.result p.len p.whole (λ w. omega (arith, up.1 w)) p.at (λ k l. up.3 k l ∙ ap Some (omega arith)) _ _ _ c.find_map.result h (λ w k. search rules) (λ w y k. search rules) (λ a r q k. search rules)
    (λ w l. lawful.give_out a w (omega (arith, c.variables.ensures)))
