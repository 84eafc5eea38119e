use Rattle.std.proofs.Common.{◌<◌, ◌≤◌, None, rules, sym, refl, subst, arith}
use Rattle.task.specs.Task.{Task, Numbered, facts}
use Rattle.key.specs.Keys.{task_of}
use Rattle.table.specs.Meaning.{held}
use Rattle.reach.specs.Built.{LevelIs}
use Rattle.listing.proofs.Lining.{key_lawful, no_fact, fact_of, below_facts}
use Rattle.listing.proofs.fact.fact_line.Goals as goal

pub returns-in_err-fact : goal.returns-in_err-fact
returns-in_err-fact c =
    rw c.from_residual.ensures (no_fact _ _ c.args.number c.fact_at.result c.source.ensures c.fact_at.ensures (search rules))

pub overflow_cast-result : goal.overflow_cast-result
overflow_cast-result c =
    let d : Numbered (task_of c.args.key.now) c.args.number c.in_ok-fact.fact = fact_of _ _ _ _ _ c.source.ensures c.fact_at.ensures (search rules) in
    omega (arith, below_facts _ _ _ d, (key_lawful c.args.key.now).few_facts)

pub overflow_cast-result-2 : goal.overflow_cast-result-2
overflow_cast-result-2 c =
    let d : Numbered (task_of c.args.key.now) c.args.number c.in_ok-fact.fact = fact_of _ _ _ _ _ c.source.ensures c.fact_at.ensures (search rules) in
    omega (arith, d.in_vars, (key_lawful c.args.key.now).few_vars)

pub overflow_cast-result-3 : goal.overflow_cast-result-3
overflow_cast-result-3 c =
    let d : Numbered (task_of c.args.key.now) c.args.number c.in_ok-fact.fact = fact_of _ _ _ _ _ c.source.ensures c.fact_at.ensures (search rules) in
    omega (arith, d.in_size, (key_lawful c.args.key.now).few_size c.in_ok-fact.fact.variable d.in_vars)

pub returns : goal.returns
returns c =
    let d : Numbered (task_of c.args.key.now) c.args.number c.in_ok-fact.fact = fact_of _ _ _ _ _ c.source.ensures c.fact_at.ensures (search rules) in (
      below_facts _ _ _ d,
      refl,
      λ built. record {
        numbered = d;
        level = subst (LevelIs (task_of c.args.key.now) c.in_ok-fact.fact) (sym c.level.ensures) (built c.args.number c.in_ok-fact.fact d);
      },
    )
