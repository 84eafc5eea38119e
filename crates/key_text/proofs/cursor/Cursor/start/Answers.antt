use Rattle.std.proofs.Common.{refl, subst}
use Rattle.task.specs.Task.{Task}
use Rattle.reach.specs.Built.{LevelsBuilt}
use Rattle.key.specs.Keys.{task_of}
use Rattle.key_text.proofs.Standing.{stands_first}
use Rattle.key_text.proofs.cursor.Cursor.start.Goals as goal

pub returns : goal.returns
returns c m s =
    let levels = c.of.result.table in
    stands_first (task_of c.args.key.now) m _ (subst (λ (t : Task). LevelsBuilt t levels) c.source.ensures c.of.ensures.levels) refl refl
