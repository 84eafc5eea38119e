use Rattle.std.proofs.Common.{◌≡◌, ℕ, ◌<◌, None, get_or, rules}
use Rattle.table.proofs.Tables.{whole_places}
use Rattle.table.proofs.copying.copy_action.Goals as goal

pub returns : goal.returns
returns g c =
    let t = g.S.TaskSource.task c.args.source.now in
    let a = c.args.action in
    let needs : (v : ℕ) → v < 64 → get_or c.copy_values.result v None ≡ t.need a v = λ v h. let p = c.copy_values.ensures v h in search rules in
    let effects : (v : ℕ) → v < 64 → get_or c.copy_values-2.result v None ≡ t.give a v = λ v h. let p = c.copy_values-2.ensures v h in search rules in
    λ i. record {
      present = c.is_present.ensures i;
      needs = whole_places (t.need a) c.copy_values.result (search rules) needs i;
      effects = whole_places (t.give a) c.copy_values-2.result (search rules) effects i;
    }
