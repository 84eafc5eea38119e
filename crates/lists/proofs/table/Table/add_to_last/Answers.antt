use Rattle.std.proofs.Common.{◌<◌, vec_items, vec_len, inr, refl}
use Rattle.lists.specs.View.{lists_of, row_of}
use Rattle.lists.proofs.Views.{last_is, relast_at}
use Rattle.lists.proofs.table.Table.add_to_last.Goals as goal

pub returns-in_ok-add : goal.returns-in_ok-add
returns-in_ok-add g c =
    let t = c.args.self.now in
    let os = vec_items t.operators in
    let o = c.in-Some.operator.now in
    let o' = c.add.new.arg2 in
    let n = vec_len t.operators in
    let some : 0 < n = c.in-Some.ensures.variant.0 refl in
    let last = c.in-Some.ensures.value in
    inr (
      o,
      o',
      (last_is os n o t.operators.ok.0 some last).1,
      record { shown = c.in-Some.operator; shows = refl; left = _; met = c.in_ok-add.ensures; leaves = refl },
      relast_at (lists_of t) os o o' (λ _. row_of o') n refl t.operators.ok.0 some last refl,
    )
