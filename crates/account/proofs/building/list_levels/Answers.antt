use Rattle.std.proofs.Common.{◌≡◌, ◌<◌, [], ◌∷◌, vec_items, refl, subst, arith}
use Rattle.std.proofs.lemmas.Slice.{pushed}
use Rattle.task.specs.Task.{facts}
use Rattle.account.specs.Accounts.{Listed}
use Rattle.account.proofs.Entries.{listed_none, listed_more, some_fact}
use Rattle.account.proofs.building.list_levels.Goals as goal

pub unwrap-fact-requires : goal.unwrap-fact-requires
unwrap-fact-requires g c =
    let t = g.S.TaskSource.task c.args.source.now in
    let below : c.loop-number.number < facts t = omega (arith, c.count_facts-number-end.ensures.value) in
    some_fact t c.loop-number.number c.fact_at.result below c.fact_at.ensures

pub loop-number-init : goal.loop-number-init
loop-number-init g c = listed_none (vec_items c.new-list.result) c.new-list.ensures.items

pub loop-number-preserved : goal.loop-number-preserved
loop-number-preserved g c =
    let n = c.loop-number.number in
    let fact = c.unwrap-fact.result in
    listed_more c.args.levels.now.table n fact c.level-level.result (vec_items c.loop-number.list) (vec_items c.push.new.self) c.requires c.loop-number.invariant
    (c.fact_at.ensures.right fact c.unwrap-fact.ensures) c.level-level.ensures
    (pushed {was = vec_items c.loop-number.list} (record { number = n; fact = fact; level = c.level-level.result } ∷ []) refl c.in_ok-push.was c.push.ensures.items)

pub returns : goal.returns
returns g c =
    let t = g.S.TaskSource.task c.args.source.now in
    let e : c.loop-number.number ≡ facts t = omega (arith, c.count_facts-number-end.ensures.value, c.loop-number.auto.number-end) in
    subst (λ n. Listed t n (vec_items c.loop-number.list)) e c.loop-number.invariant
