use Rattle.std.proofs.Common.{ℕ, Decides, subst, arith, rules}
use Rattle.std.proofs.lemmas.Iterator.{YieldsList-from_range}
use Rattle.std.proofs.lemmas.Iterator.Consumers.{YieldsList-from_filter, count_from_yields_List}
use Rattle.rules.specs.Machine.{Count}
use Rattle.judging.specs.Counted.{OwedIn}
use Rattle.judging.proofs.Chains.{told, told_decides, same_test, count_below}
use Rattle.judging.proofs.Owing.{owed_told}
use Rattle.judging.proofs.sitting.Sitting.count_owed.Goals as goal

pub returns-clause-count : goal.returns-clause-count
returns-clause-count g c =
    let t = g.S.TaskSource.task c.args.source.now in
    let P = OwedIn t c.args.held.now c.args.self.now in
    let test = λ (n : ℕ). told (owed_told t c.args.held.now c.args.self.now n) in
    subst (λ n. Count P n c.count.result) c.count_facts.ensures.value
    (count_below test (λ n. told_decides (owed_told t c.args.held.now c.args.self.now n)) _ _
    (count_from_yields_List _ _ c.count.ensures.ran (YieldsList-from_filter _ test (YieldsList-from_range 0 _ c.count_facts.result c.filter.ensures.source (omega arith)) c.filter.ensures.closure
    (λ x b q k.
    let owed : Decides b (P x) = search rules in
    (search rules, same_test b (test x) owed (told_decides (owed_told t c.args.held.now c.args.self.now x)))))))
