use Rattle.std.proofs.Common.{ℕ, ◌&&◌, subst, arith, rules, tests}
use Rattle.std.proofs.lemmas.Bool.{and_parts, and_from}
use Rattle.std.proofs.lemmas.Iterator.{YieldsList-from_range}
use Rattle.std.proofs.lemmas.Iterator.Consumers.{YieldsList-from_filter, count_from_yields_List}
use Rattle.rules.specs.Machine.{Count}
use Rattle.judging.specs.FactSets.{has}
use Rattle.judging.specs.Counted.{VisitedIn}
use Rattle.judging.proofs.Chains.{count_below}
use Rattle.judging.proofs.sitting.Sitting.count_visited.Goals as goal

pub returns : goal.returns
returns g c =
    let held = c.args.held.now in
    let visited = c.args.self.now.visited in
    let test = λ (n : ℕ). has held n && has visited n in
    subst (λ n. Count (VisitedIn held c.args.self.now) n c.count.result) c.count_facts.ensures.value
    (count_below test (λ k. (λ e. and_parts _ _ e, λ p. and_from _ _ p.0 p.1)) _ _
    (count_from_yields_List _ _ c.count.ensures.ran (YieldsList-from_filter _ test (YieldsList-from_range 0 _ c.count_facts.result c.filter.ensures.source (omega arith)) c.filter.ensures.closure (λ x b q k. search (rules, tests)))))
