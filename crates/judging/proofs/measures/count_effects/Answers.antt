use Rattle.std.proofs.Common.{◌≡◌, ℕ, is_some, Some, None, Option, Decides, subst, refl, ap, arith, rules, tests}
use Rattle.std.proofs.lemmas.Bool.{false≢true}
use Rattle.std.proofs.lemmas.Iterator.{YieldsList-from_range}
use Rattle.std.proofs.lemmas.Iterator.Consumers.{YieldsList-from_filter, count_from_yields_List}
use Rattle.rules.specs.Machine.{Count}
use Rattle.judging.proofs.Chains.{count_below}
use Rattle.judging.proofs.measures.count_effects.Goals as goal

given : (o : Option ℕ) → Decides (is_some o) ((x : ℕ) × (o ≡ Some x))
given None = (λ e. absurd (false≢true e), λ (x, is). ap is_some is)
given (Some x) = (λ e. (x, refl), λ _. refl)

pub returns-clause-count : goal.returns-clause-count
returns-clause-count g c =
    let t = g.S.TaskSource.task c.args.source.now in
    let a = c.args.action in
    let test = λ (v : ℕ). is_some (t.give a v) in
    subst (λ n. Count (λ v. (x : ℕ) × (t.give a v ≡ Some x)) n c.count.result) c.variables.ensures
    (count_below test (λ v. given (t.give a v)) _ _
    (count_from_yields_List _ _ c.count.ensures.ran (YieldsList-from_filter _ test (YieldsList-from_range 0 _ c.variables.result c.filter.ensures.source (omega arith)) c.filter.ensures.closure (λ x b q k. search (rules, tests)))))
