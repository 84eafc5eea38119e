use Rattle.std.proofs.Common.{◌≡◌, ℕ, ◌-◌, inl, inr, rules, refl, ap, ◌∙◌, subst, arith, Ok, Err}
use Rattle.task.specs.Task.{Task, facts}
use Rattle.reach.specs.Built.{LevelsBuilt}
use Rattle.rules.specs.Machine.{Count}
use Rattle.key.specs.Keys.{task_of}
use Rattle.listing.specs.Listing.{HeldAt, shown_kind}
use Rattle.listing.proofs.Lining.{is_there, said_of, line_of_fact, line_of_pair, pairs_sought, says_any, any_kind}
use Rattle.listing.proofs.line_at.line_at.Goals as goal

pub unwrap-line-requires : goal.unwrap-line-requires
unwrap-line-requires c =
    let limit : c.count_facts.result ≡ facts (task_of c.args.key.now) = c.count_facts.ensures.value ∙ ap facts c.source-source.ensures in
    is_there _ _ _ (λ h. omega (arith, h, c.in-Ok.ensures.within, limit)) c.fact_line.ensures

pub unwrap-order-requires : goal.unwrap-order-requires
unwrap-order-requires c =
    is_there _ _ _ (λ h. elim h [ inl e ↦ omega (arith, e, c.at.ensures.earlier, c.in-Ok-find_passing.ensures.within) | inr l ↦ omega (arith, l, c.at.ensures.later) ]) c.line.ensures

pub returns-in-Ok : goal.returns-in-Ok
returns-in-Ok c m s =
    let found = c.in-Ok.ensures.sought m.held (λ n b q. search rules) in
    let said = said_of _ _ _ c.unwrap-line.result c.unwrap-line.ensures c.fact_line.ensures in
    line_of_fact c.unwrap-line.result c.in-Ok.fact c.args.number said.1 found (said.2 (subst (λ (t : Task). LevelsBuilt t c.of.result.table) c.source-source.ensures c.of.ensures.levels))

pub returns-in-Ok-find_passing : goal.returns-in-Ok-find_passing
returns-in-Ok-find_passing c m s =
    let held = c.in-Err.ensures.sought m.held (λ n b q. search rules) in
    let found = c.in-Ok-find_passing.ensures.sought (any_kind m) (λ n b q. search (rules, says_any)) in
    let limit : c.count_facts.result ≡ facts (task_of c.args.key.now) = c.count_facts.ensures.value ∙ ap facts c.source-source.ensures in
    let said = said_of _ _ _ c.unwrap-order.result c.unwrap-order.ensures c.line.ensures in
    line_of_pair c.unwrap-order.result c.in-Ok-find_passing.place c.in-Err.held c.args.number c.in-Ok-find_passing.ensures.within
    (said.0 ∙ c.at.ensures.earlier) (said.1 ∙ c.at.ensures.later) (said.2 m s ∙ (λ i. shown_kind m (c.at.ensures.earlier i) (c.at.ensures.later i)))
    (pairs_sought m (c.args.number - c.in-Err.held) (Ok c.in-Ok-find_passing.place) found) (subst (λ (n : ℕ). Count (HeldAt m) n c.in-Err.held) limit held) c.in-Err.ensures.within.1

pub returns-in-Err-find_passing : goal.returns-in-Err-find_passing
returns-in-Err-find_passing c m s =
    let held = c.in-Err.ensures.sought m.held (λ n b q. search rules) in
    let ordered = c.in-Err-find_passing.ensures.sought (any_kind m) (λ n b q. search (rules, says_any)) in
    let limit : c.count_facts.result ≡ facts (task_of c.args.key.now) = c.count_facts.ensures.value ∙ ap facts c.source-source.ensures in (
      (c.in-Err.held, (c.in-Err-find_passing.ordered, subst (λ (n : ℕ). Count (HeldAt m) n c.in-Err.held) limit held, pairs_sought m (c.args.number - c.in-Err.held) (Err c.in-Err-find_passing.ordered) ordered, refl)),
      omega (arith, c.in-Err.ensures.within.1, c.in-Err-find_passing.ensures.within.1),
    )
