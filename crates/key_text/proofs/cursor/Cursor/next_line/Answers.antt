use Rattle.std.proofs.Common.{◌≡◌, ℕ, inl, inr, true, false, Some, None, rules, refl, ap, ◌∙◌, subst, arith}
use Rattle.std.proofs.lemmas.Iterator.{first_from_Range}
use Rattle.std.proofs.lemmas.Bool.{both_ways}
use Rattle.task.specs.Task.{facts}
use Rattle.key.specs.Keys.{task_of}
use Rattle.listing.specs.Listing.{HeldAt, OrderedAt, shown_kind}
use Rattle.listing.proofs.Lining.{is_there, said_of}
use Rattle.key_text.proofs.Standing.{First, NoneIn, past_fact, no_fact, past_pair, past_all}
use Rattle.key_text.proofs.cursor.Cursor.next_line.Goals as goal

pub overflow_add-self : goal.overflow_add-self
overflow_add-self c =
    let within = first_from_Range _ _ _ (Some c.in-Some.fact) (λ i. Unit {0}) (λ i. Unit {0}) c.in-Some.ensures.ran (λ x q k. tt) (λ x q k. (search rules, tt)) in
    omega (arith, within.1, c.count_facts-facts.ensures.bound)

pub unwrap-line-requires : goal.unwrap-line-requires
unwrap-line-requires c =
    let limit : c.count_facts-facts.result ≡ facts (task_of c.args.key.now) = c.count_facts-facts.ensures.value ∙ ap facts c.source.ensures in
    let within = first_from_Range _ _ _ (Some c.in-Some.fact) (λ i. Unit {0}) (λ i. Unit {0}) c.in-Some.ensures.ran (λ x q k. tt) (λ x q k. (search rules, tt)) in
    is_there _ _ _ (λ h. omega (arith, h, within.1, limit)) c.fact_line.ensures

pub returns-in-Some-clause-passed : goal.returns-in-Some-clause-passed
returns-in-Some-clause-passed c m n s stands =
    let k = c.in-Some.fact in
    let limit : c.count_facts-facts.result ≡ facts (task_of c.args.key.now) = c.count_facts-facts.ensures.value ∙ ap facts c.source.ensures in
    let first = first_from_Range _ _ _ (Some k) (HeldAt m) (λ i. HeldAt m i → ⊥) c.in-Some.ensures.ran (λ x q h. search rules) (λ x q h. (search rules, let e : m.held x ≡ false = search rules in both_ways _ e)) in
    let said = said_of _ _ _ c.unwrap-line.result c.unwrap-line.ensures c.fact_line.ensures in
    past_fact c.args.self.now _ k c.unwrap-line.result stands (subst (λ (e : ℕ). First (HeldAt m) c.args.self.now.fact e k) limit first) refl refl refl said.1 said.2

pub returns-in_err-place-clause-passed : goal.returns-in_err-place-clause-passed
returns-in_err-place-clause-passed c m n s stands =
    let limit : c.count_facts-facts.result ≡ facts (task_of c.args.key.now) = c.count_facts-facts.ensures.value ∙ ap facts c.source.ensures in
    let none : NoneIn (HeldAt m) c.args.self.now.fact c.count_facts-facts.result = first_from_Range _ _ _ None (HeldAt m) (λ i. HeldAt m i → ⊥) c.in_default.ensures.ran (λ x q h. search rules) (λ x q h. (search rules, let e : m.held x ≡ false = search rules in both_ways _ e)) in
    let none_left : NoneIn (OrderedAt m) c.args.self.now.place 65536 = λ q low high. c.next_pair.ensures.none m q s (search rules) low high in
    rw c.from_residual.ensures (past_all c.args.self.now (no_fact c.args.self.now stands (subst (NoneIn (HeldAt m) c.args.self.now.fact) limit none)) none_left)

pub overflow_add-self-2 : goal.overflow_add-self-2
overflow_add-self-2 c = omega (arith, (c.next_pair.ensures.within c.in_ok-place.place (search rules)).1)

pub unwrap-order-requires : goal.unwrap-order-requires
unwrap-order-requires c =
    let within = c.next_pair.ensures.within c.in_ok-place.place (search rules) in
    is_there _ _ _ (λ h. elim h [ inl e ↦ omega (arith, e, c.at.ensures.earlier, within.1) | inr l ↦ omega (arith, l, c.at.ensures.later) ]) c.line.ensures

pub returns-clause-passed : goal.returns-clause-passed
returns-clause-passed c m n s stands =
    let k = c.in_ok-place.place in
    let limit : c.count_facts-facts.result ≡ facts (task_of c.args.key.now) = c.count_facts-facts.ensures.value ∙ ap facts c.source.ensures in
    let none : NoneIn (HeldAt m) c.args.self.now.fact c.count_facts-facts.result = first_from_Range _ _ _ None (HeldAt m) (λ i. HeldAt m i → ⊥) c.in_default.ensures.ran (λ x q h. search rules) (λ x q h. (search rules, let e : m.held x ≡ false = search rules in both_ways _ e)) in
    let within = c.next_pair.ensures.within k (search rules) in
    let found = c.next_pair.ensures.first m k s (search rules) in
    let first : First (OrderedAt m) c.args.self.now.place 65536 k = (within.0, within.1, found.0, found.1) in
    let said = said_of _ _ _ c.unwrap-order.result c.unwrap-order.ensures c.line.ensures in
    past_pair c.args.self.now _ k c.unwrap-order.result (no_fact c.args.self.now stands (subst (NoneIn (HeldAt m) c.args.self.now.fact) limit none)) first refl limit refl (said.0 ∙ c.at.ensures.earlier) (said.1 ∙ c.at.ensures.later) (said.2 m s ∙ (λ i. shown_kind m (c.at.ensures.earlier i) (c.at.ensures.later i)))
