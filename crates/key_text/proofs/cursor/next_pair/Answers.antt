use Rattle.std.proofs.Common.{◌≡◌, ℕ, ◌+◌, ◌-◌, ◌*◌, ◌<◌, ◌≤◌, true, false, Some, None, rules, inl, inr, sym, subst, arith}
use Rattle.std.proofs.lemmas.Iterator.{first_from_Range}
use Rattle.std.proofs.lemmas.Bool.{cases_lt}
use Rattle.task.proofs.Options.{some_same}
use Rattle.listing.specs.Listing.{InAnyKind, OrderedAt}
use Rattle.listing.proofs.Lining.{any_of, says_of, is_of, not_of}
use Rattle.key_text.proofs.Rows.{at_place, in_row}
use Rattle.key_text.proofs.cursor.next_pair.Goals as goal

pub loop-earlier-init : goal.loop-earlier-init
loop-earlier-init c m s k low high o = omega (arith, low, high)

pub overflow_add-result : goal.overflow_add-result
overflow_add-result c =
    let within = first_from_Range _ _ _ (Some c.in-Some.later) (λ i. Unit {0}) (λ i. Unit {0}) c.in-Some.ensures.ran (λ x q k. tt) (λ x q k. (search rules, tt)) in
    omega (arith, within.1, c.loop-earlier-test.true)

pub returns-in-Some-clause-first : goal.returns-in-Some-clause-first
returns-in-Some-clause-first c m n s is =
    let e = c.loop-earlier.earlier-counter in
    let l = c.in-Some.later in
    let first = first_from_Range _ _ _ (Some l) (InAnyKind m e) (λ i. InAnyKind m e i → ⊥) c.in-Some.ensures.ran (λ x q h. let y : true ≡ any_of m e x = search (rules, says_of) in is_of m e x y) (λ x q h. (search rules, let y : false ≡ any_of m e x = search (rules, says_of) in not_of m e x y)) in
    let here : e * 256 + l ≡ n = some_same _ n is in (
      subst (OrderedAt m) here (at_place m e l first.1 first.2),
      λ k low high o.
          elim (cases_lt k (e * 256)) [
            | inl less ↦ c.loop-earlier.invariant m s k low less o
            | inr more ↦
                (let high' : k < e * 256 + 256 = omega (arith, high, here, first.1) in
                first.3 (k - e * 256) (omega (arith, c.saturating_sub-start.ensures, low, more)) (omega (arith, high, here, more)) (in_row m e k more high' o))
          ],
    )

pub loop-earlier-preserved : goal.loop-earlier-preserved
loop-earlier-preserved c m s k low high o =
    let e = c.loop-earlier.earlier-counter in
    let none = first_from_Range _ _ _ None (InAnyKind m e) (λ i. InAnyKind m e i → ⊥) c.in_default.ensures.ran (λ x q h. let y : true ≡ any_of m e x = search (rules, says_of) in is_of m e x y) (λ x q h. (search rules, let y : false ≡ any_of m e x = search (rules, says_of) in not_of m e x y)) in
    elim (cases_lt k (e * 256)) [
      | inl less ↦ c.loop-earlier.invariant m s k low less o
      | inr more ↦ none (k - e * 256) (omega (arith, c.saturating_sub-start.ensures, low, more)) (omega (arith, high, more)) (in_row m e k more (omega (arith, high)) o)
    ]

pub returns-clause-none : goal.returns-clause-none
returns-clause-none c m k s is low high o = c.loop-earlier.invariant m s k low (omega (arith, high, c.loop-earlier-test.false)) o
