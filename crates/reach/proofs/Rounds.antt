-- One round of the builder.
use Rattle.std.proofs.Common.{◌≡◌, ℕ, suc, ◌+◌, ◌*◌, ◌<◌, ◌≤◌, eqb, List, length, get_or, sum_by, sym, ap, ◌∙◌, subst, inl, inr, add-one, arith}
use Rattle.std.specs.List.{AllByRecursion as All}
use Rattle.std.proofs.ByRecursion.{All-from_get_or, sum_by_le}
use Rattle.std.proofs.lemmas.Bool.{cases_eq, cases_lt, cond_both}
use Rattle.task.specs.Task.{Task, Lawful}
use Rattle.reach.specs.Measures.{Ops, Laws}
use Rattle.reach.specs.Layering.{first_value, next, layer, Closed}
use Rattle.task.proofs.Numbers.{number_of}
use Rattle.reach.proofs.FactValues.{length_layer, getD_tabulated, next_falls}

module _ {M : Type 0} (o : Ops M) (laws : Laws o) {t : Task} (lawful : Lawful t) where
  first_rank : (v x : ℕ) → o.rank (first_value o t v x) ≤ 65535
  first_rank v x = cond_both (eqb (t.start v) x) o.first o.none (λ y. o.rank y ≤ 65535) (λ _. laws.first_proper) (λ _. laws.none_proper)

  -- the ranks of the first layer are bounded, and so is the number of rounds
  pub first_ranks : sum_by o.rank (layer o t 0) ≤ 256 * 65535
  first_ranks =
      let xs = layer o t 0 in
      let each : All (λ y. o.rank y ≤ 65535) xs = All-from_get_or (λ y. o.rank y ≤ 65535) xs o.none
      (λ k h.
      let p = number_of t.size t.vars k (omega (arith, length_layer o lawful 0)) in
      let at : get_or xs k o.none ≡ first_value o t p.0 p.1 = ap (λ m. get_or xs m o.none) p.4 ∙ getD_tabulated t.size (first_value o t) t.vars p.0 p.1 o.none p.2 p.3 in
      omega (arith, ap o.rank at, first_rank p.0 p.1)) in
      omega (arith, sum_by_le o.rank 65535 xs each, length_layer o lawful 0, lawful.few_facts)

  -- the values of the layer n, the next, and the copy of the next, where the next differs
  module _ (n : ℕ) (values after : List M) (was : values ≡ layer o t n) (is : after ≡ next o t values) where
    -- the copy is the next layer
    pub round_layer : after ≡ layer o t (n + 1)
    round_layer = is ∙ ap (next o t) was ∙ sym (ap (layer o t) (add-one n))

    -- the ranks fall
    pub round_falls : (values ≡ after → ⊥) → sum_by o.rank after < sum_by o.rank values
    round_falls differs =
        elim (next_falls o laws t values (ap length was ∙ length_layer o lawful n)) [
          | inl e ↦ absurd (differs (sym (is ∙ e)))
          | inr l ↦ omega (arith, ap (sum_by o.rank) is)
        ]

    -- no layer so far equals its next
    pub round_least : (values ≡ after → ⊥) → ((m : ℕ) → m < n → layer o t (suc m) ≡ layer o t m → ⊥) → (m : ℕ) → m < n + 1 → layer o t (suc m) ≡ layer o t m → ⊥
    round_least differs before m h e =
        elim (cases_eq m n) [
          | inl q ↦ differs (was ∙ sym (subst (λ k. layer o t (suc k) ≡ layer o t k) q e) ∙ ap (next o t) (sym was) ∙ sym is)
          | inr ne ↦ before m (omega arith) e
        ]

    -- a round that changes nothing is the last
    pub round_closed : values ≡ after → ((m : ℕ) → m < n → layer o t (suc m) ≡ layer o t m → ⊥) → Closed o t n
    round_closed same before = record {
      same = ap (next o t) (sym was) ∙ sym is ∙ sym same ∙ was;
      least = λ m e. elim (cases_lt m n) [ inl l ↦ absurd (before m l e) | inr g ↦ g ];
    }
