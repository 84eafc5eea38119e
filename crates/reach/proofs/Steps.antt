-- One step more of what the loops compute.
use Rattle.std.proofs.Common.{◌≡◌, ℕ, ◌+◌, true, false, cond, List, set, Some, None, sym, ap, ◌∙◌, add-one}
use Rattle.task.specs.Task.{Task, offset}
use Rattle.reach.specs.Measures.{Ops}
use Rattle.reach.specs.Layering.{and_need, conditions, made_by, value_of}
use Rattle.reach.specs.Working.{better_at, offered, acted, started}

module _ {M : Type 0} (o : Ops M) (t : Task) where
  pub conditions_some : (f : ℕ → ℕ → M) (a v x : ℕ) → t.need a v ≡ Some x → conditions o t f a (v + 1) ≡ o.join (conditions o t f a v) (f v x)
  conditions_some f a v x e = ap (conditions o t f a) (add-one v) ∙ ap (λ n. and_need o (f v) n (conditions o t f a v)) e

  pub conditions_none : (f : ℕ → ℕ → M) (a v : ℕ) → t.need a v ≡ None → conditions o t f a (v + 1) ≡ conditions o t f a v
  conditions_none f a v e = ap (conditions o t f a) (add-one v) ∙ ap (λ n. and_need o (f v) n (conditions o t f a v)) e

  pub offered_some : (a : ℕ) (y : M) (xs : List M) (v x : ℕ) → t.give a v ≡ Some x → offered o t a y xs (v + 1) ≡ set (offered o t a y xs v) (offset t.size v + x) (o.better (value_of o t (offered o t a y xs v) v x) y)
  offered_some a y xs v x e = ap (offered o t a y xs) (add-one v) ∙ ap (λ n. better_at o t y v n (offered o t a y xs v)) e

  pub offered_none : (a : ℕ) (y : M) (xs : List M) (v : ℕ) → t.give a v ≡ None → offered o t a y xs (v + 1) ≡ offered o t a y xs v
  offered_none a y xs v e = ap (offered o t a y xs) (add-one v) ∙ ap (λ n. better_at o t y v n (offered o t a y xs v)) e

  pub acted_present : (xs : List M) (a : ℕ) → t.present a ≡ true → acted o t xs (a + 1) ≡ offered o t a (made_by o t (value_of o t xs) a) (acted o t xs a) t.vars
  acted_present xs a e = ap (acted o t xs) (add-one a) ∙ ap (λ b. cond b (offered o t a (made_by o t (value_of o t xs) a) (acted o t xs a) t.vars) (acted o t xs a)) e

  pub acted_absent : (xs : List M) (a : ℕ) → t.present a ≡ false → acted o t xs (a + 1) ≡ acted o t xs a
  acted_absent xs a e = ap (acted o t xs) (add-one a) ∙ ap (λ b. cond b (offered o t a (made_by o t (value_of o t xs) a) (acted o t xs a) t.vars) (acted o t xs a)) e

  pub started_more : (xs : List M) (v : ℕ) → started o t xs (v + 1) ≡ set (started o t xs v) (offset t.size v + t.start v) o.first
  started_more xs v = ap (started o t xs) (add-one v)

  -- a loop's step at a present action: `made` of what `joined` is worth, offered to the effects
  pub acted_more : (xs before after : List M) (a : ℕ) (joined made : M) → t.present a ≡ true → before ≡ acted o t xs a → joined ≡ conditions o t (value_of o t xs) a t.vars → made ≡ o.step joined → after ≡ offered o t a made before t.vars → after ≡ acted o t xs (a + 1)
  acted_more xs before after a joined made e p q r s =
      s ∙ ap (λ ys. offered o t a made ys t.vars) p ∙ ap (λ y. offered o t a y (acted o t xs a) t.vars) (r ∙ ap o.step q) ∙ sym (acted_present xs a e)
