-- What one proposal or ordering does to a machine.
use Rattle.std.proofs.Common.{◌≡◌, ℕ, true, ◌&&◌, eqb, ◌⊎◌, sym, refl, ap, subst, inl, inr, arith}
use Rattle.std.proofs.lemmas.Bool.{both_ways, or_right, and_from, eq-eqb}
use Rattle.task.specs.Task.{Task, Fact}
use Rattle.task.proofs.Numbers.{numbered_below, numbered_unique}
use Rattle.reach.specs.Relaxed.{GoalInReach}
use Rattle.rules.specs.declared.calls.Kind.{Kind}
use Rattle.rules.specs.declared.calls.Kind.TheVariants.{Greedy, Necessary}
use Rattle.rules.specs.declared.calls.Call.TheVariants.{Propose, Order}
use Rattle.rules.specs.declared.calls.Answer.{Answer}
use Rattle.rules.specs.Marks.{Landmark}
use Rattle.rules.specs.Machine.{Machine, Turn, Lowest, MissedGoal, KindNumber, with_fact, with_ordering, same_kind}
use Rattle.rules.specs.Sound.{LandmarkAt, ConfirmedAt}
use Rattle.rules.proofs.OneAnswer.{kind_unique}
use Rattle.rules.proofs.Stages.{Outcome, TurnStaged, Ranged, Found, Compared, Weighed, turn_staged}

-- the machine of an outcome
after : {r s : Answer} {m n : Machine} → ◌≡◌ {A = Outcome} (r, m) (s, n) → m ≡ n
after e = ap (λ (o : Outcome). o.1) e

-- no goal fact is missed where the goal is in reach
none_missed : {t : Task} {i : ℕ} → GoalInReach t → Lowest (MissedGoal t) i → ⊥
none_missed (p, relaxed, has) low = let (g, d, goal, far) = low.holds in far (p, relaxed, has g goal)

same_kind_refl : (κ : Kind) → same_kind κ κ ≡ true
same_kind_refl Greedy = refl
same_kind_refl Necessary = refl

-- a proposal leaves the machine, or adds the fact
pub proposed_left : {t : Task} {m n : Machine} {k : ℕ} {r : Answer} → Turn t m (Propose k) r n → (n ≡ m) ⊎ (GoalInReach t × (n ≡ with_fact m k))
proposed_left {t} {m} {n} {k} {r} turn = go (turn_staged turn)
  where
    go : TurnStaged t m (Propose k) (r, n) → (n ≡ m) ⊎ (GoalInReach t × (n ≡ with_fact m k))
    go (inl (i, low, e)) = inl (after e)
    go (inr (near, inl (past, e))) = inl (after e)
    go (inr (near, inr (below, inl (held, e)))) = inl (after e)
    go (inr (near, inr (below, inr (new, (f, d, inl (mark, e)))))) = inr (near, after e)
    go (inr (near, inr (below, inr (new, (f, d, inr (none, e)))))) = inl (after e)

-- a proposed landmark is held
pub took : {t : Task} {m n : Machine} {k : ℕ} {r : Answer} → Turn t m (Propose k) r n → GoalInReach t → LandmarkAt t k → n.held k ≡ true
took {t} {m} {n} {k} {r} turn reach (f, is, lands) = go (turn_staged turn)
  where
    go : TurnStaged t m (Propose k) (r, n) → n.held k ≡ true
    go (inl (i, low, e)) = absurd (none_missed reach low)
    go (inr (near, inl (past, e))) = let z : ⊥ = omega (arith, numbered_below is) in absurd z
    go (inr (near, inr (below, inl (held, e)))) = subst (λ (x : Machine). x.held k ≡ true) (sym (after e)) held
    go (inr (near, inr (below, inr (new, (g, d, inl (mark, e)))))) = subst (λ (x : Machine). x.held k ≡ true) (sym (after e)) (or_right (m.held k) (eqb k k) (eq-eqb k k refl))
    go (inr (near, inr (below, inr (new, (g, d, inr (none, e)))))) = absurd (none (subst (Landmark t) (numbered_unique is d) lands))

-- an ordering leaves the machine, or adds the ordering
pub ordered_left : {t : Task} {m n : Machine} {k e l : ℕ} {r : Answer} → Turn t m (Order k e l) r n → (n ≡ m) ⊎ (GoalInReach t × ((κ : Kind) × (n ≡ with_ordering m κ e l)))
ordered_left {t} {m} {n} {k} {e} {l} {r} turn = go (turn_staged turn)
  where
    compared : GoalInReach t → (κ : Kind) (lf : Fact) → Compared t m κ e l lf (r, n) → (n ≡ m) ⊎ (GoalInReach t × ((κ : Kind) × (n ≡ with_ordering m κ e l)))
    compared near κ lf (inl (s, q)) = inl (after q)
    compared near κ lf (inr (s, inl (o, q))) = inl (after q)
    compared near κ lf (inr (s, inr (o, (ef, d, inl (c, q))))) = inr (near, (κ, after q))
    compared near κ lf (inr (s, inr (o, (ef, d, inr (a, low, q))))) = inl (after q)

    found : GoalInReach t → (κ : Kind) → Found t m κ e l (r, n) → (n ≡ m) ⊎ (GoalInReach t × ((κ : Kind) × (n ≡ with_ordering m κ e l)))
    found near κ (inl (h, q)) = inl (after q)
    found near κ (inr (h, inl (i, q))) = inl (after q)
    found near κ (inr (h, inr (i, (lf, d, c)))) = compared near κ lf c

    go : TurnStaged t m (Order k e l) (r, n) → (n ≡ m) ⊎ (GoalInReach t × ((κ : Kind) × (n ≡ with_ordering m κ e l)))
    go (inl (i, low, q)) = inl (after q)
    go (inr (near, inl (none, q))) = inl (after q)
    go (inr (near, inr (κ, is, inl (past, q)))) = inl (after q)
    go (inr (near, inr (κ, is, inr (x, inl (past, q))))) = inl (after q)
    go (inr (near, inr (κ, is, inr (x, inr (y, h))))) = found near κ h

-- a confirmed ordering of two facts of the key is held
pub bonded : {t : Task} {m n : Machine} {k e l : ℕ} {r : Answer} → Turn t m (Order k e l) r n → GoalInReach t → (κ : Kind) → KindNumber k κ → m.held e ≡ true → m.held l ≡ true → ConfirmedAt t κ e l → n.ordered κ e l ≡ true
bonded {t} {m} {n} {k} {e} {l} {r} turn reach κ kind he hl (ef, (lf, de, dl, out, sure)) = go (turn_staged turn)
  where
    weighed : Weighed t m κ e l lf ef (r, n) → n.ordered κ e l ≡ true
    weighed (inl (c, q)) = subst (λ (x : Machine). x.ordered κ e l ≡ true) (sym (after q)) (or_right (m.ordered κ e l) (same_kind κ κ && (eqb e e && eqb l l)) (and_from (same_kind κ κ) (eqb e e && eqb l l) (same_kind_refl κ) (and_from (eqb e e) (eqb l l) (eq-eqb e e refl) (eq-eqb l l refl))))
    weighed (inr (a, low, q)) = let (counts, lacks) = low.holds in absurd (lacks (sure a counts))

    compared : Compared t m κ e l lf (r, n) → n.ordered κ e l ≡ true
    compared (inl (s, q)) = absurd (out s)
    compared (inr (s, inl (o, q))) = subst (λ (x : Machine). x.ordered κ e l ≡ true) (sym (after q)) o
    compared (inr (s, inr (o, (f, d, w)))) = weighed (subst (λ (g : Fact). Weighed t m κ e l lf g (r, n)) (numbered_unique d de) w)

    found : Found t m κ e l (r, n) → n.ordered κ e l ≡ true
    found (inl (h, q)) = absurd (both_ways (m.held e) h he)
    found (inr (h, inl (i, q))) = absurd (both_ways (m.held l) i hl)
    found (inr (h, inr (i, (f, d, c)))) = compared (subst (λ (g : Fact). Compared t m κ e l g (r, n)) (numbered_unique d dl) c)

    ranged : Ranged t m κ e l (r, n) → n.ordered κ e l ≡ true
    ranged (inl (past, q)) = let z : ⊥ = omega (arith, numbered_below de) in absurd z
    ranged (inr (x, inl (past, q))) = let z : ⊥ = omega (arith, numbered_below dl) in absurd z
    ranged (inr (x, inr (y, h))) = found h

    go : TurnStaged t m (Order k e l) (r, n) → n.ordered κ e l ≡ true
    go (inl (i, low, q)) = absurd (none_missed reach low)
    go (inr (near, inl (none, q))) = absurd (none κ kind)
    go (inr (near, inr (κ', is, h))) = ranged (subst (λ (x : Kind). Ranged t m x e l (r, n)) (kind_unique is kind) h)
