-- What proposals and orderings keep.
use Rattle.std.proofs.Common.{◌≡◌, ℕ, true, ◌&&◌, eqb, List, [], sym, refl, ap, ◌∙◌, subst, inl, inr}
use Rattle.std.proofs.lemmas.Bool.{or_left}
use Rattle.task.specs.Task.{Task}
use Rattle.reach.specs.Relaxed.{GoalInReach}
use Rattle.rules.specs.declared.calls.Kind.{Kind}
use Rattle.rules.specs.declared.calls.Call.{Call}
use Rattle.rules.specs.declared.calls.Answer.{Answer}
use Rattle.rules.specs.Machine.{Machine, Session, Session.open_empty, Session.and_then, opened, same_kind}
use Rattle.driver.specs.Filling.{Leads, Leads.stays, Leads.proposes, Leads.orders}
use Rattle.driver.proofs.Turning.{proposed_left, ordered_left}

-- one after the other
pub leads_on : {t : Task} {m n p : Machine} → Leads t m n → Leads t n p → Leads t m p
leads_on a stays = a
leads_on a (proposes b turn) = proposes (leads_on a b) turn
leads_on a (orders b turn) = orders (leads_on a b) turn

-- facts stay held
pub held_grows : {t : Task} {m n : Machine} → Leads t m n → (k : ℕ) → m.held k ≡ true → n.held k ≡ true
held_grows stays k h = h
held_grows (proposes {n} {n'} {k = j} b turn) k h =
    elim (proposed_left turn) [
      | inl e ↦ subst (λ (x : Machine). x.held k ≡ true) (sym e) (held_grows b k h)
      | inr e ↦ subst (λ (x : Machine). x.held k ≡ true) (sym e.1) (or_left (n.held k) (eqb k j) (held_grows b k h))
    ]
held_grows (orders b turn) k h =
    elim (ordered_left turn) [
      | inl e ↦ subst (λ (x : Machine). x.held k ≡ true) (sym e) (held_grows b k h)
      | inr e ↦ subst (λ (x : Machine). x.held k ≡ true) (sym e.1.1) (held_grows b k h)
    ]

-- orderings stay held
pub ordered_grows : {t : Task} {m n : Machine} → Leads t m n → (κ : Kind) (e l : ℕ) → m.ordered κ e l ≡ true → n.ordered κ e l ≡ true
ordered_grows stays κ e l h = h
ordered_grows (proposes b turn) κ e l h =
    elim (proposed_left turn) [
      | inl q ↦ subst (λ (x : Machine). x.ordered κ e l ≡ true) (sym q) (ordered_grows b κ e l h)
      | inr q ↦ subst (λ (x : Machine). x.ordered κ e l ≡ true) (sym q.1) (ordered_grows b κ e l h)
    ]
ordered_grows (orders {n} {n'} {e = e'} {l = l'} b turn) κ e l h =
    elim (ordered_left turn) [
      | inl q ↦ subst (λ (x : Machine). x.ordered κ e l ≡ true) (sym q) (ordered_grows b κ e l h)
      | inr q ↦ subst (λ (x : Machine). x.ordered κ e l ≡ true) (sym q.1.1) (or_left (n.ordered κ e l) (same_kind κ q.1.0 && (eqb e e' && eqb l l')) (ordered_grows b κ e l h))
    ]

-- the moves stay
pub same_moves : {t : Task} {m n : Machine} → Leads t m n → n.moves ≡ m.moves
same_moves stays = refl
same_moves (proposes b turn) =
    elim (proposed_left turn) [
      | inl e ↦ ap (λ (x : Machine). x.moves) e ∙ same_moves b
      | inr e ↦ ap (λ (x : Machine). x.moves) e.1 ∙ same_moves b
    ]
same_moves (orders b turn) =
    elim (ordered_left turn) [
      | inl e ↦ ap (λ (x : Machine). x.moves) e ∙ same_moves b
      | inr e ↦ ap (λ (x : Machine). x.moves) e.1.1 ∙ same_moves b
    ]

-- with the goal out of reach nothing changes
pub stays_put : {t : Task} {m n : Machine} → (GoalInReach t → ⊥) → Leads t m n → n ≡ m
stays_put far stays = refl
stays_put far (proposes b turn) = elim (proposed_left turn) [ inl e ↦ e ∙ stays_put far b | inr e ↦ absurd (far e.0) ]
stays_put far (orders b turn) = elim (ordered_left turn) [ inl e ↦ e ∙ stays_put far b | inr e ↦ absurd (far e.0) ]

-- what is led to from an empty key ends a session
pub leads_session : {t : Task} {n : Machine} → Leads t opened n → (cs : List Call) × ((rs : List Answer) × Session t cs rs n)
leads_session stays = ([], ([], open_empty))
leads_session (proposes b turn) = let (cs, (rs, s)) = leads_session b in (_, (_, and_then s turn))
leads_session (orders b turn) = let (cs, (rs, s)) = leads_session b in (_, (_, and_then s turn))
