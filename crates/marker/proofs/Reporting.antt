-- What a report says of the machine that a marker shows.
use Rattle.std.proofs.Common.{◌≡◌, ℕ, ◌<◌, true, false, length, None, sym, ◌∙◌, subst, inl, inr}
use Rattle.std.proofs.lemmas.Bool.{cases_Bool, both_ways}
use Rattle.task.specs.Task.{Task, Fact, Numbered, facts}
use Rattle.task.specs.Paths.{Holds, restarted}
use Rattle.task.proofs.Numbers.{numbered}
use Rattle.reach.specs.Relaxed.{GoalInReach}
use Rattle.rules.specs.declared.calls.Call.TheVariants.{Report}
use Rattle.rules.specs.declared.calls.Answer.TheVariants.{Reported}
use Rattle.rules.specs.declared.calls.Remainder.{Remainder}
use Rattle.rules.specs.declared.calls.Standing.{Standing}
use Rattle.rules.specs.declared.calls.Remainder.TheVariants.{AtLeast, DeadEnd}
use Rattle.rules.specs.Machine.{Machine, Turn, Turn.ruled, Count, Visited, Owed, GoalLevel, standing}
use Rattle.rules.specs.Machine.Ruled.{report_dead, report_standing}
use Rattle.judging.specs.Counted.{VisitedIn, OwedIn, LeftIn}
use Rattle.judging.specs.FactSets.{has}
use Rattle.judging.proofs.Sums.{count_as}
use Rattle.marker.specs.declared.markers.Marker.{Marker}
use Rattle.marker.specs.Shows.{Shows}
use Rattle.marker.proofs.Turns.{Next, near}
use Rattle.marker.proofs.Walks.{at_position}

module _ {S : Type 0} {t : Task} {k : Marker S} {m : Machine} (s : Shows t k m) where
  visited_count : {c : ℕ} → Count (VisitedIn k.held k.sitting) (facts t) c → Count (Visited t m) (facts t) c
  visited_count = count_as to (λ n l (h, (f, num, v)). (s.held n ∙ h, (s.sitting.visited n f num).1 v))
    where
      to : (n : ℕ) → n < facts t → VisitedIn k.held k.sitting n → Visited t m n
      to n l (h, v) = let (f, num) = numbered t n l in (sym (s.held n) ∙ h, (f, num, (s.sitting.visited n f num).0 v))

  owed_count : {c : ℕ} → Count (OwedIn t k.held k.sitting) (facts t) c → Count (Owed t m) (facts t) c
  owed_count = count_as to from
    where
      to : (n : ℕ) → n < facts t → OwedIn t k.held k.sitting n → Owed t m n
      to n l (f, num, inl (h, out)) = (f, num, inl (sym (s.held n) ∙ h, λ v. both_ways _ out ((s.sitting.visited n f num).1 v)))
      to n l (f, num, inr (goal, out)) = (f, num, inr (goal, subst (λ x. Holds t x f → ⊥) (at_position s) out))

      unseen : (n : ℕ) (f : Fact) → Numbered t n f → (has k.sitting.visited n ≡ true → ⊥) → has k.sitting.visited n ≡ false
      unseen n f num no-visit = elim (cases_Bool (has k.sitting.visited n)) [ inl e ↦ absurd (no-visit e) | inr e ↦ e ]

      from : (n : ℕ) → n < facts t → Owed t m n → OwedIn t k.held k.sitting n
      from n l (f, num, inl (h, out)) = (f, num, inl (s.held n ∙ h, unseen n f num (λ e. out ((s.sitting.visited n f num).0 e))))
      from n l (f, num, inr (goal, out)) = (f, num, inr (goal, subst (λ x. Holds t x f → ⊥) (sym (at_position s)) out))

  -- a report, by what is left
  left_turn : (c : ℕ) (r : Remainder) → k.missed ≡ None → Count (VisitedIn k.held k.sitting) (facts t) c → LeftIn t k.held k.sitting r → Next t k m Report (Reported (standing k.sitting.steps c r))
  left_turn c DeadEnd is count far = (
    m,
    subst (λ n. Turn t m Report (Reported (standing n c DeadEnd)) m) (sym s.sitting.steps) (ruled (near s is) (report_dead (visited_count count) (subst (λ x. GoalInReach (restarted t x) → ⊥) (at_position s) far))),
    s,
  )
  left_turn c (AtLeast n) is count left = (
    m,
    subst (λ i. Turn t m Report (Reported (standing i c (AtLeast n))) m) (sym s.sitting.steps)
        (subst (λ r. Turn t m Report (Reported (standing (length m.moves) c (AtLeast r))) m) (sym left.is)
        (ruled (near s is) (report_standing (visited_count count) (subst (λ x. GoalInReach (restarted t x)) (at_position s) left.goal.near) (owed_count left.owes) left.most (subst (λ x. GoalLevel (restarted t x) left.level) (at_position s) left.goal.level)))),
    s,
  )

  pub report_turn : (r : Standing) → k.missed ≡ None → r.steps ≡ k.sitting.steps → Count (VisitedIn k.held k.sitting) (facts t) r.visited → LeftIn t k.held k.sitting r.remainder → Next t k m Report (Reported r)
  report_turn r is steps visited left =
      let same : standing k.sitting.steps r.visited r.remainder ≡ r = λ i. record { steps = sym steps i; visited = r.visited; remainder = r.remainder } in
      subst (λ x. Next t k m Report (Reported x)) same (left_turn r.visited r.remainder is visited left)
