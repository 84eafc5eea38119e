-- What `begin` and `step` do to the machine that a marker shows.
use Rattle.std.proofs.Common.{◌≡◌, ℕ, ◌<◌, ◌≤◌, true, false, List, [], ◌∷◌, ◌++◌, None, sym, refl, ap, ◌∙◌, subst, arith, MatchOption}
use mathlib.Core.Path.{fun_ext}
use Rattle.task.specs.Task.{Task}
use Rattle.reach.specs.Built.{ReachBuilt}
use Rattle.reach.specs.Relaxed.{GoalInReach}
use Rattle.rules.specs.declared.calls.Kind.{Kind}
use Rattle.rules.specs.declared.calls.Call.TheVariants.{Begin, Step}
use Rattle.rules.specs.declared.calls.Answer.TheVariants.{Done, Refused}
use Rattle.rules.specs.declared.calls.Refusal.TheVariants.{NoAction, TooManySteps, UnmetCondition}
use Rattle.rules.specs.Machine.{Machine, Turn.ruled, Lowest, Unmet, MissedGoal, opened, position, with_moves}
use Rattle.rules.specs.Machine.Ruled.{begin_done, step_absent, step_full, step_unmet, step_done}
use Rattle.judging.specs.FactSets.{has}
use Rattle.judging.specs.Position.{Met, state_of}
use Rattle.judging.specs.Sittings.{SitsAfter}
use Rattle.marker.specs.declared.markers.Marker.{Marker}
use Rattle.marker.specs.Ordered.{ordered}
use Rattle.marker.specs.Shows.{Shows}
use Rattle.marker.proofs.Turns.{Next, near}

module _ {S : Type 0} {t : Task} {before : Marker S} {m : Machine} (s : Shows t before m) where
  -- the state of the sitting is the position
  pub at_position : state_of before.sitting.position ≡ position t m
  at_position = fun_ext s.sitting.state

  -- the same key with another sitting
  sits : (after_it : Marker S) (moves : List ℕ) → SitsAfter t moves after_it.sitting → after_it.held ≡ before.held → after_it.orderings ≡ before.orderings → after_it.reach ≡ before.reach → after_it.missed ≡ before.missed → Shows t after_it (with_moves m moves)
  sits after_it moves sitting held orderings reach missed = record {
    held = λ k. ap (λ x. has x k) held ∙ s.held k;
    ordered = λ κ e l. ap (λ o. ordered o κ e l) orderings ∙ s.ordered κ e l;
    outside = s.outside;
    sitting = sitting;
    reach = rw reach s.reach;
    missed = subst (λ o. MatchOption o (GoalInReach t) (Lowest (MissedGoal t))) (sym missed) s.missed;
  }

  pub begin_turn : (after_it : Marker S) → before.missed ≡ None → SitsAfter t [] after_it.sitting → after_it.held ≡ before.held → after_it.orderings ≡ before.orderings → after_it.reach ≡ before.reach → after_it.missed ≡ before.missed
      → Next t after_it m Begin Done
  begin_turn after_it is sitting held orderings reach missed = (with_moves m [], ruled (near s is) begin_done, sits after_it [] sitting held orderings reach missed)

  pub step_none : (a : ℕ) → before.missed ≡ None → t.present a ≡ false → Next t before m (Step a) (Refused (NoAction a))
  step_none a is gone = (m, ruled (near s is) (step_absent gone), s)

  pub step_many : (a : ℕ) → before.missed ≡ None → t.present a ≡ true → 65535 ≤ before.sitting.steps → Next t before m (Step a) (Refused (TooManySteps a))
  step_many a is here many = (m, ruled (near s is) (step_full here (omega (arith, s.sitting.steps))), s)

  pub step_barred : (a n : ℕ) → before.missed ≡ None → t.present a ≡ true → before.sitting.steps < 65535 → Lowest (Unmet t (state_of before.sitting.position) a) n → Next t before m (Step a) (Refused (UnmetCondition n))
  step_barred a n is here few low = (m, ruled (near s is) (step_unmet here (omega (arith, s.sitting.steps)) (subst (λ x. Lowest (Unmet t x a) n) at_position low)), s)

  pub step_turn : (after_it : Marker S) (a : ℕ) → before.missed ≡ None → t.present a ≡ true → before.sitting.steps < 65535 → Met t (state_of before.sitting.position) a
      → ((moves : List ℕ) → SitsAfter t moves before.sitting → SitsAfter t (moves ++ a ∷ []) after_it.sitting)
      → after_it.held ≡ before.held → after_it.orderings ≡ before.orderings → after_it.reach ≡ before.reach → after_it.missed ≡ before.missed → Next t after_it m (Step a) Done
  step_turn after_it a is here few met more held orderings reach missed = (
    with_moves m (m.moves ++ a ∷ []),
    ruled (near s is) (step_done (omega (arith, s.sitting.steps)) (record { present = here; met = subst (λ x. Met t x a) at_position met })),
    sits after_it (m.moves ++ a ∷ []) (more m.moves s.sitting) held orderings reach missed,
  )

pub shows_opened : {S : Type 0} (t : Task) (k : Marker S) → ((n : ℕ) → has k.held n ≡ false) → ((κ : Kind) (e l : ℕ) → ordered k.orderings κ e l ≡ false) → SitsAfter t [] k.sitting → ReachBuilt t k.reach.table
    → MatchOption k.missed (GoalInReach t) (Lowest (MissedGoal t)) → Shows t k opened
shows_opened t k held orderings sitting reach missed = record {
  held = held;
  ordered = orderings;
  outside = λ κ e l past. refl;
  sitting = sitting;
  reach = reach;
  missed = missed;
}
