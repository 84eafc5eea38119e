-- What a proposal does to the machine that a marker shows.
use Rattle.std.proofs.Common.{◌≡◌, ℕ, ◌<◌, ◌≤◌, true, false, ◌||◌, eqb, Some, None, Option, Err, Result, sym, ap, ◌∙◌, subst, inl, inr, MatchOption}
use Rattle.std.proofs.lemmas.Bool.{cases_lt}
use Rattle.std.specs.Option.{ok_or}
use Rattle.task.specs.Task.{Task, Fact, Numbered, facts}
use Rattle.task.specs.Facts.{Exactly}
use Rattle.task.proofs.Numbers.{numbered}
use Rattle.task.proofs.Options.{no_some}
use Rattle.reach.specs.Relaxed.{GoalInReach}
use Rattle.rules.specs.Marks.{Landmark}
use Rattle.rules.specs.declared.calls.Call.{Call}
use Rattle.rules.specs.declared.calls.Call.TheVariants.{Propose}
use Rattle.rules.specs.declared.calls.Answer.{Answer}
use Rattle.rules.specs.declared.calls.Answer.TheVariants.{Marked, Refused}
use Rattle.rules.specs.declared.calls.Mark.TheVariants.{Accepted, Known}
use Rattle.rules.specs.declared.calls.Refusal.{Refusal}
use Rattle.rules.specs.declared.calls.Refusal.TheVariants.{GoalOutOfReach, NoSuch, NoLandmark}
use Rattle.rules.specs.Machine.{Machine, Turn, Turn.goal_missed, Turn.ruled, Lowest, MissedGoal, with_fact}
use Rattle.rules.specs.Machine.Ruled.{propose_no_fact, propose_known, propose_confirmed, propose_rejected}
use Rattle.judging.specs.FactSets.{has}
use Rattle.judging.specs.Sittings.{SitsAfter}
use Rattle.marker.specs.declared.markers.Marker.{Marker}
use Rattle.marker.specs.Ordered.{ordered}
use Rattle.marker.specs.Shows.{Shows}

-- the machine after a call
abbrev pub Next : {S : Type 0} → Task → Marker S → Machine → Call → Answer → Type 0
Next t after m c r = (n : Machine) × Turn t m c r n × Shows t after n

-- a number that no fact has
pub no_number : {t : Task} {n : ℕ} {r : Option Fact} → r ≡ None → Exactly (Numbered t n) r → facts t ≤ n
no_number {t} {n} is e = elim (cases_lt n (facts t)) [ inl l ↦ (let f = numbered t n l in absurd (no_some f.0 (sym is ∙ e.found f.0 f.1))) | inr past ↦ past ]

-- a lookup that found nothing is refused as was said
pub refused_as : {A : Type 0} (o : Option A) (n e : Refusal) → o ≡ None → ◌≡◌ {A = Result A Refusal} (Err e) (ok_or o n) → e ≡ n
refused_as None n e is v = cc
refused_as (Some x) n e is v = absurd (no_some x (sym is))

-- a marker with the same parts shows the same machine
pub shows_as : {S : Type 0} {t : Task} {m : Machine} {one other : Marker S} → other.held ≡ one.held → other.orderings ≡ one.orderings → other.sitting ≡ one.sitting → other.reach ≡ one.reach → other.missed ≡ one.missed
    → Shows t one m → Shows t other m
shows_as {t} {m} held orderings sitting reach missed s = record {
  held = λ k. ap (λ x. has x k) held ∙ s.held k;
  ordered = λ κ e l. ap (λ o. ordered o κ e l) orderings ∙ s.ordered κ e l;
  outside = s.outside;
  sitting = subst (SitsAfter t m.moves) (sym sitting) s.sitting;
  reach = rw reach s.reach;
  missed = subst (λ o. MatchOption o (GoalInReach t) (Lowest (MissedGoal t))) (sym missed) s.missed;
}

pub next_as : {S : Type 0} {t : Task} {m : Machine} {c : Call} {r : Answer} {one other : Marker S} → other.held ≡ one.held → other.orderings ≡ one.orderings → other.sitting ≡ one.sitting → other.reach ≡ one.reach → other.missed ≡ one.missed
    → Next t one m c r → Next t other m c r
next_as held orderings sitting reach missed (n, turn, s) = (n, turn, shows_as held orderings sitting reach missed s)

module _ {S : Type 0} {t : Task} {before : Marker S} {m : Machine} (s : Shows t before m) where
  -- a goal fact out of reach, or none
  pub missed_turn : (c : Call) (e : Refusal) → (n : ℕ) × (before.missed ≡ Some n) × (e ≡ GoalOutOfReach n) → Next t before m c (Refused e)
  missed_turn c e (n, is, same) =
      subst (λ r. Next t before m c (Refused r)) (sym same) (m, goal_missed (subst (λ o. MatchOption o (GoalInReach t) (Lowest (MissedGoal t))) is s.missed), s)

  pub near : before.missed ≡ None → GoalInReach t
  near is = subst (λ o. MatchOption o (GoalInReach t) (Lowest (MissedGoal t))) is s.missed

  pub propose_past : (n : ℕ) → before.missed ≡ None → facts t ≤ n → Next t before m (Propose n) (Refused (NoSuch n))
  propose_past n is past = (m, ruled (near is) (propose_no_fact past), s)

  pub propose_there : (n : ℕ) → before.missed ≡ None → n < facts t → has before.held n ≡ true → Next t before m (Propose n) (Marked Known)
  propose_there n is below there = (m, ruled (near is) (propose_known below (sym (s.held n) ∙ there)), s)

  pub propose_out : (n : ℕ) (f : Fact) → before.missed ≡ None → Numbered t n f → has before.held n ≡ false → (Landmark t f → ⊥) → Next t before m (Propose n) (Refused (NoLandmark n))
  propose_out n f is at new none = (m, ruled (near is) (propose_rejected at (sym (s.held n) ∙ new) none), s)

  pub propose_taken : (after : Marker S) (n : ℕ) (f : Fact) → before.missed ≡ None → Numbered t n f → has before.held n ≡ false → Landmark t f
      → ((k : ℕ) → has after.held k ≡ (has before.held k || eqb k n)) → after.orderings ≡ before.orderings → after.sitting ≡ before.sitting → after.reach ≡ before.reach → after.missed ≡ before.missed
      → Next t after m (Propose n) (Marked Accepted)
  propose_taken after n f is at new mark more orderings sitting reach missed = (
    with_fact m n,
    ruled (near is) (propose_confirmed at (sym (s.held n) ∙ new) mark),
    record {
      held = λ k. more k ∙ ap (λ b. b || eqb k n) (s.held k);
      ordered = λ κ e l. ap (λ o. ordered o κ e l) orderings ∙ s.ordered κ e l;
      outside = s.outside;
      sitting = subst (SitsAfter t m.moves) (sym sitting) s.sitting;
      reach = rw reach s.reach;
      missed = subst (λ o. MatchOption o (GoalInReach t) (Lowest (MissedGoal t))) (sym missed) s.missed;
    },
  )
