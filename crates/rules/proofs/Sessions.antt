-- What every session keeps.
use Rattle.std.proofs.Common.{◌≡◌, ℕ, true, false, ◌&&◌, ◌||◌, eqb, List, [], ◌∷◌, sym, refl, subst, inl, inr}
use Rattle.std.proofs.lemmas.Bool.{or_cases, or_left, and_parts, eqb-true, both_ways}
use Rattle.task.specs.Task.{Task}
use Rattle.task.proofs.Running.{runs_++}
use Rattle.rules.specs.declared.calls.Kind.{Kind}
use Rattle.rules.specs.declared.calls.Kind.TheVariants.{Greedy, Necessary}
use Rattle.rules.specs.declared.calls.Call.{Call}
use Rattle.rules.specs.declared.calls.Answer.{Answer}
use Rattle.rules.specs.Machine.{Machine, Ruled, Turn, Session, opened, same_kind, with_fact, with_ordering}
use Rattle.rules.specs.Sound.{LandmarkAt, ConfirmedAt, Kept}
use Rattle.rules.specs.Machine.Ruled.{propose_no_fact, propose_known, propose_confirmed, propose_rejected}
use Rattle.rules.specs.Machine.Ruled.{order_no_kind, order_no_earlier, order_no_later, order_earlier_out, order_later_out, order_start, order_known, order_confirmed, order_rejected}
use Rattle.rules.specs.Machine.Ruled.{begin_done, step_absent, step_full, step_unmet, step_done, report_dead, report_standing}
use Rattle.rules.specs.Machine.Turn.{goal_missed, ruled}
use Rattle.rules.specs.Machine.Session.{open_empty, and_then}

-- the test of two kinds
same_kind_true : (k j : Kind) → same_kind k j ≡ true → k ≡ j
same_kind_true Greedy Greedy e = refl
same_kind_true Greedy Necessary e = absurd (both_ways false refl e)
same_kind_true Necessary Greedy e = absurd (both_ways false refl e)
same_kind_true Necessary Necessary e = refl

-- an empty key
kept_opened : (t : Task) → Kept t opened
kept_opened t = record { landmarks = λ n e. absurd (both_ways false refl e); orderings = λ k e l h. absurd (both_ways false refl h); ends = λ k e l h. absurd (both_ways false refl h); path = tt }

-- a landmark is added
kept_fact : (t : Task) (m : Machine) (n : ℕ) → Kept t m → LandmarkAt t n → Kept t (with_fact m n)
kept_fact t m n kept mark = record { landmarks = more; orderings = kept.orderings; ends = λ k e l h. let (a, b) = kept.ends k e l h in (still e a, still l b); path = kept.path }
  where
    still : (k : ℕ) → m.held k ≡ true → (m.held k || eqb k n) ≡ true
    still k = or_left (m.held k) (eqb k n)

    more : (k : ℕ) → (m.held k || eqb k n) ≡ true → LandmarkAt t k
    more k e = elim (or_cases (m.held k) (eqb k n) e) [
      | inl old ↦ kept.landmarks k old
      | inr new ↦ subst (LandmarkAt t) (sym (eqb-true k n new)) mark
    ]

-- a confirmed ordering is added, of two facts of the key
kept_ordering : (t : Task) (m : Machine) (k : Kind) (e l : ℕ) → Kept t m → ConfirmedAt t k e l → (m.held e ≡ true) × (m.held l ≡ true) → Kept t (with_ordering m k e l)
kept_ordering t m k e l kept bond both = record { landmarks = kept.landmarks; orderings = λ k' e' l' h. (more k' e' l' h).0; ends = λ k' e' l' h. (more k' e' l' h).1; path = kept.path }
  where
    moved : (k' : Kind) (e' l' : ℕ) → k' ≡ k → e' ≡ e → l' ≡ l → ConfirmedAt t k' e' l' × ((m.held e' ≡ true) × (m.held l' ≡ true))
    moved k' e' l' pk pe pl = rw (pk, pe, pl) (bond, both)

    more : (k' : Kind) (e' l' : ℕ) → (m.ordered k' e' l' || (same_kind k' k && (eqb e' e && eqb l' l))) ≡ true → ConfirmedAt t k' e' l' × ((m.held e' ≡ true) × (m.held l' ≡ true))
    more k' e' l' h = elim (or_cases (m.ordered k' e' l') (same_kind k' k && (eqb e' e && eqb l' l)) h) [
      | inl old ↦ (kept.orderings k' e' l' old, kept.ends k' e' l' old)
      | inr new ↦
          let a = and_parts (same_kind k' k) (eqb e' e && eqb l' l) new in
          let b = and_parts (eqb e' e) (eqb l' l) a.1 in
          moved k' e' l' (same_kind_true k' k a.0) (eqb-true e' e b.0) (eqb-true l' l b.1)
    ]

-- a call on a task whose goal is in reach keeps the invariant
kept_ruled : (t : Task) (m : Machine) {c : Call} {r : Answer} {m' : Machine} → Kept t m → Ruled t m c r m' → Kept t m'
kept_ruled t m kept (propose_no_fact h) = kept
kept_ruled t m kept (propose_known h e) = kept
kept_ruled t m kept (propose_confirmed {n} {f} is e c) = kept_fact t m n kept (f, is, c)
kept_ruled t m kept (propose_rejected is e c) = kept
kept_ruled t m kept (order_no_kind h) = kept
kept_ruled t m kept (order_no_earlier k h) = kept
kept_ruled t m kept (order_no_later k h g) = kept
kept_ruled t m kept (order_earlier_out k h g e) = kept
kept_ruled t m kept (order_later_out k h g e f) = kept
kept_ruled t m kept (order_start k h e f is s) = kept
kept_ruled t m kept (order_known k h e f is s o) = kept
kept_ruled t m kept (order_confirmed {e} {l} {κ} {ef} {lf} k he hl ie il s o c) = kept_ordering t m κ e l kept (ef, (lf, ie, il, s, c)) (he, hl)
kept_ruled t m kept (order_rejected k he hl ie il s o c) = kept
kept_ruled t m kept begin_done = record { landmarks = kept.landmarks; orderings = kept.orderings; ends = kept.ends; path = tt }
kept_ruled t m kept (step_absent h) = kept
kept_ruled t m kept (step_full h g) = kept
kept_ruled t m kept (step_unmet h g u) = kept
kept_ruled t m kept (step_done {a} h allowed) = record { landmarks = kept.landmarks; orderings = kept.orderings; ends = kept.ends; path = runs_++ t t.start m.moves (a ∷ []) kept.path (allowed, tt) }
kept_ruled t m kept (report_dead h g) = kept
kept_ruled t m kept (report_standing h g o w l) = kept

-- every call keeps the invariant
kept_turn : (t : Task) (m : Machine) {c : Call} {r : Answer} {m' : Machine} → Kept t m → Turn t m c r m' → Kept t m'
kept_turn t m kept (goal_missed l) = kept
kept_turn t m kept (ruled g r) = kept_ruled t m kept r

-- every session keeps the invariant
pub session_kept : (t : Task) {cs : List Call} {rs : List Answer} {m : Machine} → Session t cs rs m → Kept t m
session_kept t open_empty = kept_opened t
session_kept t (and_then {m} s turn) = kept_turn t m (session_kept t s) turn
