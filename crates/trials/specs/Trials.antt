-- The trials: what the rules say of the tasks that the papers mean.
use Rattle.std.specs.Prelude.{◌≡◌, ℕ, List, [], ◌∷◌, ◌++◌, map, length, slice_index}
use Rattle.task.specs.Task.{Task, Fact, Numbered, facts}
use Rattle.reach.specs.Relaxed.{Level, LayerCount}
use Rattle.rules.specs.declared.calls.Call.{Call}
use Rattle.rules.specs.declared.calls.Call.TheVariants.{Propose, Order, Step, Report}
use Rattle.rules.specs.declared.calls.Answer.{Answer}
use Rattle.rules.specs.declared.calls.Answer.TheVariants.{Done, Marked, Reported, Refused}
use Rattle.rules.specs.declared.calls.Mark.TheVariants.{Accepted, Known}
use Rattle.rules.specs.declared.calls.Refusal.{Refusal}
use Rattle.rules.specs.declared.calls.Refusal.TheVariants.{GoalOutOfReach, NoLandmark, LaterAtStart, Unordered, UnmetCondition}
use Rattle.rules.specs.declared.calls.Remainder.TheVariants.{AtLeast, DeadEnd}
use Rattle.rules.specs.Refusals.{mark_number, refusal_number, returned}
use Rattle.rules.specs.Machine.{Machine, opened, with_fact, with_moves, standing, GoalLevel, Turn, Session}
use Rattle.trials.specs.Papers.{task_a, task_b, task_c, task_d}
use Rattle.trials.specs.Key.{key_calls, key_answers, key_a}

-- The facts have these levels, in the order of their numbers.
pub record Levels (t : Task) (ns : List ℕ) : Type 0 where
  pub all : facts t ≡ length ns
  pub levels : (n : ℕ) (f : Fact) → Numbered t n f → Level t f (slice_index ns n)

-- The refusal goes by the number k, and n is returned.
abbrev pub GoesBy : Refusal → ℕ → ℕ → Type 0
GoesBy r k n = (refusal_number r ≡ k) × (returned r ≡ n)

-- The calls, on a key that was opened empty, get these answers and leave this machine, and no others.
pub record Answered (t : Task) (calls : List Call) (answers : List Answer) (m : Machine) : Type 0 where
  pub session : Session t calls answers m
  pub only : (rs : List Answer) (n : Machine) → Session t calls rs n → (rs ≡ answers) × (n ≡ m)

-- The answers to the calls on the printed key of paper A, which was made by its own calls, and the machine that is left.
abbrev pub WithKey : List Call → List Answer → Machine → Type 0
WithKey calls answers m = Answered task_a (key_calls ++ calls) (key_answers ++ answers) m

-- A: the levels of the seven facts, and two layers.
abbrev pub Trial1 : Type 0
Trial1 = Levels task_a (0 ∷ 1 ∷ 2 ∷ 0 ∷ 2 ∷ 0 ∷ 2 ∷ []) × LayerCount task_a 2

-- Fact 1 is proposed twice.
abbrev pub calls_2 : List Call
calls_2 = Propose 1 ∷ Propose 1 ∷ []

-- It is accepted, then known.
abbrev pub answers_2 : List Answer
answers_2 = Marked Accepted ∷ Marked Known ∷ []

-- A: fact 1 is accepted, answer 1, and then known, answer 2.
abbrev pub Trial2 : Type 0
Trial2 = Answered task_a calls_2 answers_2 (with_fact opened 1) × (mark_number Accepted ≡ 1) × (mark_number Known ≡ 2)

-- Fact 4 is proposed.
abbrev pub calls_3 : List Call
calls_3 = Propose 4 ∷ []

-- It is no landmark.
abbrev pub answers_3 : List Answer
answers_3 = Refused (NoLandmark 4) ∷ []

-- A: fact 4 is refused by 9.
abbrev pub Trial3 : Type 0
Trial3 = Answered task_a calls_3 answers_3 opened × GoesBy (NoLandmark 4) 9 4

-- A: the calls that print the key leave that key.
abbrev pub PrintedKey : Type 0
PrintedKey = Answered task_a key_calls key_answers key_a

-- 0 before 1, greedy-necessary.
abbrev pub calls_4 : List Call
calls_4 = Order 1 0 1 ∷ []

-- It is known.
abbrev pub answers_4 : List Answer
answers_4 = Marked Known ∷ []

-- A with the printed key: that 0 comes before 1 is known.
abbrev pub Trial4 : Type 0
Trial4 = WithKey calls_4 answers_4 key_a × (mark_number Known ≡ 2)

-- 0 before 1, necessary.
abbrev pub calls_5 : List Call
calls_5 = Order 2 0 1 ∷ []

-- Action 5 counts and does not need 0.
abbrev pub answers_5 : List Answer
answers_5 = Refused (Unordered 5) ∷ []

-- A with the printed key: 0 is not necessary before 1, refused by 12 with action 5.
abbrev pub Trial5 : Type 0
Trial5 = WithKey calls_5 answers_5 key_a × GoesBy (Unordered 5) 12 5

-- 1 before 1, greedy-necessary.
abbrev pub calls_6 : List Call
calls_6 = Order 1 1 1 ∷ []

-- Action 0 counts and does not need 1.
abbrev pub answers_6 : List Answer
answers_6 = Refused (Unordered 0) ∷ []

-- A with the printed key: 1 does not come before itself, refused by 12 with action 0.
abbrev pub Trial6 : Type 0
Trial6 = WithKey calls_6 answers_6 key_a × GoesBy (Unordered 0) 12 0

-- 1 before 5, greedy-necessary.
abbrev pub calls_7 : List Call
calls_7 = Order 1 1 5 ∷ []

-- 5 holds at the start.
abbrev pub answers_7 : List Answer
answers_7 = Refused (LaterAtStart 5) ∷ []

-- A with the printed key: nothing comes before 5, which holds at the start, refused by 11.
abbrev pub Trial7 : Type 0
Trial7 = WithKey calls_7 answers_7 key_a × GoesBy (LaterAtStart 5) 11 5

-- A sitting of four steps, after one that is not allowed, with a report at first and after each step.
abbrev pub calls_8 : List Call
calls_8 = Report ∷ Step 3 ∷ Step 0 ∷ Report ∷ Step 4 ∷ Report ∷ Step 5 ∷ Report ∷ Step 3 ∷ Report ∷ []

-- Of each report: the steps, the facts of the key that they visit, and the remainder.
abbrev pub answers_8 : List Answer
answers_8 =
    Reported (standing 0 3 (AtLeast 2)) ∷ Refused (UnmetCondition 1)
    ∷ Done ∷ Reported (standing 1 4 (AtLeast 1))
    ∷ Done ∷ Reported (standing 2 4 (AtLeast 2))
    ∷ Done ∷ Reported (standing 3 4 (AtLeast 1))
    ∷ Done ∷ Reported (standing 4 5 (AtLeast 0))
    ∷ []

-- A with the printed key: the remainder is 2, step 3 is refused by 14 with fact 1, and the steps 0, 4, 5 and 3 leave 1, 2, 1 and 0.
abbrev pub Trial8 : Type 0
Trial8 = WithKey calls_8 answers_8 (with_moves key_a (0 ∷ 4 ∷ 5 ∷ 3 ∷ [])) × GoesBy (UnmetCondition 1) 14 1

-- Action 1 is taken, then a report is asked for.
abbrev pub calls_9 : List Call
calls_9 = Step 1 ∷ Report ∷ []

-- The step is done, and a dead end is reported.
abbrev pub answers_9 : List Answer
answers_9 = Done ∷ Reported (standing 1 0 DeadEnd) ∷ []

-- B: after step 1 there is a dead end.
abbrev pub Trial9 : Type 0
Trial9 = Answered task_b calls_9 answers_9 (with_moves opened (1 ∷ []))

-- A report is asked for.
abbrev pub calls_10 : List Call
calls_10 = Report ∷ []

-- At least four steps are left.
abbrev pub answers_10 : List Answer
answers_10 = Reported (standing 0 0 (AtLeast 4)) ∷ []

-- C: the remainder is 4, though the greatest level of a goal fact is 1.
abbrev pub Trial10 : Type 0
Trial10 = Answered task_c calls_10 answers_10 opened × GoalLevel task_c 1

-- D: every call, whatever the machine, is refused by 7 with fact 1, and so is every list of calls.
pub record Trial11 : Type 0 where
  pub each : (m : Machine) (c : Call) → Turn task_d m c (Refused (GoalOutOfReach 1)) m
  pub all : (cs : List Call) → Answered task_d cs (map (λ (c : Call). Refused (GoalOutOfReach 1)) cs) opened
  pub number : GoesBy (GoalOutOfReach 1) 7 1
