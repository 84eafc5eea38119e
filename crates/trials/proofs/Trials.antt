-- The trials: each answer is computed.
use Rattle.std.proofs.Common.{◌≡◌, ℕ, ◌<◌, List, [], ◌∷◌, get_or, sym, refl, ◌∙◌, subst, arith}
use Rattle.task.specs.Task.{Task, Fact, Lawful, Numbered, fact}
use Rattle.task.proofs.Numbers.{numbered_below, numbered_unique}
use Rattle.reach.specs.Relaxed.{GoalInReach, Level, LayerCount}
use Rattle.rules.specs.declared.calls.Call.{Call}
use Rattle.rules.specs.declared.calls.Answer.{Answer}
use Rattle.rules.specs.Machine.{Machine, Session, opened, with_fact, with_moves, Lowest, MissedGoal}
use Rattle.rules.specs.Machine.Turn.{goal_missed}
use Rattle.rules.specs.Machine.Session.{open_empty}
use Rattle.rules.proofs.OneSession.{sessions_answered_lem}
use Rattle.trials.specs.Papers.{task_a, task_d}
use Rattle.trials.specs.Key.{key_calls, key_answers, key_a}
use Rattle.trials.specs.Trials.{Answered, WithKey, Trial1, Trial2, Trial3, PrintedKey, Trial4, Trial5, Trial6, Trial7, Trial8, Trial9, Trial10, Trial11}
use Rattle.trials.specs.Trials.{calls_2, answers_2, calls_3, answers_3, calls_4, answers_4, calls_5, answers_5, calls_6, answers_6, calls_7, answers_7, calls_8, answers_8, calls_9, answers_9, calls_10, answers_10}
use Rattle.trials.proofs.Layers.{fact_of, numbered_of, goal_level_lem, missed_found, levels_by, closed_by, count_by}
use Rattle.trials.proofs.Rulings.{play, session_on, session_refused}
use Rattle.trials.proofs.Laws.{law_a, law_b, law_c, law_d, near_a, near_b, near_c}

abbrev levels_a : List ℕ
levels_a = 0 ∷ 1 ∷ 2 ∷ 0 ∷ 2 ∷ 0 ∷ 2 ∷ []

level_a : (n : ℕ) → n < 7 → Level task_a (fact_of task_a n) (get_or levels_a n 0)
level_a = levels_by law_a levels_a 7 refl

levels : (n : ℕ) (f : Fact) → Numbered task_a n f → Level task_a f (get_or levels_a n 0)
levels n f is =
    let l = numbered_below is in
    subst (λ g. Level task_a g (get_or levels_a n 0)) (numbered_unique (numbered_of task_a n l) is) (level_a n l)

layers : LayerCount task_a 2
layers = count_by 2 (fact 0 2) (level_a 2 (omega arith)) (closed_by law_a 2 refl)

pub trial_1_lem : Trial1
trial_1_lem = (record { all = refl; levels = levels }, layers)

-- a session of a lawful task is the only one with its calls
only_so : {t : Task} {cs : List Call} {rs : List Answer} {m : Machine} → Lawful t → Session t cs rs m → Answered t cs rs m
only_so {t} {cs} {rs} {m} law s =
    let one = sessions_answered_lem t law cs in
    let (answers, machine) = one.only rs m s in
    record { session = s; only = λ ss n other. let (p, q) = one.only ss n other in (p ∙ sym answers, q ∙ sym machine) }

-- what is computed is answered
on_empty : {t : Task} → Lawful t → GoalInReach t → (calls : List Call) (answers : List Answer) (m : Machine) → play t opened calls ≡ (answers, m) → Answered t calls answers m
on_empty law near calls answers m e = only_so law (session_on law near calls answers m open_empty e)

pub trial_2_lem : Trial2
trial_2_lem = (on_empty law_a near_a calls_2 answers_2 (with_fact opened 1) refl, refl, refl)

pub trial_3_lem : Trial3
trial_3_lem = (on_empty law_a near_a calls_3 answers_3 opened refl, (refl, refl))

pub printed_key_lem : PrintedKey
printed_key_lem = on_empty law_a near_a key_calls key_answers key_a refl

-- and so on the printed key
on_key : (calls : List Call) (answers : List Answer) (m : Machine) → play task_a key_a calls ≡ (answers, m) → WithKey calls answers m
on_key calls answers m e = only_so law_a (session_on law_a near_a calls answers m printed_key_lem.session e)

pub trial_4_lem : Trial4
trial_4_lem = (on_key calls_4 answers_4 key_a refl, refl)

pub trial_5_lem : Trial5
trial_5_lem = (on_key calls_5 answers_5 key_a refl, (refl, refl))

pub trial_6_lem : Trial6
trial_6_lem = (on_key calls_6 answers_6 key_a refl, (refl, refl))

pub trial_7_lem : Trial7
trial_7_lem = (on_key calls_7 answers_7 key_a refl, (refl, refl))

pub trial_8_lem : Trial8
trial_8_lem = (on_key calls_8 answers_8 (with_moves key_a (0 ∷ 4 ∷ 5 ∷ 3 ∷ [])) refl, (refl, refl))

pub trial_9_lem : Trial9
trial_9_lem = on_empty law_b near_b calls_9 answers_9 (with_moves opened (1 ∷ [])) refl

pub trial_10_lem : Trial10
trial_10_lem = (on_empty law_c near_c calls_10 answers_10 opened refl, goal_level_lem law_c near_c)

missed_d : Lowest (MissedGoal task_d) 1
missed_d = missed_found law_d

pub trial_11_lem : Trial11
trial_11_lem = record { each = λ m c. goal_missed missed_d; all = λ cs. only_so law_d (session_refused task_d 1 missed_d cs open_empty); number = (refl, refl) }
