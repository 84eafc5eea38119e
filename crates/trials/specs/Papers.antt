-- The papers of the trials, by their bytes, and the tasks that they mean.
use Rattle.std.specs.Prelude.{ℕ, List, [], ◌∷◌, ◌++◌}
use Rattle.task.specs.Task.{Task}
use Rattle.records.specs.Records.{records}
use Rattle.forms.specs.Reading.{Accepted}
use Rattle.paper.specs.Paper.{paper_fault, paper_task}

-- A record of a kind and two numbers, as four bytes.
abbrev pub line : ℕ → ℕ → ℕ → List ℕ
line k x y = k ∷ x ∷ y ∷ 0 ∷ []

-- The bytes of records, one after the other.
abbrev pub bytes : List (List ℕ) → List ℕ
bytes [] = []
bytes (r ∷ rs) = r ++ bytes rs

-- Paper A: three variables, the goal on the last, and six actions; two of them achieve the goal.
abbrev pub paper_a : List ℕ
paper_a =
    bytes (
    line 1 3 0 ∷ line 1 2 0 ∷ line 1 2 0 ∷ line 2 2 1
    ∷ line 3 0 0 ∷ line 4 0 0 ∷ line 5 0 1
    ∷ line 3 0 0 ∷ line 4 0 1 ∷ line 5 1 1
    ∷ line 3 0 0 ∷ line 4 0 1 ∷ line 4 1 1 ∷ line 5 2 1
    ∷ line 3 0 0 ∷ line 4 0 1 ∷ line 5 2 1
    ∷ line 3 0 0 ∷ line 4 0 1 ∷ line 5 0 2
    ∷ line 3 0 0 ∷ line 4 0 2 ∷ line 5 0 1
    ∷ [])

-- Paper B: one variable, which leaves its start for the goal or for another value, and stays there.
abbrev pub paper_b : List ℕ
paper_b =
    bytes (
    line 1 3 0 ∷ line 2 0 1
    ∷ line 3 0 0 ∷ line 4 0 0 ∷ line 5 0 1
    ∷ line 3 0 0 ∷ line 4 0 0 ∷ line 5 0 2
    ∷ [])

-- Paper C: four variables with a goal each, and for each goal an action without conditions.
abbrev pub paper_c : List ℕ
paper_c =
    bytes (
    line 1 2 0 ∷ line 1 2 0 ∷ line 1 2 0 ∷ line 1 2 0
    ∷ line 2 0 1 ∷ line 2 1 1 ∷ line 2 2 1 ∷ line 2 3 1
    ∷ line 3 0 0 ∷ line 5 0 1
    ∷ line 3 0 0 ∷ line 5 1 1
    ∷ line 3 0 0 ∷ line 5 2 1
    ∷ line 3 0 0 ∷ line 5 3 1
    ∷ [])

-- Paper D: paper B without its first action.
abbrev pub paper_d : List ℕ
paper_d =
    bytes (
    line 1 3 0 ∷ line 2 0 1
    ∷ line 3 0 0 ∷ line 4 0 0 ∷ line 5 0 2
    ∷ [])

-- The task of paper A.
abbrev pub task_a : Task
task_a = paper_task (records paper_a)

-- The task of paper B.
abbrev pub task_b : Task
task_b = paper_task (records paper_b)

-- The task of paper C.
abbrev pub task_c : Task
task_c = paper_task (records paper_c)

-- The task of paper D.
abbrev pub task_d : Task
task_d = paper_task (records paper_d)

-- The four papers are accepted, and mean these tasks.
pub record PapersAccepted : Type 0 where
  pub a : Accepted paper_fault paper_task paper_a task_a
  pub b : Accepted paper_fault paper_task paper_b task_b
  pub c : Accepted paper_fault paper_task paper_c task_c
  pub d : Accepted paper_fault paper_task paper_d task_d
