-- Every call has one answer.
use Rattle.std.specs.Prelude.{◌≡◌, List}
use Rattle.task.specs.Task.{Task, Lawful}
use Rattle.rules.specs.declared.calls.Call.{Call}
use Rattle.rules.specs.declared.calls.Answer.{Answer}
use Rattle.rules.specs.Machine.{Machine, Turn, Session}

-- there are two things of which P holds, and no other two
pub record JustOne {A B : Type 0} (P : A → B → Type 0) : Type 0 where
  pub first : A
  pub second : B
  pub holds : P first second
  pub only : (a : A) (b : B) → P a b → (a ≡ first) × (b ≡ second)

-- no call has two answers, or leaves two machines
abbrev pub OneAnswer : Type 0
OneAnswer =
    (t : Task) (m : Machine) (c : Call) (r r' : Answer) (m₁ m₂ : Machine)
    → Turn t m c r m₁ → Turn t m c r' m₂ → (r ≡ r') × (m₁ ≡ m₂)

-- on a lawful task every call, whatever the machine, has just one answer and leaves just one machine
abbrev pub CallsAnswered : Type 0
CallsAnswered = (t : Task) → Lawful t → (m : Machine) (c : Call) → JustOne (Turn t m c)

-- and every list of calls, on a key that was opened empty, just one list of answers and one machine
abbrev pub SessionsAnswered : Type 0
SessionsAnswered = (t : Task) → Lawful t → (cs : List Call) → JustOne (Session t cs)
