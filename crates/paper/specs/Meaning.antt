-- What a paper says, record by record.
use Rattle.std.specs.Prelude.{◌≡◌, ℕ, ◌<◌, true, ◌↔◌, List, length, Some}
use Rattle.task.specs.Task.{Task, Lawful}
use Rattle.records.specs.declared.record.Record.{Record}
use Rattle.records.specs.Kinds.{of_kind, At, before, SomeRecord, SomeOfAction}
use Rattle.records.specs.Faults.{Sound}
use Rattle.paper.specs.Paper.{paper_fault, paper_task}

-- Byte 1 is v, and byte 2 is x.
abbrev pub Names : ℕ → ℕ → Record → Type 0
Names v x r = (r.one ≡ v) × (r.two ≡ x)

-- The task t is what the records say: variables and actions are counted in order, and a value is had exactly where a record names it.
pub record PaperSays (rs : List Record) (t : Task) : Type 0 where
  pub vars : t.vars ≡ length (of_kind 1 rs)
  pub size : (i : ℕ) (r : Record) → At rs i 1 r → t.size (before 1 rs i) ≡ r.one
  pub start : (i : ℕ) (r : Record) → At rs i 1 r → t.start (before 1 rs i) ≡ r.two
  pub goal : (v x : ℕ) → (t.goal v ≡ Some x) ↔ SomeRecord 2 rs (Names v x)
  pub actions : t.actions ≡ length (of_kind 3 rs)
  pub present : (a : ℕ) → a < t.actions → t.present a ≡ true
  pub need : (a v x : ℕ) → (t.need a v ≡ Some x) ↔ SomeOfAction 3 4 rs a (Names v x)
  pub give : (a v x : ℕ) → (t.give a v ≡ Some x) ↔ SomeOfAction 3 5 rs a (Names v x)

-- The task of sound records is what they say.
abbrev pub PapersSay : Type 0
PapersSay = (rs : List Record) → Sound paper_fault rs → PaperSays rs (paper_task rs)

-- The task of sound records, where there are any, is lawful.
abbrev pub PapersLawful : Type 0
PapersLawful = (rs : List Record) → 0 < length rs → Sound paper_fault rs → Lawful (paper_task rs)
