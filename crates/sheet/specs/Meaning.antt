-- What a sheet says, record by record.
use Rattle.std.specs.Prelude.{◌≡◌, ℕ, ◌<◌, true, ◌⊎◌, ◌↔◌, List, length, Some}
use Rattle.task.specs.Task.{Task, Lawful}
use Rattle.records.specs.declared.record.Record.{Record}
use Rattle.records.specs.Kinds.{of_kind, At, before, SomeRecord, SomeOfAction}
use Rattle.records.specs.Faults.{Sound}
use Rattle.sheet.specs.Sheet.{sheet_fault, sheet_task}

-- Byte 1 is v.
abbrev pub Names : ℕ → Record → Type 0
Names v r = r.one ≡ v

-- The action a adds the fact v.
abbrev pub Adds : List Record → ℕ → ℕ → Type 0
Adds rs a v = SomeOfAction 8 10 rs a (Names v)

-- The action a deletes the fact v.
abbrev pub Deletes : List Record → ℕ → ℕ → Type 0
Deletes rs a v = SomeOfAction 8 11 rs a (Names v)

-- The task t is what the records say: facts and actions are counted in order, a goal or condition is that its fact is present, and an add beats a delete.
pub record SheetSays (rs : List Record) (t : Task) : Type 0 where
  pub vars : t.vars ≡ length (of_kind 6 rs)
  pub size : (v : ℕ) → v < t.vars → t.size v ≡ 2
  pub start : (i : ℕ) (r : Record) → At rs i 6 r → t.start (before 6 rs i) ≡ r.one
  pub goal : (v x : ℕ) → (t.goal v ≡ Some x) ↔ ((x ≡ 1) × SomeRecord 7 rs (Names v))
  pub actions : t.actions ≡ length (of_kind 8 rs)
  pub present : (a : ℕ) → a < t.actions → t.present a ≡ true
  pub need : (a v x : ℕ) → (t.need a v ≡ Some x) ↔ ((x ≡ 1) × SomeOfAction 8 9 rs a (Names v))
  pub give : (a v x : ℕ) → (t.give a v ≡ Some x) ↔ (((x ≡ 1) × Adds rs a v) ⊎ ((x ≡ 0) × Deletes rs a v × (Adds rs a v → ⊥)))

-- The task of sound records is what they say.
abbrev pub SheetsSay : Type 0
SheetsSay = (rs : List Record) → Sound sheet_fault rs → SheetSays rs (sheet_task rs)

-- The task of sound records, where there are any, is lawful.
abbrev pub SheetsLawful : Type 0
SheetsLawful = (rs : List Record) → 0 < length rs → Sound sheet_fault rs → Lawful (sheet_task rs)
