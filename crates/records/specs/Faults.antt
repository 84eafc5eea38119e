-- Which record is refused, and why.
use Rattle.std.specs.Prelude.{◌≡◌, ℕ, ◌<◌, ◌⊎◌, List, length, take, Some, None, Option, slice_index_or}
use Rattle.records.specs.declared.record.Record.{Record}
use Rattle.records.specs.declared.fault.Ground.{Ground}
use Rattle.records.specs.Records.{no_record}

-- A form says what is wrong with a record, if anything, after the records before it.
abbrev pub Form : Type 0
Form = List Record → Record → Option Ground

-- What is wrong with record i.
abbrev pub fault_at : Form → List Record → ℕ → Option Ground
fault_at fault rs i = fault (take i rs) (slice_index_or rs i no_record)

-- No record has a fault.
abbrev pub Sound : Form → List Record → Type 0
Sound fault rs = (i : ℕ) → i < length rs → fault_at fault rs i ≡ None

-- Record i is the first faulty one, on the ground g.
pub record FirstFault (fault : Form) (rs : List Record) (i : ℕ) (g : Ground) : Type 0 where
  pub within : i < length rs
  pub faulty : fault_at fault rs i ≡ Some g
  pub first : (j : ℕ) → j < i → fault_at fault rs j ≡ None

-- Records are sound or have a first fault, never both, and no two first faults.
pub record OneVerdict (fault : Form) (rs : List Record) : Type 0 where
  pub some : Sound fault rs ⊎ ((i : ℕ) × (g : Ground) × FirstFault fault rs i g)
  pub not_both : Sound fault rs → (i : ℕ) (g : Ground) → FirstFault fault rs i g → ⊥
  pub one : (i j : ℕ) (g h : Ground) → FirstFault fault rs i g → FirstFault fault rs j h → (i ≡ j) × (g ≡ h)

-- So it is for every form and all records.
abbrev pub OneVerdicts : Type 0
OneVerdicts = (fault : Form) (rs : List Record) → OneVerdict fault rs
