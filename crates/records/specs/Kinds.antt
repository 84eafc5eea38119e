-- Where among records those of a kind stand; a kind is meant by its number, byte 0.
use Rattle.std.specs.Prelude.{◌≡◌, ℕ, suc, ◌<◌, cond, List, [], ◌∷◌, length, take, filter, ◌==◌, nat_eq, slice_index_or}
use Rattle.records.specs.declared.record.Record.{Record}
use Rattle.records.specs.Records.{no_record}

-- The records of the kind k, in order.
abbrev pub of_kind : ℕ → List Record → List Record
of_kind k rs = filter (λ r. nat_eq r.kind k) rs

-- The records before the first one of the kind k.
abbrev pub front : ℕ → List Record → List Record
front k [] = []
front k (r ∷ rs) = cond (r.kind == k) [] (r ∷ front k rs)

-- For each record of the kind k, in order, the records between it and the next of that kind.
abbrev pub parts : ℕ → List Record → List (List Record)
parts k [] = []
parts k (r ∷ rs) = cond (r.kind == k) (front k rs ∷ parts k rs) (parts k rs)

-- Record i is r, and of the kind k.
pub record At (rs : List Record) (i k : ℕ) (r : Record) : Type 0 where
  pub within : i < length rs
  pub is : slice_index_or rs i no_record ≡ r
  pub kind : r.kind ≡ k

-- How many records of the kind k stand before record i.
abbrev pub before : ℕ → List Record → ℕ → ℕ
before k rs i = length (of_kind k (take i rs))

-- Some record of the kind k is so.
abbrev pub SomeRecord : ℕ → List Record → (Record → Type 0) → Type 0
SomeRecord k rs P = (i : ℕ) × (r : Record) × At rs i k r × P r

-- Some record of the kind j is so that stands between the action a and the next one, actions being of the kind k.
abbrev pub SomeOfAction : ℕ → ℕ → List Record → ℕ → (Record → Type 0) → Type 0
SomeOfAction k j rs a P = (i : ℕ) × (r : Record) × At rs i j r × (before k rs i ≡ suc a) × P r
