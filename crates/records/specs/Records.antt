-- Bytes as records of four.
use Rattle.std.specs.Prelude.{◌≡◌, ℕ, ◌%◌, ◌<◌, ◌⊎◌, List, [], ◌∷◌, ◌≢◌, slice_index}
use Rattle.records.specs.declared.record.Record.{Record}

-- The records that bytes make, four bytes to a record; fewer than four at the end make none.
abbrev pub records : List ℕ → List Record
records [] = []
records (a ∷ []) = []
records (a ∷ b ∷ []) = []
records (a ∷ b ∷ c ∷ []) = []
records (a ∷ b ∷ c ∷ d ∷ rest) = record { kind = a; one = b; two = c; three = d } ∷ records rest

-- The record of four bytes.
abbrev pub of_quad : List ℕ → Record
of_quad q = record { kind = slice_index q 0; one = slice_index q 1; two = slice_index q 2; three = slice_index q 3 }

-- A length that no paper or sheet has: 0, no multiple of 4, or above 35,328.
abbrev pub BadLength : ℕ → Type 0
BadLength n = (n ≡ 0) ⊎ ((n % 4 ≢ 0) ⊎ (35328 < n))

-- What stands for a record past the end.
abbrev pub no_record : Record
no_record = record { kind = 0; one = 0; two = 0; three = 0 }
