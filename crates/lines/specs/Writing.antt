-- What writing a text into a buffer leaves there.
use Rattle.std.specs.Prelude.{◌≡◌, ℕ, ◌<◌, ◌≤◌, List, ◌++◌, length, drop, Some, None, Option}

-- the text stands in front, its length is answered, and the rest is as it was; or the buffer has fewer than 32 bytes, and is as it was
abbrev pub InFront : List ℕ → List ℕ → List ℕ → Option ℕ → Type 0
InFront before text left (Some n) = (32 ≤ length before) × (n ≡ length text) × (left ≡ text ++ drop n before)
InFront before text left None = (length before < 32) × (left ≡ before)
