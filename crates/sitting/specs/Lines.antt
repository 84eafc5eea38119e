-- The words of a line, and the numbers that they write.
use Rattle.std.specs.Prelude.{◌≡◌, ℕ, ◌+◌, ◌-◌, ◌*◌, ◌^◌, ◌<◌, ◌≤◌, min, Bool, true, false, not, ◌||◌, List, [], ◌∷◌, ◌++◌, length, fold, ◌==◌}
use Rattle.std.specs.List.{AllByRecursion}

-- spaces and carriage returns part words
abbrev pub blank? : ℕ → Bool
blank? c = c == 32 || c == 13

-- bytes that part words, or those of words
abbrev pub of_kind : Bool → ℕ → Bool
of_kind true c = blank? c
of_kind false c = not (blank? c)

-- nothing but what parts words
abbrev pub Blanks : List ℕ → Type 0
Blanks bytes = AllByRecursion (λ c. of_kind true c ≡ true) bytes

-- a word has a byte at least, and none that parts words
abbrev pub Word : List ℕ → Type 0
Word w = (0 < length w) × AllByRecursion (λ c. of_kind false c ≡ true) w

-- a word before it ends there: nothing follows, or a byte that parts words
abbrev pub Apart : List ℕ → Type 0
Apart [] = Unit {0}
Apart (c ∷ rest) = of_kind false c ≡ false

-- the first word, and what follows it
pub record First (bytes w rest : List ℕ) : Type 0 where
  pub front : List ℕ
  pub is : bytes ≡ front ++ (w ++ rest)
  pub blanks : Blanks front
  pub word : Word w
  pub apart : Apart rest

-- the words, in their order
abbrev pub Words : List ℕ → List (List ℕ) → Type 0
Words bytes [] = Blanks bytes
Words bytes (w ∷ ws) = (rest : List ℕ) × First bytes w rest × Words rest ws

-- a decimal digit
abbrev pub Digit : ℕ → Type 0
Digit c = (48 ≤ c) × (c ≤ 57)

-- the number that digits write
abbrev pub digits_value : List ℕ → ℕ
digits_value w = fold (λ n c. n * 10 + (c - 48)) 0 w

-- a word of digits writes n, where a number above the largest of 64 bits counts as that
abbrev pub Writes : List ℕ → ℕ → Type 0
Writes w n = AllByRecursion Digit w × (n ≡ min (digits_value w) (2 ^ 64 - 1))

-- the words write the numbers, one each
abbrev pub Written : List (List ℕ) → List ℕ → Type 0
Written [] [] = Unit {0}
Written [] (n ∷ ns) = ⊥
Written (w ∷ ws) [] = ⊥
Written (w ∷ ws) (n ∷ ns) = Writes w n × Written ws ns

-- the bytes are words that write the numbers
abbrev pub Numbers : List ℕ → List ℕ → Type 0
Numbers bytes ns = (ws : List (List ℕ)) × Words bytes ws × Written ws ns
