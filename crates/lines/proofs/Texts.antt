-- Numbers at the end of a text.
use Rattle.std.proofs.Common.{◌≡◌, ℕ, ◌+◌, ◌/◌, ◌%◌, ◌^◌, ◌<◌, ◌≤◌, List, [], ◌∷◌, ◌++◌, length, decimal, sym, ap, ◌∙◌, append_assoc, arith, length-append}
use Rattle.std.proofs.lemmas.Fmt.{decimal_digit, decimal_step, length-decimal-le}

-- a number of 16 bits has at most five digits
pub short_number : (n : ℕ) → n < 2 ^ 16 → length (decimal n) ≤ 5
short_number n h = length-decimal-le 5 n (omega arith) (omega arith) (omega arith)

-- how long a number with more than one digit is
pub length_more : (n : ℕ) → 10 ≤ n → n < 2 ^ 16 → length (decimal n) ≡ length (decimal (n / 10)) + 1
length_more n big small = ap length (decimal_step n big (omega arith)) ∙ length-append (decimal (n / 10)) ((48 + n % 10) ∷ [])

-- the last digit of a number behind those before it, and the only digit
pub last_digit : (old now : List ℕ) (n : ℕ) → 10 ≤ n → n < 2 ^ 16 → now ≡ old ++ decimal (n / 10) → now ++ (48 + n % 10) ∷ [] ≡ old ++ decimal n
last_digit old now n big small e =
    ap (λ l. l ++ (48 + n % 10) ∷ []) e ∙ append_assoc old (decimal (n / 10)) ((48 + n % 10) ∷ []) ∙ ap (λ l. old ++ l) (sym (decimal_step n big (omega arith)))

pub only_digit : (old now : List ℕ) (n : ℕ) → n < 10 → now ≡ old → now ++ (48 + n % 10) ∷ [] ≡ old ++ decimal n
only_digit old now n small e =
    let same : n % 10 ≡ n = omega arith in
    ap (λ l. l ++ (48 + n % 10) ∷ []) e ∙ ap (λ d. old ++ (48 + d) ∷ []) same ∙ ap (λ l. old ++ l) (sym (decimal_digit n small))

-- so there is room for it
pub room_for_digit : (old now text : List ℕ) (d : ℕ) → now ++ d ∷ [] ≡ old ++ text → length old + length text ≤ 32 → length now < 32
room_for_digit old now text d e h = omega (arith, ap length e, length-append now (d ∷ []), length-append old text)
