-- Numbers that stop at the largest of 64 bits.
use Rattle.std.proofs.Common.{◌≡◌, ℕ, ◌+◌, ◌-◌, ◌*◌, ◌^◌, ◌<◌, min, List, length, get_or, take, Some, None, sym, ap, ◌∙◌, subst, arith}
use lib.Seq.{take-length}
use Rattle.std.proofs.lemmas.List.Sums.{fold_more}
use Rattle.std.proofs.ByRecursion.{All-get_or}
use Rattle.std.specs.List.{AllByRecursion}
use Rattle.task.specs.Facts.{Exactly}
use Rattle.task.proofs.Lookups.{exactly_none, exactly_some}
use Rattle.sitting.specs.Lines.{Digit, Writes, digits_value}

-- one more digit
pub capped_more : (v d : ℕ) → min (min (min v (2 ^ 64 - 1) * 10) (2 ^ 64 - 1) + d) (2 ^ 64 - 1) ≡ min (v * 10 + d) (2 ^ 64 - 1)
capped_more v d = omega arith

pub value_more : (w : List ℕ) (i : ℕ) → i < length w → digits_value (take (i + 1) w) ≡ digits_value (take i w) * 10 + (get_or w i 0 - 48)
value_more w i h = fold_more (λ n c. n * 10 + (c - 48)) 0 w i 0 h

pub number_more : (w : List ℕ) (i number product digit sum : ℕ) → i < length w → number ≡ min (digits_value (take i w)) (2 ^ 64 - 1)
    → product ≡ min (number * 10) (2 ^ 64 - 1) → digit ≡ get_or w i 0 - 48 → sum ≡ min (product + digit) (2 ^ 64 - 1)
    → sum ≡ min (digits_value (take (i + 1) w)) (2 ^ 64 - 1)
number_more w i number product digit sum h n p d s =
    s ∙ ap (λ x. min (x + digit) (2 ^ 64 - 1)) (p ∙ ap (λ x. min (x * 10) (2 ^ 64 - 1)) n) ∙ capped_more (digits_value (take i w)) digit
    ∙ ap (λ x. min x (2 ^ 64 - 1)) (ap (λ x. digits_value (take i w) * 10 + x) d ∙ sym (value_more w i h))

-- after the last digit
pub writes_whole : (w : List ℕ) (i n : ℕ) → i ≡ length w → AllByRecursion Digit (take i w) → n ≡ min (digits_value (take i w)) (2 ^ 64 - 1) → Exactly (Writes w) (Some n)
writes_whole w i n e digits is =
    exactly_some (λ x y p q. p.1 ∙ sym q.1) n (subst (λ v. Writes v n) (ap (λ k. take k w) e ∙ take-length w) (digits, is))

-- at a byte that is none
pub writes_none : (w : List ℕ) (i : ℕ) → i < length w → (Digit (get_or w i 0) → ⊥) → Exactly (Writes w) None
writes_none w i h other = exactly_none (λ x p. other (All-get_or Digit w i 0 h p.0))
