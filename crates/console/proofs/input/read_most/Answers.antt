use Rattle.std.proofs.Common.{◌≡◌, ℕ, List, [], ◌++◌, take, Some, None, Option, IfSome, subst}
use Rattle.std.specs.Option.{option_map}
use Rattle.console.proofs.input.read_most.Goals as goal

-- what was read of a reader under a limit is the front of what was left in it
front_read : {R : Type 0} (left : R → Option (List ℕ)) (inner reader : R) (limit : ℕ) (was items : List ℕ) → limit ≡ 35329 → inner ≡ reader → was ≡ [] → IfSome (option_map (take limit) (left inner)) (λ xs. items ≡ was ++ xs) → IfSome (left reader) (λ xs. items ≡ take 35329 xs)
front_read {R} left inner reader limit was items le re we h =
    subst (λ (r : R). IfSome (left r) (λ xs. items ≡ take 35329 xs)) re
    (go (left inner) (subst (λ (n : ℕ). IfSome (option_map (take n) (left inner)) (λ xs. items ≡ [] ++ xs)) le (subst (λ (w : List ℕ). IfSome (option_map (take limit) (left inner)) (λ xs. items ≡ w ++ xs)) we h)))
  where
    go : (o : Option (List ℕ)) → IfSome (option_map (take 35329) o) (λ xs. items ≡ [] ++ xs) → IfSome o (λ xs. items ≡ take 35329 xs)
    go (Some xs) p = p
    go None p = tt

pub returns : goal.returns
returns g c =
    front_read g.R.Read.remaining c.take-most.result.inner c.args.reader c.take-most.result.limit c.new-bytes.result.items c.read_to_end.new.buf.items c.take-most.ensures.limit c.take-most.ensures.inner
    c.new-bytes.ensures.items c.in_ok-read_to_end.ensures.bytes
