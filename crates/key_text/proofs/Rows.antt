-- The pairs of one earlier fact, and their places.
use Rattle.std.proofs.Common.{◌≡◌, ℕ, ◌+◌, ◌-◌, ◌*◌, ◌/◌, ◌%◌, ◌<◌, ◌≤◌, subst, arith}
use Rattle.rules.specs.Machine.{Machine}
use Rattle.listing.specs.Listing.{InAnyKind, OrderedAt}

-- a pair at its place
pub at_place : (m : Machine) (e l : ℕ) → l < 256 → InAnyKind m e l → OrderedAt m (e * 256 + l)
at_place m e l low o =
    let he : e ≡ (e * 256 + l) / 256 = omega arith in
    let hl : l ≡ (e * 256 + l) % 256 = omega arith in
    subst (λ (i : ℕ). InAnyKind m i ((e * 256 + l) % 256)) he (subst (λ (j : ℕ). InAnyKind m e j) hl o)

-- the pair of a place in a row
pub in_row : (m : Machine) (e k : ℕ) → e * 256 ≤ k → k < e * 256 + 256 → OrderedAt m k → InAnyKind m e (k - e * 256)
in_row m e k low high o =
    let he : k / 256 ≡ e = omega arith in
    let hl : k % 256 ≡ k - e * 256 = omega arith in
    subst (λ (i : ℕ). InAnyKind m i (k - e * 256)) he (subst (λ (j : ℕ). InAnyKind m (k / 256) j) hl o)
