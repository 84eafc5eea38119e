-- Rows and lists of equal parts are equal. Assumes nothing.
use Rattle.std.proofs.Common.{◌≡◌, ℕ, List}
use Rattle.lists.specs.declared.table.Pair.{Pair}
use Rattle.lists.specs.Lists.{Row, Lists}

pub same_rows : {c c' e e' d d' : List Pair} → c ≡ c' → e ≡ e' → d ≡ d' → ◌≡◌ {A = Row} (record { conditions = c; effects = e; deletes = d }) (record { conditions = c'; effects = e'; deletes = d' })
same_rows p q s = λ i. record { conditions = p i; effects = q i; deletes = s i }

pub same_lists : {a a' b b' : List ℕ} {c c' : List Pair} {d d' : List Row} → a ≡ a' → b ≡ b' → c ≡ c' → d ≡ d' → ◌≡◌ {A = Lists} (record { sizes = a; starts = b; goals = c; rows = d }) (record { sizes = a'; starts = b'; goals = c'; rows = d' })
same_lists p q s t = λ i. record { sizes = p i; starts = q i; goals = s i; rows = t i }
