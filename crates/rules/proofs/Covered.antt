-- The achievers in relaxed sequences count.
use Rattle.reach.proofs.Sequences.{needs_reach, needs_reach_barred}
use Rattle.rules.specs.Marked.{AchieversCovered}

pub achievers_covered_lem : AchieversCovered
achievers_covered_lem t p r f i l gives = (
  record { present = (r i l).0; achieves = gives; possible = λ g n. needs_reach t p i g r l n },
  λ before. record { present = (r i l).0; achieves = gives; possible = λ g n. needs_reach_barred t p i f g r l before n },
)
