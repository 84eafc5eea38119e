use Rattle.std.proofs.Common.{sym, ◌∙◌}
use Rattle.std.proofs.lemmas.Bool.{both_ways}
use Rattle.listing.proofs.Finds.{seen_none, seen_hit, seen_miss}
use Rattle.listing.proofs.find.find_passing.Goals as goal
use Rattle.listing.proofs.find.find_passing.Goals.{then-passes+else-before-index, else-passes}

pub loop-number-init : goal.loop-number-init
loop-number-init g c = seen_none _ c.args.index

pub loop-number-preserved : goal.loop-number-preserved
loop-number-preserved g c =
    elim c.if-passes.branch [
      | then-passes+else-before-index w ↦ seen_hit _ c.loop-number.invariant (λ p s. sym (s _ _ c.passes.ensures) ∙ w.if-passes.true) w.if-before-index.false w.before-is
      | else-passes w ↦ seen_miss _ c.loop-number.invariant (λ p s e. both_ways _ w.if-passes.false (s _ _ c.passes.ensures ∙ e)) w.before-is
    ]
