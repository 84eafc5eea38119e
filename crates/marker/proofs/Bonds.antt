-- What an ordering does to the machine that a marker shows.
use Rattle.std.proofs.Common.{◌≡◌, ℕ, ◌<◌, ◌≤◌, true, false, ◌&&◌, ◌||◌, eqb, Ok, Err, None, Result, sym, refl, ap, ◌∙◌, subst, arith, MatchOption}
use Rattle.task.specs.Task.{Task, Fact, Start, Numbered, facts}
use Rattle.task.proofs.Numbers.{numbered_below}
use Rattle.reach.specs.Built.{ReachBuilt}
use Rattle.reach.specs.Relaxed.{GoalInReach}
use Rattle.rules.specs.declared.calls.Kind.{Kind}
use Rattle.rules.specs.declared.calls.Call.TheVariants.{Order}
use Rattle.rules.specs.declared.calls.Answer.TheVariants.{Marked, Refused}
use Rattle.rules.specs.declared.calls.Mark.TheVariants.{Accepted, Known}
use Rattle.rules.specs.declared.calls.Refusal.TheVariants.{NoSuch, OutsideKey, LaterAtStart, Unordered}
use Rattle.rules.specs.Marks.{Confirmed}
use Rattle.rules.specs.Machine.{Machine, Turn.ruled, Lowest, Lacking, MissedGoal, KindNumber, same_kind, with_ordering}
use Rattle.rules.specs.Machine.Ruled.{order_no_kind, order_no_earlier, order_no_later, order_earlier_out, order_later_out, order_start, order_known, order_confirmed, order_rejected}
use Rattle.marker.specs.declared.markers.Marker.{Marker}
use Rattle.rules.specs.declared.calls.Refusal.{Refusal}
use Rattle.rules.specs.Results.{KindOf}
use Rattle.judging.specs.FactSets.{has}
use Rattle.judging.specs.Sittings.{SitsAfter}
use Rattle.marker.specs.Ordered.{ordered}
use Rattle.marker.specs.Shows.{Shows}
use Rattle.marker.proofs.Turns.{Next, near}
use Rattle.marker.proofs.Writes.{set_outside}

module _ {S : Type 0} {t : Task} {before : Marker S} {m : Machine} (s : Shows t before m) (is_near : before.missed ≡ None) (k e l : ℕ) where
  reached : GoalInReach t
  reached = near s is_near

  pub unknown_kind : (r : Refusal) → KindOf k (Err r) → Next t before m (Order k e l) (Refused r)
  unknown_kind r of =
      subst (λ x. Next t before m (Order k e l) (Refused x)) (sym (of.refused r refl))
      (m, ruled reached (order_no_kind (λ κ is. let never : ◌≡◌ {A = Result Kind Refusal} (Err r) (Ok κ) = of.found κ is in absurd (cc))), s)

  module _ {κ : Kind} (kind : KindNumber k κ) where
    pub unknown_earlier : facts t ≤ e → Next t before m (Order k e l) (Refused (NoSuch e))
    unknown_earlier past = (m, ruled reached (order_no_earlier kind past), s)

    module _ {ef : Fact} (ie : Numbered t e ef) where
      pub unknown_later : facts t ≤ l → Next t before m (Order k e l) (Refused (NoSuch l))
      unknown_later past = (m, ruled reached (order_no_later kind (numbered_below ie) past), s)

      module _ {lf : Fact} (il : Numbered t l lf) where
        pub earlier_out : has before.held e ≡ false → Next t before m (Order k e l) (Refused (OutsideKey e))
        earlier_out out = (m, ruled reached (order_earlier_out kind (numbered_below ie) (numbered_below il) (sym (s.held e) ∙ out)), s)

        module _ (he : has before.held e ≡ true) where
          pub later_out : has before.held l ≡ false → Next t before m (Order k e l) (Refused (OutsideKey l))
          later_out out = (m, ruled reached (order_later_out kind (numbered_below ie) (numbered_below il) (sym (s.held e) ∙ he) (sym (s.held l) ∙ out)), s)

          module _ (hl : has before.held l ≡ true) where
            pub later_start : Start t lf → Next t before m (Order k e l) (Refused (LaterAtStart l))
            later_start start = (m, ruled reached (order_start kind (numbered_below ie) (sym (s.held e) ∙ he) (sym (s.held l) ∙ hl) il start), s)

            module _ (out : Start t lf → ⊥) where
              pub order_there : ordered before.orderings κ e l ≡ true → Next t before m (Order k e l) (Marked Known)
              order_there there = (m, ruled reached (order_known kind (numbered_below ie) (sym (s.held e) ∙ he) (sym (s.held l) ∙ hl) il out (sym (s.ordered κ e l) ∙ there)), s)

              module _ (new : ordered before.orderings κ e l ≡ false) where
                pub order_lacking : (a : ℕ) → (ReachBuilt t before.reach.table → Lowest (Lacking κ t ef lf) a) → Next t before m (Order k e l) (Refused (Unordered a))
                order_lacking a low = (m, ruled reached (order_rejected kind (sym (s.held e) ∙ he) (sym (s.held l) ∙ hl) ie il out (sym (s.ordered κ e l) ∙ new) (low s.reach)), s)

                pub order_taken : facts t ≤ 256 → (after : Marker S) → (ReachBuilt t before.reach.table → Confirmed κ t ef lf)
                    → ((κ' : Kind) (e' l' : ℕ) → ordered after.orderings κ' e' l' ≡ (ordered before.orderings κ' e' l' || (same_kind κ' κ && (eqb e' e && eqb l' l))))
                    → after.held ≡ before.held → after.sitting ≡ before.sitting → after.reach ≡ before.reach → after.missed ≡ before.missed
                    → Next t after m (Order k e l) (Marked Accepted)
                order_taken few after all more held sitting reach missed =
                    let small : e < 256 = omega (arith, numbered_below ie) in
                    let little : l < 256 = omega (arith, numbered_below il) in (
                      with_ordering m κ e l,
                      ruled reached (order_confirmed kind (sym (s.held e) ∙ he) (sym (s.held l) ∙ hl) ie il out (sym (s.ordered κ e l) ∙ new) (all s.reach)),
                      record {
                        held = λ n. ap (λ x. has x n) held ∙ s.held n;
                        ordered = λ κ' e' l'. more κ' e' l' ∙ ap (λ b. b || (same_kind κ' κ && (eqb e' e && eqb l' l))) (s.ordered κ' e' l');
                        outside = λ κ' e' l' past. set_outside κ κ' e l e' l' (m.ordered κ' e' l') small little past (s.outside κ' e' l' past);
                        sitting = subst (SitsAfter t m.moves) (sym sitting) s.sitting;
                        reach = rw reach s.reach;
                        missed = subst (λ o. MatchOption o (GoalInReach t) (Lowest (MissedGoal t))) (sym missed) s.missed;
                      },
                    )
