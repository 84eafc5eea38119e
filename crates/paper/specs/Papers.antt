-- One more record of a paper adds its entry to the lists. Assumes nothing.
use Rattle.std.specs.Prelude.{◌≡◌, ℕ, true, List, [], ◌∷◌, ◌++◌, map, Some, None, Option, ◌==◌, refl}
use Rattle.std.proofs.Common.{sym, ap, subst, ◌∙◌}
use Rattle.std.proofs.lemmas.List.{map_push}
use Rattle.std.proofs.lemmas.Bool.{eqb-true, cond_both}
use Rattle.records.specs.declared.record.Record.{Record}
use Rattle.records.specs.declared.record.Kind.{Kind}
use Rattle.records.specs.declared.record.Kind.TheVariants.{Variable, Goal, Action, Condition, Effect}
use Rattle.records.specs.Kinds.{of_kind}
use Rattle.lists.specs.Lists.{Row}
use Rattle.lists.specs.Puts.{put, and_pair}
use Rattle.lists.proofs.Sames.{same_rows}
use Rattle.forms.specs.Forms.{Grows}
use Rattle.forms.proofs.Pushes.{kept_yes, kept_no, push_variable, push_goal, push_action, push_row}
use Rattle.paper.specs.Paper.{paper_kind, paper_lists, paper_row, paper_rules, pair}

-- by the kinds that there are
by_kind : (P : ℕ → Option Kind → Type 0) → P 1 (Some Variable) → P 2 (Some Goal) → P 3 (Some Action) → P 4 (Some Condition) → P 5 (Some Effect) → (n : ℕ) → P n None → P n (paper_kind n)
by_kind P p1 p2 p3 p4 p5 n p =
    let at : (m : ℕ) (o : Option Kind) → P m o → (n == m) ≡ true → P n o = λ m o q e. subst (λ l. P l o) (sym (eqb-true n m e)) q in
    cond_both (n == 1) _ _ (P n) (at 1 (Some Variable) p1) (λ _.
    cond_both (n == 2) _ _ (P n) (at 2 (Some Goal) p2) (λ _.
    cond_both (n == 3) _ _ (P n) (at 3 (Some Action) p3) (λ _.
    cond_both (n == 4) _ _ (P n) (at 4 (Some Condition) p4) (λ _.
    cond_both (n == 5) _ _ (P n) (at 5 (Some Effect) p5) (λ _. p)))))

-- a record of a number m
abbrev of : ℕ → ℕ → ℕ → ℕ → Record
of m x y z = record { kind = m; one = x; two = y; three = z }

module _ (x y z : ℕ) where
  row_1 : (p : List Record) → paper_row (p ++ of 1 x y z ∷ []) ≡ paper_row p
  row_1 p = same_rows (ap (map pair) (kept_no 4 p (of 1 x y z) refl)) (ap (map pair) (kept_no 5 p (of 1 x y z) refl)) refl

  row_2 : (p : List Record) → paper_row (p ++ of 2 x y z ∷ []) ≡ paper_row p
  row_2 p = same_rows (ap (map pair) (kept_no 4 p (of 2 x y z) refl)) (ap (map pair) (kept_no 5 p (of 2 x y z) refl)) refl

  row_4 : (p : List Record) → paper_row (p ++ of 4 x y z ∷ []) ≡ record { conditions = and_pair (paper_row p).conditions x y; effects = (paper_row p).effects; deletes = [] }
  row_4 p = same_rows (ap (map pair) (kept_yes 4 p (of 4 x y z) refl) ∙ map_push pair (of_kind 4 p) (of 4 x y z)) (ap (map pair) (kept_no 5 p (of 4 x y z) refl)) refl

  row_5 : (p : List Record) → paper_row (p ++ of 5 x y z ∷ []) ≡ record { conditions = (paper_row p).conditions; effects = and_pair (paper_row p).effects x y; deletes = [] }
  row_5 p = same_rows (ap (map pair) (kept_no 4 p (of 5 x y z) refl)) (ap (map pair) (kept_yes 5 p (of 5 x y z) refl) ∙ map_push pair (of_kind 5 p) (of 5 x y z)) refl

-- what is known of one more record, by its kind
abbrev Puts : List Record → ℕ → ℕ → ℕ → ℕ → Option Kind → Type 0
Puts rs x y z m None = Unit {0}
Puts rs x y z m (Some k) = paper_lists (rs ++ of m x y z ∷ []) ≡ put k x y (paper_lists rs)

pub paper_grows : Grows paper_rules
paper_grows rs r k e =
    let x = r.one in let y = r.two in let z = r.three in
    subst (λ o. Puts rs x y z r.kind o) e (by_kind (Puts rs x y z)
    (push_variable 1 2 3 (λ (r : Record). r.one) (λ (r : Record). r.two) pair paper_row rs (of 1 x y z) refl refl refl (row_1 x y z))
    (push_goal 1 2 3 (λ (r : Record). r.one) (λ (r : Record). r.two) pair paper_row rs (of 2 x y z) refl refl refl (row_2 x y z))
    (push_action 1 2 3 (λ (r : Record). r.one) (λ (r : Record). r.two) pair paper_row rs (of 3 x y z) refl refl refl refl)
    (push_row 1 2 3 (λ (r : Record). r.one) (λ (r : Record). r.two) pair paper_row rs (of 4 x y z) (λ (w : Row). record { conditions = and_pair w.conditions x y; effects = w.effects; deletes = w.deletes }) refl refl refl (row_4 x y z))
    (push_row 1 2 3 (λ (r : Record). r.one) (λ (r : Record). r.two) pair paper_row rs (of 5 x y z) (λ (w : Row). record { conditions = w.conditions; effects = and_pair w.effects x y; deletes = w.deletes }) refl refl refl (row_5 x y z))
    r.kind tt)
