-- One more record of a sheet adds its entry to the lists. Assumes nothing.
use Rattle.std.specs.Prelude.{◌≡◌, ℕ, true, false, List, [], ◌∷◌, ◌++◌, map, Some, None, Option, ◌==◌, nat_eq, refl}
use Rattle.std.proofs.Common.{sym, ap, subst, ◌∙◌}
use Rattle.std.proofs.lemmas.List.{map_push}
use Rattle.std.proofs.lemmas.Bool.{eqb-true, cond_both}
use Rattle.records.specs.declared.record.Record.{Record}
use Rattle.records.specs.declared.record.Kind.{Kind}
use Rattle.records.specs.declared.record.Kind.TheVariants.{Variable, Goal, Action, Condition, Effect, Delete}
use Rattle.records.specs.Kinds.{of_kind}
use Rattle.lists.specs.Lists.{Row}
use Rattle.lists.specs.Puts.{put, and_pair}
use Rattle.lists.proofs.Sames.{same_rows}
use Rattle.forms.specs.Forms.{Grows}
use Rattle.forms.proofs.Pushes.{kept_yes, kept_no, push_variable, push_goal, push_action, push_row}
use Rattle.sheet.specs.Sheet.{sheet_kind, sheet_lists, sheet_row, sheet_rules, sheet_enters, holds, lacks}

by_kind : (P : ℕ → Option Kind → Type 0) → P 6 (Some Variable) → P 7 (Some Goal) → P 8 (Some Action) → P 9 (Some Condition) → P 10 (Some Effect) → P 11 (Some Delete) → (n : ℕ) → P n None → P n (sheet_kind n)
by_kind P p6 p7 p8 p9 p10 p11 n p =
    let at : (m : ℕ) (o : Option Kind) → P m o → (n == m) ≡ true → P n o = λ m o q e. subst (λ l. P l o) (sym (eqb-true n m e)) q in
    cond_both (n == 6) _ _ (P n) (at 6 (Some Variable) p6) (λ _.
    cond_both (n == 7) _ _ (P n) (at 7 (Some Goal) p7) (λ _.
    cond_both (n == 8) _ _ (P n) (at 8 (Some Action) p8) (λ _.
    cond_both (n == 9) _ _ (P n) (at 9 (Some Condition) p9) (λ _.
    cond_both (n == 10) _ _ (P n) (at 10 (Some Effect) p10) (λ _.
    cond_both (n == 11) _ _ (P n) (at 11 (Some Delete) p11) (λ _. p))))))

abbrev of : ℕ → ℕ → ℕ → ℕ → Record
of m x y z = record { kind = m; one = x; two = y; three = z }

-- the rows of one more record, with the three tests of its kind
module _ (r : Record) (p : List Record) where
  row_none : nat_eq r.kind 9 ≡ false → (r.kind == 10) ≡ false → (r.kind == 11) ≡ false → sheet_row (p ++ r ∷ []) ≡ sheet_row p
  row_none c e d = same_rows (ap (map holds) (kept_no 9 p r c)) (ap (map holds) (kept_no 10 p r e)) (ap (map lacks) (kept_no 11 p r d))

  row_9 : nat_eq r.kind 9 ≡ true → (r.kind == 10) ≡ false → (r.kind == 11) ≡ false → sheet_row (p ++ r ∷ []) ≡ record { conditions = and_pair (sheet_row p).conditions r.one 1; effects = (sheet_row p).effects; deletes = (sheet_row p).deletes }
  row_9 c e d = same_rows (ap (map holds) (kept_yes 9 p r c) ∙ map_push holds (of_kind 9 p) r) (ap (map holds) (kept_no 10 p r e)) (ap (map lacks) (kept_no 11 p r d))

  row_10 : nat_eq r.kind 9 ≡ false → (r.kind == 10) ≡ true → (r.kind == 11) ≡ false → sheet_row (p ++ r ∷ []) ≡ record { conditions = (sheet_row p).conditions; effects = and_pair (sheet_row p).effects r.one 1; deletes = (sheet_row p).deletes }
  row_10 c e d = same_rows (ap (map holds) (kept_no 9 p r c)) (ap (map holds) (kept_yes 10 p r e) ∙ map_push holds (of_kind 10 p) r) (ap (map lacks) (kept_no 11 p r d))

  row_11 : nat_eq r.kind 9 ≡ false → (r.kind == 10) ≡ false → (r.kind == 11) ≡ true → sheet_row (p ++ r ∷ []) ≡ record { conditions = (sheet_row p).conditions; effects = (sheet_row p).effects; deletes = and_pair (sheet_row p).deletes r.one 0 }
  row_11 c e d = same_rows (ap (map holds) (kept_no 9 p r c)) (ap (map holds) (kept_no 10 p r e)) (ap (map lacks) (kept_yes 11 p r d) ∙ map_push lacks (of_kind 11 p) r)

abbrev Puts : List Record → ℕ → ℕ → ℕ → ℕ → Option Kind → Type 0
Puts rs x y z m None = Unit {0}
Puts rs x y z m (Some k) = sheet_lists (rs ++ of m x y z ∷ []) ≡ put k (sheet_enters k (of m x y z)).first (sheet_enters k (of m x y z)).second (sheet_lists rs)

pub sheet_grows : Grows sheet_rules
sheet_grows rs r k e =
    let x = r.one in let y = r.two in let z = r.three in
    subst (λ o. Puts rs x y z r.kind o) e (by_kind (Puts rs x y z)
    (push_variable 6 7 8 (λ _. 2) (λ (r : Record). r.one) holds sheet_row rs (of 6 x y z) refl refl refl (λ p. row_none (of 6 x y z) p refl refl refl))
    (push_goal 6 7 8 (λ _. 2) (λ (r : Record). r.one) holds sheet_row rs (of 7 x y z) refl refl refl (λ p. row_none (of 7 x y z) p refl refl refl))
    (push_action 6 7 8 (λ _. 2) (λ (r : Record). r.one) holds sheet_row rs (of 8 x y z) refl refl refl refl)
    (push_row 6 7 8 (λ _. 2) (λ (r : Record). r.one) holds sheet_row rs (of 9 x y z) (λ (w : Row). record { conditions = and_pair w.conditions x 1; effects = w.effects; deletes = w.deletes }) refl refl refl (λ p. row_9 (of 9 x y z) p refl refl refl))
    (push_row 6 7 8 (λ _. 2) (λ (r : Record). r.one) holds sheet_row rs (of 10 x y z) (λ (w : Row). record { conditions = w.conditions; effects = and_pair w.effects x 1; deletes = w.deletes }) refl refl refl (λ p. row_10 (of 10 x y z) p refl refl refl))
    (push_row 6 7 8 (λ _. 2) (λ (r : Record). r.one) holds sheet_row rs (of 11 x y z) (λ (w : Row). record { conditions = w.conditions; effects = w.effects; deletes = and_pair w.deletes x 0 }) refl refl refl (λ p. row_11 (of 11 x y z) p refl refl refl))
    r.kind tt)
