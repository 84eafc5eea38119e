-- Accepted records name a variable once in each list. Assumes nothing.
use Rattle.std.proofs.Common.{◌≡◌, ℕ, ◌-◌, Bool, true, false, cond, eqb, ◌⊎◌, List, [], ◌∷◌, ◌++◌, length, get_or, is_some, Some, None, Option, sym, refl, ap, ◌∙◌, subst, inl, inr, ⊎_elim}
use Rattle.std.specs.List.{AllByRecursion as All}
use Rattle.std.proofs.lemmas.List.{get_or_past}
use Rattle.std.proofs.ByRecursion.{All-push, All-set, All-get_or}
use Rattle.std.proofs.lemmas.Bool.{eqb-true, eqb-false, eq-eqb, ne_eqb, cases_lt}
use Rattle.lists.specs.declared.table.Pair.{Pair}
use Rattle.records.specs.declared.record.Kind.{Kind}
use Rattle.records.specs.declared.record.Kind.TheVariants.{Variable, Goal, Action, Condition, Effect, Delete}
use Rattle.lists.specs.Lists.{Row, Lists, no_row, value_in}
use Rattle.lists.specs.Puts.{last_row}
use Rattle.forms.specs.Rules.{repeated}
use Rattle.lists.specs.Puts.{put}
use Rattle.records.proofs.Members.{Mem}

abbrev pub Apart : List Pair → Type 0
Apart [] = Unit {0}
Apart (p ∷ ps) = (value_in ps p.variable ≡ None) × Apart ps

-- a pair of the list gives the value
pub apart_mem : (ps : List Pair) (p : Pair) → Apart ps → Mem p ps → value_in ps p.variable ≡ Some p.value
apart_mem [] p h m = absurd m
apart_mem (q ∷ ps) p h (inl e) = ap (λ t. cond t (Some q.value) (value_in ps p.variable)) (eq-eqb q.variable p.variable (ap (λ (y : Pair). y.variable) e)) ∙ ap (λ (y : Pair). Some y.value) e
apart_mem (q ∷ ps) p h (inr m) =
    let found = apart_mem ps p h.1 m in
    ap (λ t. cond t (Some q.value) (value_in ps p.variable)) (ne_eqb q.variable p.variable (λ e. let same = ap (value_in ps) e ∙ found in cc h.0)) ∙ found

-- and a value comes from a pair of the list
pub value_mem : (ps : List Pair) (v x : ℕ) → value_in ps v ≡ Some x → Mem (record { variable = v; value = x }) ps
value_mem [] v x e = cc
value_mem (p ∷ ps) v x e = go (λ z. value_mem ps v x z) (eqb p.variable v) refl e
  where
    go : (value_in ps v ≡ Some x → Mem (record { variable = v; value = x }) ps) → (t : Bool) → eqb p.variable v ≡ t → cond t (Some p.value) (value_in ps v) ≡ Some x → (p ≡ record { variable = v; value = x }) ⊎ Mem (record { variable = v; value = x }) ps
    go rest true q z = let names = eqb-true p.variable v q in let gives : p.value ≡ x = cc in inl (λ i. record { variable = names i; value = gives i })
    go rest false q z = inr (rest z)

none_push : (ps : List Pair) (p : Pair) (v : ℕ) → value_in ps v ≡ None → (p.variable ≡ v → ⊥) → value_in (ps ++ p ∷ []) v ≡ None
none_push [] p v h n = ap (λ t. cond t (Some p.value) None) (ne_eqb p.variable v n)
none_push (q ∷ ps) p v h n = go (λ z. none_push ps p v z n) (eqb q.variable v) h
  where
    go : (value_in ps v ≡ None → value_in (ps ++ p ∷ []) v ≡ None) → (t : Bool) → cond t (Some q.value) (value_in ps v) ≡ None → cond t (Some q.value) (value_in (ps ++ p ∷ []) v) ≡ None
    go rest true z = cc
    go rest false z = rest z

apart_push : (ps : List Pair) (p : Pair) → Apart ps → value_in ps p.variable ≡ None → Apart (ps ++ p ∷ [])
apart_push [] p h n = (refl, tt)
apart_push (q ∷ ps) p h n = go (eqb q.variable p.variable) refl n (λ z. apart_push ps p h.1 z)
  where
    go : (t : Bool) → eqb q.variable p.variable ≡ t → cond t (Some q.value) (value_in ps p.variable) ≡ None → (value_in ps p.variable ≡ None → Apart (ps ++ p ∷ [])) → Apart (q ∷ (ps ++ p ∷ []))
    go true e z rest = cc
    go false e z rest = (none_push ps p q.variable h.0 (λ s. eqb-false q.variable p.variable e (sym s)), rest z)

pub record RowApart (r : Row) : Type 0 where
  pub conditions : Apart r.conditions
  pub effects : Apart r.effects
  pub deletes : Apart r.deletes

pub record ListsApart (b : Lists) : Type 0 where
  pub goals : Apart b.goals
  pub rows : All RowApart b.rows

pub row_apart : (b : Lists) → ListsApart b → (a : ℕ) → RowApart (get_or b.rows a no_row)
row_apart b h a = ⊎_elim (λ l. All-get_or RowApart b.rows a no_row l h.rows) (λ l. subst (λ (r : Row). RowApart r) (sym (get_or_past b.rows a no_row l)) (record { conditions = tt; effects = tt; deletes = tt })) (cases_lt a (length b.rows))

not_some : (o : Option ℕ) → is_some o ≡ false → o ≡ None
not_some None e = refl
not_some (Some x) e = cc

pub apart_put : (k : Kind) (x y : ℕ) (b : Lists) → ListsApart b → repeated k x b ≡ false → ListsApart (put k x y b)
apart_put Variable x y b h e = record { goals = h.goals; rows = h.rows }
apart_put Goal x y b h e = record { goals = apart_push b.goals (record { variable = x; value = y }) h.goals (not_some _ e); rows = h.rows }
apart_put Action x y b h e = record { goals = h.goals; rows = All-push RowApart b.rows no_row h.rows (record { conditions = tt; effects = tt; deletes = tt }) }
apart_put Condition x y b h e =
    let r = row_apart b h (length b.rows - 1) in
    record { goals = h.goals; rows = All-set RowApart b.rows (length b.rows - 1) _ (record { conditions = apart_push (last_row b).conditions (record { variable = x; value = y }) r.conditions (not_some _ e); effects = r.effects; deletes = r.deletes }) h.rows }
apart_put Effect x y b h e =
    let r = row_apart b h (length b.rows - 1) in
    record { goals = h.goals; rows = All-set RowApart b.rows (length b.rows - 1) _ (record { conditions = r.conditions; effects = apart_push (last_row b).effects (record { variable = x; value = y }) r.effects (not_some _ e); deletes = r.deletes }) h.rows }
apart_put Delete x y b h e =
    let r = row_apart b h (length b.rows - 1) in
    record { goals = h.goals; rows = All-set RowApart b.rows (length b.rows - 1) _ (record { conditions = r.conditions; effects = r.effects; deletes = apart_push (last_row b).deletes (record { variable = x; value = y }) r.deletes (not_some _ e) }) h.rows }
