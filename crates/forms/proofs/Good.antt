-- What accepted records keep of the lists, and that such lists make a lawful task. Assumes nothing.
use Rattle.std.proofs.Common.{◌≡◌, ℕ, zero, suc, ◌+◌, ◌-◌, ◌<◌, ◌≤◌, Bool, true, false, cond, eqb, List, [], ◌∷◌, ◌++◌, length, get_or, take, set, Some, None, sum, Option, sym, refl, ap, ◌∙◌, subst, subst₂, ⊎_elim, add-one, arith, length-set}
use Rattle.std.specs.List.{AllByRecursion as All}
use Rattle.std.proofs.lemmas.List.{get_or_past, get_or_append_left, get_or_push, length_push, take_all}
use Rattle.std.proofs.lemmas.List.Sums.{sum_by_push, sum_by_more}
use Rattle.std.proofs.ByRecursion.{All-push, All-set, All-get_or}
use Rattle.std.proofs.lemmas.Bool.{eqb-true, le-ltb, cases_lt}
use Rattle.task.specs.Task.{Lawful, offset}
use Rattle.lists.specs.declared.table.Pair.{Pair}
use Rattle.records.specs.declared.record.Kind.{Kind}
use Rattle.records.specs.declared.record.Kind.TheVariants.{Variable, Goal, Action, Condition, Effect, Delete}
use Rattle.lists.specs.Lists.{Row, Lists, no_row, value_in, or_else, task_of}
use Rattle.lists.specs.Puts.{last_row}
use Rattle.lists.specs.Puts.{put}

-- a variable that there is, and a value of it
abbrev pub In : List ℕ → Pair → Type 0
In sizes p = (p.variable < length sizes) × (p.value < get_or sizes p.variable 0)

pub record RowIn (sizes : List ℕ) (r : Row) : Type 0 where
  pub conditions : All (In sizes) r.conditions
  pub effects : All (In sizes) r.effects
  pub deletes : All (In sizes) r.deletes

abbrev pub SizeIn : ℕ → ℕ → Type 0
SizeIn x y = (1 ≤ x) × (x ≤ 16) × (y < x)

pub record Good (b : Lists) : Type 0 where
  pub few : length b.sizes ≤ 64
  pub same : length b.starts ≡ length b.sizes
  pub sizes_in : (v : ℕ) → v < length b.sizes → SizeIn (get_or b.sizes v 0) (get_or b.starts v 0)
  pub facts : sum b.sizes ≤ 256
  pub acts : length b.rows ≤ 512
  pub begun : 0 < length b.rows → 0 < length b.sizes
  pub goals_in : All (In b.sizes) b.goals
  pub rows_in : All (RowIn b.sizes) b.rows

-- what holds of a record that is accepted
abbrev pub FitsIn : Kind → ℕ → ℕ → Lists → Type 0
FitsIn Variable x y b = (b.goals ≡ []) × (b.rows ≡ []) × (length b.sizes < 64) × (sum b.sizes + x ≤ 256) × SizeIn x y
FitsIn Goal x y b = In b.sizes (record { variable = x; value = y })
FitsIn Action x y b = (0 < length b.sizes) × (length b.rows < 512)
FitsIn Condition x y b = (0 < length b.rows) × In b.sizes (record { variable = x; value = y })
FitsIn Effect x y b = (0 < length b.rows) × In b.sizes (record { variable = x; value = y })
FitsIn Delete x y b = (0 < length b.rows) × In b.sizes (record { variable = x; value = y })

-- a value that a list of such pairs gives
found : (sizes : List ℕ) (ps : List Pair) (v x : ℕ) → All (In sizes) ps → value_in ps v ≡ Some x → x < get_or sizes v 0
found sizes [] v x h e = absurd cc
found sizes (p ∷ ps) v x h e = go (λ e'. found sizes ps v x h.1 e') (eqb p.variable v) refl e
  where
    go : (value_in ps v ≡ Some x → x < get_or sizes v 0) → (t : Bool) → eqb p.variable v ≡ t → cond t (Some p.value) (value_in ps v) ≡ Some x → x < get_or sizes v 0
    go rest true q e' = let same : p.value ≡ x = cc in let names = eqb-true p.variable v q in subst (λ u. x < get_or sizes u 0) names (subst (λ y. y < get_or sizes p.variable 0) same h.0.1)
    go rest false q e' = rest e'

past : (sizes : List ℕ) (ps : List Pair) (v : ℕ) → All (In sizes) ps → length sizes ≤ v → value_in ps v ≡ None
past sizes [] v h l = refl
past sizes (p ∷ ps) v h l = go (past sizes ps v h.1 l) (eqb p.variable v) refl
  where
    go : value_in ps v ≡ None → (t : Bool) → eqb p.variable v ≡ t → cond t (Some p.value) (value_in ps v) ≡ None
    go rest true q = let names = eqb-true p.variable v q in absurd (omega (arith, h.0.0))
    go rest false q = rest

row_of : (b : Lists) → Good b → (a : ℕ) → RowIn b.sizes (get_or b.rows a no_row)
row_of b g a = ⊎_elim (λ l. All-get_or (RowIn b.sizes) b.rows a no_row l g.rows_in) (λ l. subst (λ (r : Row). RowIn b.sizes r) (sym (get_or_past b.rows a no_row l)) (record { conditions = tt; effects = tt; deletes = tt })) (cases_lt a (length b.rows))

offset_is : (xs : List ℕ) (n : ℕ) → n ≤ length xs → offset (λ v. get_or xs v 0) n ≡ sum (take n xs)
offset_is xs zero h = refl
offset_is xs (suc n) h = ap (λ s. s + get_or xs n 0) (offset_is xs n (omega arith)) ∙ sym (subst (λ m. sum (take m xs) ≡ sum (take n xs) + get_or xs n 0) (add-one n) (sum_by_more (λ x. x) xs n 0 h))

pub lawful : (b : Lists) → Good b → 0 < length b.sizes → Lawful (task_of b)
lawful b g s = record {
  some_var = s;
  few_vars = g.few;
  some_size = λ v h. (g.sizes_in v h).0;
  few_size = λ v h. (g.sizes_in v h).1;
  few_facts = subst (λ n. n ≤ 256) (sym (offset_is b.sizes (length b.sizes) (omega arith) ∙ ap sum (take_all (length b.sizes) b.sizes (omega arith)))) g.facts;
  few_actions = g.acts;
  start_in = λ v h. (g.sizes_in v h).2;
  goal_in = λ v x e. found b.sizes b.goals v x g.goals_in e;
  need_in = λ a v x e. found b.sizes _ v x (row_of b g a).conditions e;
  give_in = λ a v x e. either a v x (value_in (get_or b.rows a no_row).effects v) refl e;
  size_out = λ v h. get_or_past b.sizes v 0 h;
  start_out = λ v h. get_or_past b.starts v 0 (omega (arith, g.same));
  goal_out = λ v h. past b.sizes b.goals v g.goals_in h;
  present_out = λ a h. le-ltb a (length b.rows) h;
  need_out = λ a v h. past b.sizes _ v (row_of b g a).conditions h;
  give_out = λ a v h. ap (λ o. or_else o (value_in (get_or b.rows a no_row).deletes v)) (past b.sizes (get_or b.rows a no_row).effects v (row_of b g a).effects h) ∙ past b.sizes _ v (row_of b g a).deletes h;
  need_past = λ a v h. ap (λ (r : Row). value_in r.conditions v) (get_or_past b.rows a no_row h);
  give_past = λ a v h. ap (λ (r : Row). or_else (value_in r.effects v) (value_in r.deletes v)) (get_or_past b.rows a no_row h);
}
  where
    either : (a v x : ℕ) (o : Option ℕ) → value_in (get_or b.rows a no_row).effects v ≡ o → or_else o (value_in (get_or b.rows a no_row).deletes v) ≡ Some x → x < get_or b.sizes v 0
    either a v x (Some y) q e = found b.sizes (get_or b.rows a no_row).effects v x (row_of b g a).effects (q ∙ e)
    either a v x None q e = found b.sizes (get_or b.rows a no_row).deletes v x (row_of b g a).deletes e

-- one more variable
more_sizes : (b : Lists) (x y : ℕ) → Good b → SizeIn x y → (v : ℕ) → v < length (b.sizes ++ x ∷ []) → SizeIn (get_or (b.sizes ++ x ∷ []) v 0) (get_or (b.starts ++ y ∷ []) v 0)
more_sizes b x y g h v l = ⊎_elim
    (λ less. subst₂ SizeIn (sym (get_or_append_left b.sizes (x ∷ []) 0 v less)) (sym (get_or_append_left b.starts (y ∷ []) 0 v (omega (arith, g.same)))) (g.sizes_in v less))
    (λ more. let end : length b.sizes ≡ v = omega (arith, length_push b.sizes x) in subst₂ SizeIn (sym (get_or_push b.sizes x 0 v end)) (sym (get_or_push b.starts y 0 v (g.same ∙ end))) h)
    (cases_lt v (length b.sizes))

-- another last row
relast : (b : Lists) (r : Row) → Good b → RowIn b.sizes r → Good (record { sizes = b.sizes; starts = b.starts; goals = b.goals; rows = set b.rows (length b.rows - 1) r })
relast b r g h = record {
  few = g.few;
  same = g.same;
  sizes_in = g.sizes_in;
  facts = g.facts;
  acts = subst (λ n. n ≤ 512) (sym (length-set b.rows (length b.rows - 1) r)) g.acts;
  begun = λ l. g.begun (subst (λ n. 0 < n) (length-set b.rows (length b.rows - 1) r) l);
  goals_in = g.goals_in;
  rows_in = All-set (RowIn b.sizes) b.rows (length b.rows - 1) r h g.rows_in;
}

pub good_put : (k : Kind) (x y : ℕ) (b : Lists) → Good b → FitsIn k x y b → Good (put k x y b) × (0 < length (put k x y b).sizes)
good_put Variable x y b g h = (
  record {
    few = omega (arith, length_push b.sizes x);
    same = length_push b.starts y ∙ ap (λ n. n + 1) g.same ∙ sym (length_push b.sizes x);
    sizes_in = more_sizes b x y g h.4;
    facts = subst (λ n. n ≤ 256) (sym (sum_by_push (λ n. n) b.sizes x)) h.3;
    acts = g.acts;
    begun = λ _. omega (arith, length_push b.sizes x);
    goals_in = subst (λ (l : List Pair). All (In (b.sizes ++ x ∷ [])) l) (sym h.0) tt;
    rows_in = subst (λ (l : List Row). All (RowIn (b.sizes ++ x ∷ [])) l) (sym h.1) tt;
  },
  omega (arith, length_push b.sizes x),
)
good_put Goal x y b g h = (
  record {
    few = g.few;
    same = g.same;
    sizes_in = g.sizes_in;
    facts = g.facts;
    acts = g.acts;
    begun = g.begun;
    goals_in = All-push (In b.sizes) b.goals (record { variable = x; value = y }) g.goals_in h;
    rows_in = g.rows_in;
  },
  omega (arith, h.0),
)
good_put Action x y b g h = (
  record {
    few = g.few;
    same = g.same;
    sizes_in = g.sizes_in;
    facts = g.facts;
    acts = omega (arith, length_push b.rows no_row);
    begun = λ _. h.0;
    goals_in = g.goals_in;
    rows_in = All-push (RowIn b.sizes) b.rows no_row g.rows_in (record { conditions = tt; effects = tt; deletes = tt });
  },
  h.0,
)
good_put Condition x y b g h =
    let r = row_of b g (length b.rows - 1) in
    (relast b _ g (record { conditions = All-push (In b.sizes) (last_row b).conditions (record { variable = x; value = y }) r.conditions h.1; effects = r.effects; deletes = r.deletes }), g.begun h.0)
good_put Effect x y b g h =
    let r = row_of b g (length b.rows - 1) in
    (relast b _ g (record { conditions = r.conditions; effects = All-push (In b.sizes) (last_row b).effects (record { variable = x; value = y }) r.effects h.1; deletes = r.deletes }), g.begun h.0)
good_put Delete x y b g h =
    let r = row_of b g (length b.rows - 1) in
    (relast b _ g (record { conditions = r.conditions; effects = r.effects; deletes = All-push (In b.sizes) (last_row b).deletes (record { variable = x; value = y }) r.deletes h.1 }), g.begun h.0)

pub good_none : Good (record { sizes = []; starts = []; goals = []; rows = [] })
good_none = record {
  few = omega arith;
  same = refl;
  sizes_in = λ v h. absurd (omega arith);
  facts = omega arith;
  acts = omega arith;
  begun = λ h. h;
  goals_in = tt;
  rows_in = tt;
}
