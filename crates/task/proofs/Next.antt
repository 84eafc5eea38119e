-- What the searches for the next fact or action have passed, and what they count.
use Rattle.std.proofs.Common.{◌≡◌, ℕ, zero, suc, ◌+◌, ◌-◌, ◌<◌, ◌≤◌, min, Bool, true, cond, is_some, [], ◌∷◌, ◌++◌, length, length-append, filter, map, sum, Some, None, Option, MatchOption, IfSome, IsSomeAnd, IsTrue, option_map, sym, refl, ap, ◌∙◌, subst, inl, inr, add-one, arith}
use Rattle.std.proofs.lemmas.Bool.{cases_eq, cases_lt}
use Rattle.std.proofs.lemmas.Iterator.Adapters.{option_map_id}
use Rattle.std.proofs.lemmas.List.{map-id}
use Rattle.std.proofs.lemmas.List.FromFn.{filter_of_map_range_with_len_more, sum_by-map-range_with_len_more}
use Rattle.std.specs.List.{range_with_len}
use Rattle.task.specs.Next.{IsNextAction, IsNextFact, NextFact, counted, needs_below}
use Rattle.task.specs.Task.{Task, Fact, Lawful, offset}
use Rattle.task.proofs.Numbers.{offset_below}
use Rattle.task.proofs.Options.{no_some, some_same}

-- past the last variable no facts are added
offset_past : (size : ℕ → ℕ) (n k : ℕ) → ((v : ℕ) → n ≤ v → size v ≡ 0) → n ≤ k → offset size k ≡ offset size n
offset_past size n zero out h = let e : zero ≡ n = omega arith in ap (offset size) e
offset_past size n (suc k) out h =
    elim (cases_eq n (suc k)) [
      | inl e ↦ ap (offset size) (sym e)
      | inr ne ↦ omega (arith, out k (omega arith), offset_past size n k out (omega arith))
    ]

pub offset_min : {t : Task} → Lawful t → (v k : ℕ) → k ≡ min v t.vars → offset t.size k ≡ offset t.size v
offset_min {t} lawful v k e =
    elim (cases_lt v t.vars) [
      | inl l ↦ let q : k ≡ v = omega arith in ap (offset t.size) q
      | inr g ↦ let q : k ≡ t.vars = omega arith in ap (offset t.size) q ∙ sym (offset_past t.size t.vars v lawful.size_out g)
    ]

-- what a chain over the variables sums
pub offset_sum : (size : ℕ → ℕ) (n : ℕ) → sum (map size (range_with_len 0 n)) ≡ offset size n
offset_sum size zero = refl
offset_sum size (suc n) =
    ap (λ k. sum (map size (range_with_len 0 k))) (sym (add-one n)) ∙ sum_by-map-range_with_len_more (λ x. x) size 0 n n (omega arith) ∙ ap (λ s. s + size n) (offset_sum size n)

-- the facts of the first variables are few
offset_up : (size : ℕ → ℕ) (k n : ℕ) → k ≤ n → offset size k ≤ offset size n
offset_up size k n h =
    elim (cases_eq k n) [ inl e ↦ omega (arith, ap (offset size) e) | inr ne ↦ omega (arith, offset_below size k n (omega arith)) ]

pub offset_few : {t : Task} → Lawful t → (v k : ℕ) → k ≡ min v t.vars → offset t.size k ≤ 256
offset_few {t} lawful v k e = omega (arith, lawful.few_facts, offset_up t.size k t.vars (omega arith))

-- and what a chain over the variables counts
one : (o : Option ℕ) (n : ℕ) → length (cond (is_some o) (n ∷ []) []) ≡ counted o
one (Some x) n = refl
one None n = refl

pub needs_count : (t : Task) (a n : ℕ) → length (filter (λ v. is_some (t.need a v)) (range_with_len 0 n)) ≡ needs_below t a n
needs_count t a n = ap (λ vs. length (filter test vs)) (sym (map-id (range_with_len 0 n))) ∙ counts n
  where
    test : ℕ → Bool
    test v = is_some (t.need a v)

    more : (k : ℕ) → filter test (map (λ (v : ℕ). v) (range_with_len 0 (suc k))) ≡ filter test (map (λ (v : ℕ). v) (range_with_len 0 k)) ++ cond (test k) (k ∷ []) []
    more k = ap (λ j. filter test (map (λ (v : ℕ). v) (range_with_len 0 j))) (sym (add-one k)) ∙ filter_of_map_range_with_len_more test (λ v. v) 0 k k (omega arith)

    counts : (k : ℕ) → length (filter test (map (λ (v : ℕ). v) (range_with_len 0 k))) ≡ needs_below t a k
    counts zero = refl
    counts (suc k) =
        ap length (more k) ∙ length-append (filter test (map (λ (v : ℕ). v) (range_with_len 0 k))) (cond (test k) (k ∷ []) [])
        ∙ omega (arith, counts k, one (t.need a k) k)

-- what a search over numbers answers
pub next_action : {P : ℕ → Type 0} (a end : ℕ) (r : Option ℕ) → MatchOption r ((k : ℕ) → a ≤ k → k < end → P k → ⊥) (λ i. (a ≤ i) × (i < end) × P i × ((k : ℕ) → a ≤ k → k < i → P k → ⊥)) → ((k : ℕ) → end ≤ k → P k → ⊥) → IsNextAction P a r
next_action a end None none out = λ k l p. elim (cases_lt k end) [ inl b ↦ none k l b p | inr g ↦ out k g p ]
next_action a end (Some i) found out = record { later = found.0; holds = found.2; skipped = found.3 }

-- what a search over the variables from v on answers: `at k` is the k-th that it came to, and its closure answered there that the row has no fact, or one
module _ (row : ℕ → Option ℕ) (v end n : ℕ) (whole : Bool) (ends : whole ≡ true → n ≡ end - v) (at : ℕ → Option ℕ) (reads : (k : ℕ) → k < n → option_map (λ y. y) (at k) ≡ Some (v + k)) (No : ℕ → Type 0) (Yes : ℕ → Fact → Type 0) (Keeps : Type 0) where
  abbrev ToldNo : Type 0
  ToldNo = (w : ℕ) → No w → row w ≡ None

  came : (w : ℕ) → v ≤ w → w < v + n → at (w - v) ≡ Some w
  came w low high = sym (option_map_id (at (w - v))) ∙ reads (w - v) (omega arith) ∙ ap Some (omega arith)

  passed : ToldNo → (w : ℕ) (o : Option ℕ) → o ≡ Some w → IfSome o No → row w ≡ None
  passed missed w None e h = absurd (no_some w e)
  passed missed w (Some x) e h = subst (λ k. row k ≡ None) (some_same x w e) (missed x h)

  pub next_fact : (r : Option Fact) → MatchOption r (IsTrue whole × (Keeps → (k : ℕ) → IfSome (at k) No)) (λ y. (i : ℕ) × (i < n) × (n ≡ i + 1) × (Keeps → IsSomeAnd (at i) (λ w. Yes w y) × ((k : ℕ) → k < i → IsSomeAnd (at k) No))) → ToldNo → ((w : ℕ) (y : Fact) → Yes w y → (y.variable ≡ w) × (row w ≡ Some y.value)) → Keeps → ((w : ℕ) → end ≤ w → row w ≡ None) → IsNextFact row v r
  next_fact None h missed hit keeps out = λ w l. elim (cases_lt w end) [ inl b ↦ passed missed w (at (w - v)) (came w l (omega (arith, ends h.0))) (h.1 keeps (w - v)) | inr g ↦ out w g ]
  next_fact (Some y) (i, below, last, told) missed hit keeps out = found (at i) (λ j. at i) (told keeps).0
    where
      seen : (w : ℕ) → v ≤ w → w < v + i → (o : Option ℕ) → o ≡ at (w - v) → IsSomeAnd o No → row w ≡ None
      seen w l m None e h = absurd h
      seen w l m (Some x) e h = passed missed w (Some x) (e ∙ came w l (omega arith)) h

      found : (o : Option ℕ) → o ≡ at i → IsSomeAnd o (λ w. Yes w y) → NextFact row v y
      found None e h = absurd h
      found (Some x) e h =
          let here : x ≡ v + i = some_same x (v + i) (e ∙ sym (option_map_id (at i)) ∙ reads i below) in
          let (on, has) = hit x y h in
          record {
            later = omega arith;
            has = ap row on ∙ has;
            skipped = λ w l m. seen w l (omega arith) (at (w - v)) (λ j. at (w - v)) ((told keeps).1 (w - v) (omega arith));
          }
