-- What a list with a value for each fact has at a fact, and that the computed steps are the layers.
use Rattle.std.proofs.Common.{◌≡◌, ℕ, zero, suc, ◌+◌, ◌<◌, ◌≤◌, true, false, cond, ◌&&◌, eqb, ◌⊎◌, List, [], ◌∷◌, ◌++◌, map, length, get_or, take, set, Some, None, sum_by, Option, sym, refl, ap, ◌∙◌, subst, inl, inr, arith, get_or-take}
use Rattle.std.specs.List.{range_with_len}
use Rattle.std.proofs.lemmas.List.{length-append, length-set, get_or_append_left, get_or-append-add, get_or-set_same, get_or-set_other, get_or_default, same_lists}
use Rattle.std.proofs.lemmas.List.FromFn.{length-map-range_with_len, get_or-map-range_with_len}
use Rattle.std.proofs.lemmas.Bool.{cases_order, cases_eq, cond-true, cond-false, eq-eqb, ne_eqb}
use Rattle.std.proofs.lemmas.List.Sums.{sum_by-cons}
use Rattle.task.specs.Task.{Task, Lawful, offset, facts}
use Rattle.task.specs.Paths.{gives?}
use Rattle.reach.specs.Measures.{Ops, Laws}
use Rattle.reach.specs.Layering.{tabulated, value_of, made_by, raised, first_value, next, layer}
use Rattle.reach.specs.Working.{better_at, offered, acted, started}
use Rattle.task.proofs.Numbers.{number_in, number_one, number_of}

-- what a list has at a place of its front
pub front_value : {M : Type 0} {n : ℕ} (xs front : List M) (k : ℕ) (d : M) → k < n → take n xs ≡ front → get_or front k d ≡ get_or xs k d
front_value {n = n} xs front k d h e = sym (ap (λ ys. get_or ys k d) e) ∙ get_or-take n xs k d h

-- a table, place by place
module _ {M : Type 0} (size : ℕ → ℕ) (f : ℕ → ℕ → M) where
  pub length_tabulated : (n : ℕ) → length (tabulated size n f) ≡ offset size n
  length_tabulated zero = refl
  length_tabulated (suc n) = length-append (tabulated size n f) (map (f n) (range_with_len 0 (size n))) ∙ ap (λ k. k + length (map (f n) (range_with_len 0 (size n)))) (length_tabulated n) ∙ ap (λ k. offset size n + k) (length-map-range_with_len (f n) 0 (size n))

  pub getD_tabulated : (n v x : ℕ) (d : M) → v < n → x < size v → get_or (tabulated size n f) (offset size v + x) d ≡ f v x
  getD_tabulated zero v x d h k = absurd (omega arith)
  getD_tabulated (suc n) v x d h k =
      let front = tabulated size n f in
      let row = map (f n) (range_with_len 0 (size n)) in
      elim (cases_order v n) [
        | inl e ↦
            subst (λ w. x < size w → get_or (front ++ row) (offset size w + x) d ≡ f w x) (sym e)
            (λ l. ap (λ m. get_or (front ++ row) (m + x) d) (sym (length_tabulated n)) ∙ get_or-append-add front row x d ∙ get_or-map-range_with_len (f n) 0 (size n) x x d l (omega arith)) k
        | inr (inl l) ↦
            (let inside : offset size v + x < length front = omega (arith, length_tabulated n, number_in size v n x l k) in
            get_or_append_left front row d (offset size v + x) inside ∙ getD_tabulated n v x d l k)
        | inr (inr g) ↦ absurd (omega arith)
      ]

  -- a list with the values of f for each fact is the table of f
  pub tabulated_is : (n : ℕ) (xs : List M) → length xs ≡ offset size n → ((v x : ℕ) (d : M) → v < n → x < size v → get_or xs (offset size v + x) d ≡ f v x) → xs ≡ tabulated size n f
  tabulated_is n xs long at =
      same_lists xs (tabulated size n f) (long ∙ sym (length_tabulated n))
      (λ k d h.
      let p = number_of size n k (omega (arith, long)) in
      let same : get_or xs (offset size p.0 + p.1) d ≡ get_or (tabulated size n f) (offset size p.0 + p.1) d = at p.0 p.1 d p.2 p.3 ∙ sym (getD_tabulated n p.0 p.1 d p.2 p.3) in
      subst (λ m. get_or xs m d ≡ get_or (tabulated size n f) m d) (sym p.4) same)

module _ {M : Type 0} (o : Ops M) {t : Task} (lawful : Lawful t) where
  length_better_at : (y : M) (v : ℕ) (e : Option ℕ) (xs : List M) → length (better_at o t y v e xs) ≡ length xs
  length_better_at y v (Some x) xs = length-set xs (offset t.size v + x) (o.better (value_of o t xs v x) y)
  length_better_at y v None xs = refl

  -- an effect on one variable leaves the others
  better_at_other : (y : M) (w : ℕ) (e : Option ℕ) (xs : List M) (v x : ℕ) → ((z : ℕ) → e ≡ Some z → z < t.size w) → (v ≡ w → ⊥) → x < t.size v → value_of o t (better_at o t y w e xs) v x ≡ value_of o t xs v x
  better_at_other y w None xs v x inside other h = refl
  better_at_other y w (Some z) xs v x inside other h =
      get_or-set_other xs (offset t.size w + z) (offset t.size v + x) (o.better (value_of o t xs w z) y) o.none
      (λ same. other (number_one t.size v w x z h (inside z refl) same).0)

  -- and betters the value that it gives
  better_at_here : (y : M) (v : ℕ) (e : Option ℕ) (xs : List M) (x : ℕ) → offset t.size v + x < length xs → value_of o t (better_at o t y v e xs) v x ≡ cond (gives? e x) (o.better (value_of o t xs v x) y) (value_of o t xs v x)
  better_at_here y v None xs x h = refl
  better_at_here y v (Some z) xs x h =
      elim (cases_eq z x) [
        | inl e ↦
            subst (λ u. value_of o t (better_at o t y v (Some u) xs) v x ≡ cond (eqb u x) (o.better (value_of o t xs v x) y) (value_of o t xs v x)) (sym e)
            (get_or-set_same xs (offset t.size v + x) (o.better (value_of o t xs v x) y) o.none h ∙ sym (cond-true (eqb x x) _ _ (eq-eqb x x refl)))
        | inr ne ↦
            get_or-set_other xs (offset t.size v + z) (offset t.size v + x) (o.better (value_of o t xs v z) y) o.none (λ same. ne (omega arith))
            ∙ sym (cond-false (eqb z x) _ _ (ne_eqb z x ne))
      ]

  -- the effects of one action
  pub length_offered : (a : ℕ) (y : M) (xs : List M) (n : ℕ) → length (offered o t a y xs n) ≡ length xs
  length_offered a y xs zero = refl
  length_offered a y xs (suc n) = length_better_at y n (t.give a n) (offered o t a y xs n) ∙ length_offered a y xs n

  -- effects on the variables below n leave those from n on
  offered_above : (a : ℕ) (y : M) (xs : List M) (n v x : ℕ) → n ≤ v → x < t.size v → value_of o t (offered o t a y xs n) v x ≡ value_of o t xs v x
  offered_above a y xs zero v x h k = refl
  offered_above a y xs (suc n) v x h k =
      better_at_other y n (t.give a n) (offered o t a y xs n) v x (λ z e. lawful.give_in a n z e) (λ e. omega arith) k
      ∙ offered_above a y xs n v x (omega arith) k

  -- and better what the action gives
  offered_below : (a : ℕ) (y : M) (xs : List M) → length xs ≡ facts t → (n v x : ℕ) → v < n → v < t.vars → x < t.size v → value_of o t (offered o t a y xs n) v x ≡ cond (gives? (t.give a v) x) (o.better (value_of o t xs v x) y) (value_of o t xs v x)
  offered_below a y xs long zero v x h l k = absurd (omega arith)
  offered_below a y xs long (suc n) v x h l k =
      elim (cases_eq v n) [
        | inl e ↦
            (let inside : offset t.size v + x < length (offered o t a y xs v) = omega (arith, long, length_offered a y xs v, number_in t.size v t.vars x l k) in
            let here : value_of o t (offered o t a y xs (suc v)) v x ≡ cond (gives? (t.give a v) x) (o.better (value_of o t xs v x) y) (value_of o t xs v x)
            = better_at_here y v (t.give a v) (offered o t a y xs v) x inside ∙ ap (λ u. cond (gives? (t.give a v) x) (o.better u y) u) (offered_above a y xs v v x (omega arith) k) in
            subst (λ m. value_of o t (offered o t a y xs (suc m)) v x ≡ cond (gives? (t.give a v) x) (o.better (value_of o t xs v x) y) (value_of o t xs v x)) e here)
        | inr ne ↦
            better_at_other y n (t.give a n) (offered o t a y xs n) v x (λ z e. lawful.give_in a n z e) ne k
            ∙ offered_below a y xs long n v x (omega arith) l k
      ]

  -- the actions
  pub length_acted : (xs : List M) (n : ℕ) → length (acted o t xs n) ≡ length xs
  length_acted xs zero = refl
  length_acted xs (suc n) =
      elim (t.present n) as (λ b. length (cond b (offered o t n (made_by o t (value_of o t xs) n) (acted o t xs n) t.vars) (acted o t xs n)) ≡ length xs) [
        | true ↦ length_offered n (made_by o t (value_of o t xs) n) (acted o t xs n) t.vars ∙ length_acted xs n
        | false ↦ length_acted xs n
      ]

  -- all actions below n: what the next layer has so far
  acted_value : (xs : List M) → length xs ≡ facts t → (n v x : ℕ) → v < t.vars → x < t.size v → value_of o t (acted o t xs n) v x ≡ raised o t (value_of o t xs) n v x
  acted_value xs long zero v x h k = refl
  acted_value xs long (suc n) v x h k =
      let made = made_by o t (value_of o t xs) n in
      let gives = gives? (t.give n v) x in
      let before = raised o t (value_of o t xs) n v x in
      elim (t.present n) as (λ b. value_of o t (cond b (offered o t n made (acted o t xs n) t.vars) (acted o t xs n)) v x ≡ cond (b && gives) (o.better before made) before) [
        | true ↦ offered_below n made (acted o t xs n) (length_acted xs n ∙ long) t.vars v x h h k ∙ ap (λ u. cond gives (o.better u made) u) (acted_value xs long n v x h k)
        | false ↦ acted_value xs long n v x h k
      ]

  -- within a table the default does not matter
  any_default : (xs : List M) → length xs ≡ facts t → (v x : ℕ) (d : M) → v < t.vars → x < t.size v → get_or xs (offset t.size v + x) d ≡ value_of o t xs v x
  any_default xs long v x d h k = get_or_default xs (offset t.size v + x) d o.none (omega (arith, long, number_in t.size v t.vars x h k))

  -- so the computed steps make the next layer
  pub acted_next : (xs : List M) → length xs ≡ facts t → acted o t xs t.actions ≡ next o t xs
  acted_next xs long =
      let all = length_acted xs t.actions ∙ long in
      tabulated_is t.size (raised o t (value_of o t xs) t.actions) t.vars (acted o t xs t.actions) all
      (λ v x d h k. any_default (acted o t xs t.actions) all v x d h k ∙ acted_value xs long t.actions v x h k)

  -- the start
  pub length_started : (xs : List M) (n : ℕ) → length (started o t xs n) ≡ length xs
  length_started xs zero = refl
  length_started xs (suc n) = length-set (started o t xs n) (offset t.size n + t.start n) o.first ∙ length_started xs n

  -- the start facts of the variables below n leave the others
  started_above : (xs : List M) (n v x : ℕ) → n ≤ v → n ≤ t.vars → x < t.size v → value_of o t (started o t xs n) v x ≡ value_of o t xs v x
  started_above xs zero v x h l k = refl
  started_above xs (suc n) v x h l k =
      get_or-set_other (started o t xs n) (offset t.size n + t.start n) (offset t.size v + x) o.first o.none
      (λ same. let e = number_one t.size v n x (t.start n) k (lawful.start_in n (omega arith)) same in absurd (omega (arith, e.0)))
      ∙ started_above xs n v x (omega arith) (omega arith) k

  -- and have the value of a start fact
  started_below : (xs : List M) → length xs ≡ facts t → (n v x : ℕ) → v < n → n ≤ t.vars → x < t.size v → value_of o t (started o t xs n) v x ≡ cond (eqb (t.start v) x) o.first (value_of o t xs v x)
  started_below xs long zero v x h l k = absurd (omega arith)
  started_below xs long (suc n) v x h l k =
      elim (cases_eq v n) [
        | inl e ↦
            (let ys = started o t xs v in
            let inside : offset t.size v + x < length ys = omega (arith, long, length_started xs v, number_in t.size v t.vars x (omega arith) k) in
            let here : value_of o t (set ys (offset t.size v + t.start v) o.first) v x ≡ cond (eqb (t.start v) x) o.first (value_of o t xs v x)
            = elim (cases_eq (t.start v) x) [
              | inl q ↦
                  ap (λ u. value_of o t (set ys (offset t.size v + u) o.first) v x) q
                  ∙ get_or-set_same ys (offset t.size v + x) o.first o.none inside ∙ sym (cond-true (eqb (t.start v) x) _ _ (eq-eqb (t.start v) x q))
              | inr ne ↦
                  get_or-set_other ys (offset t.size v + t.start v) (offset t.size v + x) o.first o.none (λ same. ne (omega arith))
                  ∙ started_above xs v v x (omega arith) (omega arith) k ∙ sym (cond-false (eqb (t.start v) x) _ _ (ne_eqb (t.start v) x ne))
            ] in
            subst (λ m. value_of o t (started o t xs (suc m)) v x ≡ cond (eqb (t.start v) x) o.first (value_of o t xs v x)) e here)
        | inr ne ↦
            get_or-set_other (started o t xs n) (offset t.size n + t.start n) (offset t.size v + x) o.first o.none
            (λ same. ne (number_one t.size v n x (t.start n) k (lawful.start_in n (omega arith)) same).0)
            ∙ started_below xs long n v x (omega arith) (omega arith) k
      ]

  -- so they make the first layer, where the rest is blank
  pub started_first : (xs : List M) → length xs ≡ facts t → ((k : ℕ) → k < length xs → get_or xs k o.none ≡ o.none) → started o t xs t.vars ≡ layer o t 0
  started_first xs long blank =
      let all = length_started xs t.vars ∙ long in
      tabulated_is t.size (first_value o t) t.vars (started o t xs t.vars) all
      (λ v x d h k.
      any_default (started o t xs t.vars) all v x d h k
      ∙ started_below xs long t.vars v x h (omega arith) k
      ∙ ap (λ u. cond (eqb (t.start v) x) o.first u) (blank (offset t.size v + x) (omega (arith, long, number_in t.size v t.vars x h k))))

  -- the layers, place by place
  pub length_layer : (n : ℕ) → length (layer o t n) ≡ facts t
  length_layer zero = length_tabulated t.size (first_value o t) t.vars
  length_layer (suc n) = length_tabulated t.size (raised o t (value_of o t (layer o t n)) t.actions) t.vars

  pub first_at : (v x : ℕ) → v < t.vars → x < t.size v → value_of o t (layer o t 0) v x ≡ first_value o t v x
  first_at v x h k = getD_tabulated t.size (first_value o t) t.vars v x o.none h k

  pub next_at : (n v x : ℕ) → v < t.vars → x < t.size v → value_of o t (layer o t (suc n)) v x ≡ raised o t (value_of o t (layer o t n)) t.actions v x
  next_at n v x h k = getD_tabulated t.size (raised o t (value_of o t (layer o t n)) t.actions) t.vars v x o.none h k

  -- two tables with the same value for each fact are the same
  pub same_table : (xs ys : List M) → length xs ≡ facts t → length ys ≡ facts t → ((v x : ℕ) → v < t.vars → x < t.size v → value_of o t xs v x ≡ value_of o t ys v x) → xs ≡ ys
  same_table xs ys long-x long-y at =
      same_lists xs ys (long-x ∙ sym long-y)
      (λ k d h.
      let p = number_of t.size t.vars k (omega arith) in
      get_or_default xs k d o.none h
      ∙ subst (λ j. get_or xs j o.none ≡ get_or ys j o.none) (sym p.4) (at p.0 p.1 p.2 p.3)
      ∙ get_or_default ys k o.none d (omega arith))

-- the ranks
module _ {M : Type 0} (o : Ops M) (laws : Laws o) where
  -- a value of the next layer is the same, or has a lower rank
  raised_falls : (t : Task) (f : ℕ → ℕ → M) (n v x : ℕ) → (raised o t f n v x ≡ f v x) ⊎ (o.rank (raised o t f n v x) < o.rank (f v x))
  raised_falls t f zero v x = inl refl
  raised_falls t f (suc n) v x =
      let before = raised o t f n v x in
      let made = made_by o t f n in
      elim (t.present n && gives? (t.give n v) x) as (λ b. (cond b (o.better before made) before ≡ f v x) ⊎ (o.rank (cond b (o.better before made) before) < o.rank (f v x))) [
        | true ↦
            elim (laws.falls before made) [
              | inl same ↦ elim (raised_falls t f n v x) [ inl e ↦ inl (same ∙ e) | inr l ↦ inr (omega (arith, ap o.rank same)) ]
              | inr less ↦ elim (raised_falls t f n v x) [ inl e ↦ inr (omega (arith, ap o.rank e)) | inr l ↦ inr (omega arith) ]
            ]
        | false ↦ raised_falls t f n v x
      ]

  -- a list of which no element has a larger rank is the same, or has a smaller sum of ranks
  ranks_fall : (xs ys : List M) → length ys ≡ length xs → ((k : ℕ) (d : M) → k < length xs → (get_or ys k d ≡ get_or xs k d) ⊎ (o.rank (get_or ys k d) < o.rank (get_or xs k d))) → (ys ≡ xs) ⊎ (sum_by o.rank ys < sum_by o.rank xs)
  ranks_fall [] [] long at = inl refl
  ranks_fall [] (y ∷ ys) long at = absurd (omega arith)
  ranks_fall (x ∷ xs) [] long at = absurd (omega arith)
  ranks_fall (x ∷ xs) (y ∷ ys) long at =
      let here = at 0 x (omega arith) in
      let sx = sum_by-cons o.rank x xs in
      let sy = sum_by-cons o.rank y ys in
      elim (ranks_fall xs ys (omega arith) (λ k d h. at (suc k) d (omega arith))) [
        | inl e ↦ elim here [ inl q ↦ inl (ap (λ z. z ∷ ys) q ∙ ap (λ zs. x ∷ zs) e) | inr l ↦ inr (omega (arith, ap (sum_by o.rank) e)) ]
        | inr l ↦ elim here [ inl q ↦ inr (omega (arith, ap o.rank q)) | inr m ↦ inr (omega arith) ]
      ]

  -- so is the next layer as a whole
  pub next_falls : (t : Task) (xs : List M) → length xs ≡ facts t → (next o t xs ≡ xs) ⊎ (sum_by o.rank (next o t xs) < sum_by o.rank xs)
  next_falls t xs long =
      let f = raised o t (value_of o t xs) t.actions in
      ranks_fall xs (next o t xs) (length_tabulated t.size f t.vars ∙ sym long)
      (λ k d h.
      let p = number_of t.size t.vars k (omega (arith, long)) in
      let new : get_or (next o t xs) k d ≡ f p.0 p.1 = ap (λ m. get_or (next o t xs) m d) p.4 ∙ getD_tabulated t.size f t.vars p.0 p.1 d p.2 p.3 in
      let old : get_or xs k d ≡ value_of o t xs p.0 p.1 = ap (λ m. get_or xs m d) p.4 ∙ get_or_default xs (offset t.size p.0 + p.1) d o.none (omega (arith, p.4)) in
      elim (raised_falls t (value_of o t xs) t.actions p.0 p.1) [
        | inl e ↦ inl (new ∙ e ∙ sym old)
        | inr l ↦ inr (omega (arith, ap o.rank new, ap o.rank old))
      ])
