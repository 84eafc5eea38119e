-- The lists of one more record. Assumes nothing.
use Rattle.std.proofs.Common.{◌≡◌, ℕ, zero, suc, ◌-◌, true, false, cond, eqb, List, [], ◌∷◌, ◌++◌, map, length, get_or, set, refl, ap, ◌∙◌, ap₂, arith}
use Rattle.std.proofs.lemmas.List.Elements.{filter-append}
use Rattle.records.specs.declared.record.Record.{Record}
use Rattle.records.specs.Kinds.{of_kind, front, parts}

-- what of_kind k keeps of one more record
pub of_kind_push : (k : ℕ) (rs : List Record) (r : Record) → of_kind k (rs ++ r ∷ []) ≡ of_kind k rs ++ cond (eqb r.kind k) (r ∷ []) []
of_kind_push k rs r = filter-append (λ (r : Record). eqb r.kind k) rs (r ∷ [])

-- a change of the last element
abbrev pub on_end : {X : Type 0} → (X → X) → List X → List X
on_end f [] = []
on_end f (x ∷ []) = f x ∷ []
on_end f (x ∷ y ∷ ys) = x ∷ on_end f (y ∷ ys)

pub on_end_same : {X : Type 0} (xs : List X) → on_end (λ x. x) xs ≡ xs
on_end_same [] = refl
on_end_same (x ∷ []) = refl
on_end_same (x ∷ y ∷ ys) = ap (λ l. x ∷ l) (on_end_same (y ∷ ys))

on_end_at : {X : Type 0} (f : X → X) (d : X) (xs : List X) (n : ℕ) → length xs ≡ suc n → on_end f xs ≡ set xs n (f (get_or xs n d))
on_end_at f d [] n e = absurd (omega arith)
on_end_at f d (x ∷ []) zero e = refl
on_end_at f d (x ∷ []) (suc n) e = absurd (omega arith)
on_end_at f d (x ∷ y ∷ ys) zero e = absurd (omega arith)
on_end_at f d (x ∷ y ∷ ys) (suc n) e = ap (λ l. x ∷ l) (on_end_at f d (y ∷ ys) n (omega arith))

pub on_end_set : {X : Type 0} (f : X → X) (d : X) (xs : List X) → on_end f xs ≡ set xs (length xs - 1) (f (get_or xs (length xs - 1) d))
on_end_set f d [] = refl
on_end_set f d (x ∷ xs) = on_end_at f d (x ∷ xs) (suc (length xs) - 1) (omega arith)

pub map_on_end : {X Y : Type 0} (g : X → Y) (f : X → X) (h : Y → Y) → ((x : X) → g (f x) ≡ h (g x)) → (xs : List X) → map g (on_end f xs) ≡ on_end h (map g xs)
map_on_end g f h e [] = refl
map_on_end g f h e (x ∷ []) = ap (λ y. y ∷ []) (e x)
map_on_end g f h e (x ∷ y ∷ ys) = ap (λ l. g x ∷ l) (map_on_end g f h e (y ∷ ys))

module _ (k : ℕ) (r : Record) where
  -- what stands before the first record of the kind, with one more at the end
  abbrev ends : List (List Record) → List Record → List Record
  ends [] f = f ++ r ∷ []
  ends (p ∷ ps) f = f

  ends_cons : (x : Record) (ps : List (List Record)) (f : List Record) → x ∷ ends ps f ≡ ends ps (x ∷ f)
  ends_cons x [] f = refl
  ends_cons x (p ∷ ps) f = refl

  front_other : eqb r.kind k ≡ false → (rs : List Record) → front k (rs ++ r ∷ []) ≡ ends (parts k rs) (front k rs)
  front_other e [] = ap (λ t. cond t [] (r ∷ [])) e
  front_other e (x ∷ rs) =
      elim (eqb x.kind k) as (λ t. cond t [] (x ∷ front k (rs ++ r ∷ [])) ≡ ends (cond t (front k rs ∷ parts k rs) (parts k rs)) (cond t [] (x ∷ front k rs))) [ true ↦ refl | false ↦ ap (λ l. x ∷ l) (front_other e rs) ∙ ends_cons x (parts k rs) (front k rs) ]

  front_same : eqb r.kind k ≡ true → (rs : List Record) → front k (rs ++ r ∷ []) ≡ front k rs
  front_same e [] = ap (λ t. cond t [] (r ∷ [])) e
  front_same e (x ∷ rs) = ap (λ l. cond (eqb x.kind k) [] (x ∷ l)) (front_same e rs)

  ends_end : (ps : List (List Record)) (f : List Record) → ends ps f ∷ on_end (λ p. p ++ r ∷ []) ps ≡ on_end (λ p. p ++ r ∷ []) (f ∷ ps)
  ends_end [] f = refl
  ends_end (p ∷ ps) f = refl

  pub parts_other : eqb r.kind k ≡ false → (rs : List Record) → parts k (rs ++ r ∷ []) ≡ on_end (λ p. p ++ r ∷ []) (parts k rs)
  parts_other e [] = ap (λ t. cond t ([] ∷ []) []) e
  parts_other e (x ∷ rs) =
      elim (eqb x.kind k) as (λ t. cond t (front k (rs ++ r ∷ []) ∷ parts k (rs ++ r ∷ [])) (parts k (rs ++ r ∷ [])) ≡ on_end (λ p. p ++ r ∷ []) (cond t (front k rs ∷ parts k rs) (parts k rs)))
      [ true ↦ ap₂ (λ f ps. f ∷ ps) (front_other e rs) (parts_other e rs) ∙ ends_end (parts k rs) (front k rs) | false ↦ parts_other e rs ]

  pub parts_same : eqb r.kind k ≡ true → (rs : List Record) → parts k (rs ++ r ∷ []) ≡ parts k rs ++ [] ∷ []
  parts_same e [] = ap (λ t. cond t ([] ∷ []) []) e
  parts_same e (x ∷ rs) =
      elim (eqb x.kind k) as (λ t. cond t (front k (rs ++ r ∷ []) ∷ parts k (rs ++ r ∷ [])) (parts k (rs ++ r ∷ [])) ≡ cond t (front k rs ∷ parts k rs) (parts k rs) ++ [] ∷ [])
      [ true ↦ ap₂ (λ f ps. f ∷ ps) (front_same e rs) (parts_same e rs) | false ↦ parts_same e rs ]
