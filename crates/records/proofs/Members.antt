-- Which records stand in which list. Assumes nothing.
use Rattle.std.proofs.Common.{◌≡◌, ℕ, zero, suc, ◌<◌, Bool, true, false, cond, eqb, ◌⊎◌, List, [], ◌∷◌, map, length, get_or, take, sym, refl, ap, ◌∙◌, subst, inl, inr, ⊎_elim, arith}
use Rattle.std.proofs.lemmas.Bool.{eqb-true, eq-eqb}
use Rattle.records.specs.declared.record.Record.{Record}
use Rattle.records.specs.Records.{no_record}
use Rattle.records.specs.Kinds.{of_kind, front, parts, At, before}

abbrev pub Mem : {X : Type 0} → X → List X → Type 0
Mem x [] = ⊥
Mem x (y ∷ ys) = (y ≡ x) ⊎ Mem x ys

pub mem_map : {X Y : Type 0} (f : X → Y) (x : X) (xs : List X) → Mem x xs → Mem (f x) (map f xs)
mem_map f x [] m = m
mem_map f x (y ∷ ys) (inl e) = inl (ap f e)
mem_map f x (y ∷ ys) (inr m) = inr (mem_map f x ys m)

pub map_mem : {X Y : Type 0} (f : X → Y) (y : Y) (xs : List X) → Mem y (map f xs) → (x : X) × Mem x xs × (f x ≡ y)
map_mem f y [] m = absurd m
map_mem f y (x ∷ xs) (inl e) = (x, inl refl, e)
map_mem f y (x ∷ xs) (inr m) = let h = map_mem f y xs m in (h.0, inr h.1, h.2)

-- at the front, and further on
here : (k : ℕ) (x r : Record) (rs : List Record) → x ≡ r → r.kind ≡ k → Mem r (of_kind k (x ∷ rs))
here k x r rs e h = subst (λ t. Mem r (cond t (x ∷ of_kind k rs) (of_kind k rs))) (sym (eq-eqb x.kind k (ap (λ (y : Record). y.kind) e ∙ h))) (inl e)

there : (k : ℕ) (x r : Record) (rs : List Record) → Mem r (of_kind k rs) → Mem r (of_kind k (x ∷ rs))
there k x r rs m = elim (eqb x.kind k) as (λ t. Mem r (cond t (x ∷ of_kind k rs) (of_kind k rs))) [ true ↦ inr m | false ↦ m ]

-- where a member of `of_kind` stands
where_is : (k : ℕ) (x r : Record) (rs : List Record) → Mem r (of_kind k (x ∷ rs)) → ((x ≡ r) × (r.kind ≡ k)) ⊎ Mem r (of_kind k rs)
where_is k x r rs m = go (eqb x.kind k) refl m
  where
    go : (t : Bool) → eqb x.kind k ≡ t → Mem r (cond t (x ∷ of_kind k rs) (of_kind k rs)) → ((x ≡ r) × (r.kind ≡ k)) ⊎ Mem r (of_kind k rs)
    go true q (inl e) = inl (e, ap (λ (y : Record). y.kind) (sym e) ∙ eqb-true x.kind k q)
    go true q (inr n) = inr n
    go false q n = inr n

back : {rs : List Record} {i k : ℕ} {x r : Record} → At (x ∷ rs) (suc i) k r → At rs i k r
back a = record { within = omega (arith, a.within); is = a.is; kind = a.kind }

on : {rs : List Record} {i k : ℕ} {r : Record} (x : Record) → At rs i k r → At (x ∷ rs) (suc i) k r
on x a = record { within = omega (arith, a.within); is = a.is; kind = a.kind }

pub mem_kind : (k : ℕ) (rs : List Record) (i : ℕ) (r : Record) → At rs i k r → Mem r (of_kind k rs)
mem_kind k [] i r a = absurd (omega (arith, a.within))
mem_kind k (x ∷ rs) zero r a = here k x r rs a.is a.kind
mem_kind k (x ∷ rs) (suc i) r a = there k x r rs (mem_kind k rs i r (back a))

pub kind_mem : (k : ℕ) (rs : List Record) (r : Record) → Mem r (of_kind k rs) → (i : ℕ) × At rs i k r
kind_mem k [] r m = absurd m
kind_mem k (x ∷ rs) r m = next (λ n. kind_mem k rs r n) (where_is k x r rs m)
  where
    next : (Mem r (of_kind k rs) → (i : ℕ) × At rs i k r) → ((x ≡ r) × (r.kind ≡ k)) ⊎ Mem r (of_kind k rs) → (i : ℕ) × At (x ∷ rs) i k r
    next rest (inl e) = (0, record { within = omega arith; is = e.0; kind = e.1 })
    next rest (inr n) = let h = rest n in (suc h.0, on x h.1)

-- the i-th record is as far on among its kind as records of the kind stand before it
pub at_kind : (k : ℕ) (rs : List Record) (i : ℕ) (r : Record) → At rs i k r → (before k rs i < length (of_kind k rs)) × (get_or (of_kind k rs) (before k rs i) no_record ≡ r)
at_kind k [] i r a = absurd (omega (arith, a.within))
at_kind k (x ∷ rs) zero r a = subst (λ t. (0 < length (cond t (x ∷ of_kind k rs) (of_kind k rs))) × (get_or (cond t (x ∷ of_kind k rs) (of_kind k rs)) 0 no_record ≡ r)) (sym (eq-eqb x.kind k (ap (λ (y : Record). y.kind) a.is ∙ a.kind))) (omega arith, a.is)
at_kind k (x ∷ rs) (suc i) r a = let h = at_kind k rs i r (back a) in
    elim (eqb x.kind k) as (λ t. (length (cond t (x ∷ of_kind k (take i rs)) (of_kind k (take i rs))) < length (cond t (x ∷ of_kind k rs) (of_kind k rs))) × (get_or (cond t (x ∷ of_kind k rs) (of_kind k rs)) (length (cond t (x ∷ of_kind k (take i rs)) (of_kind k (take i rs)))) no_record ≡ r)) [ true ↦ (omega (arith, h.0), h.1) | false ↦ h ]

pub length_parts : (k : ℕ) (rs : List Record) → length (parts k rs) ≡ length (of_kind k rs)
length_parts k [] = refl
length_parts k (x ∷ rs) = elim (eqb x.kind k) as (λ t. length (cond t (front k rs ∷ parts k rs) (parts k rs)) ≡ length (cond t (x ∷ of_kind k rs) (of_kind k rs))) [ true ↦ ap suc (length_parts k rs) | false ↦ length_parts k rs ]

-- Records of the kind j among those between two records of the kind k. A record that is not of the kind k:
module _ (k j : ℕ) (apart : eqb j k ≡ false) (r : Record) where
  -- before the first one of the kind k
  front_mem : (rs : List Record) (i : ℕ) → At rs i j r → before k rs i ≡ 0 → Mem r (of_kind j (front k rs))
  front_mem [] i a e = absurd (omega (arith, a.within))
  front_mem (x ∷ rs) zero a e =
      let other : eqb x.kind k ≡ false = ap (λ n. eqb n k) (ap (λ (y : Record). y.kind) a.is ∙ a.kind) ∙ apart in
      subst (λ t. Mem r (of_kind j (cond t [] (x ∷ front k rs)))) (sym other) (here j x r (front k rs) a.is a.kind)
  front_mem (x ∷ rs) (suc i) a e = next (λ z. front_mem rs i (back a) z) (eqb x.kind k) e
    where
      next : (before k rs i ≡ 0 → Mem r (of_kind j (front k rs))) → (t : Bool) → length (cond t (x ∷ of_kind k (take i rs)) (of_kind k (take i rs))) ≡ 0 → Mem r (of_kind j (cond t [] (x ∷ front k rs)))
      next rest true z = absurd (omega arith)
      next rest false z = there j x r (front k rs) (rest z)

  mem_front : (rs : List Record) → Mem r (of_kind j (front k rs)) → (i : ℕ) × At rs i j r × (before k rs i ≡ 0)
  mem_front [] m = absurd m
  mem_front (x ∷ rs) m = next (λ n. mem_front rs n) (eqb x.kind k) refl m
    where
      next : (Mem r (of_kind j (front k rs)) → (i : ℕ) × At rs i j r × (before k rs i ≡ 0)) → (t : Bool) → eqb x.kind k ≡ t → Mem r (of_kind j (cond t [] (x ∷ front k rs))) → (i : ℕ) × At (x ∷ rs) i j r × (before k (x ∷ rs) i ≡ 0)
      next rest true q n = absurd n
      next rest false q n = ⊎_elim (λ e. (0, record { within = omega arith; is = e.0; kind = e.1 }, refl)) (λ o. let h = rest o in (suc h.0, on x h.1, ap (λ t. length (cond t (x ∷ of_kind k (take h.0 rs)) (of_kind k (take h.0 rs)))) q ∙ h.2)) (where_is j x r (front k rs) n)

  -- between the record a of the kind k and the next one
  pub part_mem : (rs : List Record) (i a : ℕ) → At rs i j r → before k rs i ≡ suc a → Mem r (of_kind j (get_or (parts k rs) a []))
  part_mem [] i a h e = absurd (omega (arith, h.within))
  part_mem (x ∷ rs) zero a h e = absurd (omega arith)
  part_mem (x ∷ rs) (suc i) a h e = next a (λ b z. part_mem rs i b (back h) z) (eqb x.kind k) e
    where
      next : (b : ℕ) → ((b : ℕ) → before k rs i ≡ suc b → Mem r (of_kind j (get_or (parts k rs) b []))) → (t : Bool) → length (cond t (x ∷ of_kind k (take i rs)) (of_kind k (take i rs))) ≡ suc b → Mem r (of_kind j (get_or (cond t (front k rs ∷ parts k rs) (parts k rs)) b []))
      next zero rest true z = front_mem rs i (back h) (omega arith)
      next (suc b) rest true z = rest b (omega arith)
      next zero rest false z = rest 0 z
      next (suc b) rest false z = rest (suc b) z

  pub mem_part : (rs : List Record) (a : ℕ) → Mem r (of_kind j (get_or (parts k rs) a [])) → (i : ℕ) × At rs i j r × (before k rs i ≡ suc a)
  mem_part [] a m = absurd m
  mem_part (x ∷ rs) a m = next a (λ b n. mem_part rs b n) (eqb x.kind k) refl m
    where
      counts : (t : Bool) (i n : ℕ) → eqb x.kind k ≡ t → length (cond t (x ∷ of_kind k (take i rs)) (of_kind k (take i rs))) ≡ n → before k (x ∷ rs) (suc i) ≡ n
      counts t i n q e = ap (λ u. length (cond u (x ∷ of_kind k (take i rs)) (of_kind k (take i rs)))) q ∙ e

      next : (b : ℕ) → ((b : ℕ) → Mem r (of_kind j (get_or (parts k rs) b [])) → (i : ℕ) × At rs i j r × (before k rs i ≡ suc b)) → (t : Bool) → eqb x.kind k ≡ t → Mem r (of_kind j (get_or (cond t (front k rs ∷ parts k rs) (parts k rs)) b [])) → (i : ℕ) × At (x ∷ rs) i j r × (before k (x ∷ rs) i ≡ suc b)
      next zero rest true q n = let h = mem_front rs n in (suc h.0, on x h.1, counts true h.0 1 q (ap suc h.2))
      next (suc b) rest true q n = let h = rest b n in (suc h.0, on x h.1, counts true h.0 (suc (suc b)) q (ap suc h.2))
      next zero rest false q n = let h = rest 0 n in (suc h.0, on x h.1, counts false h.0 1 q h.2)
      next (suc b) rest false q n = let h = rest (suc b) n in (suc h.0, on x h.1, counts false h.0 (suc (suc b)) q h.2)
