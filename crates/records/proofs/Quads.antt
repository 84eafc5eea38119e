-- The records of some bytes. Assumes nothing.
use Rattle.std.proofs.Common.{◌≡◌, ℕ, suc, ◌/◌, ◌<◌, ◌≤◌, List, [], ◌∷◌, map, length, get_or, refl, sym, ap, ◌∙◌, subst, arith}
use Rattle.std.proofs.lemmas.List.{length-map, get_or-map}
use Rattle.std.specs.Simd.{first_chunks}
use Rattle.records.specs.declared.record.Record.{Record}
use Rattle.records.specs.Records.{records, of_quad, no_record}

pub length_records : (bs : List ℕ) → length (records bs) ≡ length bs / 4
length_records [] = refl
length_records (a ∷ []) = refl
length_records (a ∷ b ∷ []) = refl
length_records (a ∷ b ∷ c ∷ []) = refl
length_records (a ∷ b ∷ c ∷ d ∷ rest) = let h = length_records rest in omega arith

pub records_of_chunks : (bs : List ℕ) → map of_quad (first_chunks 4 (length bs / 4) bs) ≡ records bs
records_of_chunks [] = refl
records_of_chunks (a ∷ []) = refl
records_of_chunks (a ∷ b ∷ []) = refl
records_of_chunks (a ∷ b ∷ c ∷ []) = refl
records_of_chunks (a ∷ b ∷ c ∷ d ∷ rest) =
    let more : length (a ∷ b ∷ c ∷ d ∷ rest) / 4 ≡ suc (length rest / 4) = omega arith in
    ap (λ n. map of_quad (first_chunks 4 n (a ∷ b ∷ c ∷ d ∷ rest))) more ∙ ap (λ (rs : List Record). record { kind = a; one = b; two = c; three = d } ∷ rs) (records_of_chunks rest)

-- the record of the quad i, and that there is one
pub quad_is : (bs : List ℕ) (qs : List (List ℕ)) (i : ℕ) (d : List ℕ) → map of_quad qs ≡ records bs → i < length qs → (i < length (records bs)) × (of_quad (get_or qs i d) ≡ get_or (records bs) i no_record)
quad_is bs qs i d e l = (
  subst (λ (rs : List Record). i < length rs) e (subst (λ n. i < n) (sym (length-map qs of_quad)) l),
  sym (get_or-map of_quad qs i d no_record l) ∙ ap (λ (rs : List Record). get_or rs i no_record) e,
)

pub quads_end : (bs : List ℕ) (qs : List (List ℕ)) (i : ℕ) → map of_quad qs ≡ records bs → length qs ≤ i → length (records bs) ≤ i
quads_end bs qs i e l = subst (λ (rs : List Record). length rs ≤ i) e (subst (λ n. n ≤ i) (sym (length-map qs of_quad)) l)
