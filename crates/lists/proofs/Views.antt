-- The rows of a table. Assumes nothing.
use Rattle.std.proofs.Common.{◌≡◌, ℕ, ◌-◌, ◌<◌, List, map, length, get_or, set, sym, ap, ◌∙◌, subst, arith}
use lib.ListN.{length-map}
use Rattle.std.proofs.lemmas.List.{map-set, get_or-map}
use Rattle.lists.specs.declared.table.Operator.{Operator}
use Rattle.lists.specs.Lists.{Row, Lists, no_row}
use Rattle.lists.specs.Puts.{last_row, with_rows, with_last}
use Rattle.lists.specs.View.{row_of}

end_row : (os : List Operator) (o : Operator) → 0 < length os → o ≡ get_or os (length os - 1) o → get_or (map row_of os) (length (map row_of os) - 1) no_row ≡ row_of o
end_row os o l e = ap (λ n. get_or (map row_of os) (n - 1) no_row) (length-map os row_of) ∙ get_or-map row_of os (length os - 1) o no_row (omega arith) ∙ ap row_of (sym e)

-- the last row, at the length n that the code read
pub last_is : (os : List Operator) (n : ℕ) (o : Operator) → n ≡ length os → 0 < n → o ≡ get_or os (n - 1) o → (0 < length (map row_of os)) × (get_or (map row_of os) (length (map row_of os) - 1) no_row ≡ row_of o)
last_is os n o e l h =
    let some : 0 < length os = subst (λ k. 0 < k) e l in
    (subst (λ k. 0 < k) (sym (length-map os row_of)) some, end_row os o some (subst (λ k. o ≡ get_or os (k - 1) o) e h))

-- a change of the last operator
relast_row : (os : List Operator) (o new : Operator) (w : Row → Row) → 0 < length os → o ≡ get_or os (length os - 1) o → row_of new ≡ w (row_of o) → map row_of (set os (length os - 1) new) ≡ set (map row_of os) (length (map row_of os) - 1) (w (get_or (map row_of os) (length (map row_of os) - 1) no_row))
relast_row os o new w l e h =
    map-set row_of os (length os - 1) new
    ∙ ap (set (map row_of os) (length os - 1)) (h ∙ ap w (sym (end_row os o l e)))
    ∙ ap (λ n. set (map row_of os) (n - 1) (w (get_or (map row_of os) (length (map row_of os) - 1) no_row))) (sym (length-map os row_of))

-- the same at the length n that the code read
pub relast_at : (b : Lists) (os : List Operator) (o new : Operator) (w : Row → Row) (n : ℕ) → b.rows ≡ map row_of os → n ≡ length os → 0 < n → o ≡ get_or os (n - 1) o → row_of new ≡ w (row_of o) → with_rows b (map row_of (set os (n - 1) new)) ≡ with_last b (w (last_row b))
relast_at b os o new w n q m l e h =
    ap (λ k. with_rows b (map row_of (set os (k - 1) new))) m
    ∙ ap (with_rows b) (relast_row os o new w (subst (λ k. 0 < k) m l) (subst (λ k. o ≡ get_or os (k - 1) o) m e) h)
    ∙ ap (λ (rs : List Row). with_rows b (set rs (length rs - 1) (w (get_or rs (length rs - 1) no_row)))) (sym q)
