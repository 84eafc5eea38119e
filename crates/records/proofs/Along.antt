-- What each accepted record keeps holds of all sound records. Assumes nothing.
use Rattle.std.proofs.Common.{◌≡◌, ℕ, zero, suc, ◌≤◌, List, [], ◌∷◌, ◌++◌, length, get_or, take, None, sym, subst, arith, take_all, take-suc}
use Rattle.records.specs.declared.record.Record.{Record}
use Rattle.records.specs.Records.{no_record}
use Rattle.records.specs.Faults.{Form, Sound}

module _ (fault : Form) (P : List Record → Type 0) (start : P []) (more : (rs : List Record) (r : Record) → P rs → fault rs r ≡ None → P (rs ++ r ∷ [])) (rs : List Record) (sound : Sound fault rs) where
  first : (n : ℕ) → n ≤ length rs → P (take n rs)
  first zero h = start
  first (suc n) h = subst (λ (l : List Record). P l) (sym (take-suc rs n no_record h)) (more (take n rs) (get_or rs n no_record) (first n (omega arith)) (sound n h))

  pub along : P rs
  along = subst (λ (l : List Record). P l) (take_all (length rs) rs (omega arith)) (first (length rs) (omega arith))
