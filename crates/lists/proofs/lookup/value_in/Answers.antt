use Rattle.std.proofs.Common.{tests, Bor, ◌≡◌, ℕ, true, false, cond, ◌==◌, List, [], ◌∷◌, Some, rules, refl, ap, ◌∙◌}
use Rattle.std.specs.List.{find}
use Rattle.std.specs.Option.{option_map}
use Rattle.std.proofs.lemmas.Iterator.{YieldsList-from_slice}
use Rattle.std.proofs.lemmas.Iterator.Search.{find_from_yields_List}
use Rattle.lists.specs.declared.table.Pair.{Pair}
use Rattle.lists.specs.Lists.{value_in}
use Rattle.lists.proofs.lookup.value_in.Goals as goal

-- the value of the first pair that is found
found : (ps : List Pair) (v : ℕ) → option_map (λ (p : Pair). p.value) (find (λ (p : Pair). p.variable == v) ps) ≡ value_in ps v
found [] v = refl
found (p ∷ ps) v = elim (p.variable == v) as (λ t. option_map (λ (p : Pair). p.value) (cond t (Some p) (find (λ (p : Pair). p.variable == v) ps)) ≡ cond t (Some p.value) (value_in ps v)) [ true ↦ refl | false ↦ found ps v ]

pub returns : goal.returns
returns c =
    let ps = c.args.pairs.now in
    let v = c.args.variable in
    let first : option_map (λ (x : Bor Pair). x.now) c.find.result ≡ find (λ (p : Pair). p.variable == v) ps =
    find_from_yields_List (λ (p : Pair). p.variable == v) _ _ c.find.result c.find.ensures.ran (YieldsList-from_slice ps cc) (λ x b q k. search (rules, tests)) in
    let value : c.map.result ≡ option_map (λ (p : Pair). p.value) (option_map (λ (x : Bor Pair). x.now) c.find.result) = search rules in
    value ∙ ap (option_map (λ (p : Pair). p.value)) first ∙ found ps v
