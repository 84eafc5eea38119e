use Rattle.std.proofs.Common.{◌≡◌, ℕ, Ok, Result, sym, ap, subst}
use Rattle.rules.specs.declared.calls.Kind.{Kind}
use Rattle.rules.specs.declared.calls.Kind.TheVariants.{Greedy, Necessary}
use Rattle.rules.specs.declared.calls.Refusal.{Refusal}
use Rattle.rules.specs.Machine.{KindNumber, KindNumber.one_greedy, KindNumber.two_necessary}
use Rattle.rules.specs.Results.{KindOf}
use Rattle.rules.proofs.OneAnswer.{kind_unique}
use Rattle.rules.proofs.conversions.KindTryFromUsize.try_from.Goals as goal

read : {k : ℕ} (κ : Kind) → KindNumber k κ → KindOf k (Ok κ)
read {k} κ is = record {
  right = λ x e. let same : κ ≡ x = cc in subst (KindNumber k) same is;
  found = λ x q. ap {B = Result Kind Refusal} Ok (kind_unique is q);
  refused = λ x e. cc;
}

pub returns-in-1 : goal.returns-in-1
returns-in-1 c = read Greedy (subst (λ n. KindNumber n Greedy) (sym c.in-1.is) one_greedy)

pub returns-in-2 : goal.returns-in-2
returns-in-2 c = read Necessary (subst (λ n. KindNumber n Necessary) (sym c.in-2.is) two_necessary)
