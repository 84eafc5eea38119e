-- The printed key of paper A: the calls that make it, what they are answered, and the key.
use Rattle.std.specs.Prelude.{ℕ, List, [], ◌∷◌, ◌++◌}
use Rattle.rules.specs.declared.calls.Kind.TheVariants.{Greedy, Necessary}
use Rattle.rules.specs.declared.calls.Call.{Call}
use Rattle.rules.specs.declared.calls.Call.TheVariants.{Propose, Order}
use Rattle.rules.specs.declared.calls.Answer.{Answer}
use Rattle.rules.specs.declared.calls.Answer.TheVariants.{Marked, Refused}
use Rattle.rules.specs.declared.calls.Mark.TheVariants.{Accepted}
use Rattle.rules.specs.declared.calls.Refusal.TheVariants.{NoLandmark, LaterAtStart, Unordered}
use Rattle.rules.specs.Machine.{Machine, opened, with_fact, with_ordering}

-- Every fact is proposed, upwards.
abbrev pub proposals : List Call
proposals = Propose 0 ∷ Propose 1 ∷ Propose 2 ∷ Propose 3 ∷ Propose 4 ∷ Propose 5 ∷ Propose 6 ∷ []

-- The facts 2 and 4 are no landmarks.
abbrev pub proposal_answers : List Answer
proposal_answers =
    Marked Accepted ∷ Marked Accepted ∷ Refused (NoLandmark 2) ∷ Marked Accepted ∷ Refused (NoLandmark 4) ∷ Marked Accepted ∷ Marked Accepted ∷ []

-- An earlier fact is ordered before each fact of the key, upwards, as greedy-necessary and then as necessary.
abbrev pub orders : ℕ → List Call
orders e =
    Order 1 e 0 ∷ Order 2 e 0 ∷ Order 1 e 1 ∷ Order 2 e 1 ∷ Order 1 e 3 ∷ Order 2 e 3
    ∷ Order 1 e 5 ∷ Order 2 e 5 ∷ Order 1 e 6 ∷ Order 2 e 6 ∷ []

-- The facts 0, 3 and 5 hold at the start; what is answered of the facts 1 and 6 is given.
abbrev pub order_answers : Answer → Answer → Answer → Answer → List Answer
order_answers greedy_1 necessary_1 greedy_6 necessary_6 =
    Refused (LaterAtStart 0) ∷ Refused (LaterAtStart 0) ∷ greedy_1 ∷ necessary_1 ∷ Refused (LaterAtStart 3) ∷ Refused (LaterAtStart 3)
    ∷ Refused (LaterAtStart 5) ∷ Refused (LaterAtStart 5) ∷ greedy_6 ∷ necessary_6 ∷ []

-- The answers to an earlier fact that no achiever of 1 or 6 needs.
abbrev pub unordered_answers : List Answer
unordered_answers = order_answers (Refused (Unordered 0)) (Refused (Unordered 0)) (Refused (Unordered 2)) (Refused (Unordered 2))

-- All facts are proposed, and then all pairs of the key are ordered.
abbrev pub key_calls : List Call
key_calls = proposals ++ (orders 0 ++ (orders 1 ++ (orders 3 ++ (orders 5 ++ orders 6))))

-- 0 comes before 1, but action 5 achieves 1 again without it; 1 comes before 6, whichever action achieves it.
abbrev pub key_answers : List Answer
key_answers =
    proposal_answers
    ++ (order_answers (Marked Accepted) (Refused (Unordered 5)) (Refused (Unordered 2)) (Refused (Unordered 2))
    ++ (order_answers (Refused (Unordered 0)) (Refused (Unordered 0)) (Marked Accepted) (Marked Accepted)
    ++ (unordered_answers ++ (unordered_answers ++ unordered_answers))))

-- A machine that holds the facts 0, 1, 3, 5 and 6.
abbrev pub facts_a : Machine
facts_a = with_fact (with_fact (with_fact (with_fact (with_fact opened 0) 1) 3) 5) 6

-- The machine that holds the printed key: these facts, 0 before 1 and 1 before 6, the latter as a necessary ordering too.
abbrev pub key_a : Machine
key_a = with_ordering (with_ordering (with_ordering facts_a Greedy 0 1) Greedy 1 6) Necessary 1 6
