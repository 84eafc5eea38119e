-- What a line asks for.
use Rattle.std.specs.Prelude.{ℕ, List, [], ◌∷◌, codes}
use Rattle.rules.specs.declared.calls.Call.TheVariants as call
use Rattle.sitting.specs.declared.requests.Command.{Command}
use Rattle.sitting.specs.declared.requests.Command.TheVariants.{Propose, Order, Begin, Step, Report, Tally, Held}
use Rattle.sitting.specs.declared.requests.Request.{Request}
use Rattle.sitting.specs.declared.requests.Request.TheVariants as request
use Rattle.sitting.specs.Lines.{Words, Written}

-- the word of a command
abbrev pub word_of : Command → List ℕ
word_of Propose = codes "propose"
word_of Order = codes "order"
word_of Begin = codes "begin"
word_of Step = codes "step"
word_of Report = codes "report"
word_of Tally = codes "tally"
word_of Held = codes "held"

-- the command of a request
abbrev pub command : Request → Command
command (request.Call (call.Propose f)) = Propose
command (request.Call (call.Order k e l)) = Order
command (request.Call call.Begin) = Begin
command (request.Call (call.Step a)) = Step
command (request.Call call.Report) = Report
command request.Tally = Tally
command request.Held = Held

-- the numbers that follow it
abbrev pub numbers : Request → List ℕ
numbers (request.Call (call.Propose f)) = f ∷ []
numbers (request.Call (call.Order k e l)) = k ∷ e ∷ l ∷ []
numbers (request.Call call.Begin) = []
numbers (request.Call (call.Step a)) = a ∷ []
numbers (request.Call call.Report) = []
numbers request.Tally = []
numbers request.Held = []

-- the line is the command of the request and the numbers that follow it
abbrev pub Means : List ℕ → Request → Type 0
Means line q = (ws : List (List ℕ)) × Words line (word_of (command q) ∷ ws) × Written ws (numbers q)
