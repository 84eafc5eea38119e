use Rattle.std.proofs.Common.{◌≡◌, refl, rules}
use Rattle.std.specs.Option.{option_map}
use Rattle.rules.specs.declared.calls.Call.TheVariants as call
use Rattle.sitting.specs.declared.requests.Command.TheVariants.{Propose, Begin, Step, Report, Tally, Held}
use Rattle.sitting.specs.declared.requests.Request.TheVariants as request
use Rattle.sitting.proofs.Choosing.{asks_at, asks_none, asks_one, asks_three, order}
use Rattle.sitting.proofs.parsing.parse_numbers.Goals as goal

pub returns-in-Propose : goal.returns-in-Propose
returns-in-Propose c =
    let is : c.map-in-Propose.result ≡ option_map (λ n. request.Call (call.Propose n)) c.one_number.result = search rules in
    rw is
    (asks_at c.in-Propose.is (asks_one Propose (λ n. request.Call (call.Propose n)) c.args.rest.now (λ n. refl) (λ n. refl) (λ ns. refl) c.one_number.result c.one_number.ensures))

pub returns-in-Order : goal.returns-in-Order
returns-in-Order c =
    let is : c.map-in-Order-2.result ≡ option_map order c.three_numbers.result = search rules in
    rw is
    (asks_at c.in-Order.is (asks_three c.args.rest.now c.three_numbers.result c.three_numbers.ensures))

pub returns-in-Step : goal.returns-in-Step
returns-in-Step c =
    let is : c.map-in-Step-2.result ≡ option_map (λ n. request.Call (call.Step n)) c.one_number-in-Step.result = search rules in
    rw is
    (asks_at c.in-Step.is (asks_one Step (λ n. request.Call (call.Step n)) c.args.rest.now (λ n. refl) (λ n. refl) (λ ns. refl) c.one_number-in-Step.result c.one_number-in-Step.ensures))

pub returns-in-Begin : goal.returns-in-Begin
returns-in-Begin c =
    asks_at c.in-Begin.is (asks_none Begin (request.Call call.Begin) c.args.rest.now refl refl (λ ns. refl) c.without_numbers.result c.without_numbers.ensures)

pub returns-in-Report : goal.returns-in-Report
returns-in-Report c =
    asks_at c.in-Report.is (asks_none Report (request.Call call.Report) c.args.rest.now refl refl (λ ns. refl) c.without_numbers-in-Report.result c.without_numbers-in-Report.ensures)

pub returns-in-Tally : goal.returns-in-Tally
returns-in-Tally c =
    asks_at c.in-Tally.is (asks_none Tally request.Tally c.args.rest.now refl refl (λ ns. refl) c.without_numbers-in-Tally.result c.without_numbers-in-Tally.ensures)

pub returns-in-Held : goal.returns-in-Held
returns-in-Held c =
    asks_at c.in-Held.is (asks_none Held request.Held c.args.rest.now refl refl (λ ns. refl) c.without_numbers-in-Held.result c.without_numbers-in-Held.ensures)
