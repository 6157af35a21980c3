use Rattle.std.proofs.Common.{rules, ◌≡◌, [], List, sym, subst}
use Rattle.hv_partial.specs.declared.sum.Sum.{Sum}
use Rattle.hv_partial.specs.Lifts.{AllLift, MaybeLifts}
use Rattle.hv_partial.proofs.LiftLaws.{select_lifts}
use Rattle.hv_partial.proofs.select.lifted_behind.Goals as goal

pub returns : goal.returns
returns c = λ many.
    let items = c.in_ok-items.items in
    let having = c.in_ok-having.having in
    let between = c.all_lifted.new.sums.items in
    let none : c.new-sums.result.items ≡ [] = search rules in
    let all = subst (λ (sums : List Sum). AllLift sums between c.args.count c.args.items.now items) none c.in_ok-items.ensures in
    let one = subst (λ (sums : List Sum). MaybeLifts between sums c.args.count c.args.having.now having) (sym c.from_vec.ensures) c.in_ok-having.ensures in
    select_lifts between c.args.count c.args.items.now c.args.having.now (record { items = items; having = having; sums = c.from_vec.result }) all one many
