use Rattle.std.proofs.Common.{◌∷◌, List, Option, rules, sym, subst}
use Rattle.hv_value.specs.declared.value.Value.{Value}
use Rattle.hv_value.specs.declared.row.Row.{Row}
use Rattle.hv_typing.specs.Rows.{Frame}
use Rattle.hv_partial.proofs.MergeLaws.{groups_none}
use Rattle.hv_workers.specs.Standing.{frames_standing}
use Rattle.hv_workers.proofs.Parted.{entered_both, entered_of, grouped_of, of_standing}
use Rattle.hv_workers.proofs.parts.entries_on.Goals as goal

pub returns : goal.returns
returns g c =
    let condition = c.args.condition.now in
    let sums = c.args.sums.now in
    let keys = c.args.first.now ∷ c.args.more.now in
    let rows = frames_standing c.args.standing.now in
    let entries = c.in_ok-entries.entries.items in
    let all : entered_of condition sums keys rows entries =
    of_standing (entered_of condition sums keys) (groups_none sums keys) (entered_both condition sums keys) c.args.standing.now _ c.len.result
    c.in_ok-answers.answers.items entries c.len.ensures c.in_ok-answers.ensures.ranges (λ from count answer says. search rules) c.in_ok-entries.ensures in
    subst (λ (found : List (Row × (Option Frame × List Value))). grouped_of condition sums keys rows found) (sym c.in_ok-found.ensures) all
