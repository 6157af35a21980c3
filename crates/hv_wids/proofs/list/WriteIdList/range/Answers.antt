use Rattle.std.proofs.Common.{◌<◌, ◌⊎◌, inl, inr, List, subst, rules}
use Rattle.hv_wids.specs.declared.list.Range.TheVariants.{All, Zero, Part}
use Rattle.hv_wids.specs.WriteIds.{WriteIds, ids_of, IsRangeOf}
use Rattle.hv_wids.specs.Between.{IsCountBetween}
use Rattle.hv_wids.specs.declared.list.Exception.{Exception}
use Rattle.hv_wids.proofs.RangeLemmas.{range_of-from, IsRangeOf-part}
use Rattle.hv_wids.proofs.list.WriteIdList.range.Goals as goal
use Rattle.hv_wids.proofs.list.WriteIdList.range.Goals.{else-within-eq0-via-then-within-eq0+else-last-high, else-within-eq0-via-else-within-eq0}

pub returns-then-last-low-clause-value : goal.returns-then-last-low-clause-value
returns-then-last-low-clause-value c =
    range_of-from c.args.self.now c.args.low.0 c.args.high.0 Zero c.requires (search rules)

pub returns-then-within-last-clause-value : goal.returns-then-within-last-clause-value
returns-then-within-last-clause-value c =
    range_of-from c.args.self.now c.args.low.0 c.args.high.0 Zero c.requires (search rules)

pub returns-then-last-high-clause-value : goal.returns-then-last-high-clause-value
returns-then-last-high-clause-value c =
    range_of-from c.args.self.now c.args.low.0 c.args.high.0 All c.requires (search rules)

some_unseen : (c : goal.Joined-else-within-eq0) → (0 < c.count_between-within.result) ⊎ (c.self.inside.high.0 < c.args.high.0)
some_unseen c =
    elim c.else-within-eq0.branch [
      | else-within-eq0-via-then-within-eq0+else-last-high w ↦ inr (search rules)
      | else-within-eq0-via-else-within-eq0 w ↦ inl (search rules)
    ]

partly : (c : goal.Joined-else-within-eq0) → IsRangeOf c.args.self.now c.args.low.0 c.args.high.0 Part
partly c =
    let list : WriteIds = record { high = c.self.inside.high; exceptions = c.self.inside.exceptions } in
    let last = c.min-last.result in
    let counted = subst (λ (exceptions : List Exception). IsCountBetween c.args.low.0 last (ids_of exceptions) c.count_between-within.result) c.as_slice.ensures c.count_between-within.ensures in
    subst (λ (list : WriteIds). IsRangeOf list c.args.low.0 c.args.high.0 Part) c.self.view_is
    (IsRangeOf-part list c.args.low.0 last c.args.high.0 c.count_between-within.result counted (search rules) (search rules) (search rules) (search rules) (some_unseen c))

pub returns-else-within-eq0-clause-value : goal.returns-else-within-eq0-clause-value
returns-else-within-eq0-clause-value c =
    range_of-from c.args.self.now c.args.low.0 c.args.high.0 Part c.requires (partly c)

pub returns-else-within-eq0-clause-each : goal.returns-else-within-eq0-clause-each
returns-else-within-eq0-clause-each c = partly c
