use Rattle.std.proofs.Common.{[], rules, IsPermutation}
use Rattle.std.specs.Global.{Vec}
use Rattle.std.proofs.lemmas.List.Sorted.{IsPermutation-append, IsPermutation-refl}
use Rattle.std.proofs.lemmas.Result.{IfOk-weaker}
use Rattle.hv_value.specs.declared.row.Row.{Row}
use Rattle.hv_shuffle.specs.Parts.{AreOfParts}
use Rattle.hv_shuffle.proofs.PartLemmas.{parts_of_jobs}
use Rattle.hv_shuffle.proofs.ShuffleLemmas.{parts_joined}
use Rattle.hv_order.specs.Parts.{rows_in}
use Rattle.hv_order.proofs.Seams.{is_ordered, all_sorted, ordered_moves}
use Rattle.hv_order.proofs.parts.lists_sorted.Goals as goal

pub returns-clause-moves : goal.returns-clause-moves
returns-clause-moves g c =
    let keys = c.args.keys.now in
    let parts : AreOfParts (is_ordered keys) (rows_in c.args.lists.items) c.in_ok-answers.answers.items =
    parts_of_jobs (λ (list : Vec Row). list.items) _ (is_ordered keys) (λ job answer says. search rules) c.args.lists.items c.in_ok-answers.answers.items c.in_ok-answers.ensures in
    IfOk-weaker c.put_together.result _ _
    (λ found joins. parts_joined IsPermutation (IsPermutation-refl []) (λ us cs bs ds one two. IsPermutation-append us bs cs ds one two) (is_ordered keys)
    (rows_in c.args.lists.items) c.in_ok-answers.answers.items found.rows.items (λ part list is. ordered_moves keys part list.items is) parts joins)
    c.put_together.ensures.joined

pub returns-clause-sorted : goal.returns-clause-sorted
returns-clause-sorted g c =
    let keys = c.args.keys.now in
    let parts : AreOfParts (is_ordered keys) (rows_in c.args.lists.items) c.in_ok-answers.answers.items =
    parts_of_jobs (λ (list : Vec Row). list.items) _ (is_ordered keys) (λ job answer says. search rules) c.args.lists.items c.in_ok-answers.answers.items c.in_ok-answers.ensures in
    IfOk-weaker c.put_together.result _ _
    (λ found sorted now. sorted now (all_sorted keys parts.parts c.in_ok-answers.answers.items parts.each))
    c.put_together.ensures.sorted
