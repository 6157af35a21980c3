use Rattle.std.proofs.Common.{◌≤◌, ℕ, List, sym, ap, ◌∙◌, subst}
use Rattle.std.specs.Prelude.{All}
use Rattle.std.specs.List.Sorted.{IsStrictlyIncreasing}
use Rattle.hv_wids.specs.declared.list.Exception.{Exception}
use Rattle.hv_wids.specs.WriteIds.{ids_of}
use Rattle.hv_job_calls.specs.Listing.{lost_up_to}
use Rattle.hv_job_calls.proofs.listing.cut_list.Goals as goal

pub new-requires-clause-rises : goal.new-requires-clause-rises
new-requires-clause-rises c =
    subst (λ (es : List Exception). IsStrictlyIncreasing (ids_of es)) (sym (c.in_ok-exceptions.ensures ∙ ap (lost_up_to c.args.mark) c.deref.ensures.value))
    c.requires.rises

pub new-requires-clause-within : goal.new-requires-clause-within
new-requires-clause-within c =
    subst (All (λ (exception : Exception). exception.write.0 ≤ c.min.result)) (sym (c.in_ok-exceptions.ensures ∙ ap (lost_up_to c.args.mark) c.deref.ensures.value))
    (subst (λ (high : ℕ). All (λ (exception : Exception). exception.write.0 ≤ high) (lost_up_to c.args.mark c.args.ids.now.lost.items)) (sym c.min.ensures)
    c.requires.within)
