use Rattle.std.proofs.Common.{false, List, filter, fold, ap, ◌∙◌}
use Rattle.hv_earlier.specs.hv_meta.specs.hv_book.specs.declared.jobs.JobNote.{JobNote}
use Rattle.hv_tallies.specs.Jobs.{or_busy, is_asked_of}
use Rattle.hv_tallies.proofs.AskedLemmas.{busy-is}
use Rattle.hv_tallies.proofs.survey.was_busy.Goals as goal

pub returns : goal.returns
returns c =
    let entries = c.args.book.now.entries in
    record {
      was = λ kind.
          c.busy_of.ensures
          ∙ ap (λ (notes : List JobNote). fold (or_busy c.args.place) false (filter (is_asked_of entries c.args.table c.args.partition.now) notes)) c.jobs.ensures.jobs
          ∙ busy-is entries c.args.table c.args.partition.now c.args.place kind;
    }
