use Rattle.std.proofs.Common.{ap, ◌∙◌}
use Rattle.hv_meta.specs.hv_book.specs.hv_history.specs.State.{numbered}
use Rattle.hv_meta.specs.hv_book.specs.Past.{live_then}
use Rattle.hv_earlier.proofs.counts.was_live.Goals as goal

pub returns : goal.returns
returns c = record {
  live =
      c.live_then.ensures
      ∙ ap (live_then c.args.position) (c.numbered.ensures ∙ ap (λ spans. numbered spans c.args.table) c.deref.ensures.value)
      ∙ c.past.ensures.past.live c.args.position c.args.table;
}
