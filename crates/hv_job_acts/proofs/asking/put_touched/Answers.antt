use Rattle.std.proofs.Common.{◌++◌, map, ap, ◌∙◌}
use Rattle.std.specs.List.{flat_map}
use Rattle.hv_tallies.proofs.CoveredLemmas.{then-ok}
use Rattle.hv_job_acts.specs.Work.{touched_by, in_order, part_at}
use Rattle.hv_job_acts.proofs.asking.put_touched.Goals as goal

pub returns : goal.returns
returns c =
    then-ok c.put_texts.result c.put_texts.ensures
    (λ put. put ∙ ap (λ texts. c.args.parts.now.items ++ map (part_at c.args.table) texts)
    (c.in_ok-texts.ensures ∙ ap in_order (c.in_ok-found.ensures ∙ ap (flat_map (touched_by c.args.table)) c.entries.ensures.entries)))
