use Rattle.std.proofs.Common.{◌∷◌, [], ◌++◌, sym, ap, ◌∙◌}
use Rattle.std.proofs.lemmas.List.{map-append}
use Rattle.hv_workers.specs.Entries.{pair_of}
use Rattle.hv_workers.proofs.parts.as_pairs.Goals as goal

pub loop-entry-preserved : goal.loop-entry-preserved
loop-entry-preserved c =
    let entry = c.in-Some.entry in
    c.in_ok-push.ensures.items ∙ ap (λ l. l ++ pair_of entry ∷ []) c.loop-entry.invariant
    ∙ sym (map-append pair_of c.loop-entry.yielded (entry ∷ []))
