use Rattle.std.proofs.Common.{◌∷◌, [], ◌++◌, ap, ◌∙◌}
use Rattle.std.proofs.lemmas.List.{map-append}
use Rattle.hv_workers.specs.Entries.{pair_of, pairs_in}
use Rattle.hv_workers.specs.declared.parts.Entry.{Entry}
use Rattle.hv_workers.proofs.parts.as_entries.Goals as goal

pub loop-key-preserved : goal.loop-key-preserved
loop-key-preserved c =
    let entry : Entry = record { key = c.in-Some.key; kept = c.in-Some.kept } in
    ap pairs_in c.in_ok-push.ensures.items ∙ map-append pair_of c.loop-key.entries.items (entry ∷ [])
    ∙ ap (λ l. l ++ pair_of entry ∷ []) c.loop-key.invariant
