use Rattle.std.proofs.Common.{List, ℕ, ◌++◌, sym, ap, ◌∙◌}
use Rattle.hv_rowfile.proofs.Values.{flat_spelled, flat_taken, flat_fits}
use Rattle.hv_rowfile.proofs.reading.values.read_flat_value.Goals as goal

pub returns-clause-found : goal.returns-clause-found
returns-clause-found c =
    let found = c.in_ok-value.ensures.found in
    let v = c.in_ok-value.value in
    (flat_taken v found.0, flat_fits v found.0 found.1, found.2 ∙ ap (λ (x : List ℕ). x ++ c.in_ok-value.after.now) (sym (flat_spelled v found.0)))
