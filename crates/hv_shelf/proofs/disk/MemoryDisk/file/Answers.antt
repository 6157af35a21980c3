use Rattle.std.proofs.Common.{Some, ap, sym, ◌∙◌}
use Rattle.std.specs.FinMap as tree
use Rattle.hv_shelf.proofs.TreeLemmas.{get-files}
use Rattle.hv_shelf.proofs.disk.MemoryDisk.file.Goals as goal

pub returns-in-Some : goal.returns-in-Some
returns-in-Some c =
    ap Some c.as_slice.ensures ∙ c.in-Some.ensures.value
    ∙ sym (get-files c.self.inside.files.entries c.args.place.now)
    ∙ ap (λ s. tree.get s.tree c.args.place.now) c.self.view_is

pub returns-in-None : goal.returns-in-None
returns-in-None c =
    c.in-None.ensures.value
    ∙ sym (get-files c.self.inside.files.entries c.args.place.now)
    ∙ ap (λ s. tree.get s.tree c.args.place.now) c.self.view_is
