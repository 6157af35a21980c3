use Rattle.std.proofs.Common.{ap, ◌∙◌}
use Rattle.std.specs.FinMap as tree
use Rattle.hv_shelf.proofs.TreeLemmas.{insert-files}
use Rattle.hv_shelf.proofs.disk.MemoryDisk.put.Goals as goal

pub returns-clause-ok : goal.returns-clause-ok
returns-clause-ok c = record {
  tree_is =
      insert-files c.self.inside.files.entries c.insert.new.self.entries c.in_ok-key.key c.from_vec-file.result c.in_ok-insert.ensures.updates.0
      ∙ ap (λ p. tree.insert (tree.from_entries c.self.inside.files.entries) p c.from_vec-file.result) c.in_ok-key.ensures.same
      ∙ ap (λ b. tree.insert (tree.from_entries c.self.inside.files.entries) c.args.place.now b) (c.from_vec-file.ensures ∙ c.in_ok-from_slice.ensures.items)
      ∙ ap (λ s. tree.insert s.tree c.args.place.now c.args.bytes.now) c.self.view_is;
  journal_is = ap (λ s. s.journal) c.self.view_is;
}
