use Rattle.std.proofs.Common.{not, ap, ◌∙◌, rules}
use Rattle.std.specs.FinMap as tree
use Rattle.std.proofs.lemmas.Map.Made.{filter_same_pairs}
use Rattle.hv_shelf.specs.Places.{is_in}
use Rattle.hv_shelf.proofs.TreeLemmas.{retain-files}
use Rattle.hv_shelf.proofs.disk.MemoryDisk.remove.Goals as goal

pub returns : goal.returns
returns c = record {
  tree_is =
      retain-files (λ place. not (is_in c.args.dir.now place)) c.self.inside.files.entries c.retain.new.self.entries
      (filter_same_pairs _ (λ e. not (is_in c.args.dir.now e.0)) _ (λ k v b w f' t. search rules) _ _ c.retain.ensures.filtered)
      ∙ ap (λ s. tree.retain_keys s.tree (λ place. not (is_in c.args.dir.now place))) c.self.view_is;
  journal_is = ap (λ s. s.journal) c.self.view_is;
}
