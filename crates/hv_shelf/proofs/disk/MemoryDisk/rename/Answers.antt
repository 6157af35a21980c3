use Rattle.std.proofs.Common.{◌≡◌, None, map, ap, sym, ◌∙◌, subst}
use Rattle.std.specs.FinMap as tree
use Rattle.std.specs.BTreeMap.{is_at}
use Rattle.std.specs.Map.{lookup, update_all}
use Rattle.hv_shelf.specs.declared.place.Place.{Place}
use Rattle.hv_shelf.specs.Disk.{IsFree, renamed_get}
use Rattle.hv_shelf.specs.Places.{place_cmp, dir_named}
use Rattle.hv_shelf.proofs.RenameLemmas.{here, renamed_file, put-step, shown-end, renamed-moved, renamed-others}
use Rattle.hv_shelf.proofs.disk.MemoryDisk.rename.Goals as goal

pub loop-place-preserved-in_ok-insert : goal.loop-place-preserved-in_ok-insert
loop-place-preserved-in_ok-insert c = record {
  shown =
      put-step c.args.from.now c.args.to.now _ _ _ _ _ _ _ _ _ c.in-Some.ensures.steps c.in_ok-place.ensures
      (c.from_vec-bytes.ensures ∙ c.in_ok-from_slice.ensures.items ∙ c.as_slice.ensures) c.in_ok-insert.ensures.updates.0 c.loop-place.invariant.shown;
  ordered = c.in_ok-insert.ensures.ordered;
}

pub loop-place-preserved : goal.loop-place-preserved
loop-place-preserved c = record {
  shown =
      put-step c.args.from.now c.args.to.now _ _ _ _ _ _ _ _ _ c.in-Some.ensures.steps c.in_ok-place.ensures
      (c.from_vec-bytes.ensures ∙ c.in_ok-from_slice.ensures.items ∙ c.as_slice.ensures) c.in_ok-insert.ensures.updates.0 c.loop-place.invariant.shown;
  ordered = c.in_ok-insert.ensures.ordered;
}

shown : (c : goal.After-drop-self-inside) (q : Place) →
    lookup (is_at (place_cmp q)) c.loop-place.files.entries
    ≡ update_all here (λ _. None) (map (renamed_file c.args.from.now c.args.to.now) c.self.inside.files.entries) q
shown c =
    shown-end c.args.from.now c.args.to.now _ _ c.self.inside.files.entries _ c.in-None.ensures.steps.0
    (c.into_iter-place-iterator.ensures.into_iter_gives ∙ c.iter-place-items.ensures.rest) c.loop-place.invariant.shown

pub returns-clause-ok : goal.returns-clause-ok
returns-clause-ok c =
    let rising = c.iter-place-items.ensures.ordered
    in let was : tree.from_entries c.self.inside.files.entries ≡ c.args.self.now.tree = ap (λ s. s.tree) c.self.view_is
    in record {
      moved = λ free q.
          renamed-moved c.args.from.now c.args.to.now _ _ rising (shown c) (subst (IsFree (dir_named c.args.from.now c.args.to.now)) (sym was) free) q
          ∙ ap (λ t. renamed_get c.args.from.now c.args.to.now t q) was;
      others = λ q a b. renamed-others c.args.from.now c.args.to.now _ _ rising (shown c) q a b ∙ ap (λ t. tree.get t q) was;
      journal_is = ap (λ s. s.journal) c.self.view_is;
    }
