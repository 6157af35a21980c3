use Rattle.std.proofs.Common.{◌≡◌, ◌∷◌, [], ◌++◌, ◌+◌, take, refl, sym, ap, ◌∙◌, arith}
use Rattle.std.proofs.lemmas.List.{take_more}
use Rattle.hv_keyed.proofs.GroupLaws.{keys_turn, kept_turn, kept_fits}
use Rattle.hv_keyed.proofs.grouping.fold_groups.Goals as goal

pub loop-row-preserved : goal.loop-row-preserved
loop-row-preserved g c =
    let i = c.loop-row.row-index in
    let rows = c.args.rows.now in
    let row = c.row-item.result in
    let by = c.args.grouping.now in
    let key = g.G.GroupFold.key_of by in
    let start = g.G.GroupFold.start by in
    let step = g.G.GroupFold.step by in
    let laws = g.met.K.Eq.laws in
    let is = c.in_ok-key.ensures in
    let more : take (i + 1) rows ≡ take i rows ++ row ∷ [] =
    take_more rows i row c.loop-row-test.true ∙ ap (λ r. take i rows ++ r ∷ []) (sym c.row-item.is) in
    record {
      keys = keys_turn laws key start step (take i rows) (take (i + 1) rows) row c.loop-row.keys.keys c.enter.new.keys.keys c.loop-row.kept.items c.enter.new.kept.items
          more c.loop-row.invariant.keys c.loop-row.invariant.kept (rw (← is) c.in_ok-number.ensures.keys) (rw (← is) c.in_ok-number.ensures.kept);
      kept = kept_turn laws key start step (take i rows) (take (i + 1) rows) row c.loop-row.keys.keys c.enter.new.keys.keys c.loop-row.kept.items c.enter.new.kept.items
          more c.loop-row.invariant.keys c.loop-row.invariant.kept (rw (← is) c.in_ok-number.ensures.keys) (rw (← is) c.in_ok-number.ensures.kept)
          c.in_ok-number.number c.index_mut.result.now c.step.new.kept (rw (← is) c.in_ok-number.ensures.number) c.in_ok-number.ensures.within (search c.index_mut.ensures.value) c.in_ok-step.ensures;
    }

pub index_mut-requires : goal.index_mut-requires
index_mut-requires g c =
    let i = c.loop-row.row-index in
    let rows = c.args.rows.now in
    let row = c.row-item.result in
    let by = c.args.grouping.now in
    let key = g.G.GroupFold.key_of by in
    let start = g.G.GroupFold.start by in
    let step = g.G.GroupFold.step by in
    let is = c.in_ok-key.ensures in
    let fits = kept_fits g.met.K.Eq.laws key start step (take i rows) (take i rows ++ row ∷ []) row c.loop-row.keys.keys c.enter.new.keys.keys c.loop-row.kept.items c.enter.new.kept.items
    refl c.loop-row.invariant.keys c.loop-row.invariant.kept (rw (← is) c.in_ok-number.ensures.keys) (rw (← is) c.in_ok-number.ensures.kept) in
    grind (arith, fits, c.in_ok-number.ensures.within)
