use Rattle.std.proofs.Common.{◌≡◌, Some, List, slice_get, sym, ◌∙◌, subst}
use Rattle.hv_base.specs.declared.ids.Touch.{Touch}
use Rattle.hv_stands.specs.Running.{IsOwnCause}
use Rattle.hv_acts.proofs.Commits.{found-within, found-small, found-fits, found-marked, found-true, found-met, commit-lacks}
use Rattle.hv_acts.proofs.committing.end_by_conflict.Goals as goal

pub conflict_at-requires : goal.conflict_at-requires
conflict_at-requires g c = record {
  within = found-within c.as_slice.result.now c.args.found.at c.requires.clash.touch
      (subst (λ (ts : List Touch). slice_get ts c.args.found.at ≡ Some c.requires.clash.touch) (sym c.as_slice.ensures) c.requires.clash.found);
}

pub note_conflict-requires-clause-own : goal.note_conflict-requires-clause-own
note_conflict-requires-clause-own g c =
    let of = c.in-Ok.ensures.conflict c.requires.clash.touch
    (subst (λ (ts : List Touch). slice_get ts c.args.found.at ≡ Some c.requires.clash.touch) (sym c.as_slice.ensures) c.requires.clash.found) in
    subst IsOwnCause (sym of.cause_is) tt

pub note_conflict-requires-clause-small : goal.note_conflict-requires-clause-small
note_conflict-requires-clause-small g c =
    let of = c.in-Ok.ensures.conflict c.requires.clash.touch
    (subst (λ (ts : List Touch). slice_get ts c.args.found.at ≡ Some c.requires.clash.touch) (sym c.as_slice.ensures) c.requires.clash.found) in
    found-small c.args.house.now c.args.due.now.txn c.args.due.now.wrote c.args.found c.requires.clash c.requires.running c.args.due.now.name
    c.next_place-at.result c.in-Ok.conflict of c.requires.small

pub note_conflict-requires-clause-fits : goal.note_conflict-requires-clause-fits
note_conflict-requires-clause-fits g c =
    let of = c.in-Ok.ensures.conflict c.requires.clash.touch
    (subst (λ (ts : List Touch). slice_get ts c.args.found.at ≡ Some c.requires.clash.touch) (sym c.as_slice.ensures) c.requires.clash.found) in
    found-fits c.args.house.now c.args.due.now.txn c.args.due.now.wrote c.args.found c.requires.clash c.requires.running c.args.due.now.name
    c.next_place-at.result c.in-Ok.conflict of

pub note_conflict-requires-clause-marked : goal.note_conflict-requires-clause-marked
note_conflict-requires-clause-marked g c =
    let of = c.in-Ok.ensures.conflict c.requires.clash.touch
    (subst (λ (ts : List Touch). slice_get ts c.args.found.at ≡ Some c.requires.clash.touch) (sym c.as_slice.ensures) c.requires.clash.found) in
    found-marked c.args.house.now c.args.due.now.txn c.args.due.now.wrote c.args.found c.requires.clash c.requires.running c.args.due.now.name
    c.next_place-at.result c.in-Ok.conflict of

pub note_conflict-requires-clause-truly : goal.note_conflict-requires-clause-truly
note_conflict-requires-clause-truly g c told =
    let of = c.in-Ok.ensures.conflict c.requires.clash.touch
    (subst (λ (ts : List Touch). slice_get ts c.args.found.at ≡ Some c.requires.clash.touch) (sym c.as_slice.ensures) c.requires.clash.found) in
    found-true c.args.house.now c.args.due.now.txn c.args.due.now.wrote c.args.found c.requires.clash c.requires.running c.args.due.now.name
    c.next_place-at.result c.in-Ok.conflict of c.args.due.now.put (c.requires.truly told)

pub note_conflict-requires-clause-place : goal.note_conflict-requires-clause-place
note_conflict-requires-clause-place g c =
    let of = c.in-Ok.ensures.conflict c.requires.clash.touch
    (subst (λ (ts : List Touch). slice_get ts c.args.found.at ≡ Some c.requires.clash.touch) (sym c.as_slice.ensures) c.requires.clash.found) in
    of.place ∙ c.next_place-at.ensures.place

pub note_conflict-requires-clause-same : goal.note_conflict-requires-clause-same
note_conflict-requires-clause-same g c =
    let of = c.in-Ok.ensures.conflict c.requires.clash.touch
    (subst (λ (ts : List Touch). slice_get ts c.args.found.at ≡ Some c.requires.clash.touch) (sym c.as_slice.ensures) c.requires.clash.found) in
    of.same ∙ sym of.cause_is

pub returns-in-Ok : goal.returns-in-Ok
returns-in-Ok g c =
    let of = c.in-Ok.ensures.conflict c.requires.clash.touch
    (subst (λ (ts : List Touch). slice_get ts c.args.found.at ≡ Some c.requires.clash.touch) (sym c.as_slice.ensures) c.requires.clash.found) in
    record {
      committed = c.note_conflict.ensures.committed c.args.due.now.wrote c.args.due.now.name c.args.due.now.put
          (found-met c.args.house.now c.args.due.now.txn c.args.due.now.wrote c.args.found c.requires.clash c.requires.running c.args.due.now.name
          c.next_place-at.result c.in-Ok.conflict of);
      hard = c.note_conflict.ensures.hard;
    }

pub returns-in-Err : goal.returns-in-Err
returns-in-Err g c = record {
  committed =
      commit-lacks g.D.Shelf.told g.D.Shelf.faults c.args.due.now.txn c.args.due.now.wrote c.args.due.now.name c.args.due.now.put
      c.args.house.now c.requires.whole;
  hard = c.requires.hard;
}
