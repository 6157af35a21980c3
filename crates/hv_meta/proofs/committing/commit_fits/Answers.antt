use Rattle.std.proofs.Common.{sym, ap, ◌∙◌, subst}
use Rattle.std.specs.Prelude.{Bool, not, ◌&&◌, ◌↔◌, IsTrue}
use Rattle.hv_book.specs.hv_history.specs.State.{state_of, numbered}
use Rattle.hv_book.specs.hv_history.specs.Legal.{CommitFits, Of}
use Rattle.hv_meta.specs.Committing.{started_place}
use Rattle.hv_meta.proofs.CommitLemmas.{commit-law}
use Rattle.hv_meta.proofs.committing.commit_fits.Goals as goal

pub returns-then-may : goal.returns-then-may
returns-then-may c =
    let state = state_of c.args.book.now.entries in
    record {
      fits =
          subst (λ (b : Bool). IsTrue (b && not c.has_conflict-conflict.result) ↔ Of state c.args.txn.0 (CommitFits state c.args.wrote.now)) c.if-may.true
          (commit-law state c.args.wrote.now (numbered state.transactions c.args.txn.0) c.started_place-place.result
          (c.started_place-place.ensures ∙ ap started_place c.note_of.ensures.note) c.may_write-may.result c.has_conflict-conflict.result
          c.may_write-may.ensures.may c.has_conflict-conflict.ensures.conflict);
    }

pub returns-else-may : goal.returns-else-may
returns-else-may c =
    let state = state_of c.args.book.now.entries in
    record {
      fits =
          subst (λ (b : Bool). IsTrue b ↔ Of state c.args.txn.0 (CommitFits state c.args.wrote.now)) (sym c.if-may.false)
          (subst (λ (b : Bool). IsTrue (b && not c.has_conflict-conflict.result) ↔ Of state c.args.txn.0 (CommitFits state c.args.wrote.now)) c.if-may.false
          (commit-law state c.args.wrote.now (numbered state.transactions c.args.txn.0) c.started_place-place.result
          (c.started_place-place.ensures ∙ ap started_place c.note_of.ensures.note) c.may_write-may.result c.has_conflict-conflict.result
          c.may_write-may.ensures.may c.has_conflict-conflict.ensures.conflict));
    }
