use Rattle.std.proofs.Common.{refl, ◌∙◌, arith}
use Rattle.std.proofs.lemmas.Result.{err_from_is_err_and}
use Rattle.hv_recovery.proofs.Blocks.{read_none, read_more, read_all, cause_none, cause_more}
use Rattle.hv_recovery.proofs.bytes.journal_bytes.Goals as goal

pub loop-bytes-init : goal.loop-bytes-init
loop-bytes-init g c = record {
  block = c.as_mut_slice-block.ensures.len ∙ c.in_ok-memory.ensures.len;
  read = read_none (g.D.Shelf.told c.args.shelf.now) _ c.new-bytes.ensures.items;
  same = refl;
  cause = cause_none _ _;
}

pub returns-in_err-count-clause-cause : goal.returns-in_err-count-clause-cause
returns-in_err-count-clause-cause g c = cause_more _ _ _ _ _ _ _ _ c.loop-bytes.invariant.cause c.in_err-count.ensures.cause (λ _. refl)

pub returns-then-count-eq0-clause-whole : goal.returns-then-count-eq0-clause-whole
returns-then-count-eq0-clause-whole g c =
    read_all (g.D.Shelf.told c.args.shelf.now) (g.D.Shelf.told c.loop-bytes.shelf) _ _ _ _ c.loop-bytes.invariant.same (c.len.ensures ∙ c.loop-bytes.bytes.ok.0) c.if-count-eq0.true (omega (arith, c.journal_read.auto.out, c.loop-bytes.invariant.block)) c.loop-bytes.invariant.read c.in_ok-count.ensures.done

pub returns-then-count-eq0-clause-cause : goal.returns-then-count-eq0-clause-cause
returns-then-count-eq0-clause-cause g c = cause_more _ _ _ _ _ _ _ _ c.loop-bytes.invariant.cause c.in_ok-count.ensures.cause (λ no. let no : ⊥ = cc in absurd no)

pub loop-bytes-preserved : goal.loop-bytes-preserved
loop-bytes-preserved g c = record {
  block = c.journal_read.auto.out ∙ c.loop-bytes.invariant.block;
  read = read_more (g.D.Shelf.told c.args.shelf.now) (g.D.Shelf.told c.loop-bytes.shelf) _ _ _ _ _ c.loop-bytes.invariant.same (c.len.ensures ∙ c.loop-bytes.bytes.ok.0) c.in_ok-count.ensures.room c.in_ok-extend_from_slice.ensures.items c.loop-bytes.invariant.read c.in_ok-count.ensures.done;
  same = c.in_ok-count.ensures.same ∙ c.loop-bytes.invariant.same;
  cause = cause_more _ ⊥ _ _ _ _ _ _ c.loop-bytes.invariant.cause c.in_ok-count.ensures.cause (λ no. absurd no);
}

pub returns-in_err-extend_from_slice-clause-cause : goal.returns-in_err-extend_from_slice-clause-cause
returns-in_err-extend_from_slice-clause-cause g c =
    let p = err_from_is_err_and c.from_residual-in_err-extend_from_slice.result c.from_residual-in_err-extend_from_slice.ensures.1 in
    cause_more _ _ _ _ _ _ _ _ c.loop-bytes.invariant.cause c.in_ok-count.ensures.cause (λ no. let none : ⊥ = cc (no, p.1, p.2) in absurd none)
