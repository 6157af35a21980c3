use Rattle.std.proofs.Common.{arith, subst, sym}
use Rattle.std.specs.Str.{IsUtf8}
use Rattle.hv_lex.proofs.Reading.{left_utf8, piece_within, read_more}
use Rattle.hv_lex.proofs.tokens.lex.Goals as goal

pub front-requires-clause-utf8 : goal.front-requires-clause-utf8
front-requires-clause-utf8 c =
    left_utf8 c.bytes-bytes.result.now c.loop-at.at
    (subst IsUtf8 (sym c.bytes-bytes.ensures.value) c.bytes-bytes.ensures.utf8) c.loop-at-test.true

pub overflow_add-at : goal.overflow_add-at
overflow_add-at c =
    let bounds = piece_within c.bytes-bytes.result.now c.loop-at.at c.in_ok-piece.piece.what c.in_ok-piece.piece.length c.loop-at-test.true c.in_ok-piece.ensures in
    omega (arith, bounds.1)

pub loop-at-smaller : goal.loop-at-smaller
loop-at-smaller c =
    let bounds = piece_within c.bytes-bytes.result.now c.loop-at.at c.in_ok-piece.piece.what c.in_ok-piece.piece.length c.loop-at-test.true c.in_ok-piece.ensures in
    omega (arith, bounds.0, bounds.1)

pub loop-at-preserved : goal.loop-at-preserved
loop-at-preserved c =
    read_more c.bytes-bytes.result.now c.loop-at.at c.in_ok-piece.piece.length c.in_ok-piece.piece.what
    c.loop-at.tokens.items c.keep.new.tokens.items c.loop-at-test.true c.loop-at.invariant c.in_ok-piece.ensures c.in_ok-keep.ensures
