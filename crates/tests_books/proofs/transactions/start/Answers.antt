use Rattle.std.proofs.Common.{◌≡◌, ℕ, ◌<◌, Some, length, slice_get, refl, ap, ◌∙◌, arith, rules}
use Rattle.std.specs.Prelude.{slice_set}
use Rattle.std.proofs.lemmas.Option.{slice_get_read}
use Rattle.hv_history.specs.declared.state.Transaction.{Transaction}
use Rattle.hv_history.specs.State.{started, while_open}
use Rattle.hv_history.proofs.NumberLemmas.{put_changed}
use Rattle.tests_books.specs.Replay.{state_at, state_now, comes_at, begun}
use Rattle.tests_books.proofs.Starts.{begun-now}
use Rattle.tests_books.proofs.transactions.start.Goals as goal

pub returns : goal.returns
returns c =
    let ts = c.args.transactions.now.items in
    let tables = c.args.tables.now in
    let at = c.in-Some.at in
    let was = c.index_mut-transaction.result.now in
    let within : at < length ts = omega (arith, c.in-Some.ensures.0, ap length c.deref.ensures.value) in
    let there : slice_get ts at ≡ Some was = slice_get_read ts (length ts) at was refl within c.index_mut-transaction.ensures.value in
    let said : c.in_ok-meaning.meaning ≡ comes_at (state_now ts tables) c.args.number (slice_get ts at) = search rules in
    let same = begun-now c.args.place ts tables c.args.number c.in_ok-meaning.meaning was (said ∙ ap (comes_at (state_now ts tables) c.args.number) there) in
    let count : c.len-opened.result ≡ length ts = omega (arith, c.len-opened.ensures, c.args.transactions.now.ok.0) in
    let counted = ap (λ (n : ℕ). begun c.args.place n tables c.args.number c.in_ok-meaning.meaning was) count in
    ap (λ (t : Transaction). slice_set ts at t) (c.in_ok-begin.ensures ∙ (counted ∙ same))
    ∙ put_changed while_open (started (state_at c.args.place ts tables) c.args.number) ts c.deref.result.now c.args.txn at was
    c.deref.ensures.value c.in-Some.ensures.1 c.index_mut-transaction.ensures.value
