-- What follows leaves a statement alone.
use Rattle.std.proofs.Common.{◌≡◌, ℕ, Some, List, [], ◌∷◌, take, fold, ap, ◌∙◌, length-append, arith}
use Rattle.std.proofs.lemmas.List.Sums.{fold-append}
use Rattle.hv_history.specs.declared.entry.Entry.{Entry}
use Rattle.hv_history.specs.declared.entry.Entry.TheVariants as entry
use Rattle.hv_history.specs.declared.state.Transaction.{Transaction}
use Rattle.hv_history.specs.State.{State, nothing_yet, numbered, after, state_of}
use Rattle.hv_history.specs.Lasting.{txn_of}
use Rattle.hv_history.proofs.LastingLaws.{others-stay}
use Rattle.hv_stands.specs.Running.{meant, snapshot_at, running, IsNotOf, AreNotOf}
use Rattle.hv_stands.specs.Statements.{OthersLeaveIt}
use Rattle.hv_stands.proofs.Behind.{front-stays}

not-about : (txn : ℕ) (event : Entry) → IsNotOf txn event → txn_of event ≡ Some txn → ⊥
not-about txn (entry.Opened other session number text) apart e = cc
not-about txn event apart e = apart e

-- another's entries leave a transaction as it is
pub others-leave : (more : List Entry) (s : State) (txn : ℕ) (t : Transaction) → AreNotOf txn more → numbered s.transactions txn ≡ Some t
    → numbered (fold after s more).transactions txn ≡ Some t
others-leave [] s txn t apart at = at
others-leave (event ∷ more) s txn t apart at =
    others-leave more (after s event) txn t apart.1 (others-stay s event txn t (not-about txn event apart.0) at)

pub others-leave-it : OthersLeaveIt
others-leave-it book more asking txn place said given apart way = record {
  runs = way.runs;
  early = omega (arith, way.early, length-append book more);
  here = ap (λ (s : State). numbered s.transactions txn) (fold-append after nothing_yet book more)
      ∙ others-leave more (state_of book) txn (running asking (meant (take place book) said) (snapshot_at book place) given) apart way.here
      ∙ ap (λ (t : Transaction). Some t) (front-stays book more asking place said given way.early);
}
