-- What ends a statement gives its answer, which stays.
use Rattle.std.proofs.Common.{◌≡◌, ℕ, Bool, IsSomeAnd, Option, Some, None, List, [], ◌∷◌, ◌++◌, take, fold, refl, sym, ap, ◌∙◌}
use Rattle.std.proofs.lemmas.List.Sums.{fold-append}
use Rattle.hv_ast.specs.declared.statement.Stmt.{Stmt}
use Rattle.hv_history.specs.declared.entry.Entry.{Entry}
use Rattle.hv_history.specs.declared.entry.Entry.TheVariants as entry
use Rattle.hv_history.specs.declared.state.Ending.{Ending}
use Rattle.hv_history.specs.declared.state.Transaction.{Transaction}
use Rattle.hv_history.specs.State.{State, nothing_yet, numbered, opened, after, state_of}
use Rattle.hv_history.specs.Answers.{answer_in, answer_of}
use Rattle.hv_history.specs.Lasting.{Later}
use Rattle.hv_history.proofs.LastingLaws.{goes-on-all}
use Rattle.hv_stands.specs.Running.{Asking, meant, snapshot_at, running, is_refused_transaction, HasAnswered}
use Rattle.hv_stands.specs.Statements.{CommitsAnswer, CreatesAnswer, DropsAnswer, AbortsAnswer, WaitingAbortsAnswer, AnswersStay}
use Rattle.hv_stands.proofs.Numbers.{found}
use Rattle.hv_stands.proofs.Behind.{numbered-behind, committed-there, created-there, dropped-there, aborted-there}

-- the answer of the transaction that stands there
answered-by : (book : List Entry) (txn : ℕ) (t : Transaction) (reply : List ℕ) (refused : Bool) → numbered (state_of book).transactions txn ≡ Some t
    → answer_of t ≡ Some reply → is_refused_transaction (Some t) ≡ refused → HasAnswered book txn reply refused
answered-by book txn t reply refused at says aborts = record { answer_is = ap answer_in at ∙ says; refusal = ap is_refused_transaction at ∙ aborts }

-- a statement that is under way
abbrev way_of : List Entry → Asking → ℕ → Stmt → List (ℕ × ℕ) → Transaction
way_of book asking place said given = running asking (meant (take place book) said) (snapshot_at book place) given

pub commits-answer : CommitsAnswer
commits-answer book asking txn place said given wrote way =
    let event : Entry = entry.Commit (record { 0 = txn }) wrote in
    answered-by (book ++ event ∷ []) txn _ _ _
    (numbered-behind book event txn _ (committed-there (state_of book) txn (way_of book asking place said given) way.here refl wrote)) refl refl

pub creates-answer : CreatesAnswer
creates-answer book asking txn place said given table way =
    let event : Entry = entry.Create (record { 0 = txn }) table in
    answered-by (book ++ event ∷ []) txn _ _ _
    (numbered-behind book event txn _ (created-there (state_of book) txn (way_of book asking place said given) way.here refl table)) refl refl

pub drops-answer : DropsAnswer
drops-answer book asking txn place said given table way =
    let event : Entry = entry.Drop (record { 0 = txn }) table in
    answered-by (book ++ event ∷ []) txn _ _ _
    (numbered-behind book event txn _ (dropped-there (state_of book) txn (way_of book asking place said given) way.here refl table)) refl refl

pub aborts-answer : AbortsAnswer
aborts-answer book asking txn place said given why way =
    let event : Entry = entry.Abort (record { 0 = txn }) why in
    answered-by (book ++ event ∷ []) txn _ _ _
    (numbered-behind book event txn _ (aborted-there (state_of book) txn (way_of book asking place said given) way.here refl why)) refl refl

pub waiting-aborts-answer : WaitingAbortsAnswer
waiting-aborts-answer book asking txn said why waiting =
    let event : Entry = entry.Abort (record { 0 = txn }) why in
    answered-by (book ++ event ∷ []) txn _ _ _
    (numbered-behind book event txn _ (aborted-there (state_of book) txn (opened asking.session asking.number asking.text) waiting.here refl why)) refl refl

-- one that is answered has ended
has-ended : (t : Transaction) (reply : List ℕ) → answer_of t ≡ Some reply → (e : Ending) × (t.ending ≡ Some e)
has-ended t reply says = by t.ending refl says
  where
    by : (o : Option Ending) → t.ending ≡ o → answer_of t ≡ Some reply → (e : Ending) × (t.ending ≡ Some e)
    by None is says =
        let none : answer_of t ≡ None = ap (λ (o : Option Ending). answer_of (record t { ending = o })) is in
        let never : None ≡ Some reply = sym none ∙ says in cc
    by (Some e) is says = (e, is)

same-later : (before : Transaction) (o : Option Transaction) (e : Ending) → before.ending ≡ Some e → IsSomeAnd o (Later before) → o ≡ Some before
same-later before o e is later =
    let here = found (Later before) o later in here.1 ∙ ap (λ (t : Transaction). Some t) (here.2.ending e is)

pub answers-stay : AnswersStay
answers-stay book more txn reply refused has = by (numbered (state_of book).transactions txn) refl has.answer_is has.refusal
  where
    by : (o : Option Transaction) → numbered (state_of book).transactions txn ≡ o → answer_in o ≡ Some reply → is_refused_transaction o ≡ refused
        → HasAnswered (book ++ more) txn reply refused
    by None at says aborts = let never : None ≡ Some reply = says in cc
    by (Some t) at says aborts =
        let end = has-ended t reply says in
        answered-by (book ++ more) txn t reply refused
        (ap (λ (s : State). numbered s.transactions txn) (fold-append after nothing_yet book more)
        ∙ same-later t (numbered (fold after (state_of book) more).transactions txn) end.0 end.1 ((goes-on-all more (state_of book)).transactions txn t at))
        says aborts
