-- A statement begins: its Opened, its Start, its write id.
use Rattle.std.proofs.Common.{◌≡◌, ℕ, Some, List, [], ◌∷◌, ◌++◌, length, take, refl, sym, ap, ◌∙◌, subst, append_assoc, arith}
use Rattle.std.proofs.Math.Seq.{take-append_seam}
use Rattle.hv_ast.specs.declared.statement.Stmt.{Stmt}
use Rattle.hv_history.specs.hv_built.specs.Running.{Runs}
use Rattle.hv_history.specs.declared.entry.Entry.{Entry}
use Rattle.hv_history.specs.declared.entry.Entry.TheVariants as entry
use Rattle.hv_history.specs.declared.state.Transaction.{Transaction}
use Rattle.hv_history.specs.State.{opened, started, means, meaning_in, state_of}
use Rattle.hv_stands.specs.Running.{Asking, next_number, opening, starting, meant, snapshot_at, running, IsUnderWay}
use Rattle.hv_stands.specs.Statements.{Opens, Starts, Begins, IdsAreGiven}
use Rattle.hv_stands.proofs.Behind.{entries-are, one-longer, front-stays, opened-there, started-there, given-there, numbered-behind}

pub opens : Opens
opens book asking said runs = record {
  runs = runs;
  here = numbered-behind book (opening book asking) (next_number book) (Some (opened asking.session asking.number asking.text))
      (opened-there (state_of book) asking.session asking.number asking.text);
}

-- it means what its text means in the state of the book
means-there : (book : List Entry) (text : List ℕ) (said : Stmt) → Runs text said → meaning_in (state_of book) text ≡ meant book said
unfolding meaning_in
means-there book text said runs = ap (means (state_of book)) runs.read

started-runs : (book more : List Entry) (asking : Asking) (said : Stmt) → Runs asking.text said
    → started (state_of book) 0 (opened asking.session asking.number asking.text)
    ≡ running asking (meant (take (length book) (book ++ more)) said) (snapshot_at (book ++ more) (length book)) []
started-runs book more asking said runs =
    (λ i. running asking (means-there book asking.text said runs i) (record { place = entries-are book i; tables = (state_of book).tables; opened = length (state_of book).transactions }) [])
    ∙ ap (λ (front : List Entry). running asking (meant front said) (record { place = length book; tables = (state_of front).tables; opened = length (state_of front).transactions }) [])
    (sym (take-append_seam book more))

pub starts : Starts
starts book asking txn said waiting = record {
  runs = waiting.runs;
  early = omega (arith, one-longer book (starting txn));
  here = numbered-behind book (starting txn) txn _
      (started-there (state_of book) txn (opened asking.session asking.number asking.text) waiting.here refl
      ∙ ap (λ (t : Transaction). Some t) (started-runs book (starting txn ∷ []) asking said waiting.runs));
}

pub begins : Begins
begins book asking said runs =
    let event : Entry = opening book asking in
    let next : Entry = starting (next_number book) in
    let both = starts (book ++ event ∷ []) asking (next_number book) said (opens book asking said runs) in
    subst (λ (place : ℕ). IsUnderWay (book ++ event ∷ next ∷ []) asking (next_number book) place said []) (one-longer book event)
    (subst (λ (now : List Entry). IsUnderWay now asking (next_number book) (length (book ++ event ∷ [])) said []) (append_assoc book (event ∷ []) (next ∷ [])) both)

pub ids-given : IdsAreGiven
ids-given book asking txn place said given table write way =
    let event : Entry = entry.Given (record { 0 = txn }) table write in
    record {
      runs = way.runs;
      early = omega (arith, way.early, one-longer book event);
      here = numbered-behind book event txn _
          (given-there (state_of book) txn (running asking (meant (take place book) said) (snapshot_at book place) given) way.here refl table write
          ∙ ap (λ (t : Transaction). Some t) (front-stays book (event ∷ []) asking place said (given ++ (table.0, write.0) ∷ []) way.early));
    }
