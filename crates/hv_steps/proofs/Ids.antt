-- A write id that is taken for a change, or the abort where there is no room for it.
use Rattle.std.proofs.Common.{◌≡◌, ℕ, ◌+◌, ◌≤◌, ◌<◌, true, Option, Some, None, List, [], ◌∷◌, ◌++◌, length, take, refl, sym, ap, ◌∙◌, subst, arith}
use Rattle.std.specs.Prelude.{IsSomeAnd, IsTrue}
use Rattle.std.proofs.lemmas.List.{length-append}
use Rattle.hv_base.specs.declared.ids.RowId.{RowId}
use Rattle.hv_base.specs.declared.ids.TxnId.{TxnId}
use Rattle.hv_base.specs.declared.ids.TableId.{TableId}
use Rattle.hv_base.specs.declared.ids.WriteId.{WriteId}
use Rattle.hv_shelf.specs.Disk.{Store}
use Rattle.hv_ast.specs.declared.statement.Stmt.{Stmt}
use Rattle.hv_ast.specs.declared.table.CompactionKind.{CompactionKind}
use Rattle.hv_dirs.specs.Names.{write_end}
use Rattle.hv_logic.specs.declared.catalog.TableInfo.{TableInfo}
use Rattle.hv_logic.specs.declared.effect.Effect.{Effect}
use Rattle.hv_logic.specs.declared.meaning.Meaning.{Meaning}
use Rattle.hv_logic.specs.declared.meaning.Meaning.TheVariants.{Change, Ask, Twice}
use Rattle.hv_meaning.specs.Laws.{MeansSomething}
use Rattle.hv_history.specs.declared.entry.Entry.{Entry}
use Rattle.hv_history.specs.declared.entry.Entry.TheVariants as entry
use Rattle.hv_history.specs.declared.entry.Cause.{Cause}
use Rattle.hv_history.specs.declared.entry.Cause.TheVariants as cause
use Rattle.hv_history.specs.declared.state.Table.{Table}
use Rattle.hv_history.specs.declared.state.Transaction.{Transaction}
use Rattle.hv_history.specs.State.{state_of, numbered}
use Rattle.hv_history.specs.Legal.{Fits, IsRunning, profile}
use Rattle.hv_history.specs.Legal as legal
use Rattle.hv_history.specs.Lasting.{IsFront, TableLater}
use Rattle.hv_history.specs.Answers.{cause_text}
use Rattle.hv_stands.specs.Running.{Asking, meant}
use Rattle.hv_stands.specs.Sound.{HasFewOwners}
use Rattle.hv_stands.specs.Statements.{AllFitting}
use Rattle.hv_stands.proofs.Fitting.{fitting-sound, fitting-room}
use Rattle.hv_stands.proofs.Behind.{entries-are}
use Rattle.hv_stands.proofs.Soundness.{all-numbered}
use Rattle.hv_stands.proofs.SeeingEnough.{built-means-in}
use Rattle.hv_trail.specs.declared.trail.TrailItem.{TrailItem}
use Rattle.hv_trail.specs.declared.trail.TrailItem.TheVariants.{Noted}
use Rattle.hv_trail.specs.Trail.{book_of, state_at}
use Rattle.hv_trail.specs.Lasting.{Has, IsGiven}
use Rattle.hv_trail.proofs.LastingLaws.{book-append, goes-on-front, lasts, given-keeps}
use Rattle.hv_table_reader.specs.hv_acts.specs.hv_telling.specs.Telling.{IsToldHouse}
use Rattle.hv_table_reader.specs.hv_acts.specs.declared.told.ToldHouse.{ToldHouse}
use Rattle.hv_table_reader.specs.hv_acts.specs.Told.{trail_in, book_in}
use Rattle.hv_table_reader.specs.hv_acts.specs.Passing.{HasAskedAll}
use Rattle.hv_table_reader.specs.hv_acts.specs.Answers.{next_id}
use Rattle.hv_table_reader.specs.hv_acts.specs.Giving.{GivenFits, IsAbortedFull}
use Rattle.hv_table_reader.specs.hv_acts.specs.Meant.{HasMeant, MeansNow, RunsWith}
use Rattle.hv_table_reader.specs.hv_acts.specs.declared.aborted.Aborted.{Aborted}
use Rattle.hv_steps.specs.Ending.{CanChange, CanEnd, HasReplied}
use Rattle.hv_steps.specs.declared.ready.Way.{Way}
use Rattle.hv_steps.proofs.Standing.{some-more, means-still, abort-answered}
use Rattle.hv_steps.proofs.Touched.{found-given}
use Rattle.hv_steps.specs.Going.{WasOnWay}
use Rattle.hv_steps.specs.Phases.{ComesTo}
use Rattle.hv_steps.specs.Preparing.{ComesToChange, ComesToJob}
use Rattle.hv_steps.proofs.Joining.{front-itself, front-more, book-front}

-- ---- what it means

pub meant-lasts : (before now : List TrailItem) → IsFront before now → (txn : TxnId) (given : List (ℕ × ℕ)) (means : Meaning) → HasMeant before txn given means → HasMeant now txn given means
meant-lasts before now front txn given means has = record {
  then_ = has.then_;
  front = front-more has.then_ before now has.front front;
  was = has.was;
}

-- over the book as it is now it means what it meant where it was seen to be under way
pub way-means : (trail : List TrailItem) (asking : Asking) (way : Way) (said : Stmt) (means : Meaning) → WasOnWay trail asking way said
    → meant (take way.place (book_of trail)) said ≡ Some means → HasMeant trail way.txn [] means
way-means trail asking way said means was is = record {
  then_ = was.then_;
  front = was.front;
  was = record {
    asking = asking;
    place = way.place;
    said = said;
    under_way = was.was;
    means_it = sym (means-still (book_of was.then_) asking way.txn.0 way.place said [] was.was (book_of was.front.more))
        ∙ sym (ap (λ (book : List Entry). meant (take way.place book) said) (book-front was.then_ trail was.front))
        ∙ is;
  };
}

-- as what it meant at its Start
abbrev pub MeansAt : List TrailItem → Way → Meaning → Type 0
MeansAt trail way means = (has : HasMeant trail way.txn [] means) × (has.was.place ≡ way.place)

pub way-means-at : (trail : List TrailItem) (asking : Asking) (way : Way) (said : Stmt) (means : Meaning) → WasOnWay trail asking way said
    → meant (take way.place (book_of trail)) said ≡ Some means → MeansAt trail way means
unfolding way-means
way-means-at trail asking way said means was is = (way-means trail asking way said means was is, refl)

pub means-at-lasts : (before now : List TrailItem) → IsFront before now → (way : Way) (means : Meaning) → MeansAt before way means → MeansAt now way means
unfolding meant-lasts
means-at-lasts before now front way means has = (meant-lasts before now front way.txn [] means has.0, has.1)

-- its Start stands in the book
pub early-on : (trail : List TrailItem) (asking : Asking) (way : Way) (said : Stmt) → WasOnWay trail asking way said → way.place < length (book_of trail)
early-on trail asking way said was =
    let early = was.was.early in
    let longer : length (book_of trail) ≡ length (book_of was.then_) + length (book_of was.front.more) =
    ap length (book-front was.then_ trail was.front) ∙ length-append (book_of was.then_) (book_of was.front.more) in
    omega (arith, early, longer)

pub on-lasts : (before now : List TrailItem) → IsFront before now → (asking : Asking) (way : Way) (said : Stmt) → WasOnWay before asking way said
    → WasOnWay now asking way said
on-lasts before now front asking way said was =
    record { then_ = was.then_; front = front-more was.then_ before now was.front front; was = was.was }

some-of : (o : Option Meaning) → MeansSomething o → (means : Meaning) × (o ≡ Some means)
some-of None is = absurd is
some-of (Some means) is = (means, refl)

-- and something it does mean
pub way-means-some : (trail : List TrailItem) (asking : Asking) (way : Way) (said : Stmt) → WasOnWay trail asking way said
    → (means : Meaning) × HasMeant trail way.txn [] means
way-means-some trail asking way said was =
    let front = take way.place (book_of trail) in
    let some = some-of (meant front said) (built-means-in (state_of front) said was.was.runs.built) in
    (some.0, way-means trail asking way said some.0 was some.1)

-- what it comes to it means, where the house is told
pub comes-means : {D : Type 0} (told : D → Option Store) (house : ToldHouse D) (asking : Asking) (way : Way) (said : Stmt) (m means : Meaning) → WasOnWay (trail_in house) asking way said
    → ComesTo told house way said m → m ≡ means → IsToldHouse told house.house → HasMeant (trail_in house) way.txn [] means
comes-means told house asking way said m means was comes same is =
    way-means (trail_in house) asking way said means was (comes.truly is ∙ ap (λ (x : Meaning). Some x) same)

-- where it has asked for all aborts that its text lists, it has so as what it meant there
pub comes-asked : {D : Type 0} (told : D → Option Store) (house : ToldHouse D) (asking : Asking) (way : Way) (said : Stmt) (m means : Meaning) → WasOnWay (trail_in house) asking way said
    → ComesTo told house way said m → m ≡ means → HasAskedAll (trail_in house) way.txn way.place said means → IsToldHouse told house.house
    → (has : HasMeant (trail_in house) way.txn [] means) × HasAskedAll (trail_in house) way.txn has.was.place has.was.said means
unfolding comes-means way-means
comes-asked told house asking way said m means was comes same asked is = (comes-means told house asking way said m means was comes same is, asked)

-- a change can be ended
pub comes-change : {D : Type 0} (told : D → Option Store) (house : ToldHouse D) (asking : Asking) (way : Way) (said : Stmt) (m : Meaning) (info : TableInfo) (effect : Effect)
    → WasOnWay (trail_in house) asking way said → ComesTo told house way said m → m ≡ Change info effect → ComesToChange told house way info effect
comes-change told house asking way said m info effect was comes same = record {
  asking = asking;
  said = said;
  was = was;
  can = subst (CanEnd (book_in house)) same comes.can;
  truly = λ is. comes.truly is ∙ ap (λ (x : Meaning). Some x) same;
}

-- a partition's text that an abort keeps is short
pub comes-short : {D : Type 0} (told : D → Option Store) (house : ToldHouse D) (way : Way) (said : Stmt) (m : Meaning) (partition : List ℕ) (row : RowId)
    → ComesTo told house way said m → m ≡ Twice partition row → length partition ≤ 240
comes-short told house way said m partition row comes same = subst (CanEnd (book_in house)) same comes.can

-- a compaction can be asked for
pub comes-job : {D : Type 0} (told : D → Option Store) (house : ToldHouse D) (asking : Asking) (way : Way) (said : Stmt) (m : Meaning) (table : TableId) (partition : List ℕ)
    (kind : CompactionKind) → WasOnWay (trail_in house) asking way said → ComesTo told house way said m → m ≡ Ask table partition kind
    → ComesToJob told house way table partition kind
comes-job told house asking way said m table partition kind was comes same = record {
  asking = asking;
  said = said;
  was = was;
  short = subst (CanEnd (book_in house)) same comes.can;
  truly = λ is. comes.truly is ∙ ap (λ (x : Meaning). Some x) same;
}

-- ---- a write id

pub given-lasts : (before now : List TrailItem) → IsFront before now → (txn table write : ℕ) → Has before txn (IsGiven table write) → Has now txn (IsGiven table write)
given-lasts before now front txn table write has = lasts (IsGiven table write) (given-keeps table write) before now txn (goes-on-front before now front) has

-- a table is there with its description
pub table-lasts : (before now : List TrailItem) → IsFront before now → (number : ℕ) (info : TableInfo)
    → IsSomeAnd (numbered (state_at before).tables number) (λ (table : Table). table.info ≡ info)
    → IsSomeAnd (numbered (state_at now).tables number) (λ (table : Table). table.info ≡ info)
table-lasts before now front number info is = by (numbered (state_at before).tables number) refl is
  where
    by : (o : Option Table) → numbered (state_at before).tables number ≡ o → IsSomeAnd o (λ (table : Table). table.info ≡ info)
        → IsSomeAnd (numbered (state_at now).tables number) (λ (table : Table). table.info ≡ info)
    by None e is = absurd is
    by (Some t) e is =
        some-more (TableLater t) (λ (table : Table). table.info ≡ info) (numbered (state_at now).tables number) (λ u later. later.info ∙ is)
        ((goes-on-front before now front).history.tables number t e)

pub table-here : (trail : List TrailItem) (info : TableInfo) (effect : Effect) → CanChange (book_of trail) info effect
    → IsSomeAnd (numbered (state_at trail).tables info.table.0) (λ (table : Table). table.info ≡ info)
table-here trail info effect can = subst (λ (o : Option Table). IsSomeAnd o (λ (table : Table). table.info ≡ info)) (sym can.here) can.same

-- a book in which one more entry fits has few write ids of each table
few-owners : (book : List Entry) (event : Entry) (number : ℕ) (table : Table) → AllFitting book → Fits profile (state_of book) event
    → numbered (state_of book).tables number ≡ Some table → length table.owners + 1 < write_end
few-owners book event number table fit fits here =
    let few : length table.owners ≤ (state_of book).entries =
    all-numbered (HasFewOwners (state_of book).entries) (state_of book).tables number table here (fitting-sound book fit).tables.few in
    omega (arith, few, entries-are book, fitting-room book event fit fits)

-- the laws of what was meant
abbrev pub StillMeans : Type 0
StillMeans = (trail : List TrailItem) (txn : TxnId) (given : List (ℕ × ℕ)) (means : Meaning)
    → HasMeant trail txn given means → RunsWith trail txn (length given) → MeansNow trail txn given means

abbrev pub GivenMeans : Type 0
GivenMeans = (trail : List TrailItem) (txn : TxnId) (table : TableId) (write : WriteId) (given : List (ℕ × ℕ)) (means : Meaning)
    → MeansNow trail txn given means
    → MeansNow (trail ++ Noted (entry.Given txn table write) ∷ []) txn (given ++ (table.0, write.0) ∷ []) means

pub record IsNamed (write : ℕ) : Type 0 where
  pub first : 1 ≤ write
  pub last : write < write_end

module _ (at : List TrailItem) (txn : TxnId) (table : TableId) (write : WriteId) (fits : GivenFits at txn table) (is : write ≡ next_id at table) where
  given-runs : RunsWith at txn 0
  given-runs = (
    some-more (legal.GivenFits profile (state_at at) table.0 (next_id at table).0) IsRunning (numbered (state_at at).transactions txn.0) (λ t given. given.running) fits.0,
    fits.1,
  )

  -- it can be of a directory
  pub given-named : AllFitting (book_of at) → IsNamed write.0
  given-named fit = by (numbered (state_at at).transactions txn.0) fits.0
    where
      table-of : (o : Option Table) → numbered (state_at at).tables table.0 ≡ o → IsSomeAnd o (λ (t : Table). IsTrue t.is_live × ((next_id at table).0 ≡ length t.owners + 1))
          → IsNamed write.0
      table-of None e live = absurd live
      table-of (Some t) e live =
          let few = few-owners (book_of at) (entry.Given txn table (next_id at table)) table.0 t fit fits.0 e in
          let number : write.0 ≡ length t.owners + 1 = ap (λ (w : WriteId). w.0) is ∙ live.1 in
          record { first = omega (arith, number); last = omega (arith, number, few) }

      by : (o : Option Transaction) → IsSomeAnd o (legal.GivenFits profile (state_at at) table.0 (next_id at table).0) → IsNamed write.0
      by None given = absurd given
      by (Some t) given = table-of (numbered (state_at at).tables table.0) refl given.live

  module _ (still : StillMeans) (more : GivenMeans) (before now : List TrailItem) (front : IsFront before at) (adds : now ≡ at ++ Noted (entry.Given txn table write) ∷ []) where
    given-means-now : (means : Meaning) → HasMeant before txn [] means → MeansNow now txn ((table.0, write.0) ∷ []) means
    given-means-now means has =
        subst (λ (trail : List TrailItem). MeansNow trail txn ((table.0, write.0) ∷ []) means) (sym adds)
        (more at txn table write [] means (still at txn [] means (meant-lasts before at front txn [] means has) given-runs))

    pub given-meant : (means : Meaning) → HasMeant before txn [] means → HasMeant now txn ((table.0, write.0) ∷ []) means
    given-meant means has = record { then_ = now; front = front-itself now; was = given-means-now means has }

    pub given-has : (means : Meaning) → HasMeant before txn [] means → Has now txn.0 (IsGiven table.0 write.0)
    given-has means has =
        let so = given-means-now means has in
        subst (λ (o : Option Transaction). IsSomeAnd o (IsGiven table.0 write.0)) (sym so.under_way.here) (found-given table.0 write.0)

-- ---- an abort

pub full-answered : StillMeans → (before at now : List TrailItem) → IsFront before at → (txn : TxnId) (aborted : Aborted) (means : Meaning) → HasMeant before txn [] means
    → IsAbortedFull at txn aborted → now ≡ at ++ Noted (entry.Abort txn aborted.cause) ∷ [] → HasReplied (book_of now) txn.0 aborted.text true (Some aborted.at)
full-answered still before at now front txn aborted means has full adds =
    let so = still at txn [] means (meant-lasts before at front txn [] means has) full.runs in
    let books : book_of now ≡ book_of at ++ entry.Abort txn cause.Full ∷ [] =
    ap book_of adds ∙ book-append at (Noted (entry.Abort txn aborted.cause) ∷ [])
    ∙ ap (λ (why : Cause). book_of at ++ entry.Abort txn why ∷ []) full.cause_is in
    let line : aborted.text ≡ cause_text None cause.Full = full.at.line ∙ ap (cause_text None) full.cause_is in
    subst (λ (book : List Entry). HasReplied book txn.0 aborted.text true (Some aborted.at)) (sym books)
    (subst (λ (text : List ℕ). HasReplied (book_of at ++ entry.Abort txn cause.Full ∷ []) txn.0 text true (Some aborted.at)) (sym line)
    (subst (λ (place : ℕ). HasReplied (book_of at ++ entry.Abort txn cause.Full ∷ []) txn.0 (cause_text None cause.Full) true (Some place)) (sym full.at.place)
    (abort-answered (book_of at) so.asking txn.0 so.place so.said [] so.under_way cause.Full tt)))
