-- What acts that read leave of a house, and what is seen of a table by then, as it stood at a place of the book.
use Rattle.std.proofs.Common.{◌≡◌, ℕ, ◌+◌, ◌<◌, ◌≤◌, Bool, Option, List, [], ◌∷◌, ◌++◌, length, map, take, get_or, refl, sym, ap, ◌∙◌, subst, arith, Ok, Err, Result}
use Rattle.std.specs.Prelude.{IfOk, IfErr, IsErrAnd}
use Rattle.std.specs.Global.{Vec}
use Rattle.std.specs.List.{flat_map}
use Rattle.std.specs.Option.{option_map, option_to_list}
use Rattle.std.proofs.lemmas.List.{take_more, length-take-le}
use Rattle.hv_base.specs.declared.ids.TxnId.{TxnId}
use Rattle.hv_locks.specs.declared.table.Lock.{Lock}
use Rattle.hv_shelf.specs.Disk.{Store}
use Rattle.hv_logic.specs.declared.catalog.TableInfo.{TableInfo}
use Rattle.hv_logic.specs.declared.effect.Found.{Found}
use Rattle.hv_logic.specs.declared.effect.TableRows.{TableRows}
use Rattle.hv_ast.specs.declared.statement.Stmt.{Stmt}
use Rattle.hv_logic.specs.Names.{names_in}
use Rattle.hv_meaning.specs.Needs.{Needs, KeepMeaning}
use Rattle.hv_effect.specs.declared.studied.Studied.{Studied}
use Rattle.hv_steps.specs.Wanting.{needs_in}
use Rattle.hv_history.specs.declared.state.Table.{Table}
use Rattle.hv_history.specs.State.{State}
use Rattle.hv_stands.specs.Reading.{table_of_name, named_in}
use Rattle.hv_stands.specs.Statements.{AllFitting}
use Rattle.hv_stands.proofs.Ordered.{all-joined}
use Rattle.hv_trail.specs.declared.trail.TrailItem.{TrailItem}
use Rattle.hv_actor.specs.Acting.{AreRows, among, known}
use Rattle.hv_table_reader.specs.hv_acts.specs.hv_telling.specs.hv_house.specs.declared.fault.HouseFault.TheVariants as fault
use Rattle.hv_table_reader.specs.declared.fault.RowFault.{RowFault}
use Rattle.hv_table_reader.specs.declared.fault.RowFault.TheVariants as row_fault
use Rattle.hv_table_reader.specs.Damage.{IsShortDamage, IsDamage}
use Rattle.hv_table_reader.specs.hv_acts.specs.hv_telling.specs.Telling.{IsTold, IsToldHouse}
use Rattle.hv_table_reader.specs.hv_acts.specs.hv_telling.proofs.Told.{house-book}
use Rattle.hv_table_reader.specs.hv_acts.specs.declared.told.ToldHouse.{ToldHouse}
use Rattle.hv_table_reader.specs.hv_acts.specs.Told.{IsWholeOrClosed, trail_in, book_in}
use Rattle.hv_table_reader.specs.hv_acts.specs.Reading.{HasPlace, state_then}
use Rattle.hv_table_reader.specs.hv_acts.specs.Going.{faults_in, IsOpenHouse, AddsOwn}
use Rattle.hv_table_reader.specs.Tables.{LeavesSeeing, IsMarkedIn, RisesTo, LooksOver, IsOfHouse}
use Rattle.hv_table_reader.specs.Steady.{HasRowsIn, HasRowsThen}
use Rattle.hv_table_reader.specs.hv_acts.specs.hv_telling.specs.hv_house.specs.Listing.{info_in}
use Rattle.hv_steps.specs.Seeing.{tables_then, infos_then, IsFound, AreFound, AddsFound, AreRead, AddsRows, AreSeenAs, IsUnseen, Looks, SeesUpTo}
use Rattle.hv_table_reader.specs.hv_acts.proofs.Readings.{place-lasts, then-same}
use Rattle.hv_steps.proofs.Joining.{adds-none, adds-more, adds-front}
use Rattle.hv_steps.proofs.SeenNames.{named-more}
use Rattle.hv_steps.proofs.SeenRows.{found-lasts, found-one, read-more, read-told}

-- ---- of a house

rises-from : (low low' high : ℕ) → low ≤ low' → (why : RowFault) → RisesTo low' high why → RisesTo low high why
rises-from low low' high down (row_fault.House (fault.Failed count)) rises = (omega (arith, down, rises.0), rises.1)
rises-from low low' high down (row_fault.House fault.Store) rises = tt
rises-from low low' high down (row_fault.House fault.NoMemory) rises = tt
rises-from low low' high down (row_fault.Damaged place) rises = tt

module _ {D : Type 0} (told : D → Option Store) where
  -- all that the book of one that is open has fits
  pub house-fits : (now : ToldHouse D) → IsWholeOrClosed told now.house → IsOpenHouse now → AllFitting (book_in now)
  house-fits now keeps running = subst AllFitting (sym (house-book now.house)) (keeps.whole running).ready.fit

  module _ (faults : D → ℕ) (B : List TrailItem → Type 0) (rows : AreRows B) where
    -- a place of the book is one of what it grows to, with the same tables
    pub place-later : {by : ℕ} (own own' : List ℕ) (before now : ToldHouse D) (place : ℕ) → AddsOwn faults B by (known own before) (known own' now) []
        → HasPlace (trail_in before) place
        → HasPlace (trail_in now) place
    place-later own own' before now place adds has =
        place-lasts (trail_in before) (trail_in now) (adds-front faults B rows own own' before now [] adds) place has

    -- what the book was at a place it was
    pub states-same : {by : ℕ} (own own' : List ℕ) (before now : ToldHouse D) (place : ℕ) → AddsOwn faults B by (known own before) (known own' now) []
        → HasPlace (trail_in before) place
        → state_then (trail_in now) place ≡ state_then (trail_in before) place
    states-same own own' before now place adds has =
        then-same (trail_in before) (trail_in now) (adds-front faults B rows own own' before now [] adds) place has

    pub tables-same : {by : ℕ} (own own' : List ℕ) (before now : ToldHouse D) (place : ℕ) → AddsOwn faults B by (known own before) (known own' now) []
        → HasPlace (trail_in before) place
        → tables_then now place ≡ tables_then before place
    tables-same own own' before now place adds has =
        ap (λ (s : State). s.tables) (then-same (trail_in before) (trail_in now) (adds-front faults B rows own own' before now [] adds) place has)

    -- what was found and read, said of the house as it is
    pub seen-as : {by : ℕ} (own own' : List ℕ) (before now : ToldHouse D) (place : ℕ) → AddsOwn faults B by (known own before) (known own' now) []
        → HasPlace (trail_in before) place → (said : Stmt) (studied : Studied) (read : List TableRows) → studied.infos.items ≡ infos_then before place (names_in said)
        → KeepMeaning said studied.infos.items (needs_in studied)
        → AreRead (IsToldHouse told now.house) (tables_then now place) (needs_in studied) studied.infos.items read
        → AreSeenAs (IsToldHouse told now.house) (needs_in studied) (tables_then now place) said studied.infos.items read
    seen-as own own' before now place adds has said studied read infos keeping are = record {
      infos_are = infos
          ∙ ap (λ (ts : List Table). map info_in (flat_map (named_in ts) (names_in said))) (sym (tables-same own own' before now place adds has));
      read = are;
      keeping = keeping;
    }

    -- the rows that are read of a table, said of the house before
    pub rows-before : {by : ℕ} (own own' : List ℕ) (before now : ToldHouse D) (place : ℕ) (wants : List ℕ → Bool) (info : TableInfo) (result : Result (Vec Found) RowFault)
        → AddsOwn faults B by (known own before) (known own' now) [] → HasPlace (trail_in before) place
        → (IsToldHouse told before.house → IfOk result (λ found. HasRowsThen (book_in now) place wants info found.items))
        → IfOk result (λ found. IsToldHouse told before.house → HasRowsIn (tables_then before place) wants info found.items)
    rows-before own own' before now place wants info (Ok found) adds has are =
        λ so. subst (λ (ts : List Table). HasRowsIn ts wants info found.items) (tables-same own own' before now place adds has) (are so)
    rows-before own own' before now place wants info (Err why) adds has are = tt

    -- ---- what acts leave

    module _ (meanwhile : ToldHouse D → ToldHouse D → Type 0) (by : TxnId) where
      unseen-of : (now : ToldHouse D) (why : RowFault) → LeavesSeeing told meanwhile by.0 now why → IsMarkedIn (trail_in now) by why → IsShortDamage why
          → (IsToldHouse told now.house → IsDamage why → ⊥) → IsUnseen told meanwhile by now why
      unseen-of now (row_fault.Damaged place) leaves marked short undamaged = (leaves, short, λ so. undamaged so tt)
      unseen-of now (row_fault.House fault.Store) leaves marked short undamaged = leaves
      unseen-of now (row_fault.House fault.NoMemory) leaves marked short undamaged = leaves
      unseen-of now (row_fault.House (fault.Failed count)) leaves marked short undamaged = (leaves, marked)

      looks-at : {T : Type 0} (own own' : List ℕ) (before now : ToldHouse D) (result : Result T RowFault)
          → AddsOwn faults B by.0 (known own before) (known own' now) []
          → IfOk result (λ _. IsOpenHouse now) → IfErr result (LeavesSeeing told meanwhile by.0 now) → IfErr result (IsMarkedIn (trail_in now) by)
          → IfErr result (RisesTo (faults_in faults before) (faults_in faults now)) → IfErr result IsShortDamage
          → (IsToldHouse told before.house → IfErr result (λ why. IsDamage why → ⊥))
          → Looks (among told faults B meanwhile) by (known own before) (known own' now) result
      looks-at own own' before now (Ok x) adds running leaves marked counts short undamaged =
          record { adds = adds; running = running; unseen = tt; counts = tt }
      looks-at own own' before now (Err why) adds running leaves marked counts short undamaged = record {
        adds = adds;
        running = tt;
        unseen = unseen-of now why leaves marked short (λ so. undamaged (subst (IsTold told) adds.later.rest.start so));
        counts = counts;
      }

      -- those by which its rows are read
      pub looks-read : {T : Type 0} (own own' : List ℕ) (before now : ToldHouse D) (result : Result T RowFault)
          → LooksOver (among told faults B meanwhile) by (known own before) (known own' now) result → IfErr result IsShortDamage
          → (IsToldHouse told before.house → IfErr result (λ why. IsDamage why → ⊥))
          → Looks (among told faults B meanwhile) by (known own before) (known own' now) result
      looks-read own own' before now result over short undamaged =
          looks-at own own' before now result over.adds over.running over.leaves over.marked over.counts short undamaged

      -- none of them failed
      pub looks-done : {T : Type 0} (own own' : List ℕ) (before now : ToldHouse D) (x : T) → AddsOwn faults B by.0 (known own before) (known own' now) []
          → IsOpenHouse now
          → Looks (among told faults B meanwhile) by (known own before) (known own' now) (Ok x)
      looks-done own own' before now x adds running = record { adds = adds; running = running; unseen = tt; counts = tt }

      -- an act whose fault is the house's
      pub looks-house : {T : Type 0} (own own' : List ℕ) (before now : ToldHouse D) (result : Result T RowFault)
          → LooksOver (among told faults B meanwhile) by (known own before) (known own' now) result → IfErr result IsOfHouse
          → Looks (among told faults B meanwhile) by (known own before) (known own' now) result
      looks-house own own' before now (Ok x) over of = looks-done own own' before now x over.adds over.running
      looks-house own own' before now (Err (row_fault.House why)) over of = record {
        adds = over.adds;
        running = tt;
        unseen = unseen-of now (row_fault.House why) over.leaves over.marked tt (λ so damage. damage);
        counts = over.counts;
      }
      looks-house own own' before now (Err (row_fault.Damaged place)) over of = absurd of

      -- nothing was done
      pub looks-none : {T : Type 0} (own : List ℕ) (house : ToldHouse D) (x : T) → IsOpenHouse house
          → Looks (among told faults B meanwhile) by (known own house) (known own house) (Ok x)
      looks-none own house x running = looks-done own own house house x (adds-none faults B rows own house) running

      -- memory lacked behind them
      pub looks-lack : {T : Type 0} (own own' : List ℕ) (before now : ToldHouse D) (r : Result T RowFault) → IsErrAnd r (λ y. y ≡ row_fault.House fault.NoMemory)
          → AddsOwn faults B by.0 (known own before) (known own' now) [] → IsOpenHouse now
          → Looks (among told faults B meanwhile) by (known own before) (known own' now) r
      looks-lack {T = T} own own' before now (Ok x) lacks adds running = absurd lacks
      looks-lack {T = T} own own' before now (Err why) lacks adds running =
          subst (λ (y : RowFault). Looks {T = T} (among told faults B meanwhile) by (known own before) (known own' now) (Err y)) (sym lacks)
          (record { adds = adds; running = tt; unseen = running; counts = tt })

      -- what failed is handed on
      pub looks-failed : {T U : Type 0} (own own' : List ℕ) (before now : ToldHouse D) (why : RowFault) (r : Result U RowFault) → IsErrAnd r (λ y. y ≡ why)
          → Looks {T = T} (among told faults B meanwhile) by (known own before) (known own' now) (Err why)
          → Looks (among told faults B meanwhile) by (known own before) (known own' now) r
      looks-failed {T = T} {U = U} own own' before now why (Ok x) left looks = absurd left
      looks-failed {T = T} {U = U} own own' before now why (Err y) left looks =
          subst (λ (e : RowFault). Looks {T = U} (among told faults B meanwhile) by (known own before) (known own' now) (Err e)) (sym left)
          (record { adds = looks.adds; running = tt; unseen = looks.unseen; counts = looks.counts })

      -- behind some that didn't fail
      pub looks-behind : {T : Type 0} (own own' own'' : List ℕ) (first before now : ToldHouse D) (result : Result T RowFault)
          → AddsOwn faults B by.0 (known own first) (known own' before) []
          → Looks (among told faults B meanwhile) by (known own' before) (known own'' now) result
          → Looks (among told faults B meanwhile) by (known own first) (known own'' now) result
      looks-behind own own' own'' first before now (Ok x) adds looks = record {
        adds = adds-more faults B rows own own' own'' first before now [] [] adds looks.adds;
        running = looks.running;
        unseen = tt;
        counts = tt;
      }
      looks-behind own own' own'' first before now (Err why) adds looks = record {
        adds = adds-more faults B rows own own' own'' first before now [] [] adds looks.adds;
        running = tt;
        unseen = looks.unseen;
        counts = rises-from (faults_in faults first) (faults_in faults before) (faults_in faults now) adds.later.count why looks.counts;
      }

    -- ---- name by name

    module _ (own : List ℕ) (first : ToldHouse D) (by : TxnId) (place : ℕ) (locks : List Lock) (has : HasPlace (trail_in first) place) where
      -- of the first so many names these tables were found
      abbrev pub FoundUpTo : ToldHouse D → ℕ → List TableInfo → Type 0
      FoundUpTo now i infos = (infos ≡ infos_then first place (take i locks)) × AreFound (trail_in now) by place infos

      pub finds-none : (infos : List TableInfo) → infos ≡ [] → IsOpenHouse first → SeesUpTo faults B by.0 (known own first) (known own first) (FoundUpTo first 0 infos)
      finds-none infos none running = record {
        adds = adds-none faults B rows own first;
        running = running;
        sees = subst (FoundUpTo first 0) (sym none) (refl, tt);
      }

      pub finds-next : (own' own'' : List ℕ) (before now : ToldHouse D) (i : ℕ) (lock : Lock) (infos next : List TableInfo)
          → SeesUpTo faults B by.0 (known own first) (known own' before) (FoundUpTo before i infos) → i < length locks → get_or locks i lock ≡ lock
          → AddsOwn faults B by.0 (known own' before) (known own'' now) [] → IsOpenHouse now → AddsFound (trail_in now) by place lock.name infos next
          → SeesUpTo faults B by.0 (known own first) (known own'' now) (FoundUpTo now (i + 1) next)
      finds-next own' own'' before now i lock infos next sees within here adds running one =
          let more : take (i + 1) locks ≡ take i locks ++ lock ∷ [] = take_more locks i lock within ∙ ap (λ (l : Lock). take i locks ++ l ∷ []) here in
          let all = adds-more faults B rows own own' own'' first before now [] [] sees.adds adds in
          let one_is : one.first ≡ option_map info_in (table_of_name lock.name (tables_then first place)) =
          one.finds.info ∙ ap (λ (ts : List Table). option_map info_in (table_of_name lock.name ts)) (tables-same own own'' first now place all has) in
          record {
            adds = all;
            running = running;
            sees = (
              one.now_is
                  ∙ (λ j. sees.sees.0 j ++ option_to_list (one_is j))
                  ∙ sym (named-more (tables_then first place) info_in (take i locks) lock)
                  ∙ ap (infos_then first place) (sym more),
              subst (AreFound (trail_in now) by place) (sym one.now_is)
                  (all-joined (IsFound (trail_in now) by place) infos (option_to_list one.first)
                  (found-lasts (trail_in before) (trail_in now) (adds-front faults B rows own' own'' before now [] adds) by place infos sees.sees.1)
                  (found-one (trail_in now) by place one.first one.finds.reads)),
            );
          }

      -- all of them, said of the house as it is
      pub finds-all : (own' : List ℕ) (now : ToldHouse D) (i : ℕ) (infos : List TableInfo) (names : List Lock)
          → SeesUpTo faults B by.0 (known own first) (known own' now) (FoundUpTo now i infos) → take i locks ≡ names → infos ≡ infos_then now place names
      finds-all own' now i infos names sees all =
          sees.sees.0 ∙ ap (infos_then first place) all
          ∙ ap (λ (ts : List Table). map info_in (flat_map (named_in ts) names)) (sym (tables-same own own' first now place sees.adds has))

    -- ---- table by table

    module _ (own : List ℕ) (first : ToldHouse D) (by : TxnId) (place : ℕ) (has : HasPlace (trail_in first) place) (needs : Needs) (infos : List TableInfo) where
      -- of the first so many tables these rows were read
      abbrev pub ReadUpTo : ℕ → List TableRows → Type 0
      ReadUpTo i found = AreRead (IsToldHouse told first.house) (tables_then first place) needs (take i infos) found

      pub reads-none : (found : List TableRows) → found ≡ [] → IsOpenHouse first → SeesUpTo faults B by.0 (known own first) (known own first) (ReadUpTo 0 found)
      reads-none found none running = record {
        adds = adds-none faults B rows own first;
        running = running;
        sees = subst (ReadUpTo 0) (sym none) (record { many = refl; has = λ so. tt });
      }

      pub reads-next : (own' own'' : List ℕ) (before now : ToldHouse D) (i : ℕ) (info : TableInfo) (found next : List TableRows)
          → SeesUpTo faults B by.0 (known own first) (known own' before) (ReadUpTo i found) → i < length infos → get_or infos i info ≡ info
          → AddsOwn faults B by.0 (known own' before) (known own'' now) [] → IsOpenHouse now
          → AddsRows (IsToldHouse told before.house) (tables_then before place) (needs i) info found next
          → SeesUpTo faults B by.0 (known own first) (known own'' now) (ReadUpTo (i + 1) next)
      reads-next own' own'' before now i info found next sees within here adds running one =
          let more : take (i + 1) infos ≡ take i infos ++ info ∷ [] = take_more infos i info within ∙ ap (λ (x : TableInfo). take i infos ++ x ∷ []) here in
          record {
            adds = adds-more faults B rows own own' own'' first before now [] [] sees.adds adds;
            running = running;
            sees = subst (λ (xs : List TableInfo). AreRead (IsToldHouse told first.house) (tables_then first place) needs xs next) (sym more)
                (read-more (IsToldHouse told first.house) (IsToldHouse told before.house) (tables_then first place) needs (take i infos) info found next i
                (let low : i ≤ length infos = omega (arith, within) in sym (length-take-le i infos low)) (subst (IsTold told) (sym sees.adds.later.rest.start))
                sees.sees (subst (λ (ts : List Table). AddsRows (IsToldHouse told before.house) ts (needs i) info found next)
                (tables-same own own' first before place sees.adds has) one));
          }

      -- all of them, said of the house as it is
      pub reads-all : (own' : List ℕ) (now : ToldHouse D) (i : ℕ) (found : List TableRows) → SeesUpTo faults B by.0 (known own first) (known own' now) (ReadUpTo i found)
          → take i infos ≡ infos → AreRead (IsToldHouse told now.house) (tables_then now place) needs infos found
      reads-all own' now i found sees all =
          subst (λ (ts : List Table). AreRead (IsToldHouse told now.house) ts needs infos found) (sym (tables-same own own' first now place sees.adds has))
          (read-told (IsToldHouse told first.house) (IsToldHouse told now.house) (tables_then first place) needs infos found
          (subst (IsTold told) sees.adds.later.rest.start)
          (subst (λ (xs : List TableInfo). AreRead (IsToldHouse told first.house) (tables_then first place) needs xs found) all sees.sees))
