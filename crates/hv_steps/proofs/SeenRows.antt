-- What is found of the names that a statement has, and read of their tables: what follows leaves it, and one table more.
use Rattle.std.proofs.Common.{◌≡◌, ◌&&◌, ◌||◌, ◌==◌, not, ℕ, zero, suc, Bool, true, false, Option, Some, None, List, [], ◌∷◌, ◌++◌, length, cond, refl, sym, ap, ◌∙◌, subst, arith, Ok, Err, Result, length-append, inl, inr}
use Rattle.std.specs.Prelude.{slice_get, IfOk}
use Rattle.std.proofs.lemmas.Bool.{eqb-true}
use Rattle.std.proofs.lemmas.List.{map-append}
use Rattle.std.specs.List.{list_any}
use Rattle.std.specs.Option.{option_to_list}
use Rattle.hv_base.specs.declared.ids.TxnId.{TxnId}
use Rattle.hv_logic.specs.declared.catalog.Column.{Column}
use Rattle.hv_logic.specs.declared.catalog.TableInfo.{TableInfo}
use Rattle.hv_logic.specs.declared.effect.Found.{Found}
use Rattle.hv_logic.specs.declared.effect.TableRows.{TableRows}
use Rattle.hv_route.specs.Partitions.{partition_values}
use Rattle.hv_meaning.specs.Needs.{Needs, later, rows_wanted}
use Rattle.hv_effect.specs.declared.studied.Studied.{Studied}
use Rattle.hv_effect.specs.declared.needs.Need.{Need}
use Rattle.hv_effect.specs.Needs.{parts_at, logic_needs, needs_of, test_keeps, wants}
use Rattle.hv_effect.specs.Studied.{typed_in}
use Rattle.hv_effect.specs.Tables.{rows_standing, found_of}
use Rattle.hv_history.specs.declared.state.Table.{Table}
use Rattle.hv_history.specs.State.{content_of}
use Rattle.hv_history.specs.Lasting.{IsFront}
use Rattle.hv_stands.proofs.Soundness.{all-mapped}
use Rattle.hv_trail.specs.declared.trail.TrailItem.{TrailItem}
use Rattle.hv_table_reader.specs.declared.fault.RowFault.{RowFault}
use Rattle.hv_table_reader.specs.hv_acts.specs.Reading.{HasFittingBook, HasReader, info_then}
use Rattle.hv_table_reader.specs.hv_acts.proofs.Readings.{table-read, table-lasts}
use Rattle.hv_table_reader.proofs.Moments.{named-on}
use Rattle.hv_steps.specs.declared.wanting.Wanting.{Wanting}
use Rattle.hv_steps.specs.Wanting.{picked, needs_in}
use Rattle.hv_steps.specs.Seeing.{IsFound, AreFound, IsFoundAs, HasNeeded, AreNeeded, AreRead, AddsRows}

-- ---- what is found

pub found-lasts : (before now : List TrailItem) → IsFront before now → (by : TxnId) (place : ℕ) (infos : List TableInfo) → AreFound before by place infos
    → AreFound now by place infos
found-lasts before now front by place infos found =
    all-mapped (IsFound before by place) (IsFound now by place)
    (λ info is. record {
      reads = table-lasts before now front by place info.table.0 is.reads;
      named = named-on before now place info front is.reads.reader.has is.named;
    }) infos found

pub found-one : (trail : List TrailItem) (by : TxnId) (place : ℕ) (found : Option TableInfo) → ((info : TableInfo) → found ≡ Some info → IsFound trail by place info)
    → AreFound trail by place (option_to_list found)
found-one trail by place None reads = tt
found-one trail by place (Some info) reads = (reads info refl, tt)

pub found-as : (trail : List TrailItem) (by : TxnId) (place : ℕ) (name : List ℕ) (result : Result (Option TableInfo) RowFault) → IfOk result (λ found. HasFittingBook trail)
    → IfOk result (λ found. found ≡ info_then trail place name) → HasReader trail by place name → IfOk result (IsFoundAs trail by place name)
found-as trail by place name (Ok found) book is reader = record {
  info = is;
  reads = λ info some. record {
    reads = table-read trail by place name info book reader (sym some ∙ is);
    named = record { name = name; named = sym some ∙ is };
  };
}
found-as trail by place name (Err why) book is reader = tt

-- the one at a place
pub found-at : (trail : List TrailItem) (by : TxnId) (place : ℕ) (infos : List TableInfo) (i : ℕ) (info : TableInfo) → AreFound trail by place infos
    → slice_get infos i ≡ Some info → IsFound trail by place info
found-at trail by place [] i info found at = cc
found-at trail by place (x ∷ infos) zero info found at = let same : x ≡ info = cc in subst (IsFound trail by place) same found.0
found-at trail by place (x ∷ infos) (suc i) info found at = found-at trail by place infos i info found.1 at

-- ---- what is wanted

or-none : {T : Type 0} (f : T → Bool) (all : Bool) (tests : List T) → (not all && (length tests == 0)) ≡ true → (all || list_any f tests) ≡ false
or-none f true tests e = cc
or-none f false [] e = refl
or-none f false (test ∷ tests) e = absurd (let none : length (test ∷ tests) ≡ 0 = eqb-true (length (test ∷ tests)) 0 e in omega arith)

pub none-picked : (wanting : Wanting) → (not wanting.need.all && (length wanting.need.tests.items == 0)) ≡ true → (text : List ℕ) → picked wanting text ≡ false
none-picked wanting e text = or-none (test_keeps (partition_values wanting.parts.now text)) wanting.need.all wanting.need.tests.items e

-- the columns of the table at the place say the values
pub picked-needs : (studied : Studied) (place : ℕ) (need : Need) (columns : List Column)
    → ((cs : List Column) (t : List ℕ) → wants need (partition_values cs t) ≡ logic_needs studied.infos.items place (partition_values cs t) (typed_in studied.typed))
    → columns ≡ parts_at (slice_get studied.infos.items place) → (text : List ℕ)
    → wants need (partition_values columns text) ≡ needs_in studied place text
unfolding needs_of
picked-needs studied place need columns is same text =
    is columns text
    ∙ ap (λ (cs : List Column). logic_needs studied.infos.items place (partition_values cs text) (typed_in studied.typed)) same

wanted-agree : (one other : List ℕ → Bool) → ((text : List ℕ) → one text ≡ other text) → (rows : List Found) → rows_wanted one rows ≡ rows_wanted other rows
wanted-agree one other same [] = refl
wanted-agree one other same (found ∷ rows) =
    λ j. cond (same found.partition j) (found ∷ wanted-agree one other same rows j) (wanted-agree one other same rows j)

needed-agree : (tables : List Table) (one other : List ℕ → Bool) (info : TableInfo) (rows : List Found) → ((text : List ℕ) → one text ≡ other text)
    → HasNeeded tables one info rows → HasNeeded tables other info rows
needed-agree tables one other info rows same (inl has) = inl (record {
  table = has.table;
  here = has.here;
  info_is = has.info_is;
  rows_are = has.rows_are ∙ wanted-agree one other same (content_of has.table.writes);
})
needed-agree tables one other info rows same (inr none) = inr (record { none = λ text. sym (same text) ∙ none.none text; empty = none.empty })

pub needed-as : (is_told : Type 0) (tables : List Table) (one other : List ℕ → Bool) (info : TableInfo) → ((text : List ℕ) → one text ≡ other text)
    → (result : Result (List Found) RowFault) → IfOk result (λ rows. is_told → HasNeeded tables one info rows)
    → IfOk result (λ rows. is_told → HasNeeded tables other info rows)
needed-as is_told tables one other info same (Ok rows) are = λ so. needed-agree tables one other info rows same (are so)
needed-as is_told tables one other info same (Err why) are = tt

-- ---- what is read

needed-more : (tables : List Table) (needs : Needs) (infos : List TableInfo) (info : TableInfo) (found : List (List Found)) (rows : List Found) → AreNeeded tables needs infos found
    → HasNeeded tables (needs (length infos)) info rows → AreNeeded tables needs (infos ++ info ∷ []) (found ++ rows ∷ [])
needed-more tables needs [] info [] rows are has = (has, tt)
needed-more tables needs [] info (x ∷ found) rows are has = absurd are
needed-more tables needs (x ∷ infos) info [] rows are has = absurd are
needed-more tables needs (x ∷ infos) info (y ∷ found) rows are has = (are.0, needed-more tables (later needs) infos info found rows are.1 has)

pub read-more : (T U : Type 0) (tables : List Table) (needs : Needs) (infos : List TableInfo) (info : TableInfo) (found next : List TableRows) (i : ℕ) → i ≡ length infos
    → (T → U) → AreRead T tables needs infos found → AddsRows U tables (needs i) info found next → AreRead T tables needs (infos ++ info ∷ []) next
read-more T U tables needs infos info found next i at f are one =
    subst (AreRead T tables needs (infos ++ info ∷ [])) (sym one.now_is)
    (record {
      many =
          (let many = are.many in
          omega (arith, many, length-append found (one.first ∷ []), length-append infos (info ∷ [])));
      has = λ so.
          subst (AreNeeded tables needs (infos ++ info ∷ [])) (sym (map-append rows_standing found (one.first ∷ [])))
          (needed-more tables needs infos info (found_of found) one.first.rows (are.has so)
          (subst (λ n. HasNeeded tables (needs n) info one.first.rows) at (one.has (f so))));
    })

pub read-told : (T U : Type 0) (tables : List Table) (needs : Needs) (infos : List TableInfo) (found : List TableRows) → (U → T) → AreRead T tables needs infos found
    → AreRead U tables needs infos found
read-told T U tables needs infos found f are = record { many = are.many; has = λ so. are.has (f so) }
