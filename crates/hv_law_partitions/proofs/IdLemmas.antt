-- Inserted rows carry their write id and statement, and no two of a partition have one identifier.
use Rattle.std.proofs.Common.{refl, ◌≡◌, ◌≢◌, inl, inr, ℕ, ◌≤◌, Option, Some, None, List, [], ◌∷◌, sym, ◌∙◌, subst}
use Rattle.std.specs.declared.cmp.Ordering.{Ordering}
use Rattle.std.specs.declared.cmp.Ordering.TheVariants.{Less, Equal}
use Rattle.std.specs.Ordering.{nat_cmp}
use Rattle.std.specs.FinMap.{nat_cmp-IsAntisymmetric}
use Rattle.std.specs.List.{AllByRecursion}
use Rattle.std.specs.List.Sorted.{IsStrictlySortedBy}
use Rattle.hv_base.specs.declared.ids.RowId.{RowId}
use Rattle.hv_base.specs.Identifiers.{row_id_cmp}
use Rattle.hv_logic.specs.Rows.{found_cmp}
use Rattle.hv_logic.specs.declared.catalog.Shape.{Shape}
use Rattle.hv_logic.specs.declared.effect.Found.{Found}
use Rattle.hv_route.specs.Routes.{numbered_rows}
use Rattle.hv_route.specs.Rising.{IsNumbered}
use Rattle.hv_route.proofs.NumberedLemmas.{rows-are-numbered}
use Rattle.hv_history.specs.declared.state.Table.{Table}
use Rattle.hv_history.specs.declared.state.Written.{Written}
use Rattle.hv_history.specs.State.{State, numbered, state_of}
use Rattle.hv_stands.specs.Sound as stands
use Rattle.hv_stands.specs.Sound.{IsRoutedWrite, HasSoundWrites, IsSound}
use Rattle.hv_stands.proofs.Soundness.{all-numbered}
use Rattle.hv_stands.proofs.Ordered.{rises-kept}
use Rattle.hv_law_visible.specs.Members.{IsIn, HasNoTies}
use Rattle.hv_law_visible.specs.History.{Write, write_of, inserts_of}
use Rattle.hv_law_visible.specs.Visible.{by_id}
use Rattle.hv_law_visible.specs.Stands.{HasDistinctRows}
use Rattle.hv_law_visible.proofs.MemberLemmas.{from-map}
use Rattle.hv_law_visible.proofs.SortingLemmas.{all-from, distinct-joined}
use Rattle.hv_law_visible.proofs.TakenLemmas.{all-in}
use Rattle.hv_value.specs.OrderLaws.{then_first as then-first}
use Rattle.hv_law_partitions.specs.Partitions.{id_of, is_of, rows_of, write_in, writes_of, written_in, writes_in}
use Rattle.hv_law_partitions.specs.Laws.{IsRowOf, HasOther, AreApart, HasSoundIds, IdsAreSound}
use Rattle.hv_law_partitions.proofs.ContentLemmas.{from-rows, inserted-from}
use Rattle.hv_stands.proofs.FileRecords.{by-id}
use Rattle.hv_law_partitions.proofs.CommitLemmas.{book-sound, committed-in}

-- ---- identifiers that differ

less-not : (o : Ordering) → o ≡ Less → o ≢ Equal
less-not o e f = let never : Less ≡ Equal = sym e ∙ f in cc

same-write : (x y : RowId) → row_id_cmp x y ≡ Equal → write_of x ≡ write_of y
unfolding row_id_cmp
same-write x y tie = nat_cmp-IsAntisymmetric x.write.0 y.write.0 (then-first (nat_cmp x.write.0 y.write.0) _ tie)

module _ (partition : List ℕ) where
  IsHere : Found → Type 0
  IsHere found = found.partition ≡ partition

  rising-distinct : (rows : List Found) → ((found : Found) → IsIn found rows → IsHere found) → IsStrictlySortedBy found_cmp rows → HasNoTies (by_id id_of) rows
  unfolding IsStrictlySortedBy IsHere
  rising-distinct [] here up = tt
  rising-distinct (x ∷ rows) here up = (
    all-from (λ y. by_id id_of x y ≢ Equal) rows (λ y at.
        less-not (row_id_cmp x.id y.id)
        (sym (by-id x y (here x (inl refl) ∙ sym (here y (inr at)))) ∙ all-in (λ z. found_cmp x z ≡ Less) rows y up.0 at)),
    rising-distinct rows (λ y at. here y (inr at)) up.1,
  )

  module _ (shape : Shape) where
    pub numbered-in : (written : Written) (found : Found) → IsRoutedWrite shape written → IsIn found written.inserts
        → IsNumbered shape written.write written.statement found
    numbered-in written found is at =
        all-in (IsNumbered shape written.write written.statement) (numbered_rows shape written.write written.statement is.rows) found
        (rows-are-numbered shape written.write written.statement is.rows).each (subst (IsIn found) is.numbered at)

    row-of : (written : Written) (found : Found) → IsRoutedWrite shape written → IsIn found (rows_of partition written.inserts)
        → IsRowOf partition (write_in partition written) found
    row-of written found is at =
        let m = from-rows partition found written.inserts at in
        let n = numbered-in written found is m.0 in
        record { partition_is = m.1; write_is = n.write_is; statement_is = n.statement_is }

    distinct-one : (written : Written) → IsRoutedWrite shape written → HasNoTies (by_id id_of) (rows_of partition written.inserts)
    unfolding IsHere
    distinct-one written is =
        rising-distinct (rows_of partition written.inserts) (λ found at. (from-rows partition found written.inserts at).1)
        (rises-kept found_cmp (is_of partition) written.inserts
        (subst (IsStrictlySortedBy found_cmp) (sym is.numbered) (rows-are-numbered shape written.write written.statement is.rows).rise))

    distinct-all : (writes : List Written) → AllByRecursion (IsRoutedWrite shape) writes → stands.AreApart writes → HasDistinctRows id_of (writes_of partition writes)
    distinct-all [] each apart = tt
    distinct-all (written ∷ writes) each apart =
        distinct-joined (by_id id_of) (rows_of partition written.inserts) (inserts_of (writes_of partition writes))
        (distinct-one written each.0) (distinct-all writes each.1 apart.1)
        (λ x y at there tie.
        let mine = row-of written x each.0 at in
        let k = inserted-from partition writes y there in
        let theirs = numbered-in k.written y (all-in (IsRoutedWrite shape) writes k.written each.1 k.among) k.row in
        all-in (stands.HasOther written.write) writes k.written apart.0 k.among (sym theirs.write_is ∙ sym (same-write x.id y.id tie) ∙ mine.write_is))

    apart-here : (writes : List Written) → stands.AreApart writes → AreApart (writes_of partition writes)
    apart-here [] apart = tt
    apart-here (written ∷ writes) apart = (
      all-from (HasOther written.write) (writes_of partition writes) (λ w at.
          let m = from-map (write_in partition) w writes at in
          subst (HasOther written.write) m.2 (all-in (stands.HasOther written.write) writes m.0 apart.0 m.1)),
      apart-here writes apart.1,
    )

    carried-here : (writes : List Written) → AllByRecursion (IsRoutedWrite shape) writes → (w : Write Found) (found : Found) → IsIn w (writes_of partition writes) → IsIn found w.inserts
        → IsRowOf partition w found
    carried-here writes each w found at =
        let m = from-map (write_in partition) w writes at in
        subst (λ (v : Write Found). IsIn found v.inserts → IsRowOf partition v found) m.2
        (row-of m.0 found (all-in (IsRoutedWrite shape) writes m.0 each m.1))

pub base-ids : (s : State) (table : ℕ) (partition : List ℕ) → IsSound s → HasSoundIds partition (writes_in s table partition)
base-ids s table partition sound = by (numbered s.tables table) refl (λ w at. (committed-in s table partition sound w at).counted)
  where
    by : (o : Option Table) → numbered s.tables table ≡ o → ((w : Write Found) → IsIn w (writes_of partition (written_in o)) → 1 ≤ w.write)
        → HasSoundIds partition (writes_of partition (written_in o))
    by None is counted = record { from_one = counted; apart = tt; carried = λ w found at. absurd at; distinct = tt }
    by (Some t) is counted =
        let writes = all-numbered HasSoundWrites s.tables table t is sound.tables.written in
        record {
          from_one = counted;
          apart = apart-here partition t.info.shape t.writes writes.apart;
          carried = carried-here partition t.info.shape t.writes writes.each;
          distinct = distinct-all partition t.info.shape t.writes writes.each writes.apart;
        }

pub sound-ids : (s : State) (table : ℕ) (partition : List ℕ) → IsSound s → HasSoundIds partition (writes_in s table partition)
sound-ids s table partition sound = base-ids s table partition sound

pub ids-sound : IdsAreSound
ids-sound limits entries table partition fit = sound-ids (state_of entries) table partition (book-sound limits entries fit)
