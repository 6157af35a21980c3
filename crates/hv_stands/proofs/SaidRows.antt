-- The rows that stand in a table are said by their partitions' texts.
use Rattle.std.proofs.Common.{◌≡◌, not, List, [], ◌∷◌, filter, drop, length, sym, ap, ◌∙◌, subst}
use Rattle.std.specs.List.{flat_map, AllByRecursion}
use Rattle.hv_history.specs.hv_meaning.specs.hv_typing.specs.hv_logic.specs.declared.catalog.TableInfo.{TableInfo}
use Rattle.hv_history.specs.hv_meaning.specs.hv_typing.specs.hv_logic.specs.declared.effect.Found.{Found}
use Rattle.hv_history.specs.hv_meaning.specs.hv_typing.specs.hv_logic.specs.Rows.{found_cmp}
use Rattle.hv_history.specs.hv_meaning.specs.hv_route.specs.Partitions.{partition_values}
use Rattle.hv_history.specs.hv_meaning.specs.hv_route.specs.Routes.{partition_of, numbered_rows}
use Rattle.hv_history.specs.hv_meaning.specs.hv_route.specs.Rising.{IsNumbered}
use Rattle.hv_history.specs.hv_meaning.specs.hv_route.proofs.BackLemmas.{text-says}
use Rattle.hv_history.specs.hv_meaning.specs.hv_route.proofs.NumberedLemmas.{numbered-all, rows-are-numbered}
use Rattle.hv_history.specs.hv_meaning.specs.Needs.{IsSaid}
use Rattle.hv_history.specs.declared.state.Written.{Written}
use Rattle.hv_history.specs.declared.state.Table.{Table}
use Rattle.hv_history.specs.State.{content_of, is_deleted}
use Rattle.hv_stands.specs.Files.{IsSaid as IsSaidBy, IsEncoded, AreEncoded}
use Rattle.hv_stands.specs.Sound.{HasAllValues, IsRoutedWrite, HasSoundWrites}
use Rattle.hv_stands.proofs.Soundness.{all-mapped}
use Rattle.hv_stands.proofs.Ordered.{all-kept, all-joined, all-sorted}

module _ (info : TableInfo) where
  -- what is said of a row that was inserted: that it is whole, its partition, and that this one's text says its last values
  record IsFiled (found : Found) : Type 0 where
    whole : HasAllValues info.shape found.row
    partition_is : found.partition ≡ partition_of info.shape found.row
    said : IsSaidBy info.shape found

  filed-said : (found : Found) → IsFiled found → IsSaid info found
  filed-said found filed =
      let parts = drop (length info.shape.columns) found.row.values in
      record {
        wide = filed.whole;
        parts = sym (ap (partition_values info.shape.parts) filed.partition_is ∙ text-says info.shape.parts parts filed.said);
      }

  both-filed : (rows : List Found) → AllByRecursion (λ (found : Found). HasAllValues info.shape found.row) rows
      → AllByRecursion (λ (found : Found). found.partition ≡ partition_of info.shape found.row) rows → AllByRecursion (IsSaidBy info.shape) rows
      → AllByRecursion IsFiled rows
  both-filed [] whole of said = tt
  both-filed (found ∷ rows) whole of said =
      (record { whole = whole.0; partition_is = of.0; said = said.0 }, both-filed rows whole.1 of.1 said.1)

  inserts-said : (written : Written) → IsRoutedWrite info.shape written → IsEncoded info.shape written → AllByRecursion (IsSaid info) written.inserts
  inserts-said written routed encoded =
      let rows = numbered_rows info.shape written.write written.statement routed.rows in
      let whole : AllByRecursion (λ (found : Found). HasAllValues info.shape found.row) rows =
      numbered-all (λ partition bucket row. HasAllValues info.shape row) info.shape written.write written.statement routed.rows routed.whole in
      let of : AllByRecursion (λ (found : Found). found.partition ≡ partition_of info.shape found.row) rows =
      all-mapped (IsNumbered info.shape written.write written.statement) (λ (found : Found). found.partition ≡ partition_of info.shape found.row)
      (λ found is. is.partition_is) rows (rows-are-numbered info.shape written.write written.statement routed.rows).each in
      all-mapped IsFiled (IsSaid info) filed-said written.inserts
      (both-filed written.inserts
      (subst (AllByRecursion (λ (found : Found). HasAllValues info.shape found.row)) (sym routed.numbered) whole)
      (subst (AllByRecursion (λ (found : Found). found.partition ≡ partition_of info.shape found.row)) (sym routed.numbered) of) encoded.said)

  all-said : (writes : List Written) → AllByRecursion (IsRoutedWrite info.shape) writes → AllByRecursion (IsEncoded info.shape) writes
      → AllByRecursion (IsSaid info) (flat_map (λ (written : Written). written.inserts) writes)
  all-said [] routed encoded = tt
  all-said (written ∷ writes) routed encoded =
      all-joined (IsSaid info) written.inserts (flat_map (λ (one : Written). one.inserts) writes)
      (inserts-said written routed.0 encoded.0) (all-said writes routed.1 encoded.1)

pub content-said : (table : Table) → HasSoundWrites table → AreEncoded table → AllByRecursion (IsSaid table.info) (content_of table.writes)
unfolding content_of
content-said table sound encoded =
    let rows : List Found = flat_map (λ (written : Written). written.inserts) table.writes in
    all-sorted found_cmp (IsSaid table.info) (filter (λ found. not (is_deleted table.writes found)) rows)
    (all-kept (IsSaid table.info) (λ found. not (is_deleted table.writes found)) rows (all-said table.info table.writes sound.each encoded))
