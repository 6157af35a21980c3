-- Files that are read by acts, one after another.
use Rattle.std.proofs.Common.{◌≡◌, ◌<◌, ◌≤◌, ◌+◌, ℕ, zero, suc, inl, inr, Bool, Option, Some, None, List, [], ◌∷◌, ◌++◌, Result, Ok, Err, length, get_or, take, refl, sym, ◌∙◌, ap, subst, arith}
use Rattle.std.specs.Prelude.{IfErr, IsErrAnd}
use Rattle.std.proofs.Math.Seq.{take-length}
use Rattle.hv_base.specs.Told.{Tells}
use Rattle.hv_base.specs.declared.ids.TxnId.{TxnId}
use Rattle.hv_shelf.specs.Disk.{Store}
use Rattle.hv_choosing.specs.declared.listing.DirFile.{DirFile}
use Rattle.hv_choosing.specs.Dirs.{span_of}
use Rattle.hv_law_visible.specs.Members.{IsIn}
use Rattle.hv_rowfile.specs.declared.record.Rec.{Rec}
use Rattle.hv_table_rows.specs.Reading.{HoldsAt, Sheet, Reads}
use Rattle.hv_law_dues.specs.hv_counts.specs.declared.counted.Counted.{Counted}
use Rattle.hv_trail.specs.Steps.{HouseSeen}
use Rattle.hv_table_reader.specs.declared.fault.RowFault.{RowFault}
use Rattle.hv_table_reader.specs.Counting.{counted_at, CountsUpTo}
use Rattle.hv_table_reader.specs.Damage.{TellsFile, TellsOne}
use Rattle.hv_table_reader.proofs.Sheets.{reads-none, reads-next, err-told}
use Rattle.hv_table_reader.proofs.Counts.{counts-none, counts-next}
use Rattle.hv_table_reader.specs.Steady.{GoesBehind, IsSteady, AreSteady}
use Rattle.hv_table_reader.proofs.Moments.{steady-on}

in-at : {A : Type 0} (xs : List A) (i : ℕ) (d : A) → i < length xs → IsIn (get_or xs i d) xs
in-at [] i d low = absurd (omega (arith, low))
in-at (x ∷ xs) zero d low = inl refl
in-at (x ∷ xs) (suc i) d low = inr (in-at xs i d (omega (arith, low)))

-- of these files, so many were read and counted
pub record ReadsUpTo {X : Type 0} (o : Option Store) (deletes : Bool) (taken : List DirFile) (pick : Sheet → List X) (items : List X) (counts : List Counted) : Type 0 where
  pub reads : Tells o (λ s. Reads deletes s.tree taken pick items)
  pub counted : CountsUpTo o deletes taken counts

module _ {D : Type 0} (told : D → Option Store) (by : TxnId) (before now : HouseSeen D) (behind : GoesBehind before now) (deletes : Bool) (taken : List DirFile) (i : ℕ) (file : DirFile)
    (low : i < length taken) (at : file ≡ get_or taken i file) where
  -- the next one is steady
  pub one-of-them : (o : Option Store) → AreSteady told o by before taken → IsSteady told o by now file.place
  one-of-them o steady = steady-on told o by before now file.place behind (steady file (subst (λ (f : DirFile). IsIn f taken) (sym at) (in-at taken i file low)))

  pub reads-on : {X : Type 0} (pick : Sheet → List X) (items more all : List X) (counts counts' : List Counted) (recs : List Rec)
      → ((o : Option Store) → AreSteady told o by before taken → ReadsUpTo o deletes (take i taken) pick items counts)
      → ((o : Option Store) → IsSteady told o by now file.place → Tells o (λ s. HoldsAt s.tree file.place deletes (span_of file.dir) recs))
      → more ≡ pick (record { file = file; recs = recs }) → all ≡ items ++ more → counts' ≡ counts ++ counted_at deletes file.place recs ∷ []
      → (o : Option Store) → AreSteady told o by before taken → ReadsUpTo o deletes (take (i + 1) taken) pick all counts'
  reads-on pick items more all counts counts' recs sofar held picked added counted o steady =
      let done = sofar o steady in
      let holds = held o (one-of-them o steady) in
      record {
        reads = reads-next o o deletes taken i file pick items more all recs low at refl done.reads holds picked added;
        counted = counts-next o o deletes taken i file counts counts' recs low at refl done.counted holds counted;
      }

  pub damage-up : {T : Type 0} (result : Result T RowFault) (why : RowFault) → IsErrAnd result (λ w. w ≡ why)
      → ((o : Option Store) → IsSteady told o by now file.place → Tells o (λ s. TellsFile s.tree file.place deletes (span_of file.dir) why))
      → (o : Option Store) → AreSteady told o by before taken → IfErr result (λ w. Tells o (λ s. TellsOne deletes s.tree taken w))
  damage-up (Ok x) why left tells o steady = absurd left
  damage-up {T = T} (Err w) why left tells o steady =
      err-told {T = T} o o deletes taken i file (Err w) why w refl left low at refl (tells o (one-of-them o steady))

pub reads-start : {X : Type 0} (o : Option Store) (deletes : Bool) (taken : List DirFile) (pick : Sheet → List X) (items : List X) (counts : List Counted) → items ≡ [] → counts ≡ []
    → taken ≡ [] → ReadsUpTo o deletes taken pick items counts
reads-start o deletes taken pick items counts none uncounted nothing =
    subst (λ (files : List DirFile). ReadsUpTo o deletes files pick items counts) (sym nothing)
    (record {
      reads = subst (λ (xs : List _). Tells o (λ s. Reads deletes s.tree [] pick xs)) (sym none) (by o);
      counted = counts-none o deletes counts uncounted;
    })
  where
    by : (o : Option Store) → Tells o (λ s. Reads deletes s.tree [] pick [])
    by None = tt
    by (Some s) = reads-none deletes s.tree pick

-- all of them
pub reads-done : {X : Type 0} (o : Option Store) (deletes : Bool) (taken : List DirFile) (i : ℕ) (pick : Sheet → List X) (items : List X) (counts : List Counted)
    → length taken ≤ i → i ≤ length taken → ReadsUpTo o deletes (take i taken) pick items counts → ReadsUpTo o deletes taken pick items counts
reads-done o deletes taken i pick items counts high low sofar =
    let end : i ≡ length taken = omega (arith, high, low) in
    subst (λ (files : List DirFile). ReadsUpTo o deletes files pick items counts) (ap (λ n. take n taken) end ∙ take-length taken) sofar
