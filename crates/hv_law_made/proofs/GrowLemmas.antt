-- What an entry does to the directories of a partition, name by name: those that were made stay and hold what they held, what was free
-- stays free, and what is new is at places that the entry asks of. So it changes no more than these.
use Rattle.std.proofs.Common.{refl, ◌≡◌, ◌⊎◌, inl, inr, Bool, true, false, is_some, IsSome, Option, Some, None, List, sym, ap, ◌∙◌, true≢false}
use Rattle.std.proofs.lemmas.Bool.{and_from}
use Rattle.hv_shelf.specs.declared.place.Place.{Place}
use Rattle.hv_logic.specs.declared.catalog.Shape.{Shape}
use Rattle.hv_rowfile.specs.declared.record.Rec.{Rec}
use Rattle.hv_dirs.specs.declared.names.DirName.{DirName}
use Rattle.hv_dirs.specs.Names.{text_of}
use Rattle.hv_stands.specs.hv_history.specs.declared.state.Table.{Table}
use Rattle.hv_stands.specs.hv_history.specs.State.{State, numbered}
use Rattle.hv_stands.specs.Files.{IsLoose}
use Rattle.hv_stands.proofs.Numbers.{none_is}
use Rattle.hv_stands.proofs.Soundness.{all-numbered}
use Rattle.hv_jobs.specs.Covers.{is_freed, is_cleaned_away}
use Rattle.hv_law_made.specs.Made.{name_file, names_in, is_made, made_names, is_named, jobs_at, recs_in, made_recs, is_spare_name, is_spare_in, is_spare, is_gone_name, is_gone_in, is_gone}
use Rattle.hv_law_made.specs.Named.{HasNames, AllHaveNames}
use Rattle.hv_law_made.specs.Standing.{MayHold, IsStagedAt, is_live_at}
use Rattle.hv_law_made.specs.Laws.{ChangesAt}
use Rattle.hv_law_made.proofs.NamedLemmas.{text-same, file-named, file-from, recs-are, spare-by, gone-by}
use Rattle.hv_law_made.proofs.UnmadeLemmas.{names-here}
use Rattle.hv_law_visible.specs.Members.{IsIn}
use Rattle.hv_law_visible.proofs.MemberLemmas.{any-in, in-filter}

-- a directory that the book makes at a place, of a table with these writes
abbrev pub is_name_of : State → Table → Place → DirName → Type 0
is_name_of state table place name = IsIn name (names_in table.writes (jobs_at state place)) × (place.dir ≡ text_of name)

-- at a place of a table that was there
pub record GrowsAt (state now : State) (Asked : Type 0) (place : Place) (before table : Table) : Type 0 where
  pub shape : table.info.shape ≡ before.info.shape
  pub names : (name : DirName) → is_name_of state before place name → is_name_of now table place name
  pub files : (name : DirName) → is_name_of state before place name
      → name_file before.info.shape table.writes place.partition name place.bucket ≡ name_file before.info.shape before.writes place.partition name place.bucket
  pub made : (name : DirName) → is_name_of state before place name → is_made table.writes place.partition name ≡ is_made before.writes place.partition name
  pub freed : (name : DirName) → is_name_of state before place name → is_freed state (jobs_at state place) name ≡ true → is_freed now (jobs_at now place) name ≡ true
  pub new : (name : DirName) → is_name_of now table place name → is_name_of state before place name ⊎ Asked
  pub cleaned : (name : DirName) → is_name_of state before place name → is_made before.writes place.partition name ≡ true
      → is_cleaned_away (jobs_at now place) name ≡ true
      → (is_cleaned_away (jobs_at state place) name ≡ true) ⊎ Asked

pub record Grows (state now : State) (Asked : Place → Type 0) : Type 0 where
  pub named : AllHaveNames state
  pub named_now : AllHaveNames now
  pub each : (place : Place) (before : Table) → numbered state.tables place.table.0 ≡ Some before
      → (table : Table) × (numbered now.tables place.table.0 ≡ Some table) × GrowsAt state now (Asked place) place before table
  -- a table that wasn't there has nothing
  pub none : (place : Place) → numbered state.tables place.table.0 ≡ None → (made_recs now place ≡ None) × (is_gone now place ≡ false)
  pub loose : (place : Place) → IsLoose state place → IsLoose now place ⊎ Asked place
  pub staged : (place : Place) → IsStagedAt state place → IsStagedAt now place
  pub dead : (place : Place) → is_live_at state place ≡ false → is_live_at now place ≡ false
  pub live : (place : Place) → is_live_at now place ≡ true → is_live_at state place ≡ true

-- ---- by the name of the place's directory

module _ (state : State) (place : Place) (table : Table) (here : numbered state.tables place.table.0 ≡ Some table) (has : HasNames state table) (name : DirName)
    (is : is_name_of state table place name) where
  recs-of-name : made_recs state place ≡ name_file table.info.shape table.writes place.partition name place.bucket
  recs-of-name =
      recs-are state place table here
      ∙ file-named table.info.shape table.writes place (names_in table.writes (jobs_at state place)) name (names-here state place table here has)
      (names-here state place table here has name is.0) is.0 is.1

  pub spare-of-name : is_made table.writes place.partition name ≡ true → is_freed state (jobs_at state place) name ≡ true → is_spare state place ≡ true
  unfolding is_spare
  spare-of-name made freed =
      ap (is_spare_in state place) here
      ∙ any-in (is_spare_name state (jobs_at state place) place.dir) name (made_names table.writes (jobs_at state place) place.partition)
      (in-filter (is_made table.writes place.partition) name (names_in table.writes (jobs_at state place)) is.0 made)
      (and_from (is_named place.dir name) (is_freed state (jobs_at state place) name) (text-same (text_of name) place.dir (sym is.1)) freed)

  gone-of-name : is_made table.writes place.partition name ≡ true → is_cleaned_away (jobs_at state place) name ≡ true → is_gone state place ≡ true
  unfolding is_gone
  gone-of-name made cleaned =
      ap (is_gone_in state place) here
      ∙ any-in (is_gone_name (jobs_at state place) place.dir) name (made_names table.writes (jobs_at state place) place.partition)
      (in-filter (is_made table.writes place.partition) name (names_in table.writes (jobs_at state place)) is.0 made)
      (and_from (is_named place.dir name) (is_cleaned_away (jobs_at state place) name) (text-same (text_of name) place.dir (sym is.1)) cleaned)

-- what is made is made of a table
pub recs-nowhere : (state : State) (place : Place) → numbered state.tables place.table.0 ≡ None → made_recs state place ≡ None
unfolding made_recs
recs-nowhere state place none = ap (recs_in state place) none

spare-nowhere : (state : State) (place : Place) → numbered state.tables place.table.0 ≡ None → is_spare state place ≡ false
unfolding is_spare
spare-nowhere state place none = ap (is_spare_in state place) none

-- ---- so much changes

module _ (state now : State) (Asked : Place → Type 0) (grows : Grows state now Asked) where
  module _ (place : Place) (before table : Table) (was : numbered state.tables place.table.0 ≡ Some before) (here : numbered now.tables place.table.0 ≡ Some table)
      (at : GrowsAt state now (Asked place) place before table) where
    has-before : HasNames state before
    has-before = all-numbered (HasNames state) state.tables place.table.0 before was grows.named.tables

    has-now : HasNames now table
    has-now = all-numbered (HasNames now) now.tables place.table.0 table here grows.named_now.tables

    same-file : (name : DirName) → is_name_of state before place name
        → name_file table.info.shape table.writes place.partition name place.bucket ≡ name_file before.info.shape before.writes place.partition name place.bucket
    same-file name is = ap (λ (shape : Shape). name_file shape table.writes place.partition name place.bucket) at.shape ∙ at.files name is

    stays-here : (file : Bool × List Rec) → made_recs state place ≡ Some file → made_recs now place ≡ Some file
    stays-here file e =
        let of = file-from before.info.shape before.writes place (names_in before.writes (jobs_at state place)) file (sym (recs-are state place before was) ∙ e) in
        let is : is_name_of state before place of.name = (of.among, of.dir_is) in
        recs-of-name now place table here has-now of.name (at.names of.name is) ∙ same-file of.name is ∙ of.file_is

    anew-here : (file : Bool × List Rec) → made_recs now place ≡ Some file → (made_recs state place ≡ Some file) ⊎ Asked place
    anew-here file e =
        let of = file-from table.info.shape table.writes place (names_in table.writes (jobs_at now place)) file (sym (recs-are now place table here) ∙ e) in
        elim (at.new of.name (of.among, of.dir_is)) [
          | inl is ↦ inl (recs-of-name state place before was has-before of.name is ∙ sym (same-file of.name is) ∙ of.file_is)
          | inr it ↦ inr it
        ]

    spared-here : is_spare state place ≡ true → is_spare now place ≡ true
    spared-here e =
        let by = spare-by state place before was e in
        let is : is_name_of state before place by.name = (by.among, by.dir_is) in
        spare-of-name now place table here has-now by.name (at.names by.name is) (at.made by.name is ∙ by.made) (at.freed by.name is by.freed)

    emptied-here : is_gone now place ≡ true → (is_gone state place ≡ true) ⊎ Asked place
    emptied-here e =
        let by = gone-by now place table here e in
        elim (at.new by.name (by.among, by.dir_is)) [
          | inl is ↦ elim (at.cleaned by.name is (sym (at.made by.name is) ∙ by.made) by.cleaned) [
            | inl cleaned ↦ inl (gone-of-name state place before was has-before by.name is (sym (at.made by.name is) ∙ by.made) cleaned)
            | inr it ↦ inr it
          ]
          | inr it ↦ inr it
        ]

  module _ (place : Place) where
    stays-by : (o : Option Table) → numbered state.tables place.table.0 ≡ o → (file : Bool × List Rec) → made_recs state place ≡ Some file → made_recs now place ≡ Some file
    stays-by None e file is = absurd (none_is (made_recs state place) file (recs-nowhere state place e) is)
    stays-by (Some before) e file is = let at = grows.each place before e in stays-here place before at.0 e at.1 at.2 file is

    anew-by : (o : Option Table) → numbered state.tables place.table.0 ≡ o → (file : Bool × List Rec) → made_recs now place ≡ Some file
        → (made_recs state place ≡ Some file) ⊎ Asked place
    anew-by None e file is = absurd (none_is (made_recs now place) file (grows.none place e).0 is)
    anew-by (Some before) e file is = let at = grows.each place before e in anew-here place before at.0 e at.1 at.2 file is

    pub spared-by : (o : Option Table) → numbered state.tables place.table.0 ≡ o → is_spare state place ≡ true → is_spare now place ≡ true
    spared-by None e spare = absurd (true≢false (sym spare ∙ spare-nowhere state place e))
    spared-by (Some before) e spare = let at = grows.each place before e in spared-here place before at.0 e at.1 at.2 spare

    emptied-by : (o : Option Table) → numbered state.tables place.table.0 ≡ o → is_gone now place ≡ true → (is_gone state place ≡ true) ⊎ Asked place
    emptied-by None e gone = absurd (true≢false (sym gone ∙ (grows.none place e).1))
    emptied-by (Some before) e gone = let at = grows.each place before e in emptied-here place before at.0 e at.1 at.2 gone

    tables-by : (o : Option Table) → numbered state.tables place.table.0 ≡ o → IsSome (numbered state.tables place.table.0) → IsSome (numbered now.tables place.table.0)
    tables-by None e some = absurd (true≢false (sym some ∙ ap is_some e))
    tables-by (Some before) e some = let at = grows.each place before e in ap is_some at.1

  held-still : (place : Place) → MayHold state place → MayHold now place ⊎ Asked place
  held-still place (inl loose) = elim (grows.loose place loose) [ inl still ↦ inl (inl still) | inr it ↦ inr it ]
  held-still place (inr (inl spare)) = inl (inr (inl (spared-by place (numbered state.tables place.table.0) refl spare)))
  held-still place (inr (inr (inl staged))) = inl (inr (inr (inl (grows.staged place staged))))
  held-still place (inr (inr (inr dead))) = inl (inr (inr (inr (grows.dead place dead))))

  pub grown-changes : ChangesAt state now Asked
  grown-changes = record {
    stays = λ place. stays-by place (numbered state.tables place.table.0) refl;
    anew = λ place. anew-by place (numbered state.tables place.table.0) refl;
    held = held-still;
    spared = λ place file e. spared-by place (numbered state.tables place.table.0) refl;
    emptied = λ place live. emptied-by place (numbered state.tables place.table.0) refl;
    live = grows.live;
    tables = λ place. tables-by place (numbered state.tables place.table.0) refl;
  }
