-- The names that a table's writes and a partition's jobs make: each is one of the format, and so they differ in their texts, and a place
-- has the file of its directory's name.
use Rattle.std.proofs.Common.{refl, ◌≡◌, inl, inr, ℕ, Bool, true, cond, Option, Some, None, List, [], ◌∷◌, sym, ap, ◌∙◌, subst, arith, true≢false}
use Rattle.std.specs.List.{flat_map, AllByRecursion}
use Rattle.std.proofs.lemmas.Bool.{and_parts}
use Rattle.std.proofs.lemmas.Slice.Eq.{bytes_eq-Decides}
use Rattle.std.specs.Prelude.{nat_eq}
use Rattle.std.specs.Cmp.Lexicographic.{pointwise}
use Rattle.hv_shelf.specs.declared.place.Place.{Place}
use Rattle.hv_logic.specs.declared.catalog.Shape.{Shape}
use Rattle.hv_rowfile.specs.declared.record.Rec.{Rec}
use Rattle.hv_dirs.specs.declared.names.DirName.{DirName}
use Rattle.hv_dirs.specs.Names.{IsName, text_of}
use Rattle.hv_dirs.proofs.NameLemmas as texts
use Rattle.hv_stands.specs.hv_history.specs.declared.entry.JobKind.{JobKind}
use Rattle.hv_stands.specs.hv_history.specs.declared.entry.JobKind.TheVariants as kind
use Rattle.hv_stands.specs.hv_history.specs.declared.state.Table.{Table}
use Rattle.hv_stands.specs.hv_history.specs.declared.state.Written.{Written}
use Rattle.hv_stands.specs.hv_history.specs.State.{State, Job, numbered}
use Rattle.hv_stands.proofs.Numbers.{either}
use Rattle.hv_jobs.specs.Covers.{names_by, job_names, is_freed, is_cleaned_away}
use Rattle.hv_law_made.specs.Made.{name_file, write_names, names_in, is_made, made_names, is_named, file_among, jobs_at, recs_in, made_recs, is_spare_name, is_spare_in, is_spare, is_gone_name, is_gone_in, is_gone}
use Rattle.hv_law_made.specs.Named.{HasNamedRange, IsNamedJob, IsNamedWrite}
use Rattle.hv_law_visible.specs.Members.{IsIn}
use Rattle.hv_law_visible.proofs.MemberLemmas.{in-either, from-flat, from-filter, in-any}
use Rattle.hv_law_visible.proofs.TakenLemmas.{all-in}

pub same-text : (x y : List ℕ) → pointwise nat_eq x y ≡ true → x ≡ y
same-text x y e = (bytes_eq-Decides x y).0 e

pub text-same : (x y : List ℕ) → x ≡ y → pointwise nat_eq x y ≡ true
text-same x y e = (bytes_eq-Decides x y).1 e

-- ---- the file of a name

module _ (shape : Shape) (writes : List Written) (place : Place) where
  abbrev file_by : DirName → Option (Bool × List Rec)
  file_by name = name_file shape writes place.partition name place.bucket

  pub file-named : (names : List DirName) (name : DirName) → ((other : DirName) → IsIn other names → IsName other) → IsName name → IsIn name names
      → place.dir ≡ text_of name → file_among shape writes place names ≡ file_by name
  file-named [] name all is at same = absurd at
  file-named (first ∷ names) name all is at same = elim (either (is_named place.dir first)) [
    | inl e ↦
        let one : first ≡ name = texts.text-same first name (all first (inl refl)) is (same-text (text_of first) place.dir e ∙ same) in
        ap (λ b. cond b (file_by first) (file_among shape writes place names)) e ∙ ap file_by one
    | inr e ↦
        let more : IsIn name names = elim at [
          | inl one ↦ absurd (true≢false (sym (text-same (text_of first) place.dir (ap text_of one ∙ sym same)) ∙ e))
          | inr there ↦ there
        ] in
        ap (λ b. cond b (file_by first) (file_among shape writes place names)) e
        ∙ file-named names name (λ other there. all other (inr there)) is more same
  ]

  pub record IsFileOf (names : List DirName) (file : Bool × List Rec) : Type 0 where
    pub name : DirName
    pub among : IsIn name names
    pub dir_is : place.dir ≡ text_of name
    pub file_is : file_by name ≡ Some file

  pub file-from : (names : List DirName) (file : Bool × List Rec) → file_among shape writes place names ≡ Some file → IsFileOf names file
  file-from [] file e = cc
  file-from (first ∷ names) file e = elim (either (is_named place.dir first)) [
    | inl is ↦ record {
      name = first;
      among = inl refl;
      dir_is = sym (same-text (text_of first) place.dir is);
      file_is = sym (ap (λ b. cond b (file_by first) (file_among shape writes place names)) is) ∙ e;
    }
    | inr is ↦
        let rest = file-from names file (sym (ap (λ b. cond b (file_by first) (file_among shape writes place names)) is) ∙ e) in
        record { name = rest.name; among = inr rest.among; dir_is = rest.dir_is; file_is = rest.file_is }
  ]

-- ---- the names are of the format

pub range-name : (k : JobKind) (o : Option (ℕ × ℕ × ℕ)) (name : DirName) → HasNamedRange o → IsIn name (names_by k o) → IsName name
range-name k None name has at = absurd at
range-name kind.Minor (Some range) name has (inl e) = subst IsName e has
range-name kind.Minor (Some range) name has (inr (inl e)) = subst IsName e has
range-name kind.Minor (Some range) name has (inr (inr at)) = absurd at
range-name kind.Major (Some range) name has (inl e) =
    let low = has.0 in let order = has.1 in
    subst IsName e (omega (arith, low, order), has.2)
range-name kind.Major (Some range) name has (inr at) = absurd at

module _ (table : Table) (all_jobs jobs : List Job) (here : (job : Job) → IsIn job jobs → IsIn job all_jobs)
    (written : AllByRecursion IsNamedWrite table.writes) (ranges : AllByRecursion IsNamedJob all_jobs) where
  own-is : (w : Written) (name : DirName) → IsIn w table.writes → IsIn name (write_names w) → IsName name
  own-is w name among (inl e) = let is = all-in IsNamedWrite table.writes w written among in subst IsName e (is.write, is.statement)
  own-is w name among (inr (inl e)) = let is = all-in IsNamedWrite table.writes w written among in subst IsName e (is.write, is.statement)
  own-is w name among (inr (inr at)) = absurd at

  pub names-are : (name : DirName) → IsIn name (names_in table.writes jobs) → IsName name
  names-are name at = elim (in-either name (flat_map write_names table.writes) (flat_map job_names jobs) at) [
    | inl own ↦ let of = from-flat write_names name table.writes own in own-is of.0 name of.1 of.2
    | inr made ↦
        let of = from-flat job_names name jobs made in
        range-name of.0.kind of.0.published name (all-in IsNamedJob all_jobs of.0 ranges (here of.0 of.1)) of.2
  ]

-- ---- at a place

module _ (state : State) (place : Place) (table : Table) (here : numbered state.tables place.table.0 ≡ Some table) where
  pub recs-are : made_recs state place ≡ file_among table.info.shape table.writes place (names_in table.writes (jobs_at state place))
  unfolding made_recs
  recs-are = ap (recs_in state place) here

  -- a name of that directory which a compaction frees
  pub record IsSpareBy : Type 0 where
    pub name : DirName
    pub among : IsIn name (names_in table.writes (jobs_at state place))
    pub made : is_made table.writes place.partition name ≡ true
    pub dir_is : place.dir ≡ text_of name
    pub freed : is_freed state (jobs_at state place) name ≡ true

  pub spare-by : is_spare state place ≡ true → IsSpareBy
  unfolding is_spare
  spare-by e =
      let names = names_in table.writes (jobs_at state place) in
      let found = in-any (is_spare_name state (jobs_at state place) place.dir) (made_names table.writes (jobs_at state place) place.partition)
      (sym (ap (is_spare_in state place) here) ∙ e) in
      let kept = from-filter (is_made table.writes place.partition) found.0 names found.1 in
      let both = and_parts (is_named place.dir found.0) (is_freed state (jobs_at state place) found.0) found.2 in
      record {
        name = found.0;
        among = kept.0;
        made = kept.1;
        dir_is = sym (same-text (text_of found.0) place.dir both.0);
        freed = both.1;
      }

  -- a name of that directory that a compaction covers whose directories were all removed
  pub record IsGoneBy : Type 0 where
    pub name : DirName
    pub among : IsIn name (names_in table.writes (jobs_at state place))
    pub made : is_made table.writes place.partition name ≡ true
    pub dir_is : place.dir ≡ text_of name
    pub cleaned : is_cleaned_away (jobs_at state place) name ≡ true

  pub gone-by : is_gone state place ≡ true → IsGoneBy
  unfolding is_gone
  gone-by e =
      let names = names_in table.writes (jobs_at state place) in
      let found = in-any (is_gone_name (jobs_at state place) place.dir) (made_names table.writes (jobs_at state place) place.partition)
      (sym (ap (is_gone_in state place) here) ∙ e) in
      let kept = from-filter (is_made table.writes place.partition) found.0 names found.1 in
      let both = and_parts (is_named place.dir found.0) (is_cleaned_away (jobs_at state place) found.0) found.2 in
      record { name = found.0; among = kept.0; made = kept.1; dir_is = sym (same-text (text_of found.0) place.dir both.0); cleaned = both.1 }

-- whether a directory is needed doesn't hang on the bucket
pub spare-same : (state : State) (place : Place) (bucket : ℕ)
    → is_spare state (record { table = place.table; partition = place.partition; dir = place.dir; bucket = bucket }) ≡ is_spare state place
unfolding is_spare
spare-same state place bucket = refl
