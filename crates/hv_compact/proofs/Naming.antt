-- The files of one partition are those of the whole table that are of it: each text is the name of one directory that may be taken, or of none.
use Rattle.std.proofs.Common.{◌≡◌, ◌⊎◌, inl, inr, ◌<◌, ◌≤◌, nat_eq, ℕ, zero, suc, Bool, true, false, cond, true≢false, Option, Some, None, List, [], ◌∷◌, length, filter, refl, sym, ap, ◌∙◌, subst, arith, ltb-true, ltb-false}
use Rattle.std.specs.Prelude.{nat_lt}
use Rattle.std.specs.declared.cmp.Ordering.TheVariants.{Greater}
use Rattle.std.specs.List.{cons_option, AllByRecursion}
use Rattle.std.specs.Cmp.Lexicographic.{pointwise}
use Rattle.hv_shelf.specs.declared.place.Place.{Place}
use Rattle.hv_shelf.specs.Disk.{Tree, places_of}
use Rattle.hv_base.specs.declared.ids.TableId.{TableId}
use Rattle.hv_wids.specs.WriteIds.{WriteIds}
use Rattle.hv_dirs.specs.declared.names.DirName.{DirName}
use Rattle.hv_dirs.specs.Names.{text_of, write_end, statement_end}
use Rattle.hv_dirs.specs.Choice.{sight_of}
use Rattle.hv_dirs.proofs.NameLemmas as texts
use Rattle.hv_choosing.specs.declared.dir.Dir.{Dir}
use Rattle.hv_choosing.specs.declared.dir.Dir.TheVariants as dir
use Rattle.hv_choosing.specs.declared.listing.DirFile.{DirFile}
use Rattle.hv_choosing.specs.Dirs.{name_of, dir_named, IsAt, IsFoundAt}
use Rattle.hv_choosing.specs.Listing.{IsListed, AreListed}
use Rattle.hv_choosing.specs.Taken.{names_of, runs, chosen_texts, is_in_one, run_taken, files_taken}
use Rattle.hv_choosing.proofs.Partitions.{in-run}
use Rattle.hv_choosing.proofs.Texts.{one, named-back}
use Rattle.hv_law_made.proofs.NamedLemmas.{same-text, text-same}
use Rattle.hv_stands.proofs.Numbers.{either}
use Rattle.hv_law_visible.specs.Members.{IsIn}
use Rattle.hv_law_visible.proofs.MemberLemmas.{in-flat, from-flat, in-filter, from-filter}
use Rattle.hv_job_acts.specs.hv_job_calls.specs.Listing.{is_part}
use Rattle.hv_job_acts.specs.hv_acts.specs.hv_telling.specs.hv_house.specs.hv_law_read.specs.hv_law_whole.specs.hv_law_directories.specs.Directories.{is_of, names_in}
use Rattle.hv_job_acts.specs.hv_acts.specs.hv_telling.specs.hv_house.specs.hv_law_read.specs.hv_law_whole.specs.hv_law_directories.proofs.GroupLemmas.{text_cmp, RisingParts, listed-rise, runs-are}

-- ---- a number below a bound of which something holds, or none

abbrev Decided : Type 0 → Type 0
Decided A = A ⊎ (A → ⊥)

both : {A B : Type 0} → Decided A → Decided B → Decided (A × B)
both (inl a) (inl b) = inl (a, b)
both (inl a) (inr never) = inr (λ it. never it.1)
both (inr never) other = inr (λ it. never it.0)

abbrev Below : (ℕ → Type 0) → ℕ → Type 0
Below P n = (k : ℕ) × (k < n) × P k

not-below : (P : ℕ → Type 0) (n : ℕ) → (P n → ⊥) → (Below P n → ⊥) → Below P (suc n) → ⊥
not-below P n never none it = elim (either (nat_lt it.0 n)) [
  | inl less ↦ none (it.0, ltb-true it.0 n less, it.2)
  | inr most ↦
      let low = ltb-false it.0 n most in
      let high = it.1 in
      let same : it.0 ≡ n = omega (arith, low, high) in
      never (subst P same it.2)
]

below : (P : ℕ → Type 0) → ((k : ℕ) → Decided (P k)) → (n : ℕ) → Decided (Below P n)
below P each zero = inr (λ it. let less = it.1 in omega (arith, less))
below P each (suc n) = by (each n) (below P each n)
  where
    by : Decided (P n) → Decided (Below P n) → Decided (Below P (suc n))
    by (inl is) rest = inl (n, omega arith, is)
    by (inr never) (inl it) = inl (it.0, (let less = it.1 in omega (arith, less)), it.2)
    by (inr never) (inr none) = inr (not-below P n never none)

is-there : (k : ℕ) → Decided (1 ≤ k)
is-there zero = inr (λ low. omega (arith, low))
is-there (suc k) = inl (omega arith)

text-is : (text : List ℕ) (name : DirName) → Decided (text_of name ≡ text)
text-is text name = elim (either (pointwise nat_eq (text_of name) text)) [
  | inl e ↦ inl (same-text (text_of name) text e)
  | inr never ↦ inr (λ same. true≢false (sym (text-same (text_of name) text same) ∙ never))
]

-- ---- the directory of a text

module _ (text : List ℕ) (writes statements : ℕ) where
  abbrev IsBase : ℕ → Type 0
  IsBase high = (1 ≤ high) × (text_of (name_of (dir.Base (record { 0 = high }))) ≡ text)

  abbrev IsOwn : Bool → ℕ → ℕ → Type 0
  IsOwn deletes write statement = text_of (name_of (dir.Own deletes (record { 0 = write }) statement)) ≡ text

  abbrev HasOwn : Bool → ℕ → Type 0
  HasOwn deletes write = (1 ≤ write) × Below (IsOwn deletes write) statements

  abbrev IsWide : Bool → ℕ → ℕ → Type 0
  IsWide deletes high low = (1 ≤ low) × (text_of (name_of (dir.Wide deletes (record { 0 = low }) (record { 0 = high }))) ≡ text)

  abbrev HasWide : Bool → ℕ → Type 0
  HasWide deletes high = Below (IsWide deletes high) (suc high)

  a-base : Decided (Below IsBase writes)
  a-base = below IsBase (λ high. both (is-there high) (text-is text (name_of (dir.Base (record { 0 = high }))))) writes

  an-own : (deletes : Bool) → Decided (Below (HasOwn deletes) writes)
  an-own deletes =
      below (HasOwn deletes)
      (λ write.
      both (is-there write)
      (below (IsOwn deletes write) (λ statement. text-is text (name_of (dir.Own deletes (record { 0 = write }) statement))) statements)) writes

  a-wide : (deletes : Bool) → Decided (Below (HasWide deletes) writes)
  a-wide deletes =
      below (HasWide deletes)
      (λ high.
      below (IsWide deletes high)
      (λ low. both (is-there low) (text-is text (name_of (dir.Wide deletes (record { 0 = low }) (record { 0 = high }))))) (suc high)) writes

-- one of them, or none
record Finds (text : List ℕ) : Type 0 where
  it : Option Dir
  is : IsFoundAt text it

none-at : (text : List ℕ) → (Below (IsBase text write_end statement_end) write_end → ⊥)
    → ((deletes : Bool) → Below (HasOwn text write_end statement_end deletes) write_end → ⊥)
    → ((deletes : Bool) → Below (HasWide text write_end statement_end deletes) write_end → ⊥) → IsFoundAt text None
none-at text base own wide (dir.Base high) at = base (high.0, at.0.1, (at.0.0, at.1))
none-at text base own wide (dir.Own deletes write statement) at =
    own deletes (write.0, at.0.0.1, (at.0.0.0, (statement, at.0.1, at.1)))
none-at text base own wide (dir.Wide deletes low high) at =
    wide deletes (high.0, at.0.2, (low.0, (let order = at.0.1 in omega (arith, order)), (at.0.0, at.1)))

found-at : (text : List ℕ) → Decided (Below (IsBase text write_end statement_end) write_end)
    → ((deletes : Bool) → Decided (Below (HasOwn text write_end statement_end deletes) write_end))
    → ((deletes : Bool) → Decided (Below (HasWide text write_end statement_end deletes) write_end)) → Finds text
found-at text (inl it) own wide = record { it = Some (dir.Base (record { 0 = it.0 })); is = ((it.2.0, it.1), it.2.1) }
found-at text (inr no_base) own wide = owns (own false) (own true)
  where
    of-own : (deletes : Bool) → Below (HasOwn text write_end statement_end deletes) write_end → Finds text
    of-own deletes it = record {
      it = Some (dir.Own deletes (record { 0 = it.0 }) it.2.1.0);
      is = (((it.2.0, it.1), it.2.1.1), it.2.1.2);
    }

    of-wide : (deletes : Bool) → Below (HasWide text write_end statement_end deletes) write_end → Finds text
    of-wide deletes it = record {
      it = Some (dir.Wide deletes (record { 0 = it.2.0 }) (record { 0 = it.0 }));
      is = ((it.2.2.0, (let low = it.2.1 in omega (arith, low)), it.1), it.2.2.1);
    }

    by-kind : (P : Bool → Type 0) → (P false → ⊥) → (P true → ⊥) → (deletes : Bool) → P deletes → ⊥
    by-kind P no_false no_true false = no_false
    by-kind P no_false no_true true = no_true

    wides : ((deletes : Bool) → Below (HasOwn text write_end statement_end deletes) write_end → ⊥)
        → Decided (Below (HasWide text write_end statement_end false) write_end) → Decided (Below (HasWide text write_end statement_end true) write_end)
        → Finds text
    wides no_own (inl it) other = of-wide false it
    wides no_own (inr never) (inl it) = of-wide true it
    wides no_own (inr never) (inr nor) = record {
      it = None;
      is = none-at text no_base no_own
          (by-kind (λ (deletes : Bool). Below (HasWide text write_end statement_end deletes) write_end) never nor);
    }

    owns : Decided (Below (HasOwn text write_end statement_end false) write_end) → Decided (Below (HasOwn text write_end statement_end true) write_end)
        → Finds text
    owns (inl it) other = of-own false it
    owns (inr never) (inl it) = of-own true it
    owns (inr never) (inr nor) =
        wides (by-kind (λ (deletes : Bool). Below (HasOwn text write_end statement_end deletes) write_end) never nor) (wide false) (wide true)

unfoldable find : (text : List ℕ) → Finds text
find text = found-at text (a-base text write_end statement_end) (an-own text write_end statement_end) (a-wide text write_end statement_end)

-- ---- all files at some places

pub all-listed : (places : List Place) → (named : List DirFile) × AreListed places named
all-listed [] = ([], refl)
all-listed (place ∷ places) = by (find place.dir).it (find place.dir).is (all-listed places)
  where
    by : (o : Option Dir) → IsFoundAt place.dir o → ((named : List DirFile) × AreListed places named) → (named : List DirFile) × AreListed (place ∷ places) named
    by None is rest = (rest.0, (None, rest.0, is, refl, rest.1))
    by (Some d) is rest =
        let file : DirFile = record { place = place; dir = d } in
        (file ∷ rest.0, (Some file, rest.0, (refl, is), refl, rest.1))

-- ---- and those in one partition

same-dir : (text : List ℕ) (d e : Dir) → IsAt text d → IsAt text e → d ≡ e
same-dir text d e at as_well =
    let names : name_of d ≡ name_of e = texts.text-same (name_of d) (name_of e) at.0 as_well.0 (at.1 ∙ sym as_well.1) in
    one (sym (named-back d) ∙ ap dir_named names ∙ named-back e)

same-file : (place : Place) (a b : Option DirFile) → IsListed place a → IsListed place b → a ≡ b
same-file place None None is as_well = refl
same-file place None (Some b) is as_well = absurd (is b.dir as_well.1)
same-file place (Some a) None is as_well = absurd (as_well a.dir is.1)
same-file place (Some a) (Some b) is as_well =
    λ i. Some (record { place = (is.0 ∙ sym as_well.0) i; dir = same-dir place.dir a.dir b.dir is.1 as_well.1 i })

pub parts-are : (partition : List ℕ) (places : List Place) (named part : List DirFile) → AreListed places named
    → AreListed (filter (is_part partition) places) part → part ≡ filter (is_of partition) named
parts-are partition [] named part listed its = its ∙ sym (ap (filter (is_of partition)) listed)
parts-are partition (place ∷ places) named part listed its =
    by (λ more is. parts-are partition places listed.1 more listed.4 is) (is_part partition place) refl its
    ∙ sym (ap (filter (is_of partition)) listed.3)
  where
    kept : (o : Option DirFile) → IsListed place o → is_part partition place ≡ true
        → cons_option o (filter (is_of partition) listed.1) ≡ filter (is_of partition) (cons_option o listed.1)
    kept None is e = refl
    kept (Some file) is e =
        sym (ap (λ b. cond b (file ∷ filter (is_of partition) listed.1) (filter (is_of partition) listed.1))
        (ap (λ (p : Place). is_part partition p) is.0 ∙ e))

    left : (o : Option DirFile) → IsListed place o → is_part partition place ≡ false
        → filter (is_of partition) listed.1 ≡ filter (is_of partition) (cons_option o listed.1)
    left None is e = refl
    left (Some file) is e =
        sym (ap (λ b. cond b (file ∷ filter (is_of partition) listed.1) (filter (is_of partition) listed.1))
        (ap (λ (p : Place). is_part partition p) is.0 ∙ e))

    by : ((more : List DirFile) → AreListed (filter (is_part partition) places) more → more ≡ filter (is_of partition) listed.1)
        → (b : Bool) → is_part partition place ≡ b
        → AreListed (cond b (place ∷ filter (is_part partition) places) (filter (is_part partition) places)) part
        → part ≡ filter (is_of partition) (cons_option listed.0 listed.1)
    by rest true e is =
        is.3 ∙ ap (λ (o : Option DirFile). cons_option o is.1) (same-file place is.0 listed.0 is.2 listed.2)
        ∙ ap (λ (more : List DirFile). cons_option listed.0 more) (rest is.1 is.4) ∙ kept listed.0 listed.2 e
    by rest false e is = rest part is ∙ left listed.0 listed.2 e

-- ---- what is taken in it

all-kept : (Q : DirFile → Type 0) (p : DirFile → Bool) (files : List DirFile) → AllByRecursion Q files → AllByRecursion Q (filter p files)
all-kept Q p [] all = tt
all-kept Q p (file ∷ files) all = by (p file) (all-kept Q p files all.1)
  where
    by : (b : Bool) → AllByRecursion Q (filter p files) → AllByRecursion Q (cond b (file ∷ filter p files) (filter p files))
    by true rest = (all.0, rest)
    by false rest = rest

rising-kept : (p : DirFile → Bool) (files : List DirFile) → RisingParts files → RisingParts (filter p files)
rising-kept p [] rises = tt
rising-kept p (file ∷ files) rises = by (p file) (rising-kept p files rises.1)
  where
    by : (b : Bool) → RisingParts (filter p files) → RisingParts (cond b (file ∷ filter p files) (filter p files))
    by true rest = (all-kept (λ (other : DirFile). text_cmp file.place.partition other.place.partition ≡ Greater → ⊥) p files rises.0, rest)
    by false rest = rest

kept-twice : (p : DirFile → Bool) (files : List DirFile) → filter p (filter p files) ≡ filter p files
kept-twice p [] = refl
kept-twice p (file ∷ files) = by (p file) refl (kept-twice p files)
  where
    by : (b : Bool) → p file ≡ b → filter p (filter p files) ≡ filter p files
        → filter p (cond b (file ∷ filter p files) (filter p files)) ≡ cond b (file ∷ filter p files) (filter p files)
    by true e rest = ap (λ c. cond c (file ∷ filter p (filter p files)) (filter p (filter p files))) e ∙ ap (λ (more : List DirFile). file ∷ more) rest
    by false e rest = rest

-- a file that is taken of them is one that is chosen among all
pub record IsChosenOf (partition : List ℕ) (kind : Bool) (list : WriteIds) (named : List DirFile) (file : DirFile) : Type 0 where
  pub among : IsIn file (filter (is_of partition) named)
  pub taken : is_in_one (chosen_texts kind (sight_of list) (names_in partition named)) file ≡ true

pub taken-in-part : (table : TableId) (files : Tree) (partition : List ℕ) (named part : List DirFile) (kind : Bool) (list : WriteIds) (file : DirFile)
    → AreListed (places_of table files) named → AreListed (filter (is_part partition) (places_of table files)) part
    → IsIn file (files_taken kind list part) → IsChosenOf partition kind list named file
unfolding files_taken run_taken
taken-in-part table files partition named part kind list file listed its h =
    let at = from-flat (run_taken kind (sight_of list)) file (runs (length part) part) h in
    let kept = from-filter (is_in_one (chosen_texts kind (sight_of list) (names_of at.0))) file at.0 at.2 in
    let are : part ≡ filter (is_of partition) named = parts-are partition (places_of table files) named part listed its in
    let rises : RisingParts part = subst RisingParts (sym are) (rising-kept (is_of partition) named (listed-rise table files named listed)) in
    let run : at.0 ≡ filter (is_of file.place.partition) part = runs-are (length part) part at.0 file rises at.1 kept.0 in
    let here : IsIn file part = (from-filter (is_of file.place.partition) file part (subst (IsIn file) run kept.0)).0 in
    let mine : is_of partition file ≡ true = (from-filter (is_of partition) file named (subst (IsIn file) are here)).1 in
    let same : file.place.partition ≡ partition = same-text file.place.partition partition mine in
    let whole : at.0 ≡ filter (is_of partition) named =
    run ∙ ap (λ (p : List ℕ). filter (is_of p) part) same ∙ ap (filter (is_of partition)) are ∙ kept-twice (is_of partition) named in
    record {
      among = subst (IsIn file) are here;
      taken = ap (λ (r : List DirFile). is_in_one (chosen_texts kind (sight_of list) (names_of r)) file) (sym whole) ∙ kept.1;
    }

-- and one that is taken among all is taken of them
pub part-taken : (table : TableId) (files : Tree) (partition : List ℕ) (named part : List DirFile) (kind : Bool) (list : WriteIds) (file : DirFile)
    → AreListed (places_of table files) named → AreListed (filter (is_part partition) (places_of table files)) part
    → IsIn file (files_taken kind list named) → file.place.partition ≡ partition → IsIn file (files_taken kind list part)
unfolding files_taken run_taken
part-taken table files partition named part kind list file listed its h here =
    let at = from-flat (run_taken kind (sight_of list)) file (runs (length named) named) h in
    let kept = from-filter (is_in_one (chosen_texts kind (sight_of list) (names_of at.0))) file at.0 at.2 in
    let are : part ≡ filter (is_of partition) named = parts-are partition (places_of table files) named part listed its in
    let rises : RisingParts named = listed-rise table files named listed in
    let rise : RisingParts part = subst RisingParts (sym are) (rising-kept (is_of partition) named rises) in
    let whole : at.0 ≡ part =
    runs-are (length named) named at.0 file rises at.1 kept.0 ∙ ap (λ (p : List ℕ). filter (is_of p) named) here ∙ sym are in
    let run = in-run (length part) part file (omega arith) (subst (IsIn file) whole kept.0) in
    let again : run.0 ≡ part =
    runs-are (length part) part run.0 file rise run.1 run.2 ∙ ap (λ (p : List ℕ). filter (is_of p) part) here
    ∙ ap (filter (is_of partition)) are ∙ kept-twice (is_of partition) named ∙ sym are in
    in-flat (run_taken kind (sight_of list)) run.0 file (runs (length part) part) run.1
    (in-filter (is_in_one (chosen_texts kind (sight_of list) (names_of run.0))) file run.0 run.2
    (ap (λ (r : List DirFile). is_in_one (chosen_texts kind (sight_of list) (names_of r)) file) (again ∙ sym whole) ∙ kept.1))
