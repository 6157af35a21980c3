-- The files at a table's places.
use Rattle.std.proofs.Common.{◌≡◌, ℕ, inl, inr, Option, Some, None, List, [], ◌∷◌, ◌++◌, length, refl, sym, ap, ◌∙◌, subst, arith, append-nil}
use Rattle.std.specs.List.{cons_option, AllByRecursion}
use Rattle.hv_shelf.specs.declared.place.Place.{Place}
use Rattle.hv_dirs.proofs.NameLemmas.{text-same}
use Rattle.hv_law_visible.specs.Members.{IsIn}
use Rattle.hv_choosing.specs.declared.dir.Dir.{Dir}
use Rattle.hv_choosing.specs.declared.listing.DirFile.{DirFile}
use Rattle.hv_choosing.specs.Dirs.{name_of, dir_named, IsAt}
use Rattle.hv_choosing.specs.Listing.{IsNamed, IsListed, AreListed}
use Rattle.hv_choosing.proofs.Texts.{one, named-back}

empty : {X : Type 0} (n : ℕ) (xs : List X) → n ≡ length xs → n ≡ 0 → xs ≡ []
empty n [] is none = refl
empty n (x ∷ xs) is none = absurd (omega (arith, is, none))

-- behind the last place
pub listed-end : (n : ℕ) (places rest : List Place) (files : List DirFile) → n ≡ length rest → n ≡ 0
    → ((more : List DirFile) → AreListed rest more → AreListed places (files ++ more)) → AreListed places files
listed-end n places rest files is none goes =
    subst (AreListed places) (append-nil files) (goes [] (subst (λ (ps : List Place). AreListed ps []) (sym (empty n rest is none)) refl))

pub listed-named : (places : List Place) (files : List DirFile) → AreListed places files → AllByRecursion IsNamed files
listed-named [] files listed = subst (AllByRecursion IsNamed) (sym listed) tt
listed-named (place ∷ places) files listed =
    subst (AllByRecursion IsNamed) (sym listed.3) (by listed.0 listed.2 (listed-named places listed.1 listed.4))
  where
    by : (o : Option DirFile) → IsListed place o → AllByRecursion IsNamed listed.1 → AllByRecursion IsNamed (cons_option o listed.1)
    by None is rest = rest
    by (Some file) is rest = (subst (λ (p : Place). IsAt p.dir file.dir) (sym is.0) is.1, rest)

-- each stands at a place
pub listed-place : (places : List Place) (files : List DirFile) → AreListed places files → (file : DirFile) → IsIn file files → IsIn file.place places
listed-place [] files listed file h = absurd (subst (IsIn file) listed h)
listed-place (place ∷ places) files listed file h =
    by listed.0 listed.2 (subst (IsIn file) listed.3 h) (listed-place places listed.1 listed.4 file)
  where
    by : (o : Option DirFile) → IsListed place o → IsIn file (cons_option o listed.1) → (IsIn file listed.1 → IsIn file.place places) → IsIn file.place (place ∷ places)
    by None is h rest = inr (rest h)
    by (Some first) is (inl same) rest = inl (sym is.0 ∙ ap (λ (f : DirFile). f.place) same)
    by (Some first) is (inr h) rest = inr (rest h)

same-dir : (text : List ℕ) (d e : Dir) → IsAt text d → IsAt text e → d ≡ e
same-dir text d e at as_well =
    let names : name_of d ≡ name_of e = text-same (name_of d) (name_of e) at.0 as_well.0 (at.1 ∙ sym as_well.1) in
    one (sym (named-back d) ∙ ap dir_named names ∙ named-back e)

-- at each place whose directory has a name there is its file
pub place-listed : (places : List Place) (files : List DirFile) → AreListed places files → (place : Place) (d : Dir) → IsIn place places → IsAt place.dir d
    → IsIn (record { place = place; dir = d }) files
place-listed [] files listed place d h at = absurd h
place-listed (first ∷ places) files listed place d h at =
    subst (IsIn (record { place = place; dir = d })) (sym listed.3) (by listed.0 listed.2 h (λ k. place-listed places listed.1 listed.4 place d k at))
  where
    here : DirFile
    here = record { place = place; dir = d }

    behind : (o : Option DirFile) → IsIn (record { place = place; dir = d }) listed.1 → IsIn (record { place = place; dir = d }) (cons_option o listed.1)
    behind None k = k
    behind (Some file) k = inr k

    by : (o : Option DirFile) → IsListed first o → IsIn place (first ∷ places) → (IsIn place places → IsIn (record { place = place; dir = d }) listed.1)
        → IsIn (record { place = place; dir = d }) (cons_option o listed.1)
    by None is (inl same) rest = absurd (is d (subst (λ (p : Place). IsAt p.dir d) (sym same) at))
    by (Some file) is (inl same) rest =
        inl (λ i. record {
          place = (is.0 ∙ same) i;
          dir = same-dir first.dir file.dir d is.1 (subst (λ (p : Place). IsAt p.dir d) (sym same) at) i;
        })
    by o is (inr k) rest = behind o (rest k)
