-- Renamings change nothing but in the directories that they name.
use Rattle.std.proofs.Common.{◌≡◌, inl, inr, ℕ, true, List, [], ◌∷◌, refl, sym, ap, ◌∙◌}
use Rattle.std.specs.FinMap as tree
use Rattle.std.proofs.lemmas.Bool.{false_from_ne_true}
use Rattle.hv_shelf.specs.declared.place.Place.{Place}
use Rattle.hv_shelf.specs.Disk.{Tree, Store}
use Rattle.hv_shelf.specs.Places.{is_in}
use Rattle.hv_dirs.specs.declared.names.DirName.{DirName}
use Rattle.hv_dirs.specs.Names.{text_of}
use Rattle.hv_history.specs.State.{Job}
use Rattle.hv_law_marks.specs.hv_law_filed.specs.hv_law_made.specs.Entries.{dir_of, staged_text, AreRenamed}
use Rattle.hv_law_visible.specs.Members.{IsIn}

pub renamed-others : (number : ℕ) (job : Job) (names : List DirName) (before now : Store) → AreRenamed number job names before now → (place : Place)
    → ((name : DirName) → IsIn name names → is_in (dir_of job (text_of name)) place ≡ true → ⊥)
    → ((name : DirName) → IsIn name names → is_in (dir_of job (staged_text number name)) place ≡ true → ⊥)
    → tree.get now.tree place ≡ tree.get before.tree place
renamed-others number job [] before now renamed place apart unstaged = ap (λ (files : Tree). tree.get files place) (sym renamed)
renamed-others number job (name ∷ names) before now renamed place apart unstaged =
    renamed-others number job names renamed.0 now renamed.2 place (λ other at. apart other (inr at)) (λ other at. unstaged other (inr at))
    ∙ renamed.1.others place
    (false_from_ne_true (is_in (dir_of job (staged_text number name)) place) (unstaged name (inl refl)))
    (false_from_ne_true (is_in (dir_of job (text_of name)) place) (apart name (inl refl)))
