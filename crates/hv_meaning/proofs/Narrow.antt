-- Tables without the rows that aren't wanted: their descriptions, and their rows.
use Rattle.std.proofs.Common.{◌≡◌, List, [], ◌∷◌, map, refl, ap, ◌∙◌}
use Rattle.hv_ast.specs.declared.statement.Stmt.{Stmt}
use Rattle.hv_typing.specs.hv_logic.specs.declared.catalog.TableInfo.{TableInfo}
use Rattle.hv_typing.specs.hv_logic.specs.declared.effect.Found.{Found}
use Rattle.hv_typing.specs.hv_logic.specs.declared.seen.Seen.{Seen}
use Rattle.hv_meaning.specs.Meaning.{info_of, found_in, meaning_over, meaning_in}
use Rattle.hv_meaning.specs.Needs.{Needs, later, rows_wanted, all_wanted, narrowed, NarrowRowsAreEnough}

pub same-infos : (needs : Needs) (tables : List Seen) → map info_of (narrowed needs tables) ≡ map info_of tables
same-infos needs [] = refl
same-infos needs (seen ∷ tables) = ap (λ (infos : List TableInfo). seen.info ∷ infos) (same-infos (later needs) tables)

pub wanted-rows : (needs : Needs) (tables : List Seen) → map found_in (narrowed needs tables) ≡ all_wanted needs (map found_in tables)
wanted-rows needs [] = refl
wanted-rows needs (seen ∷ tables) =
    ap (λ (more : List (List Found)). rows_wanted (needs 0) seen.rows ∷ more) (wanted-rows (later needs) tables)

pub narrow-enough : NarrowRowsAreEnough
unfolding meaning_in
narrow-enough tree tables needs said keeps =
    (λ i. meaning_over tree (same-infos needs tables i) (wanted-rows needs tables i)) ∙ keeps (map found_in tables) said
