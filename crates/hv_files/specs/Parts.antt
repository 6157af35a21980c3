-- Where what a store holds open stands, and what its changes of names are. Source: this project's profile (docs/FORMATS.md).

use Rattle.std.specs.Prelude.{ℕ, List}
use Rattle.hv_paths.specs.Paths.{journal_path, lock_path, tables_path}
use Rattle.hv_files.specs.Acts.{Act}
use Rattle.hv_files.specs.Acts.Act.{MakesFolder, TakesFile, TakesFolder, Moves}
use Rattle.hv_files.specs.declared.asked.Change.{Change}
use Rattle.hv_files.specs.declared.asked.Change.TheVariants.{MakeFolder, RemoveFile, RemoveFolder, Rename}
use Rattle.hv_files.specs.declared.asked.Part.{Part}
use Rattle.hv_files.specs.declared.asked.Part.TheVariants.{Folder, Tables, Lock, Journal}

abbrev pub part_path : Part → List ℕ → List ℕ
part_path Folder folder = folder
part_path Tables folder = tables_path folder
part_path Lock folder = lock_path folder
part_path Journal folder = journal_path folder

abbrev pub act_of : Change → (path to : List ℕ) → Act
act_of MakeFolder path to = MakesFolder path
act_of RemoveFile path to = TakesFile path
act_of RemoveFolder path to = TakesFolder path
act_of Rename path to = Moves path to
