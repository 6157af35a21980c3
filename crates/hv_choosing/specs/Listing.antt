-- The files of a table in directories that a reader may take.
use Rattle.std.specs.Prelude.{◌≡◌, Option, Some, None, List, [], ◌∷◌}
use Rattle.std.specs.List.{cons_option}
use Rattle.hv_shelf.specs.declared.place.Place.{Place}
use Rattle.hv_choosing.specs.declared.listing.DirFile.{DirFile}
use Rattle.hv_choosing.specs.Dirs.{IsAt, IsFoundAt}

-- the text of its place's directory is its directory's name
abbrev pub IsNamed : DirFile → Type 0
IsNamed file = IsAt file.place.dir file.dir

-- the file at a place, where its directory has a name
abbrev pub IsListed : Place → Option DirFile → Type 0
IsListed place None = IsFoundAt place.dir None
IsListed place (Some file) = (file.place ≡ place) × IsAt place.dir file.dir

-- those at these places, in their order
abbrev pub AreListed : List Place → List DirFile → Type 0
AreListed [] files = files ≡ []
AreListed (place ∷ places) files =
    (first : Option DirFile) × (rest : List DirFile) × IsListed place first × (files ≡ cons_option first rest) × AreListed places rest
