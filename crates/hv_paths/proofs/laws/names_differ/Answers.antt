use Rattle.hv_paths.proofs.NameLemmas.{piece_name-same, dir_name-same, names_apart}
use Rattle.hv_paths.proofs.PathLemmas.{bucket_name-same}
use Rattle.hv_paths.proofs.laws.names_differ.Goals as goal

pub returns : goal.returns
returns c =
    record {
      pieces = piece_name-same;
      dirs = dir_name-same;
      apart = names_apart;
      files = bucket_name-same;
    }
