use Rattle.hv_paths.proofs.PathLemmas.{folders_of-are_names, bucket_name-is_name}
use Rattle.hv_paths.proofs.laws.names_are_safe.Goals as goal

pub returns : goal.returns
returns c = record { folders = folders_of-are_names; files = bucket_name-is_name }
