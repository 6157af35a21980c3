-- What is worked out by hand.
use Rattle.std.proofs.Common.{◌≡◌, true, false, None, refl}
use Rattle.hv_stands.specs.Files.{commit_file}
use Rattle.hv_stands.specs.Worked.{shape_by_hand, part_one, part_two, write_by_hand}

-- no row was inserted in the first bucket of p=2, and none deleted in the second one of p=1
pub no-insert-file : commit_file shape_by_hand false part_two 0 write_by_hand ≡ None
unfolding commit_file
no-insert-file = refl

pub no-delete-file : commit_file shape_by_hand true part_one 1 write_by_hand ≡ None
unfolding commit_file
no-delete-file = refl
