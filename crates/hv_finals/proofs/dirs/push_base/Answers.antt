use Rattle.std.proofs.Common.{arith}
use Rattle.hv_finals.proofs.dirs.push_base.Goals as goal

pub push_dir-requires : goal.push_dir-requires
push_dir-requires c = record {
  named =
      let first = c.requires.range.0 in
      let order = c.requires.range.1 in
      (omega (arith, first, order), c.requires.range.2);
}
