use Rattle.std.proofs.Common.{sym, subst}
use Rattle.hv_dirs.specs.Names.{IsName}
use Rattle.hv_finals.proofs.dirs.push_staged.Goals as goal

pub push_dir-requires : goal.push_dir-requires
push_dir-requires c = record {
  named =
      subst IsName (sym c.in_ok-staged.ensures.staged) c.requires.staged;
}
