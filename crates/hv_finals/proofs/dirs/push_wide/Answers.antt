use Rattle.hv_finals.proofs.dirs.push_wide.Goals as goal

pub push_dir-requires : goal.push_dir-requires
push_dir-requires c = record {
  named =
      c.requires.range;
}
