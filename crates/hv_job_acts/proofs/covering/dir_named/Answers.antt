use Rattle.hv_job_acts.proofs.Plain.{plain-named}
use Rattle.hv_job_acts.proofs.covering.dir_named.Goals as goal

pub print_name-requires : goal.print_name-requires
print_name-requires c = plain-named c.args.name.now c.requires.named
