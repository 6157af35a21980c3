use Rattle.std.proofs.Common.{length, ap, arith}
use Rattle.hv_book.specs.Jobs.{is_working_note}
use Rattle.hv_book.proofs.JobLaws.{one-most, working-most}
use Rattle.hv_book.proofs.jobs.Jobs.change.Goals as goal

pub overflow_add-self : goal.overflow_add-self
overflow_add-self c =
    let most = working-most c.self.inside.notes.items in
    let one = one-most (is_working_note c.stepped-after.result) in
    omega (arith, most, one, c.self.invariant, c.deref.type_inv.1, ap length c.deref.ensures.value, c.working_one-in-Some.ensures)
