use Rattle.hv_steps.proofs.seeing.read_next.Goals as goal

pub returns-clause-rows : goal.returns-clause-rows
returns-clause-rows g c = record {
  first = record { table = c.args.info.now.table; rows = c.in_ok-found.found };
  has = c.in_ok-found.ensures.rows;
  now_is = c.in_ok-put_rows.ensures;
}
