use Rattle.hv_acts.proofs.Readings.{reader-under-way, table-read, reader-lasts, table-lasts}
use Rattle.hv_acts.proofs.reading.who_is_under_way_reads.Goals as goal

pub returns : goal.returns
returns c = record {
  reads = reader-under-way;
  finds = table-read;
  lasts = λ before now by place name front. reader-lasts before now front by place name;
  table = λ before now by place table front. table-lasts before now front by place table;
}
