use Rattle.hv_acts.proofs.Lasting.{mark-lasts, id-lasts, put-lasts, due-lasts, job-lasts, file-lasts, commit-lasts, make-lasts, drop-lasts, abort-lasts}
use Rattle.hv_acts.proofs.laws.what_is_asked_lasts.Goals as goal

pub returns : goal.returns
returns c = record {
  mark = λ before now txn cause front. mark-lasts before now front txn cause;
  id = λ before now by place file front. id-lasts before now front by place file;
  put = λ before now txn wrote places front. put-lasts before now front txn wrote places;
  due = λ before now txn table front. due-lasts before now front txn table;
  job = λ before now asked front. job-lasts before now front asked;
  file = λ before now by place file front. file-lasts before now front by place file;
  commit = λ before now txn wrote places front. commit-lasts before now front txn wrote places;
  make = λ before now txn front. make-lasts before now front txn;
  unmake = λ before now txn table front. drop-lasts before now front txn table;
  cause = λ before now txn cause front. abort-lasts before now front txn cause;
}
