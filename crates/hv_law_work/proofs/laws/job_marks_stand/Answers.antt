use Rattle.hv_law_work.proofs.JobMarks.{opened-job-marks, noted-job-marks, own-job-marks, put-job-marks, broken-job-marks, unread-job-marks, went-job-marks, torn-job-marks, published-job-marks}
use Rattle.hv_law_work.proofs.laws.job_marks_stand.Goals as goal

pub returns : goal.returns
returns c = record { opened = opened-job-marks; noted = noted-job-marks; own = own-job-marks; put = put-job-marks; broken = broken-job-marks; unread = unread-job-marks; went = went-job-marks; torn = torn-job-marks; published = published-job-marks }
