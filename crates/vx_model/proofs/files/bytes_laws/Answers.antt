use Rattle.vx_model.proofs.FileTelling.{told_read, told_write, told_truncate, told_fsync, told_open, told_close, told_settle}
use Rattle.vx_model.proofs.Whole.{settled_whole}
use Rattle.vx_model.proofs.files.bytes_laws.Goals as goal

pub returns : goal.returns
returns c = record {
  read = λ s place session handle offset count ino f done on h. told_read s session handle ino f on place offset count done h;
  write = λ s place session handle offset count ino p f done on h wrote. told_write s session handle ino f on place offset count p done h wrote;
  truncate = λ s place session handle size ino f done on h fine. told_truncate s session handle ino f on place size done h fine;
  fsync = told_fsync;
  opened = told_open;
  closed = λ s place session handle ino f done on h. told_close s session handle ino f on place done h;
  settled = told_settle;
  settled_whole = settled_whole;
}
