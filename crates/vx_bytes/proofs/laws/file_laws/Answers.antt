use Rattle.vx_bytes.proofs.Closing.{close_untouched, close_gives}
use Rattle.vx_bytes.proofs.GivingUp.{gives_waiting}
use Rattle.vx_bytes.proofs.FileCalls.{untouched_by, cut_is, cut_others, cut_gives, settles, settle_others, settle_gives, comes_is, drop_is, drop_others, drop_gives}
use Rattle.vx_bytes.proofs.Writing.{write_is, write_others, write_gives, extend_is, extend_others, extend_gives}
use Rattle.vx_bytes.proofs.laws.file_laws.Goals as goal

pub returns : goal.returns
returns c = record {
  same = untouched_by;
  same_gives = gives_waiting;
  closes = λ s place ino f reserve from n laid found. close_untouched s place ino f reserve from laid found n;
  close_gives = close_gives;
  writes = write_is;
  write_others = write_others;
  write_gives = write_gives;
  extends = extend_is;
  extend_others = extend_others;
  extend_gives = extend_gives;
  cuts = cut_is;
  cut_others = cut_others;
  cut_gives = cut_gives;
  settles = λ s place ino f laid found. settles s place ino f found laid;
  settle_others = settle_others;
  settle_gives = λ s place ino f laid found. settle_gives s place ino f found laid;
  comes = comes_is;
  drop = λ s place ino f found. drop_is s place ino f found;
  drop_others = drop_others;
  drop_gives = drop_gives;
}
