use Rattle.vx_model.specs.Tree.{IsDirectory}
use Rattle.vx_model.proofs.Telling.{stat_found, stat_file, stat_refused}
use Rattle.vx_model.proofs.laws.stat_tells.Goals as goal

pub returns-clause-file : goal.returns-clause-file
returns-clause-file c = λ s place session path ino f done links h. stat_file s place session path done h links ino f

pub returns-clause-directory : goal.returns-clause-directory
returns-clause-directory c = λ s place session path ino d done h. stat_found s place session path done h ino (IsDirectory d)

pub returns-clause-refused : goal.returns-clause-refused
returns-clause-refused c = λ s place session path why done h. stat_refused s place session path done h why
