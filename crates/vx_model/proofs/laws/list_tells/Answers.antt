use Rattle.vx_model.proofs.Telling.{list_found, list_file, list_refused, listed_means}
use Rattle.vx_model.proofs.laws.list_tells.Goals as goal

pub returns-clause-names : goal.returns-clause-names
returns-clause-names c = λ s place session path ino d done h. list_found s place session path done h ino d

pub returns-clause-listed : goal.returns-clause-listed
returns-clause-listed c = λ s. listed_means s.tree.nodes

pub returns-clause-file : goal.returns-clause-file
returns-clause-file c = λ s place session path ino f done h. list_file s place session path done h ino f

pub returns-clause-refused : goal.returns-clause-refused
returns-clause-refused c = λ s place session path why done h. list_refused s place session path done h why
