use Rattle.vx_wellformed.proofs.Naming.{in_use, root_names, file_names, directory_names}
use Rattle.vx_wellformed.proofs.Reaching.{reached}
use Rattle.vx_wellformed.proofs.laws.names_fit.Goals as goal

pub returns : goal.returns
returns c = λ s links no_loops root_is. record {
  files = file_names s links;
  directories = directory_names s links;
  reached = reached s links no_loops;
  in_use = in_use s links;
  root_is = root_is;
  root_names = root_names s links root_is;
}
