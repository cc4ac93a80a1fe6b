use Rattle.vx_model.proofs.NameChanges.{rename_moves, rename_stays}
use Rattle.vx_model.proofs.laws.renamed_moves_one_name.Goals as goal

pub returns-clause-moves : goal.returns-clause-moves
returns-clause-moves c = λ s place session from to. rename_moves s place from to session

pub returns-clause-stays : goal.returns-clause-stays
returns-clause-stays c = λ s place session from to. rename_stays s place from to session
