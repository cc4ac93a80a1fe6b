-- A name stands once in a directory.
use Rattle.std.proofs.Common.{List, [], ◌∷◌, ◌++◌}
use Rattle.vx_base.specs.declared.inode.DirEntry.{DirEntry}
use Rattle.vx_sound.specs.Facts.{AreNamesRight}
use Rattle.vx_txn.specs.Loads.{AreOnceNamed}

pub once_named : (before es : List DirEntry) → AreNamesRight before es → AreOnceNamed before es
once_named before [] are = tt
once_named before (e ∷ es) are = (are.1, once_named (before ++ e ∷ []) es are.2)
