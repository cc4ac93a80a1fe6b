use Rattle.std.proofs.Common.{◌≡◌, ℕ, length, ◌∙◌, subst}
use Rattle.vx_filemaps.specs.FileMaps.{IsRefusal, IsRequest, filling_of}
use Rattle.vx_space.specs.Placing.{Request, place_fill}
use Rattle.vx_txn.specs.Directories.{DirectoryValue}
use Rattle.vx_txn.specs.Edits.{IsFull}
use Rattle.vx_txn.proofs.directory.Directory.add_block.Goals as goal

pub returns-in-Err-place_write-clause-refused : goal.returns-in-Err-place_write-clause-refused
returns-in-Err-place_write-clause-refused c =
    let maps = c.self.inside.maps in
    let from : c.new-from.result ≡ length c.self.inside.names.blocks = c.new-from.ensures ∙ c.blocks-in-Ok.ensures in
    subst (λ (d : DirectoryValue). IsFull d c.args.free.now c.in-Err-place_write.why) c.self.view_is
    (subst (λ (n : ℕ). (r : Request) → IsRequest r maps.space.present c.args.free.now 8 n 1 → IsRefusal (place_fill r maps.space n 1 (filling_of c.args.free.now maps)) c.in-Err-place_write.why) from c.in-Err-place_write.ensures.refused)
