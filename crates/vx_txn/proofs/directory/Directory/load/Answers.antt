use Rattle.std.proofs.Common.{◌≡◌, ◌++◌, [], ◌∙◌, ap}
use Rattle.vx_filemaps.specs.Files.{FileView}
use Rattle.vx_space.specs.Space.{no_space}
use Rattle.vx_txn.specs.Loads.{loaded_directory, with_extents}
use Rattle.vx_txn.proofs.LoadingDirectories.{pages_read}
use Rattle.vx_txn.proofs.directory.Directory.load.Goals as goal

pub returns : goal.returns
returns c =
    let pages : c.load_maps.new.pages ≡ (loaded_directory c.args.extents.now c.args.maps.now c.args.blocks.now).maps =
    c.in_ok-load_maps.ensures
    ∙ ap (λ (m : FileView). record m { maps = m.maps ++ c.args.maps.now })
    (c.in_ok-load_extents.ensures ∙ ap (with_extents c.args.extents.now) c.new-pages.ensures ∙ pages_read c.args.extents.now (record { space = no_space; maps = [] })) in
    λ i. record { names = c.in_ok-names.ensures i; maps = pages i }
