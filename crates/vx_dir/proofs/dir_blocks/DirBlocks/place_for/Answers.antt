use Rattle.std.proofs.Common.{◌≡◌, ◌≢◌, ◌≤◌, ◌+◌, length, sym, ◌∙◌, ap, arith, Ok}
use Rattle.vx_dir.specs.Directories.{Directory, entry_room, has_room, block_of, place_for, add_answer}
use Rattle.vx_dir.proofs.Places.{position_within}
use Rattle.vx_dir.proofs.Adding.{no_place, placed}
use Rattle.vx_dir.proofs.Indexing.{is_new}
use Rattle.vx_dir.proofs.dir_blocks.DirBlocks.place_for.Goals as goal

pub returns-then-place-self : goal.returns-then-place-self
returns-then-place-self c =
    let d : Directory = record { block_size = c.self.inside.block_size; limit = c.self.inside.limit; blocks = c.self.inside.blocks.items } in
    let new : length d.blocks ≤ block_of c.args.name.now d.blocks = is_new d.blocks c.self.inside.index c.self.invariant.1 c.args.name.now (sym c.holds.ensures ∙ c.if-holds.false) in
    let place : c.place_for-place.result ≡ place_for d (5 + length c.args.name.now) = cc in
    let full : place_for d (5 + length c.args.name.now) ≡ d.limit = omega arith in
    cc (no_place d c.self.invariant.0 c.args.name.now new full)

pub overflow_cast-result : goal.overflow_cast-result
overflow_cast-result c =
    let d : Directory = record { block_size = c.self.inside.block_size; limit = c.self.inside.limit; blocks = c.self.inside.blocks.items } in
    let place : c.place_for-place.result ≡ place_for d (5 + length c.args.name.now) = cc in
    let most : place_for d (5 + length c.args.name.now) ≤ length d.blocks = position_within (has_room (entry_room d.block_size) (5 + length c.args.name.now)) d.blocks in
    let within : length d.blocks ≤ d.limit = c.self.invariant.0.within in
    let few : d.limit ≤ 64 = c.self.invariant.0.few_blocks in
    omega arith

pub returns : goal.returns
returns c =
    let d : Directory = record { block_size = c.self.inside.block_size; limit = c.self.inside.limit; blocks = c.self.inside.blocks.items } in
    let new : length d.blocks ≤ block_of c.args.name.now d.blocks = is_new d.blocks c.self.inside.index c.self.invariant.1 c.args.name.now (sym c.holds.ensures ∙ c.if-holds.false) in
    let place : c.place_for-place.result ≡ place_for d (5 + length c.args.name.now) = cc in
    let room : place_for d (5 + length c.args.name.now) ≢ d.limit = λ full. c.if-place-self.false (place ∙ full) in
    ap Ok place ∙ placed d c.self.invariant.0 c.args.name.now new room ∙ ap (λ (x : Directory). add_answer x c.args.name.now) c.self.view_is
