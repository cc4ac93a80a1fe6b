use Rattle.std.proofs.Common.{ℕ, List, ◌≡◌, ◌≢◌, ◌≤◌, ◌+◌, length, inl, inr, sym, ◌∙◌, ap, subst, arith, Ok}
use Rattle.vx_base.specs.declared.inode.DirEntry.{DirEntry}
use Rattle.vx_dir.specs.Sizes.{Entries, entry_size}
use Rattle.vx_dir.specs.Directories.{Directory, IsKept, entry_room, has_room, block_of, place_for, blocks_with, add_answer}
use Rattle.vx_dir.proofs.Places.{position_within}
use Rattle.vx_dir.proofs.Adding.{no_place, placed, kept_with}
use Rattle.vx_dir.proofs.Indexing.{is_new}
use Rattle.vx_dir.proofs.dir_blocks.DirBlocks.add.Goals as goal
use Rattle.vx_dir.proofs.dir_blocks.DirBlocks.add.Goals.{in-Ok, in-Err}

pub returns-then-at-self-clause-answer : goal.returns-then-at-self-clause-answer
returns-then-at-self-clause-answer c =
    let d : Directory = record { block_size = c.self.inside.block_size; limit = c.self.inside.limit; blocks = c.self.inside.blocks.items } in
    let new : length d.blocks ≤ block_of c.args.name.now d.blocks = is_new d.blocks c.self.inside.index c.self.invariant.1 c.args.name.now (sym c.holds.ensures ∙ c.if-holds.false) in
    let place : c.place_for-at.result ≡ place_for d (5 + length c.args.name.now) = cc in
    let full : place_for d (5 + length c.args.name.now) ≡ d.limit = omega arith in
    inl (cc (no_place d c.self.invariant.0 c.args.name.now new full))

pub overflow_cast-result : goal.overflow_cast-result
overflow_cast-result c =
    let d : Directory = record { block_size = c.self.inside.block_size; limit = c.self.inside.limit; blocks = c.self.inside.blocks.items } in
    let place : c.place_for-at.result ≡ place_for d (5 + length c.args.name.now) = cc in
    let most : place_for d (5 + length c.args.name.now) ≤ length d.blocks = position_within (has_room (entry_room d.block_size) (5 + length c.args.name.now)) d.blocks in
    let within : length d.blocks ≤ d.limit = c.self.invariant.0.within in
    let few : d.limit ≤ 64 = c.self.invariant.0.few_blocks in
    omega arith

pub enter-requires-clause-place : goal.enter-requires-clause-place
enter-requires-clause-place c =
    let d : Directory = record { block_size = c.self.inside.block_size; limit = c.self.inside.limit; blocks = c.self.inside.blocks.items } in
    let place : c.place_for-at.result ≡ place_for d (5 + length c.args.name.now) = cc in
    let most : place_for d (5 + length c.args.name.now) ≤ length d.blocks = position_within (has_room (entry_room d.block_size) (5 + length c.args.name.now)) d.blocks in
    omega arith

pub enter-requires-clause-new : goal.enter-requires-clause-new
enter-requires-clause-new c = is_new c.self.inside.blocks.items c.self.inside.index c.self.invariant.1 c.args.name.now (sym c.holds.ensures ∙ c.if-holds.false)

pub invariant_of-self : goal.invariant_of-self
invariant_of-self c =
    let d : Directory = record { block_size = c.self.inside.block_size; limit = c.self.inside.limit; blocks = c.self.inside.blocks.items } in
    let e : DirEntry = record { ino = c.args.ino; name = c.args.name.now } in
    let new : length d.blocks ≤ block_of c.args.name.now d.blocks = is_new d.blocks c.self.inside.index c.self.invariant.1 c.args.name.now (sym c.holds.ensures ∙ c.if-holds.false) in
    let place : c.place_for-at.result ≡ place_for d (5 + length c.args.name.now) = cc in
    let room : place_for d (5 + length c.args.name.now) ≢ d.limit = λ full. c.if-at-self.false (place ∙ full) in
    let kept : IsKept (record d { blocks = c.enter.new.blocks.items }) = elim c.match-enter.branch [
      | in-Ok w ↦
          let is : c.enter.new.blocks.items ≡ blocks_with d.blocks (place_for d (entry_size e)) e = w.in-Ok.ensures.ok ∙ ap (λ (i : ℕ). blocks_with d.blocks i e) place in
          subst (λ (bs : List Entries). IsKept (record d { blocks = bs })) (sym is) (kept_with d c.self.invariant.0 e c.requires new room)
      | in-Err w ↦ subst (λ (bs : List Entries). IsKept (record d { blocks = bs })) (sym w.in-Err.ensures.err) c.self.invariant.0
    ] in
    (kept, c.enter.ensures.indexed)

pub returns-clause-answer : goal.returns-clause-answer
returns-clause-answer c =
    let d : Directory = record { block_size = c.self.inside.block_size; limit = c.self.inside.limit; blocks = c.self.inside.blocks.items } in
    let new : length d.blocks ≤ block_of c.args.name.now d.blocks = is_new d.blocks c.self.inside.index c.self.invariant.1 c.args.name.now (sym c.holds.ensures ∙ c.if-holds.false) in
    let place : c.place_for-at.result ≡ place_for d (5 + length c.args.name.now) = cc in
    let room : place_for d (5 + length c.args.name.now) ≢ d.limit = λ full. c.if-at-self.false (place ∙ full) in
    elim c.match-enter.branch [
      | in-Ok w ↦ inl (w.result-is ∙ ap Ok place ∙ placed d c.self.invariant.0 c.args.name.now new room ∙ ap (λ (x : Directory). add_answer x c.args.name.now) c.self.view_is)
      | in-Err w ↦ inr w.result-is
    ]
