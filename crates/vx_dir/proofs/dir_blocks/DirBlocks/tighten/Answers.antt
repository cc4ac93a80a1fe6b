use Rattle.std.proofs.Common.{◌≤◌, ◌<◌, ◌-◌, List, length, sym, ◌∙◌, ap, subst, arith}
use Rattle.std.specs.List.{All, flat_map}
use Rattle.std.specs.List.Sorted.{IsPermutation}
use Rattle.std.proofs.lemmas.List.Elements.{All-same}
use Rattle.std.proofs.lemmas.List.Sorted.{All-permutation}
use Rattle.vx_base.specs.declared.inode.DirEntry.{DirEntry}
use Rattle.vx_dir.specs.Sizes.{Entries, entry_size, used_by}
use Rattle.vx_dir.specs.Directories.{Directory, IsKept, HasDistinctNames, all_entries, packed}
use Rattle.vx_dir.specs.Index.{Indexes}
use Rattle.vx_dir.specs.declared.dir_blocks.DirBlocks.TheInside.{Inside}
use Rattle.vx_dir.proofs.Packing.{sizes_all, kept_packed}
use Rattle.vx_dir.proofs.dir_blocks.DirBlocks.tighten.Goals as goal
use Rattle.vx_dir.proofs.dir_blocks.DirBlocks.tighten.Goals.{then-len+in_ok-index, else-len}

abbrev IsWhole : Inside → Type 0
IsWhole s = IsKept (record { block_size = s.block_size; limit = s.limit; blocks = s.blocks.items }) × Indexes s.blocks.items s.index

pub pack-requires-clause-fits : goal.pack-requires-clause-fits
pack-requires-clause-fits c =
    let fits : All (λ (b : Entries). used_by b ≤ c.self.inside.block_size - 4) c.as_slice.result.now =
    All-same (λ (b : Entries). used_by b ≤ c.self.inside.block_size - 4) c.as_slice.result.now c.self.inside.blocks.items c.as_slice.ensures.value c.self.invariant.0.fits in
    All-same (λ (e : DirEntry). entry_size e ≤ c.self.inside.block_size - 4) c.as_slice-2.result.now c.in_ok-entries.entries.items c.as_slice-2.ensures.value
    (All-permutation (λ (e : DirEntry). entry_size e ≤ c.self.inside.block_size - 4) (flat_map (λ (b : Entries). b) c.as_slice.result.now) c.in_ok-entries.entries.items c.in_ok-entries.ensures.same
    (sizes_all (c.self.inside.block_size - 4) c.as_slice.result.now fits))

pub index_of-requires-clause-distinct : goal.index_of-requires-clause-distinct
index_of-requires-clause-distinct c =
    let d : Directory = record { block_size = c.self.inside.block_size; limit = c.self.inside.limit; blocks = c.self.inside.blocks.items } in
    let same : IsPermutation (all_entries d) c.as_slice-2.result.now =
    subst (IsPermutation (all_entries d)) (sym c.as_slice-2.ensures.value)
    (subst (λ (bs : List Entries). IsPermutation (flat_map (λ (b : Entries). b) bs) c.in_ok-entries.entries.items) c.as_slice.ensures.value c.in_ok-entries.ensures.same) in
    let blocks = c.in_ok-packed.ensures in
    let fewer : length (packed (c.self.inside.block_size - 4) c.as_slice-2.result.now) < length d.blocks = omega (arith, ap (λ (bs : List Entries). length bs) blocks) in
    subst HasDistinctNames (sym (c.as_slice-then-len.ensures.value ∙ blocks)) (kept_packed d c.as_slice-2.result.now c.self.invariant.0 same fewer).distinct

pub invariant_of-self : goal.invariant_of-self
invariant_of-self c =
    let d : Directory = record { block_size = c.self.inside.block_size; limit = c.self.inside.limit; blocks = c.self.inside.blocks.items } in
    let same : IsPermutation (all_entries d) c.as_slice-2.result.now =
    subst (IsPermutation (all_entries d)) (sym c.as_slice-2.ensures.value)
    (subst (λ (bs : List Entries). IsPermutation (flat_map (λ (b : Entries). b) bs) c.in_ok-entries.entries.items) c.as_slice.ensures.value c.in_ok-entries.ensures.same) in
    elim c.if-len.branch [
      | then-len+in_ok-index w ↦
          let blocks = c.in_ok-packed.ensures in
          let fewer : length (packed (c.self.inside.block_size - 4) c.as_slice-2.result.now) < length d.blocks = omega (arith, ap (λ (bs : List Entries). length bs) blocks) in
          subst IsWhole (sym w.self-inside-is) (
            subst (λ (bs : List Entries). IsKept (record d { blocks = bs })) (sym blocks) (kept_packed d c.as_slice-2.result.now c.self.invariant.0 same fewer),
            subst (λ (bs : List Entries). Indexes bs w.in_ok-index.index) w.as_slice-then-len.ensures.value w.in_ok-index.ensures,
          )
      | else-len w ↦ subst IsWhole (sym w.self-inside-is) c.self.invariant
    ]
