-- A directory after a removal.
use Rattle.std.proofs.Common.{◌≡◌, ℕ, ◌<◌, ◌≤◌, true, cond, [], length, get_or, set, ◌∙◌, ap, arith, length-set}
use Rattle.std.specs.List.{count_by, All}
use Rattle.std.proofs.lemmas.Bool.Decides.{nat_tests}
use Rattle.std.proofs.lemmas.List.Sums.{sum_by-set, sum_by-remove, passes_at_first}
use Rattle.std.proofs.lemmas.List.Elements.{All-set}
use Rattle.vx_base.specs.Paths.{FileName}
use Rattle.vx_base.specs.declared.inode.DirEntry.{DirEntry}
use Rattle.vx_dir.specs.Sizes.{Entries, entry_size, used_by}
use Rattle.vx_dir.proofs.Each.{each_without}
use Rattle.vx_dir.specs.Directories.{IsShort, Directory, IsKept, holds, block_of, is_named, place_of, HasDistinctNames, entry_room, without_entry}

pub nobody : DirEntry
nobody = record { ino = 0; name = [] }

module _ (name : FileName) (entries : Entries) (there : holds name entries ≡ true) where
  inside : place_of name entries < length entries
  inside = grind (arith, nat_tests)

  less_used : used_by (without_entry name entries) ≤ used_by entries
  less_used = let s = sum_by-remove entry_size entries (place_of name entries) nobody inside in omega (arith, s)

  less_named : (q : FileName) → count_by (is_named q) (without_entry name entries) ≤ count_by (is_named q) entries
  less_named q = let s = sum_by-remove (λ x. cond (is_named q x) 1 0) entries (place_of name entries) nobody inside in omega (arith, s)

module _ (d : Directory) (kept : IsKept d) (name : FileName) (i : ℕ) (is : i ≡ block_of name d.blocks) (there : i < length d.blocks) where
  pub held : holds name (get_or d.blocks i []) ≡ true
  held = ap (λ (k : ℕ). holds name (get_or d.blocks k [])) is ∙ passes_at_first (holds name) d.blocks [] (omega arith)

  distinct_without : HasDistinctNames (set d.blocks i (without_entry name (get_or d.blocks i [])))
  distinct_without q =
      let s = sum_by-set (λ (b : Entries). count_by (is_named q) b) d.blocks i (without_entry name (get_or d.blocks i [])) [] there in
      omega (arith, s, less_named name (get_or d.blocks i []) held q, kept.distinct q)

  fits_without : All (λ (b : Entries). used_by b ≤ entry_room d.block_size) (set d.blocks i (without_entry name (get_or d.blocks i [])))
  fits_without =
      let all : used_by (get_or d.blocks i []) ≤ entry_room d.block_size = kept.fits i [] there in
      All-set (λ (b : Entries). used_by b ≤ entry_room d.block_size) d.blocks i (without_entry name (get_or d.blocks i []))
      (omega (arith, less_used name (get_or d.blocks i []) held)) kept.fits

  pub kept_without : IsKept (record d { blocks = set d.blocks i (without_entry name (get_or d.blocks i [])) })
  kept_without = record {
    least_size = kept.least_size;
    greatest_size = kept.greatest_size;
    few_blocks = kept.few_blocks;
    within = let w : length d.blocks ≤ d.limit = kept.within in omega (arith, length-set d.blocks i (without_entry name (get_or d.blocks i [])));
    fits = fits_without;
    short = each_without IsShort name d.blocks i there kept.short;
    distinct = distinct_without;
  }
