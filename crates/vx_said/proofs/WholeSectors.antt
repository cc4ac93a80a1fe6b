-- Whole sectors hold whole blocks.
use Rattle.std.proofs.Common.{◌≡◌, ℕ, ◌+◌, ◌-◌, ◌*◌, ◌<◌, ◌≤◌, Bool, false, List, [], ◌∷◌, ◌++◌, length, Option, Some, None, refl, sym, ap, subst, ◌∙◌, arith}
use Rattle.std.specs.Prelude.{IsTrue, IfSome}
use Rattle.std.specs.Option.{option_map}
use Rattle.std.specs.List.{flat_map, AllByRecursion}
use Rattle.std.specs.FinMap as map
use Rattle.std.proofs.lemmas.Bool.{and_parts, leb-true, ltb-true}
use Rattle.vx_base.specs.declared.kind.FileKind.TheVariants.{File}
use Rattle.vx_base.specs.declared.inode.InodeValue.{InodeValue}
use Rattle.vx_layout.specs.Places.{Volume, is_data, block_sector, sectors_of}
use Rattle.vx_layout.specs.Supers.{volume_of}
use Rattle.vx_layout.specs.declared.superblock.Super.{Super}
use Rattle.vx_sound.specs.Said.{Image, inode_said, chain_said, extents_said, blocks_said, claims_below}
use Rattle.vx_sound.specs.Facts.{AreClaimable, AreExtentsRight}
use Rattle.vx_sound.specs.Sound.{IsSound}
use Rattle.vx_sound.proofs.Sounds.{there}
use Rattle.vx_extents.specs.Extents.{Mapped}
use Rattle.vx_space.specs.Space.{page_blocks}
use Rattle.vx_model.specs.Tree.{Node, IsFile, IsDirectory}
use Rattle.vx_model.specs.Tree.{File as FileNode}
use Rattle.vx_model.specs.Layout.{Layout, volume, space_at, settled_at}
use Rattle.vx_model.specs.State.{State}
use Rattle.vx_model.specs.Contents.{settled_of, inode_for}
use Rattle.vx_model.specs.LaidOut.{IsHeld, IsFileOf}
use Rattle.vx_model.specs.Reads.{extent_pages, pages_said}
use Rattle.vx_model.specs.Saying.{IsImageOf, StateSays}
use Rattle.vx_model.proofs.Stretching.{extents_blocks, stretches_say}
use Rattle.vx_model.proofs.Spelled.{file_pages, pages_data}
use Rattle.vx_said.specs.WholePages.{IsWholePage, HasWholePages}
use Rattle.vx_said.proofs.Inodes.{said_low}

in_units : (first units b i : ℕ) → first ≤ b → b - first < 4096 * units → i < 2 → b * 2 + i < (first + 4096 * units) * 2
in_units first units b i from within low = omega (arith, from, within, low)

claimed_data : (w : Volume) (before bs : List ℕ) → AreClaimable w before bs → AllByRecursion (λ b. IsTrue (is_data w b)) bs
claimed_data w before [] claims = tt
claimed_data w before (b ∷ bs) claims = (claims.0.is_data, claimed_data w (before ++ b ∷ []) bs claims.1)

module _ (v : Super) (image : Image) (sectors : (s : ℕ) → s < sectors_of (volume_of v) → length (image s) ≡ 512) where
  abbrev w : Volume
  w = volume_of v

  inside : (b i : ℕ) → IsTrue (is_data w b) → i < 2 → block_sector 2 b + i < sectors_of w
  unfolding is_data
  inside b i h low =
      let from = and_parts _ _ h in
      let within = and_parts _ _ from.1 in
      in_units (2 + v.log_blocks) v.units b i (leb-true _ _ from.0) (ltb-true _ _ within.0) low

  pub all_whole : (pages : List Mapped) → AllByRecursion (λ b. IsTrue (is_data w b)) (page_blocks pages) → AllByRecursion (IsWholePage w image) pages
  all_whole [] all = tt
  all_whole (m ∷ pages) all = ((λ is_data_page i low. sectors (block_sector 2 m.block + i) (inside m.block i all.0 low)), all_whole pages all.1)

  module _ (strict : Bool) (sound : IsSound strict w image) where
    whole_by : (n : ℕ) (o : Option InodeValue) → inode_said w image n ≡ o → IfSome o (λ i. i.inode.kind ≡ File → AllByRecursion (IsWholePage w image) (pages_said w image i))
    whole_by n None e = tt
    whole_by n (Some i) e = λ kind.
        let right = there (AreExtentsRight w image n) (inode_said w image n) i e (sound.inodes n (said_low v image n i e)).extents in
        all_whole (pages_said w image i)
        (subst (AllByRecursion (λ b. IsTrue (is_data w b))) (extents_blocks (extents_said w image i)) (claimed_data w (claims_below w image n ++ chain_said w image i) (blocks_said w image i) right.claims))

    pub sound_pages : HasWholePages w image
    sound_pages n = whole_by n (inode_said w image n) refl

-- ---- an image that says a state

module _ (says : StateSays) (s : State) (image : Image) (is : IsImageOf s image) (sectors : (x : ℕ) → x < s.layout.device_sectors → length (image x) ≡ 512) where
  abbrev l : Layout
  l = s.layout

  abbrev sizes : Super
  sizes = record { log_blocks = l.log_blocks; units = l.units; clean = false }

  file_held : (n : ℕ) (f : FileNode) → map.get s.tree.nodes n ≡ Some (IsFile f) → IsFileOf l n f
  file_held n f at = (subst (IsHeld l n) at (is.laid_out.nodes n)).0

  node_by : (n : ℕ) (o : Option Node) → map.get s.tree.nodes n ≡ o
      → IfSome (option_map (inode_for (settled_of l n)) o) (λ i. i.inode.kind ≡ File → AllByRecursion (IsWholePage (volume l) image) (pages_said (volume l) image i))
  node_by n None at = tt
  node_by n (Some (IsDirectory d)) at = λ kind. absurd cc
  node_by n (Some (IsFile f)) at = λ kind.
      let i : InodeValue = inode_for (settled_of l n) (IsFile f) in
      let pages : pages_said (volume l) image i ≡ (space_at l n).settled =
      ap (flat_map extent_pages) (says.extents s image is n i (ap (option_map (inode_for (settled_of l n))) at)) ∙ stretches_say (settled_at l n) ∙ file_pages l n f (file_held n f at) in
      let room = is.laid_out.room in
      subst (AllByRecursion (IsWholePage (volume l) image)) (sym pages)
      (all_whole sizes image (λ x low. sectors x (omega (arith, low, room))) (space_at l n).settled (pages_data s is.laid_out n))

  pub state_pages : HasWholePages (volume l) image
  state_pages n =
      subst (λ (o : Option InodeValue). IfSome o (λ i. i.inode.kind ≡ File → AllByRecursion (IsWholePage (volume l) image) (pages_said (volume l) image i))) (sym (says.inodes s image is n))
      (node_by n (map.get s.tree.nodes n) refl)
