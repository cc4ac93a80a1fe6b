-- The inodes that were read are those of the state that their image says.
use Rattle.std.proofs.Common.{◌≡◌, ℕ, ◌≤◌, suc, true, List, [], ◌∷◌, length, map, get_or, Option, Some, None, Result, Ok, refl, sym, ap, ◌∙◌, subst}
use Rattle.std.specs.Prelude.{IfSome, slice_get}
use Rattle.std.specs.Option.{option_map}
use Rattle.std.specs.FinMap as map_of
use Rattle.vx_model.specs.Tree.{Node, IsFile, IsDirectory}
use Rattle.vx_base.specs.declared.inode.DirEntry.{DirEntry}
use Rattle.vx_base.specs.declared.inode.InodeValue.{InodeValue}
use Rattle.vx_base.specs.declared.kind.FileKind.TheVariants.{File, Directory}
use Rattle.vx_layout.specs.Places.{Volume, sectors_of}
use Rattle.vx_layout.specs.Supers.{IsSuper, volume_of}
use Rattle.vx_layout.specs.declared.superblock.Super.{Super}
use Rattle.vx_check.specs.Contents.{InodeContents, contents_said, no_contents}
use Rattle.vx_check.specs.Loading.{AreSaid}
use Rattle.vx_check.specs.Reaching.{Children}
use Rattle.vx_sound.specs.Said.{Image, directory_blocks, entries_said, inode_count, inode_said}
use Rattle.vx_sound.specs.Sound.{IsSound}
use Rattle.vx_model.specs.Contents.{inode_for, inode_value, parsed_of, settled_of}
use Rattle.vx_model.specs.Images.{Stands}
use Rattle.vx_model.specs.Layout.{DirectoryBlock, block_numbers, blocks_at, volume}
use Rattle.vx_model.specs.LaidOut.{HasNothing, IsPlain, entries_of}
use Rattle.vx_model.specs.Saying.{IsImageOf, StateSays}
use Rattle.vx_model.specs.State.{State}
use Rattle.vx_said.specs.Plain.{HasPlainFiles, IsPlainIfFile}
use Rattle.vx_said.specs.SaidState.{SaidState}
use Rattle.vx_layout.specs.declared.superblock.BadSuper.{BadSuper}
use Rattle.vx_replay.specs.BadImages.{first_super}
use Rattle.vx_replay.specs.ImageChecks.{CanMount, HasCleanFront, PassesCheck}
use Rattle.vx_replay.specs.declared.image_check.CleanFront.{CleanFront}
use Rattle.vx_txn.specs.Loads.{IsDirectoryThere, entries_by_block}
use Rattle.vx_load.specs.Listed.{AreOf, IsThere}
use Rattle.vx_load.specs.Loads.{HoldsState, IsStateFor}
use Rattle.vx_load.specs.Plain.{ArePlain}
use Rattle.vx_load.proofs.Names.{once_named}
use Rattle.vx_load.proofs.Plainness.{plain_slot}

-- the law of states that images say
abbrev pub SaidLaw : Type 0
SaidLaw =
    (v : Super) (device_sectors : ℕ) (image : ℕ → List ℕ) → IsSuper v → sectors_of (volume_of v) ≤ device_sectors → IsSound true (volume_of v) image → HasPlainFiles (volume_of v) image
    → SaidState v device_sectors image

abbrev pub ok_super : Super → Result Super BadSuper
ok_super v = Ok v

-- the law of images that pass the strict check
abbrev pub PassesLaw : Type 0
PassesLaw = (size : ℕ) (image : ℕ → List ℕ) (c : CleanFront) → CanMount size c → HasCleanFront size image c → IsSound true (volume_of c.superblock) image → PassesCheck true size image

entries_each : (f : ℕ → List DirEntry) (ds : List DirectoryBlock) → ((i : ℕ) (d : DirectoryBlock) → slice_get ds i ≡ Some d → f d.block ≡ d.entries) → map f (block_numbers ds) ≡ entries_by_block ds
entries_each f [] each = refl
entries_each f (d ∷ ds) each = ap (λ es. es ∷ map f (block_numbers ds)) (each 0 d refl) ∙ ap (λ rest. d.entries ∷ rest) (entries_each f ds (λ i x there. each (suc i) x there))

-- a file without bytes has no block
file_there : (s : State) → IsPlain s → (n : ℕ) (i : InodeValue) (o : Option Node) → map_of.get s.tree.nodes n ≡ o → option_map (inode_for (settled_of s.layout n)) o ≡ Some i → i.inode.kind ≡ File → HasNothing s.layout n
file_there s plain n i None at is kind = absurd cc
file_there s plain n i (Some (IsFile f)) at is kind = (plain.files n f at).1
file_there s plain n i (Some (IsDirectory d)) at is kind =
    let e : inode_for (settled_of s.layout n) (IsDirectory d) ≡ i = cc in
    let other : Directory ≡ File = ap (λ (x : InodeValue). x.inode.kind) e ∙ kind in absurd cc

module _ (said : SaidLaw) (says : StateSays) (front : CleanFront) (size : ℕ) (image : Image) (inodes : List (Option InodeValue)) (children : Children) (contents : List InodeContents)
    (can : CanMount size front) (are : AreSaid (volume_of front.superblock) image inodes children contents) (plain : ArePlain inodes)
  where
    abbrev v : Super
    v = front.superblock

    pub plain_files : HasPlainFiles (volume_of v) image
    plain_files = λ n. subst (λ (o : Option InodeValue). IfSome o (λ i. IsPlainIfFile i.inode.kind i)) (are.inodes_are n) (plain_slot (get_or inodes n None) (plain n))

    abbrev pub found : SaidState v size image
    found = said v size image can.is_super can.room are.sound plain_files

    abbrev pub state : State
    state = found.state

    image_of : IsImageOf state image
    image_of = record { laid_out = found.well_formed.laid_out; stands = found.stands }

    inode_is : (n : ℕ) → inode_value state n ≡ get_or inodes n None
    inode_is n = sym (says.inodes state image image_of n) ∙ ap (λ (w : Volume). inode_said w image n) found.volume_is ∙ sym (are.inodes_are n)

    module _ (n : ℕ) (i : InodeValue) (there : get_or inodes n None ≡ Some i) where
      abbrev w : Volume
      w = volume state.layout

      value_is : inode_value state n ≡ Some i
      value_is = inode_is n ∙ there

      said_is : inode_said (volume_of v) image n ≡ Some i
      said_is = sym (are.inodes_are n) ∙ there

      here : get_or contents n no_contents ≡ contents_said w image (Some i)
      here = are.contents_are n ∙ ap (λ (o : Option InodeValue). contents_said (volume_of v) image o) said_is ∙ ap (λ (x : Volume). contents_said x image (Some i)) (sym found.volume_is)

      blocks_are : map (entries_said w image) (directory_blocks w image (Some i)) ≡ entries_by_block (blocks_at state.layout n)
      blocks_are =
          let same : inode_said w image n ≡ Some i = says.inodes state image image_of n ∙ value_is in
          let numbers : directory_blocks w image (Some i) ≡ block_numbers (blocks_at state.layout n) = ap (directory_blocks w image) (sym same) ∙ says.directories state image image_of n in
          ap (map (entries_said w image)) numbers ∙ entries_each (entries_said w image) (blocks_at state.layout n) (says.entries state image image_of n)

      directory_there : i.inode.kind ≡ Directory
          → IsDirectoryThere state n i.inode (get_or contents n no_contents).extents (get_or contents n no_contents).maps (get_or contents n no_contents).blocks
      directory_there kind = subst (λ (c : InodeContents). IsDirectoryThere state n i.inode c.extents c.maps c.blocks) (sym here)
          (record {
            inode_is = ap (option_map (λ (x : InodeValue). x.inode)) value_is;
            kind_is = kind;
            extents_are = says.extents state image image_of n i value_is;
            maps_are = says.chain state image image_of n i value_is;
            blocks_are = blocks_are;
            names = once_named [] (entries_of (blocks_at state.layout n)) (found.well_formed.names n);
          })

    there : (n : ℕ) → IsThere state n (get_or inodes n None) (get_or contents n no_contents)
    there n = record {
      inode_is = inode_is n;
      file = λ i is kind. file_there state found.well_formed.plain n i (map_of.get state.tree.nodes n) refl (inode_is n ∙ is) kind;
      directory = λ i is kind. directory_there n i is kind;
    }

    pub listed : length inodes ≡ inode_count (volume_of v) → length contents ≡ inode_count (volume_of v) → AreOf v state inodes contents
    listed count1 count2 = record {
      laid_out = found.well_formed.laid_out;
      sizes = record { log = found.log_blocks; units_are = found.units; limit = found.limit };
      nothing_waits = found.nothing_waits;
      inodes_count = count1;
      contents_count = count2;
      each = there;
    }

    pub state_for : IsStateFor v size state
    state_for = record {
      well_formed = found.well_formed;
      log_blocks = found.log_blocks;
      units = found.units;
      device = found.device;
      limit = found.limit;
      nothing_waits = found.nothing_waits;
    }

    pub stands : Stands (volume_of v) (parsed_of state) image
    stands = subst (λ (x : Volume). Stands x (parsed_of state) image) found.volume_is found.stands

    -- ---- what the image is

    module _ (passes : PassesLaw) (clean : HasCleanFront size image front) where
      passed : PassesCheck true size image
      passed = passes size image front can clean are.sound

      first_is : first_super size image ≡ Ok v
      first_is = clean.front.first_is ∙ ap ok_super clean.first

      pub holds : HoldsState front state size image
      holds = record {
        mountable = record { passes = passed; first_is = first_is; plain = plain_files };
        superblock_is = clean.superblock_is;
        head_is = clean.head_is;
        stands = stands;
        reads = found.reads;
      }
