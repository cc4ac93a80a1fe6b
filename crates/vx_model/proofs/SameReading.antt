-- What a sound image reads as is for the sectors of its volume to say.
use Rattle.std.proofs.Common.{◌≡◌, ℕ, Bool, true, false, cond, List, [], ◌∷◌, take, Option, Some, None, refl, sym, ap, ◌∙◌}
use Rattle.std.specs.Prelude.{◌||◌, ◌==◌}
use Rattle.std.specs.Option.{option_and_then}
use Rattle.std.specs.List.{flat_map}
use Rattle.std.proofs.Math.Path.{fun_ext}
use Rattle.std.proofs.lemmas.Bool.{eq-eqb}
use Rattle.std.proofs.lemmas.Option.{some_pair_parts}
use Rattle.vx_base.specs.declared.kind.FileKind.{FileKind}
use Rattle.vx_base.specs.declared.kind.FileKind.TheVariants.{File, Directory}
use Rattle.vx_base.specs.declared.kind.Kind.{Kind}
use Rattle.vx_base.specs.declared.kind.Kind.TheVariants.{Data, Reserved}
use Rattle.vx_base.specs.declared.inode.InodeValue.{InodeValue}
use Rattle.vx_layout.specs.Places.{Volume, IsVolume}
use Rattle.vx_extents.specs.Extents.{Mapped, mapped_at}
use Rattle.vx_space.specs.Space.{page_blocks}
use Rattle.vx_sound.specs.FirstFault.{numbers}
use Rattle.vx_sound.specs.Said.{Image, among, block_bytes, inode_said, extents_said, blocks_said}
use Rattle.vx_sound.specs.Sound.{IsSound}
use Rattle.vx_sound.specs.Alike.{AreAlike, AlikeLaws}
use Rattle.vx_model.specs.Tree.{Node, IsFile, IsDirectory, Tree}
use Rattle.vx_model.specs.Reads.{extent_pages, pages_said, pages_of, page_bytes, bytes_of, entries_from, node_by, node_said, ImageReadsAs}
use Rattle.vx_model.proofs.Stretching.{extents_blocks}

-- ---- a file's bytes are those of its pages' blocks

or_right : (a b : Bool) → b ≡ true → (a || b) ≡ true
or_right true b h = refl
or_right false b h = h

mapped_by : (m : Mapped) (pages : List Mapped) (q b : ℕ) (kind : Kind) (t : Bool) → (mapped_at pages q ≡ Some (b, kind) → among (page_blocks pages) b ≡ true)
    → cond t (Some (m.block, m.kind)) (mapped_at pages q) ≡ Some (b, kind) → (b == m.block || among (page_blocks pages) b) ≡ true
mapped_by m pages q b kind true more h =
    ap (λ t. t || among (page_blocks pages) b) (eq-eqb b m.block (sym (some_pair_parts m.block b m.kind kind h).0))
mapped_by m pages q b kind false more h = or_right (b == m.block) (among (page_blocks pages) b) (more h)

-- the block of a page is one of the file's
mapped : (pages : List Mapped) (q b : ℕ) (kind : Kind) → mapped_at pages q ≡ Some (b, kind) → among (page_blocks pages) b ≡ true
mapped [] q b kind h = absurd cc
mapped (m ∷ pages) q b kind h = mapped_by m pages q b kind (m.page == q) (mapped pages q b kind) h

page_same : (f g : ℕ → List ℕ) (pages : List Mapped) → ((b : ℕ) → among (page_blocks pages) b ≡ true → f b ≡ g b)
    → (q : ℕ) (o : Option (ℕ × Kind)) → mapped_at pages q ≡ o → page_bytes f o ≡ page_bytes g o
page_same f g pages same q None e = refl
page_same f g pages same q (Some (b, Data)) e = same b (mapped pages q b Data e)
page_same f g pages same q (Some (b, Reserved)) e = refl

bytes_same : (f g : ℕ → List ℕ) (pages : List Mapped) (size : ℕ) → ((b : ℕ) → among (page_blocks pages) b ≡ true → f b ≡ g b) → bytes_of f pages size ≡ bytes_of g pages size
unfolding bytes_of
bytes_same f g pages size same =
    ap (λ (h : ℕ → List ℕ). take size (flat_map h (numbers 0 (pages_of size)))) (fun_ext (λ (q : ℕ). page_same f g pages same q (mapped_at pages q) refl))

-- ---- nodes

module _ (laws : AlikeLaws) (strict : Bool) (v : Volume) (is : IsVolume v) (a b : Image) (alike : AreAlike v a b) (sound : IsSound strict v a) where
  extents : (n : ℕ) (i : InodeValue) → inode_said v a n ≡ Some i → extents_said v b i ≡ extents_said v a i
  extents = laws.extents strict v a b is alike sound

  file_bytes : (n : ℕ) (i : InodeValue) → inode_said v a n ≡ Some i
      → bytes_of (block_bytes v a) (pages_said v a i) i.inode.size ≡ bytes_of (block_bytes v b) (pages_said v b i) i.inode.size
  file_bytes n i e =
      let blocks : page_blocks (pages_said v a i) ≡ blocks_said v a i = sym (extents_blocks (extents_said v a i)) in
      let bytes : (x : ℕ) → among (page_blocks (pages_said v a i)) x ≡ true → block_bytes v a x ≡ block_bytes v b x =
      λ x h. sym (laws.blocks strict v a b is alike sound n i e x (sym (ap (λ xs. among xs x) blocks) ∙ h)) in
      bytes_same (block_bytes v a) (block_bytes v b) (pages_said v a i) i.inode.size bytes
      ∙ ap (λ es. bytes_of (block_bytes v b) (flat_map extent_pages es) i.inode.size) (sym (extents n i e))

  kind_same : (n : ℕ) (i : InodeValue) → inode_said v a n ≡ Some i → (kind : FileKind) → node_by kind v a n i ≡ node_by kind v b n i
  kind_same n i e File = ap (λ (bytes : List ℕ). IsFile (record { mode = i.inode.mode; nlink = i.inode.nlink; attrs = i.inode.attrs; bytes = bytes })) (file_bytes n i e)
  kind_same n i e Directory =
      ap (λ es. IsDirectory (record { mode = i.inode.mode; entries = entries_from es })) (sym (laws.entries strict v a b is alike sound n))

  node_same : (n : ℕ) (o : Option InodeValue) → inode_said v a n ≡ o → option_and_then (node_said v a n) o ≡ option_and_then (node_said v b n) o
  node_same n None e = refl
  node_same n (Some i) e = ap (λ (x : Node). cond (i.inode.nlink == 0) None (Some x)) (kind_same n i e i.inode.kind)

  pub reads_same : (t : Tree) → ImageReadsAs v a t → ImageReadsAs v b t
  reads_same t reads = record {
    nodes = λ n. reads.nodes n ∙ node_same n (inode_said v a n) refl ∙ ap (option_and_then (node_said v b n)) (sym (laws.inodes strict v a b is alike sound n));
    rest = reads.rest;
  }
