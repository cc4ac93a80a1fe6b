-- The contents of inodes, one after the other.
use Rattle.std.proofs.Common.{◌≡◌, ℕ, ◌+◌, ◌<◌, ◌≤◌, List, [], ◌∷◌, ◌++◌, length, get_or, sym, ap, subst, ◌∙◌, inl, inr, arith}
use Rattle.std.specs.Prelude.{Some, map}
use Rattle.std.proofs.lemmas.Bool.{cases_eq, cases_lt}
use Rattle.std.proofs.lemmas.List.{get_or_append_left, get_or_push, get_or_past}
use Rattle.vx_base.specs.declared.kind.FileKind.TheVariants.{File}
use Rattle.vx_base.specs.declared.inode.InodeValue.{InodeValue}
use Rattle.vx_base.specs.declared.inode.Extent.{Extent}
use Rattle.vx_base.specs.declared.inode.DirEntry.{DirEntry}
use Rattle.vx_layout.specs.Places.{Volume}
use Rattle.vx_sound.specs.Said.{Image, inode_count, inode_said, chain_said, extents_said, blocks_by_kind, directory_blocks, entries_said}
use Rattle.vx_check.specs.Contents.{InodeContents, no_contents, contents_said, AreContents}
use Rattle.vx_check.proofs.SlotLists.{said_past}

-- ---- one inode

module _ (v : Volume) (image : Image) (i : InodeValue) (maps : List ℕ) (es : List Extent) (bs : List (List DirEntry)) (maps_are : maps ≡ chain_said v image i) (es_are : es ≡ extents_said v image i) where
  of_parts : bs ≡ map (entries_said v image) (directory_blocks v image (Some i)) → record { maps = maps; extents = es; blocks = bs } ≡ contents_said v image (Some i)
  of_parts bs_are = λ j. record { maps = maps_are j; extents = es_are j; blocks = bs_are j }

  pub file_contents : bs ≡ [] → i.inode.kind ≡ File → record { maps = maps; extents = es; blocks = bs } ≡ contents_said v image (Some i)
  file_contents none is =
      let no_blocks : directory_blocks v image (Some i) ≡ [] = ap (blocks_by_kind v image i) is in
      of_parts (none ∙ sym (ap (map (entries_said v image)) no_blocks))

  pub directory_contents : (n : ℕ) → inode_said v image n ≡ Some i → (blocks : List ℕ) → blocks ≡ directory_blocks v image (inode_said v image n) → bs ≡ map (entries_said v image) blocks
      → record { maps = maps; extents = es; blocks = bs } ≡ contents_said v image (Some i)
  directory_contents n said blocks are listed = of_parts (listed ∙ ap (map (entries_said v image)) (are ∙ ap (directory_blocks v image) said))

-- ---- all inodes

module _ (v : Volume) (image : Image) where
  -- the contents of the inodes below n
  abbrev pub AreContentsBelow : ℕ → List InodeContents → Type 0
  AreContentsBelow n contents = (m : ℕ) → m < n → get_or contents m no_contents ≡ contents_said v image (inode_said v image m)

  pub no_contents_yet : (contents : List InodeContents) → AreContentsBelow 0 contents
  no_contents_yet contents = λ m less. absurd (omega arith)

  pub contents_more : (n : ℕ) (old new : List InodeContents) (x : InodeContents) → length old ≡ n → new ≡ old ++ x ∷ [] → x ≡ contents_said v image (inode_said v image n) → AreContentsBelow n old → AreContentsBelow (n + 1) new
  contents_more n old new x long more is h = subst (AreContentsBelow (n + 1)) (sym more) (λ m less. elim (cases_eq m n) [
    | inl e ↦ get_or_push old x no_contents m (long ∙ sym e) ∙ is ∙ ap (λ (k : ℕ). contents_said v image (inode_said v image k)) (sym e)
    | inr ne ↦ let inside : m < length old = omega arith in get_or_append_left old (x ∷ []) no_contents m inside ∙ h m (omega arith)
  ])

  pub all_contents : (contents : List InodeContents) → length contents ≡ inode_count v → AreContentsBelow (inode_count v) contents → AreContents contents v image
  all_contents contents long h m = elim (cases_lt m (inode_count v)) [
    | inl low ↦ h m low
    | inr high ↦ let far : length contents ≤ m = omega arith in get_or_past contents m no_contents far ∙ sym (ap (contents_said v image) (said_past v image m high))
  ]
