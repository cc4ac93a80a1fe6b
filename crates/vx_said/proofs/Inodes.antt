-- What a sound image says of an inode in use.
use Rattle.std.proofs.Common.{◌≡◌, ◌≢◌, ℕ, ◌+◌, ◌-◌, ◌*◌, ◌<◌, ◌≤◌, Bool, true, false, cond, List, [], ◌∷◌, length, map, drop, get_or, Option, Some, None, inl, inr, refl, sym, ap, subst, ◌∙◌, arith, length-append}
use Rattle.std.specs.Prelude.{◌&&◌, ◌||◌, ◌==◌, ◌^◌, nat_lt, nat_le, bit_and, is_some}
use Rattle.std.specs.Option.{option_map, option_and_then}
use Rattle.std.specs.List.{flat_map, list_all, AllByRecursion}
use Rattle.std.proofs.lemmas.Bool.{and_parts, eqb-true, leb-true, lt-ltb, ltb-true, cases_lt, cases_eq}
use Rattle.std.proofs.lemmas.List.{drop_at}
use Rattle.vx_base.specs.declared.call.ExtAttrs.{ExtAttrs}
use Rattle.vx_base.specs.declared.kind.FileKind.{FileKind}
use Rattle.vx_base.specs.declared.kind.FileKind.TheVariants.{File, Directory}
use Rattle.vx_base.specs.declared.inode.Extent.{Extent}
use Rattle.vx_base.specs.declared.inode.Inode.{Inode}
use Rattle.vx_base.specs.declared.inode.InodeValue.{InodeValue}
use Rattle.vx_layout.specs.Places.{Volume}
use Rattle.vx_layout.specs.Supers.{volume_of}
use Rattle.vx_layout.specs.declared.superblock.Super.{Super}
use Rattle.vx_layout.specs.Inodes.{layout1, is_directory_size, attrs_fit, extents_limit, maps_needed, is_map_number, place_has_length, inode_fits, slot_at, IsInode, IsSlot}
use Rattle.vx_layout.specs.Maps.{MapBlock, map_block_at}
use Rattle.vx_sound.specs.Said.{Image, inode_count, inode_bytes_at, inode_said, map_said, chain_said, in_place, extents_said, blocks_said, entries_said}
use Rattle.vx_sound.specs.Facts.{IsInodeRight, IsMapRight, IsExtentRight, AreExtentsRight, FitKind, IsDirectoryExtents, FitNames}
use Rattle.vx_sound.specs.Facts as facts
use Rattle.vx_sound.specs.Reading.{HasWholeBlocks}
use Rattle.vx_sound.specs.Sound.{IsInodeSound, IsSound}
use Rattle.vx_sound.proofs.Sounds.{there}
use Rattle.vx_sound.proofs.Volumes.{Spelling, spelling}
use Rattle.vx_extents.specs.Extents.{stretches, chain_len}
use Rattle.vx_space.specs.Space.{most_extents}
use Rattle.vx_model.specs.Tree.{no_attrs}
use Rattle.vx_model.specs.Shapes.{kept_attrs}
use Rattle.vx_model.specs.Contents.{places}
use Rattle.vx_model.specs.Layout.{DirectoryBlock, pages_from, first_of, chain_of}
use Rattle.vx_model.specs.Reads.{pages_said}
use Rattle.vx_model.proofs.Stretching.{chain_fills}
use Rattle.vx_model.proofs.Spelled.{all_more}
use Rattle.vx_said.proofs.Stretches.{HasLength, stretches_again, block_with, pages_again}
use Rattle.vx_said.proofs.Places.{places_again, few_in_place, six_in_place}
use Rattle.vx_said.proofs.Chains.{extents_in, IsLink, IsChain, next_first, whole_chain, chain_extents, chain_again, link_with}

-- ---- an inode's fields

-- the map blocks are as many as the extents need, and what a file or a directory allows is kept
pub record HasFields (i : InodeValue) : Type 0 where
  pub flags : i.inode.attrs.flags < 32
  pub mode : i.inode.mode ≤ 4095
  pub nlink : i.inode.nlink ≤ 32767
  pub extents : i.extents ≤ most_extents
  pub maps : i.maps ≡ chain_len 63 i.extents
  pub attrs : attrs_fit layout1 i.inode ≡ true

pub has_fields : (i : InodeValue) → inode_fits layout1 i ≡ true → HasFields i
unfolding inode_fits
has_fields i fits =
    let one = and_parts (nat_lt i.inode.attrs.flags 32) _ fits in
    let two = and_parts (nat_le i.inode.mode 4095) _ one.1 in
    let three = and_parts (nat_le i.inode.nlink 32767) _ two.1 in
    let four = and_parts (nat_le i.extents (extents_limit layout1)) _ three.1 in
    let five = and_parts (i.maps == maps_needed layout1 i.extents) _ four.1 in
    let six = (and_parts (is_map_number i.map) _ five.1).1 in
    let seven = (and_parts (list_all place_has_length i.first) (attrs_fit layout1 i.inode) six).1 in
    record {
      flags = ltb-true _ _ one.0;
      mode = leb-true _ _ two.0;
      nlink = leb-true _ _ three.0;
      extents = leb-true _ _ four.0;
      maps = eqb-true _ _ five.0;
      attrs = seven;
    }

-- a directory has one link, and no attribute
pub record HasDirectoryFields (i : Inode) : Type 0 where
  pub nlink : i.nlink ≡ 1
  pub attrs : i.attrs ≡ no_attrs

pub directory_fields : (i : Inode) → i.kind ≡ Directory → attrs_fit layout1 i ≡ true → HasDirectoryFields i
directory_fields i is fits =
    let one : (is_directory_size layout1 i.size && (i.attrs.flags == 0 && (i.nlink == 1 && (i.attrs.fixed == 0 && i.attrs.reserve == 0)))) ≡ true =
    sym (ap (λ (k : FileKind). attrs_fit layout1 (record i { kind = k })) is) ∙ fits in
    let two = and_parts (i.attrs.flags == 0) _ (and_parts (is_directory_size layout1 i.size) _ one).1 in
    let three = and_parts (i.nlink == 1) _ two.1 in
    let four = and_parts (i.attrs.fixed == 0) (i.attrs.reserve == 0) three.1 in
    record { nlink = eqb-true _ _ three.0; attrs = λ j. record { fixed = eqb-true _ _ four.0 j; reserve = eqb-true _ _ four.1 j; flags = eqb-true _ _ two.0 j } }

-- a file's size and attributes are within their limits, and one that keeps no reservation has none
pub record HasFileFields (i : Inode) : Type 0 where
  pub size : i.size ≤ 2 ^ 26
  pub fixed : i.attrs.fixed ≤ 4063
  pub reserve : i.attrs.reserve ≤ 65536
  pub kept : kept_attrs i.attrs ≡ i.attrs

kept_by : (a : ExtAttrs) (t : Bool) → (t || a.reserve == 0) ≡ true → cond t a (record a { reserve = 0 }) ≡ a
kept_by a true h = refl
kept_by a false h = λ j. record { fixed = a.fixed; reserve = sym (eqb-true a.reserve 0 h) j; flags = a.flags }

pub file_fields : (i : Inode) → i.kind ≡ File → attrs_fit layout1 i ≡ true → HasFileFields i
file_fields i is fits =
    let one : (nat_le i.size (2 ^ 26) && (nat_le i.attrs.fixed 4063 && (nat_le i.attrs.reserve 65536
    && (nat_le (i.attrs.reserve * 1024) (2 ^ 26) && (bit_and i.attrs.flags 8 == 0 || i.attrs.reserve == 0))))) ≡ true =
    sym (ap (λ (k : FileKind). attrs_fit layout1 (record i { kind = k })) is) ∙ fits in
    let two = and_parts (nat_le i.size (2 ^ 26)) _ one in
    let three = and_parts (nat_le i.attrs.fixed 4063) _ two.1 in
    let four = and_parts (nat_le i.attrs.reserve 65536) _ three.1 in
    let five = (and_parts (nat_le (i.attrs.reserve * 1024) (2 ^ 26)) _ four.1).1 in
    record { size = leb-true _ _ two.0; fixed = leb-true _ _ three.0; reserve = leb-true _ _ four.0; kept = kept_by i.attrs (bit_and i.attrs.flags 8 == 0) five }

within : {X : Type 0} (t : Bool) (o : Option X) (x : X) → cond t o None ≡ Some x → t ≡ true
within true o x h = refl
within false o x h = absurd cc

pub no_extents : (es : List Extent) → length es ≡ 0 → es ≡ []
no_extents [] none = refl
no_extents (e ∷ es) none = absurd (omega (arith, none))

no_blocks : (bs : List ℕ) → length bs ≡ 0 → bs ≡ []
no_blocks [] none = refl
no_blocks (b ∷ bs) none = absurd (omega (arith, none))

module _ (v : Super) (image : Image) where
  -- an inode in use is one of the volume's
  pub said_low : (n : ℕ) (i : InodeValue) → inode_said (volume_of v) image n ≡ Some i → n < 128 * v.units
  unfolding inode_said
  said_low n i e = ltb-true n (inode_count (volume_of v)) (within (nat_lt n (inode_count (volume_of v))) (option_and_then (λ (o : Option InodeValue). o) (slot_at layout1 (inode_bytes_at (volume_of v) image n))) i e)

module _ (v : Super) (image : Image) (whole : HasWholeBlocks (volume_of v)) (sound : IsSound true (volume_of v) image) where
  abbrev w : Volume
  w = volume_of v

  pub again : Spelling w
  again = spelling w whole

  inode_is : (n : ℕ) → n < inode_count w → (r : IsInodeRight w image n) → inode_said w image n ≡ r.slot
  unfolding inode_said
  inode_is n low r =
      ap (λ (t : Bool). cond t (option_and_then (λ (o : Option InodeValue). o) (slot_at layout1 (inode_bytes_at w image n))) None) (lt-ltb n (inode_count w) low)
      ∙ ap (option_and_then (λ (o : Option InodeValue). o)) (ap (slot_at layout1) r.spelled ∙ again.slots_again r.slot r.is_slot)

  module _ (n : ℕ) (i : InodeValue) (e : inode_said w image n ≡ Some i) where
    pub low : n < 128 * v.units
    low = said_low v image n i e

    all : IsInodeSound w image n
    all = sound.inodes n low

    pub is : IsInode layout1 i
    is = subst (IsSlot layout1) (sym (inode_is n low all.slot) ∙ e) all.slot.is_slot

    high_by : (o : Option InodeValue) → o ≡ Some i → o ≡ None → ⊥
    high_by o e none = (let c : None ≡ Some i = sym none ∙ e in cc)

    pub high : 2 ≤ n
    high = elim (cases_lt n 2) [
      | inl small ↦ absurd (high_by all.slot.slot (sym (inode_is n low all.slot) ∙ e) (all.slot.first_two small))
      | inr big ↦ omega (arith, big)
    ]

    pub fields : HasFields i
    fields = has_fields i is.fits

    pub extents_right : AreExtentsRight w image n i
    extents_right = there (AreExtentsRight w image n) (inode_said w image n) i e all.extents

    -- ---- map blocks

    link : (k : ℕ) → k < i.maps → IsLink v image n i.extents i.maps k (get_or (chain_said w image i) k 0)
    link k inside =
        let r = there (λ j. k < j.maps → IsMapRight w image n k j) (inode_said w image n) i e (all.maps k) inside in
        let same : map_said w image (get_or (chain_said w image i) k 0) ≡ r.map = ap map_block_at r.spelled ∙ again.maps_again r.map r.is_map in
        record {
          owner = ap (λ (m : MapBlock). m.ino) same ∙ r.owner;
          share = ap (λ (m : MapBlock). length m.extents) same ∙ r.share;
          next = ap (λ (m : MapBlock). is_some m.next) same ∙ r.next;
        }

    known : (length (chain_said w image i) ≡ i.maps) × IsChain v image n i.extents i.maps 0 (chain_said w image i)
    known = whole_chain v image n i.extents i.maps i.maps 0 i.map (omega arith) is.chained (λ j inside there_.
        (let f : j ≡ 0 + j = omega arith in subst (λ (k : ℕ). IsLink v image n i.extents i.maps k (get_or (chain_said w image i) j 0)) f (link j inside)))

    pub chain_length : length (chain_said w image i) ≡ i.maps
    chain_length = known.0

    pub chain_first : i.map ≡ first_of (chain_said w image i)
    chain_first = next_first v image n i.extents i.maps i.maps i.map is.chained

    room : i.extents - 6 ≤ 63 * i.maps
    room = let fills = (chain_fills i.extents).room in let maps = fields.maps in omega (arith, fills, maps)

    pub no_chain : i.extents ≤ 6 → chain_said w image i ≡ []
    no_chain few = no_blocks (chain_said w image i) (let fills = (chain_fills i.extents).full in let maps = fields.maps in let long = chain_length in omega (arith, fills, maps, long, few))

    -- ---- extents

    abbrev rest : List Extent
    rest = flat_map (extents_in v image) (chain_said w image i)

    rest_length : length rest ≡ i.extents - 6
    rest_length = chain_extents v image n i.extents i.maps 0 (chain_said w image i) known.1 (let long = chain_length in omega (arith, long)) room ∙ omega arith

    pub places_are : places (extents_said w image i) ≡ i.first
    places_are = places_again i.extents i.first is.six is.places rest (λ few. ap (flat_map (extents_in v image)) (no_chain few))

    pub count : length (extents_said w image i) ≡ i.extents
    count =
        let both = length-append (flat_map in_place i.first) rest in
        let more = rest_length in
        elim (cases_lt 6 i.extents) [
          | inl many ↦ (let first = six_in_place i.extents i.first is.six is.places (omega (arith, many)) in omega (arith, both, more, first, many))
          | inr few ↦ (let first = few_in_place i.extents i.first is.six is.places (omega (arith, few)) in omega (arith, both, more, first, few))
        ]

    pub chain_links : chain_of n (drop 6 (extents_said w image i)) (chain_said w image i) ≡ map (link_with v image n i.extents i.maps) (chain_said w image i)
    chain_links = elim (cases_lt 6 i.extents) [
      | inl many ↦
          ap (λ (es : List Extent). chain_of n es (chain_said w image i)) (drop_at (flat_map in_place i.first) rest 6 (six_in_place i.extents i.first is.six is.places (omega (arith, many))))
          ∙ chain_again v image n i.extents i.maps 0 (chain_said w image i) known.1 (let long = chain_length in omega (arith, long)) room
      | inr few ↦ subst (λ (bs : List ℕ). chain_of n (drop 6 (extents_said w image i)) bs ≡ map (link_with v image n i.extents i.maps) bs) (sym (no_chain (omega (arith, few)))) refl
    ]

    lengths : AllByRecursion HasLength (extents_said w image i)
    lengths = all_more (IsExtentRight w i) HasLength (λ x right. right.some) (extents_said w image i) extents_right.each

    -- ---- blocks

    abbrev with_entries : ℕ → DirectoryBlock
    with_entries = block_with (entries_said w image)

    pub pages_stretch : stretches (pages_said w image i) ≡ extents_said w image i
    pages_stretch = stretches_again (extents_said w image i) lengths extents_right.order

    pub directory_extents : i.inode.kind ≡ Directory → IsDirectoryExtents w i (blocks_said w image i) (extents_said w image i)
    directory_extents kind = subst (λ (k : FileKind). FitKind k w i (blocks_said w image i) (extents_said w image i)) kind extents_right.kind

    pub directory_pages : i.inode.kind ≡ Directory → pages_from 0 (map with_entries (blocks_said w image i)) ≡ pages_said w image i
    directory_pages kind = sym (pages_again (entries_said w image) 0 (extents_said w image i) (directory_extents kind).whole)

    pub file_is : i.inode.kind ≡ File → HasFileFields i.inode
    file_is kind = file_fields i.inode kind fields.attrs

    -- ---- names

    root_kind : n ≡ facts.root → i.inode.kind ≡ Directory
    root_kind at =
        let known_ : Some i.inode.kind ≡ Some Directory = sym (ap (option_map (λ (j : InodeValue). j.inode.kind)) e) ∙ ((sound.links n low).root_is at).directory in
        cc

    names_by : n ≢ facts.root → FitNames true w image n i i.inode.kind
    names_by ne = there (λ (j : InodeValue). FitNames true w image n j j.inode.kind) (inode_said w image n) i e ((sound.links n low).other ne)

    pub directory_is : i.inode.kind ≡ Directory → HasDirectoryFields i.inode
    directory_is kind = directory_fields i.inode kind fields.attrs

    link_by : (k : FileKind) → i.inode.kind ≡ k → 1 ≤ i.inode.nlink
    link_by Directory kind = let one = (directory_is kind).nlink in omega (arith, one)
    link_by File kind = elim (cases_eq n facts.root) [
      | inl at ↦ (let other : Directory ≡ File = sym (root_kind at) ∙ kind in absurd cc)
      | inr ne ↦ (subst (FitNames true w image n i) kind (names_by ne)).some refl
    ]

    -- each inode in use has a name
    pub has_link : 1 ≤ i.inode.nlink
    has_link = link_by i.inode.kind refl
