-- What is read in an image that says a state.
use Rattle.std.proofs.Common.{◌≡◌, ℕ, suc, ◌+◌, ◌*◌, ◌≤◌, List, [], ◌∷◌, ◌++◌, length, take, drop, Option, Some, None, refl, sym, ap, ap₂, subst, ◌∙◌, arith}
use Rattle.std.specs.Prelude.{slice_get}
use Rattle.std.specs.List.{flat_map, AllByRecursion}
use Rattle.std.specs.Option.{option_map, option_and_then}
use Rattle.std.specs.FinMap as map_of
use Rattle.std.proofs.lemmas.List.{length-drop, take-append-drop}
use Rattle.vx_base.specs.declared.inode.DirEntry.{DirEntry}
use Rattle.vx_base.specs.declared.inode.Extent.{Extent}
use Rattle.vx_base.specs.declared.inode.InodeValue.{InodeValue}
use Rattle.vx_layout.specs.Maps.{MapBlock}
use Rattle.vx_layout.specs.Places.{Volume}
use Rattle.vx_extents.specs.Extents.{stretches}
use Rattle.vx_space.specs.Space.{page_blocks}
use Rattle.vx_sound.specs.Said.{inode_said, map_said, chain_from, chain_said, in_place, extents_said, extent_blocks, blocks_said, entries_said, directory_blocks, entries_of}
use Rattle.vx_sound.specs.Reading.{Entries, Extents, Parsed, DecodingLaws}
use Rattle.vx_model.specs.Tree.{Node, IsFile, IsDirectory}
use Rattle.vx_model.specs.Layout.{DirectoryBlock, Layout, Claim, Claimed, volume, blocks_at, block_numbers, pages_from, settled_at, settled_maps, first_of, chain_of, chain_at, claim_of}
use Rattle.vx_model.specs.State.{State}
use Rattle.vx_model.specs.Contents.{Held, places, settled_of, inode_for, inode_value, parsed_of}
use Rattle.vx_model.specs.LaidOut.{IsHeld, IsLaidOut}
use Rattle.vx_model.specs.LaidOut as laid
use Rattle.vx_model.specs.Saying.{IsImageOf, StateSays}
use Rattle.vx_model.proofs.Stretching.{stretches_blocks, six, chain_fills}
use Rattle.vx_model.proofs.Spelled.{whole_blocks, IsHeldRight, node_right, spelled, nothing_at, directory_pages}

pub record Laws : Type 0 where
  pub block : (s : State) (n i : ℕ) (d : DirectoryBlock) → IsLaidOut s → slice_get (blocks_at s.layout n) i ≡ Some d → claim_of s.layout d.block ≡ Some (record { ino = n; form = Some (Entries d.entries) })
  pub map_block : (s : State) (n k : ℕ) (c : Claimed) → IsLaidOut s → slice_get (chain_at s.layout n) k ≡ Some c → claim_of s.layout c.block ≡ Some (record { ino = n; form = c.form })
  pub decoding : DecodingLaws

-- what holds of each member of a list
pub all_got : {X : Type 0} (P : X → Type 0) (xs : List X) → ((k : ℕ) (x : X) → slice_get xs k ≡ Some x → P x) → AllByRecursion P xs
all_got P [] each = tt
all_got P (x ∷ xs) each = (each 0 x refl, all_got P xs (λ k y h. each (suc k) y h))

pub page_numbers : (page : ℕ) (ds : List DirectoryBlock) → page_blocks (pages_from page ds) ≡ block_numbers ds
page_numbers page [] = refl
page_numbers page (d ∷ ds) = ap (λ (xs : List ℕ). d.block ∷ xs) (page_numbers (page + 1) ds)

-- an inode's value says its extents and map blocks
pub record IsValueOf (h : Held) (i : InodeValue) : Type 0 where
  pub first : i.first ≡ places h.extents
  pub extents : i.extents ≡ length h.extents
  pub maps : i.maps ≡ length h.maps
  pub map : i.map ≡ first_of h.maps

node_value : (h : Held) (node : Node) → IsValueOf h (inode_for h node)
node_value h (IsFile f) = record { first = refl; extents = refl; maps = refl; map = refl }
node_value h (IsDirectory d) = record { first = refl; extents = refl; maps = refl; map = refl }

module _ (laws : Laws) (s : State) (image : ℕ → List ℕ) (h : IsImageOf s image) where
  abbrev l : Layout
  l = s.layout

  abbrev v : Volume
  v = volume s.layout

  abbrev p : Parsed
  p = parsed_of s

  pub inodes : (n : ℕ) → inode_said v image n ≡ inode_value s n
  inodes = laws.decoding.inodes v p image (whole_blocks l) (spelled s h.laid_out) h.stands

  pub entries : (n i : ℕ) (d : DirectoryBlock) → slice_get (blocks_at l n) i ≡ Some d → entries_said v image d.block ≡ d.entries
  entries n i d at =
      laws.decoding.entries v p image (whole_blocks l) (spelled s h.laid_out) h.stands d.block d.entries
      (ap (option_and_then (λ (c : Claim). c.form)) (laws.block s n i d h.laid_out at))

  pub maps : (n k : ℕ) (c : Claimed) (m : MapBlock) → slice_get (chain_at l n) k ≡ Some c → c.form ≡ Some (Extents m) → map_said v image c.block ≡ m
  maps n k c m at form =
      laws.decoding.maps v p image (whole_blocks l) (spelled s h.laid_out) h.stands c.block m
      (ap (option_and_then (λ (x : Claim). x.form)) (laws.map_block s n k c h.laid_out at) ∙ form)

  -- ---- chains

  abbrev AreMaps : List Claimed → Type 0
  AreMaps cs = AllByRecursion (λ (c : Claimed). (m : MapBlock) → c.form ≡ Some (Extents m) → map_said v image c.block ≡ m) cs

  are_maps : (n : ℕ) → AreMaps (chain_at l n)
  are_maps n = all_got (λ (c : Claimed). (m : MapBlock) → c.form ≡ Some (Extents m) → map_said v image c.block ≡ m) (chain_at l n) (λ k c at m form. maps n k c m at form)

  chain_by : (n : ℕ) (es : List Extent) (ms : List ℕ) → AreMaps (chain_of n es ms) → chain_from v image (length ms) (first_of ms) ≡ ms
  chain_by n es [] all = refl
  chain_by n es (b ∷ bs) all =
      let said = all.0 (record { next = first_of bs; ino = n; extents = take 63 es }) refl in
      ap (λ (xs : List ℕ). b ∷ xs) (ap (λ (m : MapBlock). chain_from v image (length bs) m.next) said ∙ chain_by n (drop 63 es) bs all.1)

  none_left : (es : List Extent) → length es ≤ 0 → [] ≡ es
  none_left [] short = refl
  none_left (e ∷ es) short = absurd (omega (arith, short))

  extents_by : (n : ℕ) (es : List Extent) (ms : List ℕ) → AreMaps (chain_of n es ms) → length es ≤ 63 * length ms → flat_map (λ b. (map_said v image b).extents) ms ≡ es
  extents_by n es [] all few = none_left es (omega (arith, few))
  extents_by n es (b ∷ bs) all few =
      let said = all.0 (record { next = first_of bs; ino = n; extents = take 63 es }) refl in
      let shorter = length-drop 63 es in
      let rest = extents_by n (drop 63 es) bs all.1 (omega (arith, shorter, few)) in
      ap₂ (λ (xs ys : List Extent). xs ++ ys) (ap (λ (m : MapBlock). m.extents) said) rest ∙ take-append-drop 63 es

  -- ---- an inode's blocks

  pub record IsThere (n : ℕ) (i : InodeValue) : Type 0 where
    pub value : IsValueOf (settled_of l n) i
    pub right : IsHeldRight (settled_of l n)

  there_by : (n : ℕ) (o : Option Node) → IsHeld l n o → (i : InodeValue) → option_map (inode_for (settled_of l n)) o ≡ Some i → IsThere n i
  there_by n None held i e = absurd cc
  there_by n (Some node) held i e =
      let same : inode_for (settled_of l n) node ≡ i = cc in
      record { value = subst (IsValueOf (settled_of l n)) same (node_value (settled_of l n) node); right = node_right s h.laid_out n node held.0 }

  pub there : (n : ℕ) (i : InodeValue) → inode_value s n ≡ Some i → IsThere n i
  there n i e = there_by n (map_of.get s.tree.nodes n) (h.laid_out.nodes n) i e

  pub chain : (n : ℕ) (i : InodeValue) → inode_value s n ≡ Some i → chain_said v image i ≡ settled_maps l n
  chain n i e =
      let t = there n i e in
      ap₂ (λ (k : ℕ) (at : Option ℕ). chain_from v image k at) t.value.maps t.value.map
      ∙ chain_by n (drop 6 (stretches (settled_at l n))) (settled_maps l n) (are_maps n)

  pub extents : (n : ℕ) (i : InodeValue) → inode_value s n ≡ Some i → extents_said v image i ≡ stretches (settled_at l n)
  extents n i e =
      let t = there n i e in
      let es : List Extent = stretches (settled_at l n) in
      let left = length-drop 6 es in
      let count = t.right.maps in
      let room = (chain_fills (length es)).room in
      ap₂ (λ (ps : List (Option Extent)) (ms : List ℕ). flat_map in_place ps ++ flat_map (λ b. (map_said v image b).extents) ms) t.value.first (chain n i e)
      ∙ ap (λ (xs : List Extent). flat_map in_place (places es) ++ xs) (extents_by n (drop 6 es) (settled_maps l n) (are_maps n) (omega (arith, left, count, room)))
      ∙ six es

  pub blocks : (n : ℕ) (i : InodeValue) → inode_value s n ≡ Some i → blocks_said v image i ≡ page_blocks (settled_at l n)
  blocks n i e = ap (flat_map extent_blocks) (extents n i e) ∙ stretches_blocks (settled_at l n)

  -- ---- directories

  directory_by : (n : ℕ) (o : Option Node) → map_of.get s.tree.nodes n ≡ o → IsHeld l n o → directory_blocks v image (option_map (inode_for (settled_of l n)) o) ≡ block_numbers (blocks_at l n)
  directory_by n None e held = ap block_numbers (sym (nothing_at l n held).0)
  directory_by n (Some (IsFile f)) e held = ap block_numbers (sym held.0.no_blocks)
  directory_by n (Some (IsDirectory d)) e held =
      blocks n (inode_for (settled_of l n) (IsDirectory d)) (ap (option_map (inode_for (settled_of l n))) e)
      ∙ ap page_blocks (directory_pages l n d held.0) ∙ page_numbers 0 (blocks_at l n)

  pub directories : (n : ℕ) → directory_blocks v image (inode_said v image n) ≡ block_numbers (blocks_at l n)
  directories n = ap (directory_blocks v image) (inodes n) ∙ directory_by n (map_of.get s.tree.nodes n) refl (h.laid_out.nodes n)

  all_by : (ds : List DirectoryBlock) → AllByRecursion (λ (d : DirectoryBlock). entries_said v image d.block ≡ d.entries) ds → flat_map (entries_said v image) (block_numbers ds) ≡ laid.entries_of ds
  all_by [] all = refl
  all_by (d ∷ ds) all = ap₂ (λ (xs ys : List DirEntry). xs ++ ys) all.0 (all_by ds all.1)

  pub all_entries : (n : ℕ) → entries_of v image n ≡ laid.entries_of (blocks_at l n)
  unfolding entries_of
  all_entries n =
      ap (flat_map (entries_said v image)) (directories n)
      ∙ all_by (blocks_at l n) (all_got (λ (d : DirectoryBlock). entries_said v image d.block ≡ d.entries) (blocks_at l n) (entries n))

pub state_says : Laws → StateSays
state_says laws = record {
  spelled = spelled;
  inodes = inodes laws;
  chain = chain laws;
  maps = maps laws;
  extents = extents laws;
  blocks = blocks laws;
  directories = directories laws;
  entries = entries laws;
  all_entries = all_entries laws;
}
