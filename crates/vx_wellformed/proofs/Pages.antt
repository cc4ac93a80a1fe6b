-- The pages that the device says an inode of a laid-out state has.
use Rattle.std.proofs.Common.{◌≡◌, ℕ, ◌+◌, ◌≤◌, Bool, true, false, cond, List, [], ◌∷◌, length, Option, Some, None, refl, sym, ap, subst, ◌∙◌, arith}
use Rattle.std.specs.Prelude.{◌&&◌, ◌==◌, not, bit_and}
use Rattle.std.specs.List.{AllByRecursion}
use Rattle.std.specs.Option.{option_map}
use Rattle.std.proofs.lemmas.Bool.{eqb-true}
use Rattle.std.proofs.lemmas.List.{length-map}
use Rattle.vx_base.specs.declared.call.ExtAttrs.{ExtAttrs}
use Rattle.vx_base.specs.declared.inode.InodeValue.{InodeValue}
use Rattle.vx_base.specs.declared.kind.Kind.{Kind}
use Rattle.vx_base.specs.declared.kind.Kind.TheVariants.{Data, Reserved}
use Rattle.vx_extents.specs.Extents.{Mapped, stretches}
use Rattle.vx_space.specs.Space.{Space, page_blocks}
use Rattle.vx_space.specs.Placing.{is_set}
use Rattle.vx_space.specs.Leaving.{is_reserved, lasts}
use Rattle.vx_space.specs.Laws.{AreRising}
use Rattle.vx_sound.specs.Facts.{AreWithoutHoles, FitKind}
use Rattle.vx_model.specs.Tree.{Node, File, Directory, IsFile, IsDirectory}
use Rattle.vx_model.specs.Layout.{DirectoryBlock, Layout, volume, blocks_at, space_at, block_numbers, pages_from, settled_at}
use Rattle.vx_model.specs.Contents.{settled_of, inode_for}
use Rattle.vx_model.specs.LaidOut.{BeginsBelow, IsFileOf, IsDirectoryOf, IsNodeOf, IsHeld}
use Rattle.vx_model.specs.Shapes.{kept_attrs}
use Rattle.vx_model.proofs.Spelled.{file_pages, directory_pages}
use Rattle.vx_wellformed.proofs.Stretches.{IsPageRight, directory_rises, directory_right, without_holes}

-- the settled pages of an inode are those that the inode may have, in order
pub record ArePagesRight (l : Layout) (n : ℕ) (i : InodeValue) : Type 0 where
  pub rising : AreRising 0 (settled_at l n)
  pub right : AllByRecursion (IsPageRight i) (settled_at l n)
  pub kind : FitKind i.inode.kind (volume l) i (page_blocks (settled_at l n)) (stretches (settled_at l n))

-- ---- a file's

flags_by : (a : ExtAttrs) (t : Bool) → (cond t a (record a { reserve = 0 })).flags ≡ a.flags
flags_by a true = refl
flags_by a false = refl

flags_kept : (a : ExtAttrs) → (kept_attrs a).flags ≡ a.flags
flags_kept a = flags_by a (bit_and a.flags 8 == 0)

clear_by : (k : Kind) (t : Bool) → not (not t && is_reserved k) ≡ true → k ≡ Reserved → t ≡ true
clear_by Data t h e = absurd cc
clear_by Reserved true h e = refl
clear_by Reserved false h e = absurd cc

-- a reserved page that lasts is that of a file without the flag
flag_clear : (a : ExtAttrs) (m : Mapped) → lasts (is_set 8 a) m ≡ true → m.kind ≡ Reserved → bit_and a.flags 8 ≡ 0
flag_clear a m h e = eqb-true _ _ (clear_by m.kind (bit_and a.flags 8 == 0) h e)

each_page : (i : InodeValue) (a : ExtAttrs) (size from : ℕ) (ms : List Mapped) → i.inode.size ≡ size → i.inode.attrs.flags ≡ a.flags → AreRising from ms → AllByRecursion (BeginsBelow size) ms
    → AllByRecursion (λ (m : Mapped). lasts (is_set 8 a) m ≡ true) ms → AllByRecursion (IsPageRight i) ms
each_page i a size from [] same flags rising below lasting = tt
each_page i a size from (m ∷ ms) same flags rising below lasting = (
  record {
    low = rising.1;
    below_size = λ e. (let less = below.0 e in omega (arith, less, same));
    kept = λ e. ap (λ (x : ℕ). bit_and x 8) flags ∙ flag_clear a m lasting.0 e;
  },
  each_page i a size (m.page + 1) ms same flags rising.2 below.1 lasting.1,
)

module _ (l : Layout) (limit : l.directory_limit ≤ 64) where
  file_right : (n : ℕ) (f : File) → IsFileOf l n f → ArePagesRight l n (inode_for (settled_of l n) (IsFile f))
  file_right n f h =
      let i : InodeValue = inode_for (settled_of l n) (IsFile f) in
      let pages = file_pages l n f h in
      let none : length (blocks_at l n) ≡ 0 = ap (λ (ds : List DirectoryBlock). length ds) h.no_blocks in
      let all = each_page i f.attrs (space_at l n).size 0 (space_at l n).settled (omega (arith, none)) (flags_kept f.attrs) h.space.settled_rises h.space.settled_below h.space.lasting in
      record {
        rising = subst (AreRising 0) (sym pages) h.space.settled_rises;
        right = subst (AllByRecursion (IsPageRight i)) (sym pages) all;
        kind = tt;
      }

  -- ---- a directory's, which are its blocks

  page_numbers : (page : ℕ) (ds : List DirectoryBlock) → page_blocks (pages_from page ds) ≡ block_numbers ds
  page_numbers page [] = refl
  page_numbers page (d ∷ ds) = ap (λ (xs : List ℕ). d.block ∷ xs) (page_numbers (page + 1) ds)

  directory_is : (n : ℕ) (d : Directory) → IsDirectoryOf l n d → ArePagesRight l n (inode_for (settled_of l n) (IsDirectory d))
  directory_is n d h =
      let i : InodeValue = inode_for (settled_of l n) (IsDirectory d) in
      let ds : List DirectoryBlock = blocks_at l n in
      let pages = directory_pages l n d h in
      let few : length ds ≤ 64 = (let short = h.few in omega (arith, short, limit)) in
      let none : (space_at l n).size ≡ 0 = ap (λ (x : Space). x.size) h.space in
      let count : length (page_blocks (settled_at l n)) ≡ length ds = ap (λ (ms : List Mapped). length (page_blocks ms)) pages ∙ ap (λ (xs : List ℕ). length xs) (page_numbers 0 ds) ∙ length-map ds (λ (b : DirectoryBlock). b.block) in
      record {
        rising = subst (AreRising 0) (sym pages) (directory_rises 0 ds (omega (arith, few)));
        right = subst (AllByRecursion (IsPageRight i)) (sym pages) (directory_right i 0 ds (omega (arith, few)) (omega (arith, none)));
        kind = record {
          whole = subst (λ (ms : List Mapped). AreWithoutHoles 0 (stretches ms)) (sym pages) (without_holes ds);
          size = omega (arith, none, count);
          few = omega (arith, count, few);
        };
      }

  node_right : (n : ℕ) (node : Node) → IsNodeOf l n node → ArePagesRight l n (inode_for (settled_of l n) node)
  node_right n (IsFile f) h = file_right n f h
  node_right n (IsDirectory d) h = directory_is n d h

  pub pages_right : (n : ℕ) (o : Option Node) (i : InodeValue) → IsHeld l n o → option_map (inode_for (settled_of l n)) o ≡ Some i → ArePagesRight l n i
  pages_right n None i h e = absurd cc
  pages_right n (Some node) i h e = let same : inode_for (settled_of l n) node ≡ i = cc in subst (ArePagesRight l n) same (node_right n node h.0)
