-- The files of an image that says a laid-out state have no bytes.
use Rattle.std.proofs.Common.{◌≡◌, ℕ, List, length, Option, Some, None, refl, sym, ap, subst, arith}
use Rattle.std.specs.Prelude.{IfSome}
use Rattle.std.specs.Option.{option_map}
use Rattle.std.specs.FinMap as map
use Rattle.vx_base.specs.declared.inode.InodeValue.{InodeValue}
use Rattle.vx_extents.specs.Extents.{Mapped, stretches}
use Rattle.vx_model.specs.Tree.{Node, IsFile, IsDirectory}
use Rattle.vx_space.specs.Space.{Space}
use Rattle.vx_model.specs.Layout.{DirectoryBlock, Layout, blocks_at, space_at, volume}
use Rattle.vx_model.specs.State.{State}
use Rattle.vx_model.specs.Shapes.{kept_attrs}
use Rattle.vx_model.specs.Contents.{settled_of, inode_for}
use Rattle.vx_model.specs.LaidOut.{HasNothing, IsPlain}
use Rattle.vx_model.specs.Saying.{IsImageOf, StateSays}
use Rattle.vx_model.proofs.Spelled.{nothing_at, no_pages}
use Rattle.vx_said.specs.Plain.{IsPlainIfFile, HasPlainFiles}

no_size : (l : Layout) (n : ℕ) → HasNothing l n → (settled_of l n).size ≡ 0
no_size l n h =
    let none : length (blocks_at l n) ≡ 0 = ap (λ (ds : List DirectoryBlock). length ds) (nothing_at l n h).0 in
    let size : (space_at l n).size ≡ 0 = ap (λ (x : Space). x.size) h.space in omega (arith, none, size)

plain_by : (s : State) → IsPlain s → (n : ℕ) (o : Option Node) → map.get s.tree.nodes n ≡ o → IfSome (option_map (inode_for (settled_of s.layout n)) o) (λ i. IsPlainIfFile i.inode.kind i)
plain_by s plain n None at = tt
plain_by s plain n (Some (IsDirectory d)) at = tt
plain_by s plain n (Some (IsFile f)) at = let both = plain.files n f at in record {
  extents = ap (λ (pages : List Mapped). length (stretches pages)) (no_pages s.layout n both.1);
  size = no_size s.layout n both.1;
  attrs = ap kept_attrs both.0.attrs;
}

pub plain_files : StateSays → (s : State) (image : ℕ → List ℕ) → IsImageOf s image → IsPlain s → HasPlainFiles (volume s.layout) image
plain_files says s image is plain n =
    subst (λ (o : Option InodeValue). IfSome o (λ i. IsPlainIfFile i.inode.kind i)) (sym (says.inodes s image is n)) (plain_by s plain n (map.get s.tree.nodes n) refl)
