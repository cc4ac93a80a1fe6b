-- What calls on a file's maps leave, said of the state that they stand for.
use Rattle.std.proofs.Common.{◌≡◌, ℕ, ◌+◌, Bool, List, Option, length, refl, sym, ◌∙◌, ap, subst}
use Rattle.vx_extents.specs.Extents.{mapped_at}
use Rattle.vx_alloc.specs.FreeMaps.{FreeMapView}
use Rattle.vx_filemaps.specs.Files.{FileView}
use Rattle.vx_filemaps.specs.Settles.{CanGo, CanWait, without_pages, pended, settled_file, surplus_in}
use Rattle.vx_filemaps.specs.GiveLaws.{GiveLaws}
use Rattle.vx_space.specs.Space.{Space, most_pages}
use Rattle.vx_space.specs.Leaving.{cut_space, settled_space, kept_maps, surplus_maps}
use Rattle.vx_space.specs.Laws.{LeaveLaws}
use Rattle.vx_model.specs.Tree.{File}
use Rattle.vx_model.specs.Layout.{Layout, space_at, maps_at}
use Rattle.vx_model.specs.State.{State}
use Rattle.vx_model.specs.LaidOut.{IsFileOf, IsOnceUsed, is_unreserved}
use Rattle.vx_model.specs.Opened.{left_with}
use Rattle.vx_model.specs.Settling.{settled_layout}
use Rattle.vx_model.proofs.Changing.{changed, file_held, maps_here, space_here}
use Rattle.vx_model.proofs.FileSuccesses.{file_ok}
use Rattle.vx_blockmaps.specs.BlockMaps.{IsFreeMapOf, IsMapsOf, StandFor, layout_cut}
use Rattle.vx_blockmaps.proofs.Leaving.{HasPages, can_cut, cut_free}
use Rattle.vx_blockmaps.proofs.Settling.{can_settle, settle_free}

-- what the inode has where its space and map blocks are these
pub maps_of : (l : Layout) (at : ℕ) (x : Space) (maps : List ℕ) (pending : ℕ → Option ℕ) (m : FileView) → m.space ≡ x → m.maps ≡ maps → IsMapsOf m (changed l at x maps pending) at
maps_of l at x maps pending m space same = record { space = space ∙ sym (space_here l at x maps pending); maps = same ∙ sym (maps_here l at x maps pending) }

-- ---- a settle of any inode

-- the layout where the device says this size and the pages as they are now
abbrev pub settle_layout : (noreserve : Bool) (size : ℕ) (l : Layout) (place at : ℕ) → Layout
settle_layout noreserve size l place at =
    left_with l place at (settled_space noreserve size (space_at l at)) (kept_maps (settled_space noreserve size (space_at l at)) (maps_at l at)) (surplus_maps (settled_space noreserve size (space_at l at)) (maps_at l at))

module _ (v : FreeMapView) (m : FileView) (l : Layout) (at : ℕ) (once : IsOnceUsed l) (free : IsFreeMapOf v l) (maps : IsMapsOf m l at) (give : GiveLaws) (noreserve : Bool) (size place : ℕ) where
  abbrev y : Space
  y = settled_space noreserve size (space_at l at)

  surplus_is : surplus_in noreserve size m ≡ surplus_maps y (maps_at l at)
  surplus_is = λ i. surplus_maps (settled_space noreserve size (maps.space i)) (maps.maps i)

  pub can_settle_at : CanWait place (surplus_in noreserve size m) v
  can_settle_at = subst (λ (bs : List ℕ). CanWait place bs v) (sym surplus_is) (can_settle give l once at v free y place)

  pub settle_left_at : (w : FreeMapView) → w ≡ pended place (surplus_in noreserve size m) v → IsFreeMapOf w (settle_layout noreserve size l place at)
  settle_left_at w gone =
      subst (λ (u : FreeMapView). IsFreeMapOf u (settle_layout noreserve size l place at)) (sym (gone ∙ ap (λ (bs : List ℕ). pended place bs v) surplus_is))
      (settle_free give l once at v free y place refl)

  pub settle_maps_at : (k : FileView) → k ≡ settled_file noreserve size m → IsMapsOf k (settle_layout noreserve size l place at) at
  settle_maps_at k now =
      maps_of l at y (kept_maps y (maps_at l at)) _ k
      (ap (λ (x : FileView). x.space) now ∙ ap (settled_space noreserve size) maps.space)
      (ap (λ (x : FileView). x.maps) now ∙ (λ i. kept_maps (settled_space noreserve size (maps.space i)) (maps.maps i)))

-- ---- a file of a state

module _ (v : FreeMapView) (m : FileView) (s : State) (ino : ℕ) (f : File) (is : StandFor v m s ino f) where
  pub file_of : IsFileOf s.layout ino f
  file_of = (file_held s is.laid_out ino f (file_ok s.tree.nodes ino f is.there)).0

  pub once : IsOnceUsed s.layout
  once = is.laid_out.use_of_blocks

  pub has_pages : HasPages (space_at s.layout ino)
  has_pages = record { settled_rises = file_of.space.settled_rises; present_rises = file_of.space.present_rises; part = file_of.space.part }

  -- ---- a smaller size

  module _ (give : GiveLaws) (place from n : ℕ) (all : from + n ≡ most_pages) where
    pub cut_can : CanGo place (mapped_at m.space.settled) (mapped_at m.space.present) n from v
    cut_can =
        subst (λ (x : Space). CanGo place (mapped_at x.settled) (mapped_at x.present) n from v) (sym is.maps.space)
        (can_cut give s.layout once ino has_pages v is.free from n place all)

    module _ (leave : LeaveLaws) (size : ℕ) (w : FreeMapView) (gone : w ≡ without_pages place (mapped_at m.space.settled) (mapped_at m.space.present) n from v) where
      pub cut_left : IsFreeMapOf w (layout_cut s.layout place ino from size)
      cut_left =
          subst (λ (u : FreeMapView). IsFreeMapOf u (layout_cut s.layout place ino from size)) (sym (gone ∙ ap (λ (x : Space). without_pages place (mapped_at x.settled) (mapped_at x.present) n from v) is.maps.space))
          (cut_free give s.layout once ino has_pages v is.free from n place all leave size)

  pub cut_maps : (place from size : ℕ) (k : FileView) → k ≡ record m { space = cut_space from size m.space }
      → IsMapsOf k (layout_cut s.layout place ino from size) ino
  cut_maps place from size k now =
      maps_of s.layout ino (cut_space from size (space_at s.layout ino)) (maps_at s.layout ino) _ k
      (ap (λ (y : FileView). y.space) now ∙ ap (cut_space from size) is.maps.space) (ap (λ (y : FileView). y.maps) now ∙ is.maps.maps)

  -- ---- a settle

  module _ (give : GiveLaws) (noreserve : Bool) (size place : ℕ) where
    pub settle_can : CanWait place (surplus_in noreserve size m) v
    settle_can = can_settle_at v m s.layout ino once is.free is.maps give noreserve size place

    module _ (same : noreserve ≡ is_unreserved f) (long : size ≡ length f.bytes) where
      layout_is : settle_layout noreserve size s.layout place ino ≡ settled_layout s.layout place ino f
      layout_is = λ i. settle_layout (same i) (long i) s.layout place ino

      pub settle_left : (w : FreeMapView) → w ≡ pended place (surplus_in noreserve size m) v → IsFreeMapOf w (settled_layout s.layout place ino f)
      settle_left w gone = subst (IsFreeMapOf w) layout_is (settle_left_at v m s.layout ino once is.free is.maps give noreserve size place w gone)

      pub settle_maps : (k : FileView) → k ≡ settled_file noreserve size m → IsMapsOf k (settled_layout s.layout place ino f) ino
      settle_maps k now = subst (λ (l : Layout). IsMapsOf k l ino) layout_is (settle_maps_at v m s.layout ino once is.free is.maps give noreserve size place k now)
