-- A file gives all its blocks up: all pages go, and then all map blocks.
use Rattle.std.proofs.Common.{◌≡◌, ◌≢◌, ℕ, ◌+◌, Bool, true, false, not, cond, List, [], ◌∷◌, ◌++◌, Option, Some, inl, inr, refl, sym, ◌∙◌, ap, subst, arith}
use Rattle.std.specs.Prelude.{nat_le, ◌||◌, ◌==◌}
use Rattle.std.proofs.lemmas.Bool.{cases_eq, eq-eqb, ne_eqb, le-leb}
use Rattle.std.proofs.lemmas.List.Folds.{list_any-append}
use Rattle.vx_extents.specs.Extents.{Mapped}
use Rattle.vx_alloc.specs.FreeMaps.{FreeMapView}
use Rattle.vx_filemaps.specs.Files.{FileView}
use Rattle.vx_filemaps.specs.Settles.{CanWait, settled_file, surplus_in}
use Rattle.vx_filemaps.specs.Settles as settles
use Rattle.vx_filemaps.specs.GiveLaws.{GiveLaws}
use Rattle.vx_space.specs.Space.{Space, no_space, page_blocks}
use Rattle.vx_space.specs.Leaving.{pages_but, cut_space, lasting, settled_space, kept_maps, surplus_maps, waiting_then}
use Rattle.vx_model.specs.Tree.{File}
use Rattle.vx_model.specs.Images.{among}
use Rattle.vx_model.specs.Layout.{DirectoryBlock, Layout, blocks_at, block_numbers, space_at, maps_at, owned, pages_from, freed, given_up}
use Rattle.vx_model.specs.State.{State}
use Rattle.vx_model.specs.LaidOut.{IsOnceUsed}
use Rattle.vx_model.proofs.Changing.{elsewhere, less_once, maps_here, owned_same, space_here}
use Rattle.vx_model.proofs.Giving.{but_less}
use Rattle.vx_blockmaps.specs.BlockMaps.{IsFreeMapOf, IsMapsOf, StandFor, layout_cut}
use Rattle.vx_blockmaps.proofs.Blocks.{same_free}
use Rattle.vx_blockmaps.proofs.Calls.{can_settle_at, file_of, has_pages, once, settle_layout, settle_left_at, settle_maps_at}
use Rattle.vx_blockmaps.proofs.PageLists.{going}

-- ---- layouts that say the same of each block

pub alike : (v : FreeMapView) (l k : Layout) → k.units ≡ l.units → k.log_blocks ≡ l.log_blocks → ((n b : ℕ) → among (owned k n) b ≡ among (owned l n) b) → ((b : ℕ) → k.pending b ≡ l.pending b) → IsFreeMapOf v l → IsFreeMapOf v k
alike v l k units log same pending is = record {
  free = λ b. is.free b ∙ sym (same_free l k b units log (λ n. same n b) (pending b));
  pending = λ b. is.pending b ∙ sym (pending b);
  units = is.units ∙ sym units;
  first = is.first ∙ sym (ap (λ (n : ℕ). 2 + n) log);
  per_unit = is.per_unit;
  bar = is.bar;
  bits = is.bits;
  places = is.places;
}

-- ---- all pages go

none_stay : (ms : List Mapped) → pages_but (nat_le 0) ms ≡ []
none_stay [] = refl
none_stay (m ∷ ms) = ap (λ t. cond (not t) (m ∷ pages_but (nat_le 0) ms) (pages_but (nat_le 0) ms)) (le-leb 0 m.page (omega arith)) ∙ none_stay ms

all_go : (ms : List Mapped) → going (nat_le 0) ms ≡ ms
all_go [] = refl
all_go (m ∷ ms) = ap (λ t. cond t (m ∷ going (nat_le 0) ms) (going (nat_le 0) ms)) (le-leb 0 m.page (omega arith)) ∙ ap (λ (ns : List Mapped). m ∷ ns) (all_go ms)

abbrev of_pages : List Mapped → Space
of_pages ps = record { settled = lasting false ps; present = ps; size = 0 }

nothing_left : (x : Space) → settled_space false 0 (cut_space 0 0 x) ≡ no_space
nothing_left x = ap of_pages (none_stay x.present)

-- blocks that wait by two lists wait by one
both_wait : (t u : Bool) (place : ℕ) (old : Option ℕ) → cond t (Some place) (cond u (Some place) old) ≡ cond (u || t) (Some place) old
both_wait true true place old = refl
both_wait true false place old = refl
both_wait false true place old = refl
both_wait false false place old = refl

module _ (v : FreeMapView) (m : FileView) (s : State) (ino : ℕ) (f : File) (is : StandFor v m s ino f) (give : GiveLaws) (place : ℕ)
    (w : FreeMapView) (k : FileView) (mid_free : IsFreeMapOf w (layout_cut s.layout place ino 0 0)) (mid_maps : IsMapsOf k (layout_cut s.layout place ino 0 0) ino) where
  abbrev l : Layout
  l = s.layout

  abbrev x : Space
  x = space_at l ino

  -- the layout without the pages
  abbrev mid : Layout
  mid = layout_cut l place ino 0 0

  mid_once : IsOnceUsed mid
  mid_once =
      less_once l (once v m s ino f is) ino (cut_space 0 0 x) (maps_at l ino) place (waiting_then (nat_le 0) x)
      (λ b. but_less (nat_le 0) b x (maps_at l ino) (has_pages v m s ino f is).part)

  pub then_can : CanWait place (surplus_in false 0 k) w
  then_can = can_settle_at w k mid ino mid_once mid_free mid_maps give false 0 place

  abbrev last : Layout
  last = settle_layout false 0 mid place ino

  abbrev after : Layout
  after = freed l place ino

  no_names : blocks_at l ino ≡ []
  no_names = (file_of v m s ino f is).no_blocks

  space_mid : space_at mid ino ≡ cut_space 0 0 x
  space_mid = space_here l ino (cut_space 0 0 x) (maps_at l ino) mid.pending

  maps_mid : maps_at mid ino ≡ maps_at l ino
  maps_mid = maps_here l ino (cut_space 0 0 x) (maps_at l ino) mid.pending

  none_at : settled_space false 0 (space_at mid ino) ≡ no_space
  none_at = ap (settled_space false 0) space_mid ∙ nothing_left x

  space_last : space_at last ino ≡ no_space
  space_last = space_here mid ino (settled_space false 0 (space_at mid ino)) (kept_maps (settled_space false 0 (space_at mid ino)) (maps_at mid ino)) last.pending ∙ none_at

  maps_last : maps_at last ino ≡ []
  maps_last =
      maps_here mid ino (settled_space false 0 (space_at mid ino)) (kept_maps (settled_space false 0 (space_at mid ino)) (maps_at mid ino)) last.pending
      ∙ ap (λ (y : Space). kept_maps y (maps_at mid ino)) none_at

  space_after : space_at after ino ≡ no_space
  space_after = ap (λ t. cond t no_space (l.files ino)) (eq-eqb ino ino refl)

  maps_after : maps_at after ino ≡ []
  maps_after = ap (λ t. cond t [] (l.maps ino)) (eq-eqb ino ino refl)

  blocks_after : blocks_at after ino ≡ []
  blocks_after = ap (λ t. cond t [] (l.directories ino)) (eq-eqb ino ino refl)

  owned_last : owned last ino ≡ []
  owned_last = λ i. block_numbers (no_names i) ++ (page_blocks (space_last i).present ++ maps_last i)

  owned_after : owned after ino ≡ []
  owned_after = λ i. block_numbers (blocks_after i) ++ (page_blocks (space_after i).present ++ maps_after i)

  owned_other : (n : ℕ) → n ≢ ino → owned after n ≡ owned last n
  owned_other n ne =
      (λ i. block_numbers (cond (ne_eqb n ino ne i) [] (l.directories n)) ++ (page_blocks (cond (ne_eqb n ino ne i) no_space (l.files n)).present ++ cond (ne_eqb n ino ne i) [] (l.maps n)))
      ∙ sym (owned_same mid last n (elsewhere mid ino (settled_space false 0 (space_at mid ino)) (kept_maps (settled_space false 0 (space_at mid ino)) (maps_at mid ino)) last.pending n ne)
      ∙ owned_same l mid n (elsewhere l ino (cut_space 0 0 x) (maps_at l ino) mid.pending n ne))

  same_owned : (n b : ℕ) → among (owned after n) b ≡ among (owned last n) b
  same_owned n b = elim (cases_eq n ino) [
    | inl here ↦ subst (λ (i : ℕ). among (owned after i) b ≡ among (owned last i) b) (sym here) (ap (λ (bs : List ℕ). among bs b) (owned_after ∙ sym owned_last))
    | inr other ↦ ap (λ (bs : List ℕ). among bs b) (owned_other n other)
  ]

  -- all settled pages and all map blocks wait
  given_is : given_up l ino ≡ page_blocks x.settled ++ maps_at l ino
  given_is = ap (λ (ds : List DirectoryBlock). page_blocks (pages_from 0 ds ++ x.settled) ++ maps_at l ino) no_names

  surplus_is : surplus_maps (settled_space false 0 (space_at mid ino)) (maps_at mid ino) ≡ maps_at l ino
  surplus_is = ap (λ (y : Space). surplus_maps y (maps_at mid ino)) none_at ∙ maps_mid

  same_pending : (b : ℕ) → after.pending b ≡ last.pending b
  same_pending b =
      ap (λ (bs : List ℕ). cond (among bs b) (Some place) (l.pending b)) given_is
      ∙ ap (λ t. cond t (Some place) (l.pending b)) (list_any-append (λ c. b == c) (page_blocks x.settled) (maps_at l ino))
      ∙ sym (both_wait (among (maps_at l ino) b) (among (page_blocks x.settled) b) place (l.pending b))
      ∙ sym (λ i. cond (among (surplus_is i) b) (Some place) (cond (among (page_blocks (all_go x.settled i)) b) (Some place) (l.pending b)))

  pub given_free : (u : FreeMapView) → u ≡ settles.pended place (surplus_in false 0 k) w → IsFreeMapOf u after
  given_free u left = alike u last after refl refl same_owned same_pending (settle_left_at w k mid ino mid_once mid_free mid_maps give false 0 place u left)

  pub given_maps : (j : FileView) → j ≡ settled_file false 0 k → IsMapsOf j after ino
  given_maps j left =
      let was = settle_maps_at w k mid ino mid_once mid_free mid_maps give false 0 place j left in
      record { space = was.space ∙ space_last ∙ sym space_after; maps = was.maps ∙ maps_last ∙ sym maps_after }
