-- Reserved pages of a file go.
use Rattle.std.proofs.Common.{◌≡◌, ℕ, ◌≤◌, Bool, true, false, not, ◌&&◌, cond, List, length, Option, Some, None, inl, inr, refl, sym, ◌∙◌, ap, subst, arith}
use Rattle.std.specs.Prelude.{nat_le, min}
use Rattle.std.proofs.lemmas.Bool.{cases_Bool, and_parts, and_from, le-leb, leb-true, true≢false, false_from_ne_true}
use Rattle.std.proofs.lemmas.Option.{same_Some, none-some}
use Rattle.vx_base.specs.declared.kind.Kind.{Kind}
use Rattle.vx_base.specs.declared.kind.Kind.TheVariants.{Data, Reserved}
use Rattle.vx_extents.specs.Extents.{Mapped, mapped_at}
use Rattle.vx_extents.specs.Uses.{data_pages}
use Rattle.vx_alloc.specs.FreeMaps.{FreeMapView}
use Rattle.vx_filemaps.specs.Files.{FileView}
use Rattle.vx_filemaps.specs.Settles.{CanGo, IsUsedPage, if_reserved, none_at, reserved_at, without_pages}
use Rattle.vx_filemaps.specs.GiveLaws.{AreUsedPages, GiveLaws, block_at, block_gone}
use Rattle.vx_space.specs.Space.{Space, most_pages}
use Rattle.vx_space.specs.Leaving.{cut_space, is_reserved, is_reserved_by, is_reserved_page, lasts, pages_but, reserved_from, space_but, waiting_then}
use Rattle.vx_space.specs.Laws.{CloseLaws, LeaveLaws}
use Rattle.vx_model.specs.Tree.{File}
use Rattle.vx_model.specs.Images.{among}
use Rattle.vx_model.specs.Layout.{Layout, space_at, maps_at}
use Rattle.vx_model.specs.State.{State}
use Rattle.vx_model.specs.LaidOut.{BeginsBelow, Owns, is_unreserved}
use Rattle.vx_model.proofs.Uses.{is_among, among_uses}
use Rattle.vx_model.specs.Opened.{left_with, pages_gone, pages_of}
use Rattle.vx_model.proofs.Changing.{maps_here, space_here}
use Rattle.vx_model.proofs.Spaces.{all_there, part_data, part_there}
use Rattle.vx_blockmaps.specs.BlockMaps.{IsFreeMapOf, IsMapsOf, StandFor, layout_cut}
use Rattle.vx_blockmaps.proofs.Blocks.{owned_used, sized}
use Rattle.vx_blockmaps.proofs.Calls.{file_of, has_pages, maps_of, once}
use Rattle.vx_blockmaps.proofs.GivingUp.{alike}
use Rattle.vx_blockmaps.proofs.Leaving.{HasLeft, page_owned, pages_left, same_page}
use Rattle.vx_blockmaps.proofs.PageLists.{IsIn, there_most}

-- ---- which pages are reserved

and_true : (t : Bool) → (t && true) ≡ t
and_true true = refl
and_true false = refl

from_first : (ms : List Mapped) (p : ℕ) → reserved_from 0 ms p ≡ is_reserved_page ms p
from_first ms p = ap (λ t. is_reserved_page ms p && t) (le-leb 0 p (omega arith)) ∙ and_true (is_reserved_page ms p)

-- what a reserved page gives up is its block
reserved_in : (ms : List Mapped) (p b : ℕ) → block_at none_at (reserved_at ms) p ≡ Some b → IsIn ms p b × (is_reserved_page ms p ≡ true)
reserved_in ms p b is = by (mapped_at ms p) refl is
  where
    reserved_by : (m : ℕ × Kind) (t : Bool) → is_reserved m.1 ≡ t → mapped_at ms p ≡ Some m → block_gone None (cond t (Some m) None) ≡ Some b → IsIn ms p b × (is_reserved_page ms p ≡ true)
    reserved_by m true kind there h = ((m.1, there ∙ ap (λ (c : ℕ). Some (c, m.1)) (same_Some m.0 b h)), ap is_reserved_by there ∙ kind)
    reserved_by m false kind there h = absurd (none-some b h)

    by : (o : Option (ℕ × Kind)) → mapped_at ms p ≡ o → block_gone None (if_reserved o) ≡ Some b → IsIn ms p b × (is_reserved_page ms p ≡ true)
    by None there h = absurd (none-some b h)
    by (Some m) there h = reserved_by m (is_reserved m.1) refl there h

-- a page that is there and reserved is one that goes
goes_reserved : (ms : List Mapped) (p b : ℕ) (kind : Kind) → mapped_at ms p ≡ Some (b, kind) → is_reserved_page ms p ≡ true → reserved_at ms p ≡ Some (b, kind)
goes_reserved ms p b kind there passes =
    ap if_reserved there ∙ ap (λ t. cond t (Some (b, kind)) None) (sym (ap is_reserved_by there) ∙ passes)

module _ (v : FreeMapView) (m : FileView) (s : State) (ino : ℕ) (f : File) (is : StandFor v m s ino f) where
  abbrev l : Layout
  l = s.layout

  abbrev x : Space
  x = space_at l ino

  -- ---- all reserved pages, of a file that keeps none on the device

  module _ (give : GiveLaws) (n : ℕ) (all : n ≡ most_pages) where
    page_used_by : (o : Option (ℕ × Kind)) → ((b : ℕ) → block_gone None o ≡ Some b → Owns l ino b) → IsUsedPage None o v
    page_used_by (Some n) owns = owned_used v l is.free (once v m s ino f is) ino n.0 (owns n.0 refl)
    page_used_by None owns = tt

    are_used : AreUsedPages none_at (reserved_at x.present) 0 n v
    are_used = record {
      used = λ p low high. page_used_by (reserved_at x.present p) (λ b here. page_owned l ino p b (reserved_in x.present p b here).0);
      apart = λ p q b lp hp lq hq first second. same_page l ino p q b (once v m s ino f is) (reserved_in x.present p b first).0 (reserved_in x.present q b second).0;
    }

    pub drop_can : CanGo 0 none_at (reserved_at m.space.present) n 0 v
    drop_can =
        subst (λ (y : Space). CanGo 0 none_at (reserved_at y.present) n 0 v) (sym is.maps.space)
        (give.can_go 0 none_at (reserved_at x.present) 0 n v (sized v l is.free) are_used)

    module _ (leave : LeaveLaws) (close : CloseLaws) (place : ℕ) (unreserved : is_unreserved f ≡ true) where
      abbrev goes : ℕ → Bool
      goes = reserved_from 0 x.present

      abbrev after : FreeMapView
      after = without_pages 0 none_at (reserved_at x.present) n 0 v

      kind_lasts : (k : Kind) → not (is_unreserved f && is_reserved k) ≡ true → k ≡ Data
      kind_lasts Data h = refl
      kind_lasts Reserved h = absurd (true≢false (sym h ∙ ap (λ t. not (t && true)) unreserved))

      -- no page on the device is reserved
      stays : (p : ℕ) (n : ℕ × Kind) → mapped_at x.settled p ≡ Some n → goes p ≡ false
      stays p n there =
          let space = (file_of v m s ino f is).space in
          let kind : n.1 ≡ Data = kind_lasts n.1 (all_there (λ (q : Mapped). lasts (is_unreserved f) q ≡ true) p x.settled n space.lasting there) in
          let found = part_data 0 p n.0 x.settled x.present space.present_rises space.part (there ∙ ap (λ (k : Kind). Some (n.0, k)) kind) in
          from_first x.present p ∙ ap is_reserved_by found.1

      left : HasLeft goes x place v after
      left =
          let gone = give.go 0 none_at (reserved_at x.present) 0 n v (sized v l is.free) are_used in
          record {
            waits = λ p b kind passes there. absurd (true≢false (sym passes ∙ stays p (b, kind) there));
            frees = λ p b kind passes none there.
                let high = there_most 0 p x.present (b, kind) (has_pages v m s ino f is).present_rises there in
                gone.frees p b kind (omega arith) (omega (arith, high, all)) refl (goes_reserved x.present p b kind there (sym (from_first x.present p) ∙ passes));
            others = λ b not. gone.others b (λ p low high here. (let found = reserved_in x.present p b here in not p (from_first x.present p ∙ found.1) found.0));
            moved = record { rest = gone.rest; sized = gone.sized; ready = gone.ready };
          }

      pub drop_left : (w : FreeMapView) → w ≡ without_pages 0 none_at (reserved_at m.space.present) n 0 v → IsFreeMapOf w (pages_gone l place ino goes)
      drop_left w gone =
          subst (λ (u : FreeMapView). IsFreeMapOf u (pages_gone l place ino goes)) (sym (gone ∙ ap (λ (y : Space). without_pages 0 none_at (reserved_at y.present) n 0 v) is.maps.space))
          (pages_left leave l (once v m s ino f is) ino (has_pages v m s ino f is) v after is.free goes place left (space_but goes x) refl)

      space_is : record x { present = data_pages x.present } ≡ space_but goes x
      space_is =
          let settled : pages_but goes x.settled ≡ x.settled = close.settled goes x.settled stays in
          let present : pages_but goes x.present ≡ data_pages x.present = (λ i. pages_but (λ p. from_first x.present p i) x.present) ∙ close.present x.present (has_pages v m s ino f is).present_rises in
          λ i. record x { settled = sym settled i; present = sym present i }

      pub drop_maps : (k : FileView) → k ≡ record m { space = record m.space { present = data_pages m.space.present } } → IsMapsOf k (pages_gone l place ino goes) ino
      drop_maps k now =
          maps_of l ino (space_but goes x) (maps_at l ino) _ k
          (ap (λ (y : FileView). y.space) now ∙ ap (λ (y : Space). record y { present = data_pages y.present }) is.maps.space ∙ space_is) (ap (λ (y : FileView). y.maps) now ∙ is.maps.maps)

  -- ---- the reserved pages past the end

  module _ (leave : LeaveLaws) (close : CloseLaws) (place from : ℕ) (end : from ≡ pages_of (length f.bytes)) where
    abbrev goes_past : ℕ → Bool
    goes_past = reserved_from from x.present

    -- no page past the end holds data
    past_reserved : (p : ℕ) (n : ℕ × Kind) → from ≤ p → mapped_at x.present p ≡ Some n → is_reserved n.1 ≡ true
    past_reserved p n past there = by n.1 refl (all_there (BeginsBelow (length f.bytes)) p x.present n (file_of v m s ino f is).space.present_below there)
      where
        by : (k : Kind) → n.1 ≡ k → BeginsBelow (length f.bytes) (record { page = p; block = n.0; kind = n.1 }) → is_reserved k ≡ true
        by Data e begins = absurd (let low = begins e in omega (arith, low, past, end))
        by Reserved e begins = refl

    now_there : (p : ℕ) (n : ℕ × Kind) → mapped_at x.settled p ≡ Some n → (o : ℕ × Kind) × (mapped_at x.present p ≡ Some o)
    now_there p n there = part_there p x.settled x.present n (has_pages v m s ino f is).part there

    same_space : space_but goes_past x ≡ space_but (nat_le from) x
    same_space = close.trimmed from x past_reserved now_there

    goes_so : (p : ℕ) (n : ℕ × Kind) → nat_le from p ≡ true → mapped_at x.settled p ≡ Some n → goes_past p ≡ true
    goes_so p n past there =
        let now = now_there p n there in
        and_from _ _ (ap is_reserved_by now.1 ∙ past_reserved p now.0 (leb-true from p past) now.1) past

    -- the same blocks wait
    same_waiting : (b : ℕ) → among (waiting_then goes_past x) b ≡ among (waiting_then (nat_le from) x) b
    same_waiting b = elim (cases_Bool (among (waiting_then (nat_le from) x) b)) [
      | inl hit ↦
          let found = leave.only (nat_le from) x b (has_pages v m s ino f is).settled_rises (among_uses (waiting_then (nat_le from) x) b hit) in
          is_among (waiting_then goes_past x) b (leave.listed goes_past x found.page b found.kind (goes_so found.page (b, found.kind) found.passes found.there) found.there) ∙ sym hit
      | inr miss ↦
          false_from_ne_true _ (λ hit.
          let found = leave.only goes_past x b (has_pages v m s ino f is).settled_rises (among_uses (waiting_then goes_past x) b hit) in
          let past = (and_parts _ _ found.passes).1 in
          true≢false (sym (is_among (waiting_then (nat_le from) x) b (leave.listed (nat_le from) x found.page b found.kind past found.there)) ∙ miss)) ∙ sym miss
    ]

    module _ (size : ℕ) (same : size ≡ m.space.size) where
      space_cut : cut_space from size x ≡ space_but goes_past x
      space_cut =
          let long : size ≡ x.size = same ∙ ap (λ (y : Space). y.size) is.maps.space in
          let least : min x.size size ≡ x.size = omega (arith, long) in
          ap (λ (n : ℕ). record (space_but (nat_le from) x) { size = n }) least ∙ sym same_space

      pub trim_left : (w : FreeMapView) → IsFreeMapOf w (layout_cut l place ino from size) → IsFreeMapOf w (pages_gone l place ino goes_past)
      trim_left w cut =
          alike w (left_with l place ino (space_but goes_past x) (maps_at l ino) (waiting_then (nat_le from) x)) (pages_gone l place ino goes_past) refl refl (λ n b. refl)
          (λ b. ap (λ t. cond t (Some place) (l.pending b)) (same_waiting b))
          (subst (λ (y : Space). IsFreeMapOf w (left_with l place ino y (maps_at l ino) (waiting_then (nat_le from) x))) space_cut cut)

      pub trim_maps : (k : FileView) → IsMapsOf k (layout_cut l place ino from size) ino → IsMapsOf k (pages_gone l place ino goes_past) ino
      trim_maps k cut =
          let old : Layout = layout_cut l place ino from size in
          let new : Layout = pages_gone l place ino goes_past in
          maps_of l ino (space_but goes_past x) (maps_at l ino) new.pending k
          (cut.space ∙ space_here l ino (cut_space from size x) (maps_at l ino) old.pending ∙ space_cut) (cut.maps ∙ maps_here l ino (cut_space from size x) (maps_at l ino) old.pending)
